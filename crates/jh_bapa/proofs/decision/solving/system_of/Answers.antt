use Rattle.std.proofs.Common.{arith, rules, refl, sym, subst, ap, ◌∙◌}
use Rattle.std.specs.List.{All}
use Rattle.jh_query.specs.queries.Bare.{query_tree}
use Rattle.jh_bapa.specs.decision.Counted.{IsFit}
use Rattle.jh_bapa.specs.decision.Systems.{Frame}
use Rattle.jh_bapa.proofs.decision.Systematic.{few-empty, frame-is, system-made}
use Rattle.jh_bapa.proofs.decision.solving.system_of.Goals as goal

pub rows_of-requires-clause-fit : goal.rows_of-requires-clause-fit
rows_of-requires-clause-fit c = subst (λ (m : Frame). All (IsFit m) c.args.atoms.now) (sym (frame-is (query_tree c.args.query.now) c.args.atoms.now c.args.spots.now c.args.empty.now c.slack_total-total.result c.requires.empty c.slack_total-total.ensures)) c.requires.fit

pub needs_of-requires : goal.needs_of-requires
needs_of-requires c = record { few = few-empty c.args.query.now.sets c.args.atoms.now c.args.empty.now c.requires.empty c.requires.sets }

pub overflow_cast-result-2 : goal.overflow_cast-result-2
overflow_cast-result-2 c = record { fits = omega (arith, few-empty c.args.query.now.sets c.args.atoms.now c.args.empty.now c.requires.empty c.requires.sets) }

pub overflow_add-result-2 : goal.overflow_add-result-2
overflow_add-result-2 c = record { fits = omega (arith, few-empty c.args.query.now.sets c.args.atoms.now c.args.empty.now c.requires.empty c.requires.sets, c.requires.few, c.slack_total-total.ensures) }

pub returns : goal.returns
returns c = system-made (query_tree c.args.query.now) c.args.atoms.now c.args.spots.now c.args.empty.now c.slack_total-total.result _ c.requires.empty c.slack_total-total.ensures _ refl
    (c.len.ensures ∙ search rules) refl (c.of.ensures ∙ c.in_ok-rows.ensures.entries) (c.of-2.ensures ∙ c.in_ok-rows.ensures.right) c.in_ok-needs.ensures
