use Rattle.std.proofs.Common.{sym, ◌∙◌, subst, ◌∷◌, take}
use Rattle.std.proofs.lemmas.Option.{slice_get_within, same_Some}
use Rattle.jh_closure.proofs.congruence_closure.Having.{has-at}
use Rattle.jh_cong.proofs.classes.Oks.{if-ok}
use Rattle.jh_arena.specs.table.Nodes.{nodes}
use Rattle.jh_models.specs.ground_models.Truths.{IsFalse}
use Rattle.jh_propagation.specs.trail.Saying.{literals_at, opposite_of, truth_at}
use Rattle.jh_explanations.proofs.Follows.{rests-instance}
use Rattle.jh_explanations.proofs.places.places_of_instance.Goals as goal

pub instance_at-requires : goal.instance_at-requires
instance_at-requires c = slice_get_within c.args.problem.now.instances.items c.args.place c.requires.forced.instance c.requires.forced.here

pub reason-requires-clause-formula : goal.reason-requires-clause-formula
reason-requires-clause-formula c = c.requires.problem.truths c.instance_at.result (has-at c.args.problem.now.instances.items c.args.place c.instance_at.result c.instance_at.ensures)

pub reason-requires-clause-is_false : goal.reason-requires-clause-is_false
reason-requires-clause-is_false c =
    let ts = nodes c.args.table.now in
    subst (λ n. IsFalse (literals_at ts (opposite_of c.args.literal ∷ take c.args.before c.args.trail.now)) (truth_at ts n)) (same_Some c.requires.forced.instance c.instance_at.result (sym c.requires.forced.here ∙ c.instance_at.ensures)) c.requires.forced.makes_false

pub returns-clause-rests : goal.returns-clause-rests
returns-clause-rests c = if-ok c.reason.result (λ places f. rests-instance (nodes c.args.table.now) c.args.problem.now c.args.trail.now c.args.literal places c.args.place c.instance_at.result c.instance_at.ensures f) c.reason.ensures.makes
