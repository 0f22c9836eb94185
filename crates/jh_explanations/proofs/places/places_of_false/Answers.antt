use Rattle.std.proofs.Common.{sym, ◌∙◌, subst, take, take_all, arith}
use Rattle.std.proofs.lemmas.Option.{slice_get_within, same_Some}
use Rattle.jh_closure.proofs.congruence_closure.Having.{has-at}
use Rattle.jh_cong.proofs.classes.Oks.{if-ok}
use Rattle.jh_arena.specs.table.Nodes.{nodes}
use Rattle.jh_models.specs.ground_models.Truths.{IsFalse}
use Rattle.jh_propagation.specs.trail.Saying.{literals_at, truth_at}
use Rattle.jh_explanations.proofs.Follows.{clash-instance}
use Rattle.jh_explanations.proofs.places.places_of_false.Goals as goal

pub instance_at-requires : goal.instance_at-requires
instance_at-requires c = slice_get_within c.args.problem.now.instances.items c.args.place c.requires.is_false.instance c.requires.is_false.here

pub reason-requires-clause-formula : goal.reason-requires-clause-formula
reason-requires-clause-formula c = c.requires.problem.truths c.instance_at.result (has-at c.args.problem.now.instances.items c.args.place c.instance_at.result c.instance_at.ensures)

pub reason-requires-clause-is_false : goal.reason-requires-clause-is_false
reason-requires-clause-is_false c =
    let ts = nodes c.args.table.now in
    let trail = c.args.trail.now in
    subst (λ n. IsFalse (literals_at ts (take c.len.result trail)) (truth_at ts n)) (same_Some c.requires.is_false.instance c.instance_at.result (sym c.requires.is_false.here ∙ c.instance_at.ensures))
    (subst (λ xs. IsFalse (literals_at ts xs) (truth_at ts c.requires.is_false.instance)) (sym (take_all c.len.result trail (omega (arith, c.len.ensures)))) c.requires.is_false.is_false)

pub returns-clause-clash : goal.returns-clause-clash
returns-clause-clash c = if-ok c.reason.result (λ places f. clash-instance (nodes c.args.table.now) c.args.problem.now c.args.trail.now places c.args.place c.instance_at.result c.instance_at.ensures f) c.reason.ensures.makes
