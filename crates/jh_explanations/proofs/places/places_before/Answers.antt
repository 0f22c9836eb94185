use Rattle.std.proofs.Common.{sym, ap, ◌∙◌, subst, ◌<◌, Some, inl, inr}
use Rattle.std.proofs.lemmas.Option.{same_Some}
use Rattle.jh_cong.proofs.classes.Oks.{if-ok, on-ok-always}
use Rattle.jh_arena.specs.table.Nodes.{nodes}
use Rattle.jh_propagation.specs.declared.trail.decided.Decided.{Decided}
use Rattle.jh_explanations.specs.Resting.{RestsOn}
use Rattle.jh_explanations.proofs.Follows.{told-before}
use Rattle.jh_explanations.proofs.places.places_before.Goals as goal

pub reason_at-requires : goal.reason_at-requires
reason_at-requires c = subst (λ n. c.args.place < n) (sym c.requires.history.reasoned) c.requires.inside

pub returns-in-Decision-clause-rests : goal.returns-in-Decision-clause-rests
returns-in-Decision-clause-rests c = inl (c.reason_at.ensures ∙ ap Some c.in-Decision.is)

pub returns-in-Decision-clause-told : goal.returns-in-Decision-clause-told
returns-in-Decision-clause-told c = told-before (nodes c.args.problem.now.table) c.args.problem.now c.args.trail.now (nodes c.args.classes.now.table) c.args.reasons.now c.args.classes.now.said c.args.place c.requires.told

pub places_of_instance-requires-clause-problem : goal.places_of_instance-requires-clause-problem
places_of_instance-requires-clause-problem c = c.requires.history.posed

pub places_of_instance-requires-clause-forced : goal.places_of_instance-requires-clause-forced
places_of_instance-requires-clause-forced c =
    (c.requires.history.instances c.args.place c.in-Instance.instance c.literal.result c.literal.ensures (c.reason_at.ensures ∙ ap Some c.in-Instance.is))

pub returns-in-Instance-clause-rests : goal.returns-in-Instance-clause-rests
returns-in-Instance-clause-rests c =
    if-ok c.places_of_instance.result (λ places f. inr (λ d at. subst (λ (z : Decided). RestsOn (nodes c.args.problem.now.table) c.args.problem.now c.args.trail.now z places) (same_Some c.literal.result d (sym c.literal.ensures ∙ at)) f)) c.places_of_instance.ensures.rests

pub returns-in-Instance-clause-told : goal.returns-in-Instance-clause-told
returns-in-Instance-clause-told c = on-ok-always c.places_of_instance.result (told-before (nodes c.args.problem.now.table) c.args.problem.now c.args.trail.now (nodes c.args.classes.now.table) c.args.reasons.now c.args.classes.now.said c.args.place c.requires.told)

pub places_of_equality-requires-clause-equality : goal.places_of_equality-requires-clause-equality
places_of_equality-requires-clause-equality c = c.reason_at.ensures ∙ ap Some c.in-Equality.is

pub returns-in-Equality-clause-told : goal.returns-in-Equality-clause-told
returns-in-Equality-clause-told c = on-ok-always c.places_of_equality.result c.places_of_equality.ensures.told
