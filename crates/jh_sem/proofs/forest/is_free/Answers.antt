use Rattle.std.proofs.Common.{rules, ◌≡◌, ◌<◌, ℕ, true, false, sym, ap, ◌∙◌, length, inl, inr, arith}
use Rattle.jh_form.specs.Meaning.{edge, reaches}
use Rattle.jh_containers.proofs.transitive_closure.Places.{before-or-at}
use Rattle.jh_sem.specs.Graphs.{listed_fields}
use Rattle.jh_sem.proofs.Walks.{listed-length}
use Rattle.jh_sem.proofs.Forests.{free-true, free-false}
use Rattle.jh_sem.proofs.forest.is_free.Goals as goal

pub returns-then-branch : goal.returns-then-branch
returns-then-branch c =
    let fs = listed_fields c.args.fields.now in
    let n = listed-length c.args.fields.now in
    free-false c.args.last fs c.args.at c.loop-place.place (omega arith) (sym c.if-branch.true ∙ c.in_ok-leads_to.ensures ∙ ap (λ o. reaches c.args.last fs o c.args.at) c.target-object.ensures.edge)

pub loop-place-init : goal.loop-place-init
loop-place-init c = λ i lt. absurd (omega arith)

pub loop-place-preserved : goal.loop-place-preserved
loop-place-preserved c =
    let fs = listed_fields c.args.fields.now in
    λ i lt.
    elim (before-or-at i c.loop-place.place lt) [
      | inl l ↦ c.loop-place.invariant i l
      | inr e ↦ sym c.if-branch.false ∙ c.in_ok-leads_to.ensures ∙ ap (λ o. reaches c.args.last fs o c.args.at) (c.target-object.ensures.edge ∙ ap (λ n. edge fs n c.args.at) (sym e))
    ]

pub returns : goal.returns
returns c =
    let n = listed-length c.args.fields.now in
    free-true c.args.last (listed_fields c.args.fields.now) c.args.at (λ i lt. c.loop-place.invariant i (omega arith))
