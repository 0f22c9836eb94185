use Rattle.std.proofs.Common.{◌≡◌, sym, ap, subst, ◌∙◌, ◌+◌, List, [], ◌∷◌, ◌++◌, length}
use Rattle.jh_closure.specs.declared.congruence_closure.node.Node.{Node}
use Rattle.jh_cong.specs.flattening.Plain.{IsHelper, AddsHelpers}
use Rattle.jh_cong.proofs.flattening.Gathering.{adds-one, helper-added}
use Rattle.jh_cong.proofs.flattening.helpers.add.Goals as goal

pub returns-clause-here : goal.returns-clause-here
returns-clause-here c =
    let old = c.args.helpers.now.items in
    let place : c.in_ok-number.number ≡ c.args.count + length old = c.in_ok-number.ensures ∙ ap (λ (xs : List Node). c.args.count + length xs) c.as_slice.ensures.value in
    subst (λ (xs : List Node). IsHelper c.args.count xs c.in_ok-number.number c.args.node) (sym c.in_ok-push.ensures.items)
    (subst (λ k. IsHelper c.args.count (old ++ c.args.node ∷ []) k c.args.node) (sym place) (helper-added c.args.count old c.args.node))

pub returns-clause-adds : goal.returns-clause-adds
returns-clause-adds c = subst (λ (xs : List Node). AddsHelpers c.args.count c.args.helpers.now.items xs) (sym c.in_ok-push.ensures.items) (adds-one c.args.count c.args.helpers.now.items c.args.node c.requires)
