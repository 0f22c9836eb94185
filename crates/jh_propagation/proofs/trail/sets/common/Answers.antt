use Rattle.std.proofs.Common.{◌≡◌, ◌+◌, ◌∷◌, ◌++◌, [], ◌∙◌, sym, ap, subst, false, ℕ, List, take, get_or, Vec, Global}
use Rattle.std.proofs.lemmas.Bool.{true≢false}
use Rattle.std.proofs.lemmas.List.{take_more}
use Rattle.jh_propagation.specs.declared.trail.decided.Decided.{Decided}
use Rattle.jh_propagation.specs.trail.Listing.{decided}
use Rattle.jh_propagation.specs.trail.Looks.{AreCommon}
use Rattle.jh_propagation.proofs.trail.Choosing.{common-more, common-less}
use Rattle.jh_propagation.proofs.trail.sets.common.Goals as goal
use Rattle.jh_propagation.proofs.trail.sets.common.Goals.{then-has+in_ok-push, else-has}

more : (xs ys zs made : List Decided) (i : ℕ) (front : List Decided) → front ≡ take i xs ++ get_or xs i (decided 0 false) ∷ [] → made ≡ zs → AreCommon (take i xs ++ get_or xs i (decided 0 false) ∷ []) ys zs → AreCommon front ys made
more xs ys zs made i front e f h = subst (λ ws. AreCommon ws ys made) (sym e) (subst (λ ws. AreCommon (take i xs ++ get_or xs i (decided 0 false) ∷ []) ys ws) (sym f) h)

pub loop-item-preserved : goal.loop-item-preserved
loop-item-preserved c =
    let xs = c.args.list.now in
    let ys = c.args.other.now in
    let zs = c.loop-item.made.items in
    let i = c.loop-item.item-index in
    let d : Decided = get_or xs i (decided 0 false) in
    let longer : take (i + 1) xs ≡ take i xs ++ d ∷ [] = take_more xs i (decided 0 false) c.loop-item-test.true in
    elim c.if-has.branch [
      | then-has+in_ok-push w ↦ more xs ys (zs ++ d ∷ []) c.if-has.made.items i (take (i + 1) xs) longer (ap (λ (v : Vec Decided Global). v.items) w.made-is ∙ w.in_ok-push.ensures.items) (common-more (take i xs) ys zs d c.loop-item.invariant (c.has.ensures.0 w.if-has.true))
      | else-has w ↦ more xs ys zs c.if-has.made.items i (take (i + 1) xs) longer (ap (λ (v : Vec Decided Global). v.items) w.made-is) (common-less (take i xs) ys zs d c.loop-item.invariant (λ h. true≢false (sym (c.has.ensures.1 h) ∙ w.if-has.false)))
    ]
