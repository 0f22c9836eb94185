-- Lists of lists, of which one is exchanged.
use Rattle.std.proofs.Common.{◌≡◌, sym, ap, subst, ◌∙◌, ℕ, ◌+◌, add-one, ◌<◌, List, slice_get, inl, inr, Option, Some}
use Rattle.jh_closure.proofs.union_find.Rooting.{below-next}

-- what holds at each place before one, and there
pub more-places : {X : Type 0} (P : ℕ → X → Type 0) (xs : List X) (i : ℕ) (y : X) → slice_get xs i ≡ Some y → P i y →
    ((k : ℕ) (x : X) → k < i → slice_get xs k ≡ Some x → P k x) → (k : ℕ) (x : X) → k < i + 1 → slice_get xs k ≡ Some x → P k x
more-places P xs i y here now before k x l e = elim (below-next k i (subst (λ z. k < z) (add-one i) l)) [
  | inl less ↦ before k x less e
  | inr same ↦ subst (λ z. P z x) (sym same) (subst (P i) (one-item (slice_get xs i) y x here (ap (slice_get xs) (sym same) ∙ e)) now)
]
  where
    one-item : {X : Type 0} (o : Option X) (x y : X) → o ≡ Some x → o ≡ Some y → x ≡ y
    one-item o x y f g = cc
