-- What stands in lists.
use Rattle.std.proofs.Common.{◌≡◌, refl, ap, ℕ, zero, suc, ◌<◌, List, [], ◌∷◌, ◌++◌, slice_get, ◌⊎◌, inl, inr, Some, arith}
use Rattle.std.proofs.lemmas.Option.{slice_get_within}
use Rattle.jh_closure.specs.congruence_closure.Nodes.{Has}

pub has-left : {X : Type 0} (xs ys : List X) (x : X) → Has xs x → Has (xs ++ ys) x
has-left [] ys x h = absurd h
has-left (y ∷ xs) ys x (inl e) = inl e
has-left (y ∷ xs) ys x (inr h) = inr (has-left xs ys x h)

pub has-right : {X : Type 0} (xs ys : List X) (x : X) → Has ys x → Has (xs ++ ys) x
has-right [] ys x h = h
has-right (y ∷ xs) ys x h = inr (has-right xs ys x h)

pub has-either : {X : Type 0} (xs ys : List X) (x : X) → Has (xs ++ ys) x → Has xs x ⊎ Has ys x
has-either [] ys x h = inr h
has-either (y ∷ xs) ys x (inl e) = inl (inl e)
has-either (y ∷ xs) ys x (inr h) = elim (has-either xs ys x h) [ inl l ↦ inl (inr l) | inr r ↦ inr r ]

pub has-last : {X : Type 0} (xs : List X) (x : X) → Has (xs ++ x ∷ []) x
has-last xs x = has-right xs (x ∷ []) x (inl refl)

-- what stands in a list with one more is that one, or stood there before
pub has-pushed : {X : Type 0} (xs : List X) (y x : X) → Has (xs ++ y ∷ []) x → Has xs x ⊎ (y ≡ x)
has-pushed xs y x h = elim (has-either xs (y ∷ []) x h) [ inl old ↦ inl old | inr new ↦ elim new [ inl e ↦ inr e | inr none ↦ absurd none ] ]

pub has-at : {X : Type 0} (xs : List X) (i : ℕ) (x : X) → slice_get xs i ≡ Some x → Has xs x
has-at [] i x h = absurd (let l : i < 0 = slice_get_within [] i x h in omega (arith, l))
has-at (y ∷ ys) zero x h = let e : y ≡ x = cc in inl e
has-at (y ∷ ys) (suc i) x h = inr (has-at ys i x h)

pub place-of : {X : Type 0} (xs : List X) (x : X) → Has xs x → (i : ℕ) × (slice_get xs i ≡ Some x)
place-of [] x h = absurd h
place-of (y ∷ ys) x (inl e) = (zero, ap Some e)
place-of (y ∷ ys) x (inr h) = let r = place-of ys x h in (suc r.0, r.1)
