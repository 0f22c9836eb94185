-- Lists whose items belong to one another, place by place.
use Rattle.std.proofs.Common.{◌≡◌, refl, sym, ap, ◌∙◌, subst, ℕ, zero, suc, ◌+◌, List, [], ◌∷◌, ◌++◌, length, take, slice_get, Some}
use Rattle.std.proofs.lemmas.List.{take_more}
use Rattle.std.proofs.lemmas.Option.{slice_get_within, get_or_from_slice_get}
use Rattle.jh_splitting.specs.Pairs.{ArePaired}

-- one more of the first items of a list
pub take-next : {X : Type 0} (xs : List X) (i : ℕ) (x : X) → slice_get xs i ≡ Some x → take (i + 1) xs ≡ take i xs ++ x ∷ []
take-next xs i x at = take_more xs i x (slice_get_within xs i x at) ∙ ap (λ y. take i xs ++ y ∷ []) (get_or_from_slice_get xs i x x at)

some-same : {X : Type 0} (x y : X) → Some x ≡ Some y → x ≡ y
some-same x y e = cc

none-some : {X : Type 0} (x : X) (i : ℕ) → slice_get [] i ≡ Some x → ⊥
none-some x i e = cc

module _ {X Y : Type 0} (R S : X → Y → Type 0) (f : (x : X) (y : Y) → R x y → S x y) where
  pub paired-grows : (xs : List X) (ys : List Y) → ArePaired R xs ys → ArePaired S xs ys
  paired-grows [] [] h = h
  paired-grows [] (y ∷ ys) h = h
  paired-grows (x ∷ xs) [] h = h
  paired-grows (x ∷ xs) (y ∷ ys) h = (f x y h.0, paired-grows xs ys h.1)

module _ {X Y : Type 0} (R : X → Y → Type 0) where
  pub paired-push : (xs : List X) (ys : List Y) (x : X) (y : Y) → ArePaired R xs ys → R x y → ArePaired R (xs ++ x ∷ []) (ys ++ y ∷ [])
  paired-push [] [] x y h r = (r, tt)
  paired-push [] (z ∷ ys) x y h r = absurd h
  paired-push (w ∷ xs) [] x y h r = absurd h
  paired-push (w ∷ xs) (z ∷ ys) x y h r = (h.0, paired-push xs ys x y h.1 r)

  -- one more pair of the first ones
  pub paired-next : (xs : List X) (ys : List Y) (i : ℕ) (x : X) (y : Y) → slice_get xs i ≡ Some x → ArePaired R (take i xs) ys → R x y → ArePaired R (take (i + 1) xs) (ys ++ y ∷ [])
  paired-next xs ys i x y at h r = subst (λ (zs : List X). ArePaired R zs (ys ++ y ∷ [])) (sym (take-next xs i x at)) (paired-push (take i xs) ys x y h r)

  -- what belongs to the item at a place
  pub paired-at : (xs : List X) (ys : List Y) (i : ℕ) (x : X) → ArePaired R xs ys → slice_get xs i ≡ Some x → (y : Y) × (slice_get ys i ≡ Some y) × R x y
  paired-at [] ys i x h at = absurd (none-some x i at)
  paired-at (w ∷ xs) [] i x h at = absurd h
  paired-at (w ∷ xs) (z ∷ ys) zero x h at = (z, refl, subst (λ (v : X). R v z) (some-same w x at) h.0)
  paired-at (w ∷ xs) (z ∷ ys) (suc i) x h at = paired-at xs ys i x h.1 at

  pub paired-length : (xs : List X) (ys : List Y) → ArePaired R xs ys → length ys ≡ length xs
  paired-length [] [] h = refl
  paired-length [] (y ∷ ys) h = absurd h
  paired-length (x ∷ xs) [] h = absurd h
  paired-length (x ∷ xs) (y ∷ ys) h = ap suc (paired-length xs ys h.1)

  -- what an item of the second list belongs to
  pub paired-back : (xs : List X) (ys : List Y) (i : ℕ) (y : Y) → ArePaired R xs ys → slice_get ys i ≡ Some y → (x : X) × R x y
  paired-back [] [] i y h at = absurd (none-some y i at)
  paired-back [] (z ∷ ys) i y h at = absurd h
  paired-back (w ∷ xs) [] i y h at = absurd h
  paired-back (w ∷ xs) (z ∷ ys) zero y h at = (w, subst (λ (v : Y). R w v) (some-same z y at) h.0)
  paired-back (w ∷ xs) (z ∷ ys) (suc i) y h at = paired-back xs ys i y h.1 at
