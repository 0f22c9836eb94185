-- Lists with one more at the end, what holds of each or of some, and literals with their opposites.
use Rattle.std.proofs.Common.{◌≡◌, refl, sym, ap, subst, suc, arith, Bool, true, false, not, List, [], ◌∷◌, ◌++◌, ◌⊎◌, inl, inr, length}
use Rattle.std.proofs.lemmas.Bool.{true≢false}
use Rattle.jh_closure.specs.structures.Literals.{LiteralTree, IsListed, AreListed}
use Rattle.jh_models.specs.ground_models.Atoms.{opposite}
use Rattle.jh_models.specs.ground_models.Branches.{Each, AtLeastOne, EachTwo}

module _ {X : Type 0} where
  abbrev head-or : X → List X → X
  head-or d [] = d
  head-or d (x ∷ xs) = x

  abbrev tail-of : List X → List X
  tail-of [] = []
  tail-of (x ∷ xs) = xs

  heads-same : (x y : X) (xs ys : List X) → x ∷ xs ≡ y ∷ ys → x ≡ y
  heads-same x y xs ys e = ap (head-or x) e

  tails-same : (x y : X) (xs ys : List X) → x ∷ xs ≡ y ∷ ys → xs ≡ ys
  tails-same x y xs ys e = ap tail-of e

  never-empty : (x : X) (xs : List X) → [] ≡ x ∷ xs → ⊥
  never-empty x xs e = let none : 0 ≡ suc (length xs) = ap length e in omega (arith, none)

  pub never-nothing : (before rest : List X) (x : X) → [] ≡ before ++ (x ∷ rest) → ⊥
  never-nothing [] rest x e = never-empty x rest e
  never-nothing (y ∷ before) rest x e = never-empty y (before ++ (x ∷ rest)) e

  -- what two lists have behind the same beginning
  pub same-next : (before r s : List X) (x y : X) → before ++ (x ∷ r) ≡ before ++ (y ∷ s) → x ≡ y
  same-next [] r s x y e = heads-same x y r s e
  same-next (z ∷ before) r s x y e = same-next before r s x y (tails-same z z (before ++ (x ∷ r)) (before ++ (y ∷ s)) e)

  -- the place of one that stands in a list with one more at its end
  pub at-end : (xs before rest : List X) (y l : X) → xs ++ (y ∷ []) ≡ before ++ (l ∷ rest) → ((xs ≡ before) × (y ≡ l)) ⊎ ((earlier : List X) × (xs ≡ before ++ (l ∷ earlier)))
  at-end [] [] rest y l e = inl (refl, heads-same y l [] rest e)
  at-end [] (z ∷ before) rest y l e = absurd (never-nothing before rest l (tails-same y z [] (before ++ (l ∷ rest)) e))
  at-end (x ∷ xs) [] rest y l e = inr (xs, λ i. heads-same x l (xs ++ (y ∷ [])) rest e i ∷ xs)
  at-end (x ∷ xs) (z ∷ before) rest y l e = later (at-end xs before rest y l (tails-same x z (xs ++ (y ∷ [])) (before ++ (l ∷ rest)) e))
    where
      first : x ≡ z
      first = heads-same x z (xs ++ (y ∷ [])) (before ++ (l ∷ rest)) e

      later : ((xs ≡ before) × (y ≡ l)) ⊎ ((earlier : List X) × (xs ≡ before ++ (l ∷ earlier))) → ((x ∷ xs ≡ z ∷ before) × (y ≡ l)) ⊎ ((earlier : List X) × (x ∷ xs ≡ (z ∷ before) ++ (l ∷ earlier)))
      later (inl h) = inl ((λ i. first i ∷ h.0 i), h.1)
      later (inr h) = inr (h.0, λ i. first i ∷ h.1 i)

  pub each-map : (P Q : X → Type 0) → ((x : X) → P x → Q x) → (xs : List X) → Each P xs → Each Q xs
  each-map P Q f [] h = tt
  each-map P Q f (x ∷ xs) h = (f x h.0, each-map P Q f xs h.1)

  pub each-end : (P : X → Type 0) (xs : List X) (y : X) → Each P xs → P y → Each P (xs ++ (y ∷ []))
  each-end P [] y h k = (k, tt)
  each-end P (x ∷ xs) y h k = (h.0, each-end P xs y h.1 k)

  pub each-two : (P Q : X → X → Type 0) → ((x y : X) → P x y → Q x y) → (xs : List X) → EachTwo P xs → EachTwo Q xs
  each-two P Q f [] h = tt
  each-two P Q f (x ∷ xs) h = (each-map (P x) (Q x) (f x) xs h.0, each-two P Q f xs h.1)

  pub two-end : (P : X → X → Type 0) (xs : List X) (y : X) → EachTwo P xs → Each (λ x. P x y) xs → EachTwo P (xs ++ (y ∷ []))
  two-end P [] y h k = (tt, tt)
  two-end P (x ∷ xs) y h k = (each-end (P x) xs y h.0 k.0, two-end P xs y h.1 k.1)

  pub one-more : (P : X → Type 0) (xs : List X) (y : X) → AtLeastOne P xs → AtLeastOne P (xs ++ (y ∷ []))
  one-more P [] y h = absurd h
  one-more P (x ∷ xs) y (inl h) = inl h
  one-more P (x ∷ xs) y (inr h) = inr (one-more P xs y h)

  pub one-end : (P : X → Type 0) (xs : List X) (y : X) → P y → AtLeastOne P (xs ++ (y ∷ []))
  one-end P [] y h = inl h
  one-end P (x ∷ xs) y h = inr (one-end P xs y h)

-- literals
not-not : (p : Bool) → not (not p) ≡ p
not-not true = refl
not-not false = refl

pub twice : (l : LiteralTree) → opposite (opposite l) ≡ l
twice l = λ i. record { atom = l.atom; holds = not-not l.holds i }

differs : (p : Bool) → p ≡ not p → ⊥
differs true e = true≢false e
differs false e = true≢false (sym e)

pub own-opposite : (l : LiteralTree) → l ≡ opposite l → ⊥
own-opposite l e = differs l.holds (ap (λ (z : LiteralTree). z.holds) e)

-- what is listed with one more at the end
pub listed-end : (xs : List LiteralTree) (y l : LiteralTree) → IsListed (xs ++ (y ∷ [])) l → IsListed xs l ⊎ (y ≡ l)
listed-end [] y l (inl e) = inr e
listed-end [] y l (inr h) = absurd h
listed-end (x ∷ xs) y l (inl e) = inl (inl e)
listed-end (x ∷ xs) y l (inr h) = later (listed-end xs y l h)
  where
    later : IsListed xs l ⊎ (y ≡ l) → IsListed (x ∷ xs) l ⊎ (y ≡ l)
    later (inl g) = inl (inr g)
    later (inr e) = inr e

pub end-listed : (xs : List LiteralTree) (y l : LiteralTree) → y ≡ l → IsListed (xs ++ (y ∷ [])) l
end-listed [] y l e = inl e
end-listed (x ∷ xs) y l e = inr (end-listed xs y l e)

pub listed-before : (xs : List LiteralTree) (y l : LiteralTree) → IsListed xs l → IsListed (xs ++ (y ∷ [])) l
listed-before [] y l h = absurd h
listed-before (x ∷ xs) y l (inl e) = inl e
listed-before (x ∷ xs) y l (inr h) = inr (listed-before xs y l h)

-- what is so of each that is listed
pub each-listed : (P : LiteralTree → Type 0) (xs : List LiteralTree) → ((l : LiteralTree) → IsListed xs l → P l) → Each P xs
each-listed P [] f = tt
each-listed P (x ∷ xs) f = (f x (inl refl), each-listed P xs (λ l h. f l (inr h)))

pub listed-each : (P : LiteralTree → Type 0) (xs : List LiteralTree) → Each P xs → (l : LiteralTree) → IsListed xs l → P l
listed-each P [] h l g = absurd g
listed-each P (x ∷ xs) h l (inl e) = subst P e h.0
listed-each P (x ∷ xs) h l (inr g) = listed-each P xs h.1 l g

pub all-listed : (ks ls : List LiteralTree) → ((l : LiteralTree) → IsListed ls l → IsListed ks l) → AreListed ks ls
all-listed ks [] f = tt
all-listed ks (l ∷ ls) f = (f l (inl refl), all-listed ks ls (λ k h. f k (inr h)))

pub listed-all : (ks ls : List LiteralTree) → AreListed ks ls → (l : LiteralTree) → IsListed ls l → IsListed ks l
listed-all ks [] h l g = absurd g
listed-all ks (k ∷ ls) h l (inl e) = subst (IsListed ks) e h.0
listed-all ks (k ∷ ls) h l (inr g) = listed-all ks ls h.1 l g
