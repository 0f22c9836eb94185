-- Lists with one more at the end, and what is listed of literals over nodes.
use Rattle.std.proofs.Common.{◌≡◌, refl, ap, ℕ, zero, suc, ◌<◌, ◌≤◌, arith, List, [], ◌∷◌, ◌++◌, length, drop, take, Some, slice_get, ◌⊎◌, inl, inr}
use Rattle.std.proofs.lemmas.Option.{slice_get_within}
use Rattle.jh_form.specs.Tree.{ValueTree}
use Rattle.jh_closure.specs.structures.Literals.{IsListed, AreListed}
use Rattle.jh_closure.specs.congruence_closure.Nodes.{Has}
use Rattle.jh_propagation.specs.declared.trail.decided.Decided.{Decided}
use Rattle.jh_propagation.specs.trail.Saying.{literal_tree_at, literals_at}

-- what stands at a place of a list with one more
pub slice-pushed : {X : Type 0} (xs : List X) (y v : X) (n : ℕ) → slice_get (xs ++ y ∷ []) n ≡ Some v → (slice_get xs n ≡ Some v) ⊎ ((n ≡ length xs) × (y ≡ v))
slice-pushed [] y v zero h = let e : y ≡ v = cc in inr (refl, e)
slice-pushed [] y v (suc n) h = absurd (let l : n < 0 = slice_get_within [] n v h in omega (arith, l))
slice-pushed (x ∷ xs) y v zero h = inl h
slice-pushed (x ∷ xs) y v (suc n) h = elim (slice-pushed xs y v n h) [ inl l ↦ inl l | inr r ↦ inr (ap suc r.0, r.1) ]

pub drop-more : {X : Type 0} (n : ℕ) (xs ys : List X) → n ≤ length xs → drop n (xs ++ ys) ≡ drop n xs ++ ys
drop-more zero xs ys h = refl
drop-more (suc n) [] ys h = absurd (omega (arith, h))
drop-more (suc n) (x ∷ xs) ys h = drop-more n xs ys (omega (arith, h))

pub has-listed : (ts : List ValueTree) (ds : List Decided) (d : Decided) → Has ds d → IsListed (literals_at ts ds) (literal_tree_at ts d)
has-listed ts [] d h = absurd h
has-listed ts (e ∷ ds) d (inl h) = inl (ap (literal_tree_at ts) h)
has-listed ts (e ∷ ds) d (inr h) = inr (has-listed ts ds d h)

pub are-listed : (ts : List ValueTree) (ks ls : List Decided) → ((d : Decided) → Has ls d → Has ks d) → AreListed (literals_at ts ks) (literals_at ts ls)
are-listed ts ks [] f = tt
are-listed ts ks (d ∷ ls) f = (has-listed ts ks d (f d (inl refl)), are-listed ts ks ls (λ e h. f e (inr h)))

-- nothing is left of the first ones behind as many
drop-short : {X : Type 0} (n : ℕ) (xs : List X) → length xs ≤ n → drop n xs ≡ []
drop-short zero [] h = refl
drop-short zero (x ∷ xs) h = absurd (omega (arith, h))
drop-short (suc n) [] h = refl
drop-short (suc n) (x ∷ xs) h = drop-short n xs (omega (arith, h))

take-short : {X : Type 0} (n : ℕ) (xs : List X) → length (take n xs) ≤ n
take-short zero xs = omega arith
take-short (suc n) [] = omega arith
take-short (suc n) (x ∷ xs) = let rest = take-short n xs in omega (arith, rest)

pub drop-taken-start : {X : Type 0} (xs : List X) (c n : ℕ) → n ≡ c → drop c (take n xs) ≡ []
drop-taken-start xs c n e = drop-short c (take n xs) (let small = take-short n xs in omega (arith, small, e))
