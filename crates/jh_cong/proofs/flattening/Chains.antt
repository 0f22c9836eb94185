-- A list is added from its end.
use Rattle.std.proofs.Common.{◌≡◌, refl, sym, ap, subst, ◌∙◌, ℕ, zero, suc, ◌+◌, ◌-◌, ◌<◌, List, [], ◌∷◌, length, drop, slice_get, Some, arith}
use Rattle.std.proofs.lemmas.Option.{slice_get_within, same_Some}
use Rattle.jh_closure.specs.declared.congruence_closure.node.Node.{Node}
use Rattle.jh_closure.specs.declared.congruence_closure.node.Node.TheVariants as n
use Rattle.jh_cong.specs.flattening.Plain.{IsHelper, IsChain, AddsHelpers}
use Rattle.jh_cong.proofs.flattening.Gathering.{chain-grows}

drop-none : (xs : List ℕ) → drop (length xs) xs ≡ []
drop-none [] = refl
drop-none (x ∷ xs) = drop-none xs

drop-at : (xs : List ℕ) (i : ℕ) (x : ℕ) → slice_get xs i ≡ Some x → drop i xs ≡ x ∷ drop (suc i) xs
drop-at [] i x e = absurd (let l : i < 0 = slice_get_within [] i x e in omega (arith, l))
drop-at (y ∷ xs) zero x e = ap (λ z. z ∷ xs) (same_Some y x e)
drop-at (y ∷ xs) (suc i) x e = drop-at xs i x e

-- the empty list
pub chain-none : (count : ℕ) (helpers : List Node) (fields : List ℕ) (k : ℕ) → IsHelper count helpers k (n.Leaf 0) → IsChain count helpers (drop (length fields - 0) fields) k
chain-none count helpers fields k h =
    let z : length fields ≡ length fields - 0 = omega arith in
    subst (λ (ks : List ℕ). IsChain count helpers ks k) (sym (drop-none fields) ∙ ap (λ i. drop i fields) z) h

-- one more field before it
pub chain-next : (count : ℕ) (old new : List Node) (fields : List ℕ) (turn field rest k : ℕ) → AddsHelpers count old new → turn < length fields → slice_get fields (length fields - 1 - turn) ≡ Some field →
    IsChain count old (drop (length fields - turn) fields) rest → IsHelper count new k (n.Apply 38 field rest) → IsChain count new (drop (length fields - (turn + 1)) fields) k
chain-next count old new fields turn field rest k a l here h one =
    let place : length fields - 1 - turn ≡ length fields - (turn + 1) = omega (arith, l) in
    let after : suc (length fields - 1 - turn) ≡ length fields - turn = omega (arith, l) in
    let front : drop (length fields - (turn + 1)) fields ≡ field ∷ drop (length fields - turn) fields =
    ap (λ i. drop i fields) (sym place) ∙ (drop-at fields (length fields - 1 - turn) field here ∙ ap (λ i. field ∷ drop i fields) after) in
    subst (λ (ks : List ℕ). IsChain count new ks k) (sym front) (rest, one, chain-grows count old new a (drop (length fields - turn) fields) rest h)

-- all fields
pub chain-all : (count : ℕ) (helpers : List Node) (fields : List ℕ) (turn k : ℕ) → turn ≡ length fields → IsChain count helpers (drop (length fields - turn) fields) k → IsChain count helpers fields k
chain-all count helpers fields turn k e h =
    let z : length fields - turn ≡ 0 = omega (arith, e) in
    subst (λ (ks : List ℕ). IsChain count helpers ks k) (ap (λ i. drop i fields) z) h
