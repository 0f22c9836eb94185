-- What is counted at so many terms hangs on their number up to the greatest count alone.
use Rattle.std.proofs.Common.{◌≡◌, refl, sym, ap, ◌∙◌, ℕ, zero, suc, ◌+◌, ◌*◌, ◌^◌, min, arith, List, [], ◌∷◌, slice_index}
use native.Mathlib.Nat.{pow-suc, pow-zero}
use Rattle.jh_form.specs.Tree.{TermTree, FormulaTree}
use Rattle.jh_form.specs.Tree as t
use Rattle.jh_query.specs.queries.Size.{capped, count_max}
use Rattle.jh_query.proofs.queries.Ceilings.{times-capped}
use Rattle.jh_inst.specs.instances.Count.{total, term_weight, weight}
use Rattle.jh_inst.specs.instances.Terms.{object_terms}

sum_same : (x y u v m : ℕ) → min x m ≡ min y m → min u m ≡ min v m → min (x + u) m ≡ min (y + v) m
sum_same x y u v m e f = omega arith

pub sum-capped : (x y u v : ℕ) → capped x ≡ capped y → capped u ≡ capped v → capped (x + u) ≡ capped (y + v)
sum-capped x y u v e f = sum_same x y u v count_max e f

twice_min : (x m : ℕ) → min (min x m) m ≡ min x m
twice_min x m = omega arith

pub capped-twice : (n : ℕ) → capped (capped n) ≡ capped n
capped-twice n = twice_min n count_max

-- a product of what is the same but for the greatest count
pub product-capped : (a b x y : ℕ) → capped a ≡ capped x → capped b ≡ capped y → capped (a * b) ≡ capped (x * y)
product-capped a b x y e f =
    sym (times-capped (capped (capped a * capped b)) (capped a) (capped b) a b refl refl refl)
    ∙ (λ i. capped (e i * f i))
    ∙ times-capped (capped (capped x * capped y)) (capped x) (capped y) x y refl refl refl

pub power-capped : (n m : ℕ) → capped (capped n ^ m) ≡ capped (n ^ m)
power-capped n zero = ap capped (pow-zero (capped n)) ∙ sym (ap capped (pow-zero n))
power-capped n (suc m) = ap capped (pow-suc (capped n) m) ∙ product-capped (capped n ^ m) (capped n) (n ^ m) n (power-capped n m) (capped-twice n) ∙ ap capped (sym (pow-suc n m))

pub total-capped : {X : Type 0} (f g : X → ℕ) → ((x : X) → capped (f x) ≡ capped (g x)) → (xs : List X) → capped (total f xs) ≡ capped (total g xs)
total-capped f g h [] = refl
total-capped f g h (x ∷ xs) = sum-capped (f x) (g x) (total f xs) (total g xs) (h x) (total-capped f g h xs)

module _ (n : ℕ) where
  term-capped : (ps : List ℕ) (a : TermTree) → capped (term_weight (capped n) ps a) ≡ capped (term_weight n ps a)
  term-capped ps (t.bound k) = power-capped n (slice_index ps k)
  term-capped ps (t.read_object f a) = term-capped ps a
  term-capped ps _ = refl

  pub weight-capped : (a : FormulaTree) (ps : List ℕ) (m : ℕ) → capped (weight (capped n) a ps m) ≡ capped (weight n a ps m)
  weight-capped (t.negation a) ps m = weight-capped a ps m
  weight-capped (t.and a b) ps m = sum-capped (weight (capped n) a ps m) (weight n a ps m) (weight (capped n) b ps m) (weight n b ps m) (weight-capped a ps m) (weight-capped b ps m)
  weight-capped (t.or a b) ps m = sum-capped (weight (capped n) a ps m) (weight n a ps m) (weight (capped n) b ps m) (weight n b ps m) (weight-capped a ps m) (weight-capped b ps m)
  weight-capped (t.all a) ps m = weight-capped a (1 ∷ ps) (suc m)
  weight-capped (t.ex a) ps m = weight-capped a (m ∷ ps) m
  weight-capped a ps m = total-capped (term_weight (capped n) ps) (term_weight n ps) (term-capped ps) (object_terms a)
