-- The first turn from which constants are free in formulas, as more formulas are added.
use Rattle.std.proofs.Common.{◌≡◌, refl, sym, ap, ◌∙◌, ℕ, ◌≤◌, max, Bool, true, false, ◌&&◌, List, [], ◌∷◌, ◌++◌, arith}
use Rattle.std.specs.List.{list_all}
use Rattle.jh_form.specs.Tree.{FormulaTree}
use Rattle.jh_form.specs.Passing.{formula_passes}
use Rattle.jh_form.proofs.ClosedLemmas.{both-left, both-right}
use Rattle.jh_seq.specs.splitting.Split.{before}
use Rattle.jh_arena.specs.table.Facing.{IsLeast}
use Rattle.jh_ground_input.specs.Standing.{are_before}

-- two tests that pass from some number on pass together from the greater one on
pub both-least : (p q : ℕ → Bool) (n m : ℕ) → IsLeast p n → IsLeast q m → IsLeast (λ k. p k && q k) (max n m)
both-least p q n m a b = record {
  closed = λ d h. λ i. a.closed d (omega (arith, h)) i && b.closed d (omega (arith, h)) i;
  least = λ d h.
      let first : n ≤ d = a.least d (both-left (p d) (q d) h) in
      let second : m ≤ d = b.least d (both-right (p d) (q d) h) in
      omega (arith, first, second);
}

pub same-least : (p q : ℕ → Bool) (n : ℕ) → ((k : ℕ) → p k ≡ q k) → IsLeast p n → IsLeast q n
same-least p q n e a = record { closed = λ d h. sym (e d) ∙ a.closed d h; least = λ d h. a.least d (e d ∙ h) }

and-true : (b : Bool) → b ≡ (b && true)
and-true true = refl
and-true false = refl

and-over : (a b c : Bool) → ((a && b) && c) ≡ (a && (b && c))
and-over true b c = refl
and-over false b c = refl

pub before-more : (fs : List FormulaTree) (a : FormulaTree) (k : ℕ) → (are_before fs k && formula_passes a (before k)) ≡ are_before (fs ++ (a ∷ [])) k
before-more [] a k = and-true (formula_passes a (before k))
before-more (b ∷ fs) a k = and-over (formula_passes b (before k)) (are_before fs k) (formula_passes a (before k)) ∙ ap (λ c. formula_passes b (before k) && c) (before-more fs a k)
