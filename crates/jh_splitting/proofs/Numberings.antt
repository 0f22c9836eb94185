-- The turn from which on constants are free in a formula.
use Rattle.std.proofs.Common.{◌≡◌, refl, sym, subst, ℕ, true, Some, Option, arith}
use Rattle.std.proofs.lemmas.Bool.{true≢false}
use Rattle.jh_form.specs.Tree.{FormulaTree, ValueTree, of_truth}
use Rattle.jh_form.specs.Passing.{formula_passes, value_passes}
use Rattle.jh_arena.specs.table.Entries.{is_truth, the_truth, the_value}
use Rattle.jh_arena.specs.table.Facing.{IsLeast, turn_below}
use Rattle.jh_seq.specs.splitting.Split.{before}
use Rattle.jh_splitting.specs.Numbering.{IsFirst}

truth-value : (o : Option ValueTree) → is_truth o ≡ true → the_value o ≡ of_truth (the_truth o)
unfolding is_truth the_truth the_value
truth-value (Some (of_truth a)) h = refl
truth-value _ h = absurd (true≢false (sym h))

least-in : (a : FormulaTree) (v : ValueTree) (n : ℕ) → v ≡ of_truth a → IsLeast (λ k. value_passes v (turn_below k)) n → IsLeast (λ k. formula_passes a (before k)) n
unfolding value_passes
least-in a v n e h = subst (λ (w : ValueTree). IsLeast (λ k. value_passes w (turn_below k)) n) e h

pub least-turn : (o : Option ValueTree) (n : ℕ) → is_truth o ≡ true → IsLeast (λ k. value_passes (the_value o) (turn_below k)) n → IsLeast (λ k. formula_passes (the_truth o) (before k)) n
least-turn o n h l = least-in (the_truth o) (the_value o) n (truth-value o h) l

-- the names of the formula are before its first constant
pub names-before : (a : FormulaTree) (k : ℕ) → IsFirst a k → formula_passes a (before k) ≡ true
names-before a k h = h.least.closed k (omega (arith, h.is))
