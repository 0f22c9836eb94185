-- What stands at nodes.
use Rattle.std.proofs.Common.{◌≡◌, refl, sym, ap, ◌<◌, true, List, length, ℕ, slice_get, Option, Some}
use Rattle.std.proofs.lemmas.Bool.{true≢false}
use Rattle.std.proofs.lemmas.Option.{slice_get_within}
use Rattle.jh_form.specs.Tree.{FormulaTree, ValueTree, of_number, of_truth}
use Rattle.jh_arena.specs.table.Entries.{Listing, is_number, the_number, is_truth, the_truth}
use Rattle.jh_arena.specs.table.Growth.{Extends}
use Rattle.jh_arena.specs.table.Nodes.{nodes}

pub truth-of : (o : Option ValueTree) → is_truth o ≡ true → o ≡ Some (of_truth (the_truth o))
unfolding is_truth the_truth
truth-of (Some (of_truth a)) h = refl
truth-of _ h = absurd (true≢false (sym h))

pub truth-inside : (ts : List ValueTree) (n : ℕ) → is_truth (slice_get ts n) ≡ true → n < length ts
truth-inside ts n h = slice_get_within ts n (of_truth (the_truth (slice_get ts n))) (truth-of (slice_get ts n) h)

pub truth-there : (o : Option ValueTree) (a : FormulaTree) → o ≡ Some (of_truth a) → is_truth o ≡ true
unfolding is_truth
truth-there o a e = ap is_truth e

pub truth-at : (o : Option ValueTree) (a : FormulaTree) → o ≡ Some (of_truth a) → the_truth o ≡ a
unfolding the_truth
truth-at o a e = ap the_truth e

-- a formula stays where it is while the table grows
pub truth-stays : (v w : Listing) (n : ℕ) → Extends v w → is_truth (slice_get (nodes v) n) ≡ true → slice_get (nodes w) n ≡ Some (of_truth (the_truth (slice_get (nodes v) n)))
truth-stays v w n g h = g.nodes.keeps n (of_truth (the_truth (slice_get (nodes v) n))) (truth-of (slice_get (nodes v) n) h)

number-of : (o : Option ValueTree) → is_number o ≡ true → o ≡ Some (of_number (the_number o))
unfolding is_number the_number
number-of (Some (of_number a)) h = refl
number-of _ h = absurd (true≢false (sym h))

pub number-inside : (ts : List ValueTree) (n : ℕ) → is_number (slice_get ts n) ≡ true → n < length ts
number-inside ts n h = slice_get_within ts n (of_number (the_number (slice_get ts n))) (number-of (slice_get ts n) h)
