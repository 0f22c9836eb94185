-- A formula is a node of its table.
use Rattle.std.proofs.Common.{◌≡◌, refl, sym, ℕ, ◌<◌, true, List, length, slice_get, Option, Some, None, Result, Ok, Err, OnOk}
use Rattle.std.proofs.lemmas.Bool.{true≢false}
use Rattle.std.proofs.lemmas.Option.{slice_get_within}
use Rattle.jh_form.specs.Tree.{ValueTree}
use Rattle.jh_arena.specs.table.Entries.{is_truth}

inside_of : (xs : List ValueTree) (n : ℕ) (o : Option ValueTree) → slice_get xs n ≡ o → is_truth o ≡ true → n < length xs
unfolding is_truth
inside_of xs n (Some v) e h = slice_get_within xs n v e
inside_of xs n None e h = absurd (true≢false (sym h))

pub truth-inside : (xs : List ValueTree) (n : ℕ) → is_truth (slice_get xs n) ≡ true → n < length xs
truth-inside xs n h = inside_of xs n (slice_get xs n) refl h

-- what holds where an answer comes, from what does
pub on-ok : {A E : Type 0} (P Q : Type 0) (r : Result A E) → (P → Q) → OnOk r P → OnOk r Q
on-ok P Q (Ok v) f h = f h
on-ok P Q (Err e) f h = h
