-- Lists of formulas that are joined from their end.
use Rattle.std.proofs.Common.{◌≡◌, refl, sym, ap, ◌∙◌, ℕ, zero, suc, ◌+◌, ◌<◌, true, List, [], ◌∷◌, drop, length, slice_get, slice_index_or, Option, Some, add-one, arith}
use Rattle.std.proofs.lemmas.Bool.{true≢false}
use Rattle.jh_form.specs.Tree.{ValueTree, FormulaTree, of_truth}
use Rattle.jh_form.specs.Tree as t
use Rattle.jh_form.proofs.ClosedLemmas.{both-left, both-right}
use Rattle.jh_arena.specs.table.Entries.{Listing, is_truth, the_truth}
use Rattle.jh_arena.specs.table.Growth.{Extends}
use Rattle.jh_arena.specs.table.Nodes.{nodes}
use Rattle.jh_arena.specs.makers.Joined.{joined, are_truths, truths_at}

pub truth-at : (ts : List ValueTree) (ns : List ℕ) (i n : ℕ) → are_truths ts ns ≡ true → slice_get ns i ≡ Some n → is_truth (slice_get ts n) ≡ true
truth-at ts [] i n h e = absurd (cc)
truth-at ts (m ∷ ns) zero n h e = let same : m ≡ n = cc in ap (λ k. is_truth (slice_get ts k)) (sym same) ∙ both-left (is_truth (slice_get ts m)) (are_truths ts ns) h
truth-at ts (m ∷ ns) (suc i) n h e = truth-at ts ns i n (both-right (is_truth (slice_get ts m)) (are_truths ts ns) h) e

some-truth : (o : Option ValueTree) → is_truth o ≡ true → o ≡ Some (of_truth (the_truth o))
unfolding is_truth the_truth
some-truth (Some (of_truth a)) h = refl
some-truth _ h = absurd (true≢false (sym h))

-- a formula stays where it is while the table grows
pub truth-stays : (t u : Listing) (n : ℕ) → Extends t u → is_truth (slice_get (nodes t) n) ≡ true → slice_get (nodes u) n ≡ Some (of_truth (the_truth (slice_get (nodes t) n)))
truth-stays t u n g h = g.nodes.keeps n (of_truth (the_truth (slice_get (nodes t) n))) (some-truth (slice_get (nodes t) n) h)

last-of : (ts : List ValueTree) (ns : List ℕ) (i n : ℕ) → suc i ≡ length ns → slice_get ns i ≡ Some n → joined (truths_at ts (drop i ns)) ≡ the_truth (slice_get ts n)
last-of ts [] i n e h = absurd (omega arith)
last-of ts (m ∷ []) zero n e h = let same : m ≡ n = cc in ap (λ k. the_truth (slice_get ts k)) same
last-of ts (m ∷ k ∷ ns) zero n e h = absurd (omega arith)
last-of ts (m ∷ ns) (suc i) n e h = last-of ts ns i n (omega arith) h

-- the last formula alone
pub joined-last : (ts : List ValueTree) (ns : List ℕ) (i n : ℕ) → i + 1 ≡ length ns → slice_get ns i ≡ Some n → is_truth (slice_get ts n) ≡ true →
    slice_get ts n ≡ Some (of_truth (joined (truths_at ts (drop i ns))))
joined-last ts ns i n e h truth = some-truth (slice_get ts n) truth ∙ ap (λ a. Some (of_truth a)) (sym (last-of ts ns i n (omega arith) h))

step-of : (ts : List ValueTree) (ns : List ℕ) (i n : ℕ) → suc i < length ns → slice_get ns i ≡ Some n → joined (truths_at ts (drop i ns)) ≡ t.and (the_truth (slice_get ts n)) (joined (truths_at ts (drop (suc i) ns)))
step-of ts [] i n e h = absurd (omega arith)
step-of ts (m ∷ []) i n e h = absurd (omega arith)
step-of ts (m ∷ k ∷ ns) zero n e h = let same : m ≡ n = cc in ap (λ j. t.and (the_truth (slice_get ts j)) (joined (truths_at ts (k ∷ ns)))) same
step-of ts (m ∷ k ∷ ns) (suc i) n e h = step-of ts (k ∷ ns) i n (omega arith) h

-- one more formula before those that are joined
pub joined-step : (ts : List ValueTree) (ns : List ℕ) (i n : ℕ) → i + 1 < length ns → slice_get ns i ≡ Some n →
    t.and (the_truth (slice_get ts n)) (joined (truths_at ts (drop (i + 1) ns))) ≡ joined (truths_at ts (drop i ns))
joined-step ts ns i n e h = ap (λ j. t.and (the_truth (slice_get ts n)) (joined (truths_at ts (drop j ns)))) (add-one i) ∙ sym (step-of ts ns i n (omega arith) h)

-- one more formula, where the table grew
pub joined-more : (s u v : Listing) (ns : List ℕ) (i n m r : ℕ) → Extends s u → are_truths (nodes s) ns ≡ true → i + 1 < length ns → slice_get ns i ≡ Some n →
    slice_get (nodes u) m ≡ Some (of_truth (joined (truths_at (nodes s) (drop (i + 1) ns)))) →
    slice_get (nodes v) r ≡ Some (of_truth (t.and (the_truth (slice_get (nodes u) n)) (the_truth (slice_get (nodes u) m)))) →
    slice_get (nodes v) r ≡ Some (of_truth (joined (truths_at (nodes s) (drop i ns))))
unfolding the_truth
joined-more s u v ns i n m r g h lt at there made =
    made
    ∙ (λ k. Some (of_truth (t.and (the_truth (truth-stays s u n g (truth-at (nodes s) ns i n h at) k)) (the_truth (there k)))))
    ∙ ap (λ a. Some (of_truth a)) (joined-step (nodes s) ns i n lt at)

pub truth-there : (o : Option ValueTree) (a : FormulaTree) → o ≡ Some (of_truth a) → is_truth o ≡ true
unfolding is_truth
truth-there o a e = ap is_truth e

pub at-index : (ns : List ℕ) (i d : ℕ) → i < length ns → slice_get ns i ≡ Some (slice_index_or ns i d)
at-index [] i d lt = absurd (omega arith)
at-index (m ∷ ns) zero d lt = refl
at-index (m ∷ ns) (suc i) d lt = at-index ns i d (omega arith)

pub truth-in : (o : Option ValueTree) (a : FormulaTree) → o ≡ Some (of_truth a) → the_truth o ≡ a
unfolding the_truth
truth-in o a h = ap the_truth h
