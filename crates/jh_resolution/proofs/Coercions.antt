-- A value of a sort where it has that sort.
use Rattle.std.proofs.Common.{◌≡◌, refl, sym, ap, ◌∙◌, ℕ, zero, suc, ◌<◌, length, is_some, arith, [], ◌∷◌, Bool, true, false, List, slice_get, Option, Some, None}
use Rattle.std.proofs.lemmas.Bool.{true≢false}
use Rattle.std.proofs.lemmas.Option.{slice_get_within}
use Rattle.jh_name.specs.declared.place.Sort as place
use Rattle.jh_name.specs.declared.place.Sort.TheVariants as Sort
use Rattle.jh_form.specs.Tree.{ValueTree, of_truth, of_object, of_set, of_number}
use Rattle.jh_form.specs.Tree as t
use Rattle.jh_form.specs.Sorts.{tree_sort, same_sort}
use Rattle.jh_arena.specs.table.Entries.{Listing, the_value}
use Rattle.jh_arena.specs.table.Growth.{Extends}
use Rattle.jh_arena.specs.table.Nodes.{nodes}
use Rattle.jh_resolution.specs.Sorting.{of_sort, default_of}

some-at : (o : Option ValueTree) → is_some o ≡ true → o ≡ Some (the_value o)
unfolding the_value
some-at (Some v) h = refl
some-at None h = absurd (true≢false (sym h))

within-some : (xs : List ValueTree) (n : ℕ) → n < length xs → is_some (slice_get xs n) ≡ true
within-some [] n lt = absurd (omega arith)
within-some (x ∷ xs) zero lt = refl
within-some (x ∷ xs) (suc n) lt = within-some xs n (omega arith)

value-at : (o : Option ValueTree) (v : ValueTree) → o ≡ Some v → the_value o ≡ v
unfolding the_value
value-at o v e = ap the_value e

-- what stands at a place inside the list
pub there : (ts : List ValueTree) (n : ℕ) → n < length ts → slice_get ts n ≡ Some (the_value (slice_get ts n))
there ts n lt = some-at (slice_get ts n) (within-some ts n lt)

is-of-sort : (s : place.Sort) (v : ValueTree) → same_sort s (tree_sort v) ≡ true → v ≡ of_sort s v
is-of-sort Sort.Obj (t.of_object a) h = refl
is-of-sort Sort.Int (t.of_number a) h = refl
is-of-sort Sort.Bool (t.of_truth a) h = refl
is-of-sort Sort.Set (t.of_set a) h = refl
is-of-sort Sort.Field (t.of_field a) h = refl
is-of-sort _ _ h = absurd (true≢false (sym h))

is-default : (s : place.Sort) (v : ValueTree) → same_sort s (tree_sort v) ≡ false → default_of s ≡ of_sort s v
is-default Sort.Obj (t.of_object a) h = absurd (true≢false h)
is-default Sort.Int (t.of_number a) h = absurd (true≢false h)
is-default Sort.Bool (t.of_truth a) h = absurd (true≢false h)
is-default Sort.Set (t.of_set a) h = absurd (true≢false h)
is-default Sort.Field (t.of_field a) h = absurd (true≢false h)
is-default Sort.Obj (t.of_number a) h = refl
is-default Sort.Obj (t.of_truth a) h = refl
is-default Sort.Obj (t.of_set a) h = refl
is-default Sort.Obj (t.of_field a) h = refl
is-default Sort.Int (t.of_object a) h = refl
is-default Sort.Int (t.of_truth a) h = refl
is-default Sort.Int (t.of_set a) h = refl
is-default Sort.Int (t.of_field a) h = refl
is-default Sort.Bool (t.of_object a) h = refl
is-default Sort.Bool (t.of_number a) h = refl
is-default Sort.Bool (t.of_set a) h = refl
is-default Sort.Bool (t.of_field a) h = refl
is-default Sort.Set (t.of_object a) h = refl
is-default Sort.Set (t.of_number a) h = refl
is-default Sort.Set (t.of_truth a) h = refl
is-default Sort.Set (t.of_field a) h = refl
is-default Sort.Field (t.of_object a) h = refl
is-default Sort.Field (t.of_number a) h = refl
is-default Sort.Field (t.of_truth a) h = refl
is-default Sort.Field (t.of_set a) h = refl

-- a value of the sort is kept
pub sort-kept : (ts : List ValueTree) (n : ℕ) (s u : place.Sort) (b : Bool) → n < length ts → u ≡ tree_sort (the_value (slice_get ts n)) → b ≡ same_sort s u → b ≡ true → slice_get ts n ≡ Some (of_sort s (the_value (slice_get ts n)))
sort-kept ts n s u b lt k e h = there ts n lt ∙ ap Some (is-of-sort s (the_value (slice_get ts n)) (ap (same_sort s) (sym k) ∙ sym e ∙ h))

-- another is exchanged for the default
pub sort-else : (o : Option ValueTree) (s u : place.Sort) (b : Bool) → u ≡ tree_sort (the_value o) → b ≡ same_sort s u → b ≡ false → default_of s ≡ of_sort s (the_value o)
sort-else o s u b k e h = is-default s (the_value o) (ap (same_sort s) (sym k) ∙ sym e ∙ h)

-- a node stands where it stood
pub stands-on : (l m : Listing) (n : ℕ) → n < length (nodes l) → Extends l m → slice_get (nodes m) n ≡ Some (the_value (slice_get (nodes l) n))
stands-on l m n lt g = g.nodes.keeps n (the_value (slice_get (nodes l) n)) (there (nodes l) n lt)

pub value-on : (l m : Listing) (n : ℕ) → n < length (nodes l) → Extends l m → the_value (slice_get (nodes m) n) ≡ the_value (slice_get (nodes l) n)
value-on l m n lt g = value-at (slice_get (nodes m) n) (the_value (slice_get (nodes l) n)) (stands-on l m n lt g)

pub inside-grows : (l m : Listing) (n : ℕ) → n < length (nodes l) → Extends l m → n < length (nodes m)
inside-grows l m n lt g = slice_get_within (nodes m) n (the_value (slice_get (nodes l) n)) (stands-on l m n lt g)

pub sort-on : (l m : Listing) (n : ℕ) (s : place.Sort) (o : Option ValueTree) → n < length (nodes l) → Extends l m → o ≡ Some (of_sort s (the_value (slice_get (nodes m) n))) → o ≡ Some (of_sort s (the_value (slice_get (nodes l) n)))
sort-on l m n s o lt g e = e ∙ ap (λ v. Some (of_sort s v)) (value-on l m n lt g)

pub ruleset coerce_steps = (inside-grows, sort-on, sort-kept, sort-else)
