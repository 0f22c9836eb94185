-- One value for another where both may have loose bound variables. Under further binders the numbers of these rise, so that each still
-- is the variable of its own binder.
use Rattle.std.specs.Prelude.{◌≡◌, ℕ, true, List, Option, Some, None, is_some, slice_get}
use Rattle.jh_form.specs.Tree.{TermTree, ValueTree, FormulaTree}
use Rattle.jh_form.specs.Tree as t
use Rattle.jh_form.specs.Sorts.{tree_sort}
use Rattle.jh_boxed.specs.Mapped.{mapped_value, mapped_formula}
use Rattle.jh_arena.specs.table.Entries.{Listing, the_value}
use Rattle.jh_arena.specs.table.Nodes.{nodes}
use Rattle.jh_substitution.specs.rewriting.Exchanging.{new_for}
use Rattle.jh_substitution.specs.rewriting.Rewritten.{Rewriting, object_or, number_or, truth_or, set_or, field_or, rewritten_formula}
use Rattle.jh_substitution.specs.simultaneous.Lifted.{lifting}

-- a value under d more binders
abbrev pub raised : ℕ → ValueTree → ValueTree
raised d v = mapped_value v (lifting d) 0

-- what stands for a part under d binders: the new value there, where the part is the old one there, labels included
abbrev pub new_at : ValueTree → ValueTree → ℕ → ValueTree → Option ValueTree
new_at old new d v = new_for (raised d old) (raised d new) v

-- The new value stands for each part that is the old one.
abbrev pub exchanging_under : ValueTree → ValueTree → Rewriting
exchanging_under old new = record {
  leaves = record {
    object_at = λ x d. object_or (new_at old new d (t.of_object (t.free_object x))) (t.free_object x);
    number_at = λ x d. number_or (new_at old new d (t.of_number (t.free_number x))) (t.free_number x);
    truth_at = λ x d. truth_or (new_at old new d (t.of_truth (t.free_truth x))) (t.free_truth x);
    set_at = λ x d. set_or (new_at old new d (t.of_set (t.free_set x))) (t.free_set x);
    field_at = λ x d. field_or (new_at old new d (t.of_field (t.free_field x))) (t.free_field x);
    bound_at = λ k d. object_or (new_at old new d (t.of_object (t.bound k))) (t.bound k);
  };
  whole_at = λ v d. new_at old new d v;
}

-- An answer that is a node is the new value, where the part at place n under d binders is the old one; where there is none it isn't.
abbrev pub StandsAt : ValueTree → ValueTree → List ValueTree → ℕ → ℕ → Option ℕ → Type 0
StandsAt old new ts n d (Some r) = (slice_get ts r ≡ Some (raised d new)) × (the_value (slice_get ts n) ≡ raised d old)
StandsAt old new ts n d None = the_value (slice_get ts n) ≡ raised d old → ⊥

-- a formula with one value exchanged for another
abbrev pub exchanged_under : FormulaTree → ValueTree → ValueTree → FormulaTree
exchanged_under a old new = rewritten_formula a (exchanging_under old new) 0

-- A formula under one more binder, whose variable stands for each occurrence of a term.
abbrev pub varied : FormulaTree → TermTree → FormulaTree
varied a b = exchanged_under (mapped_formula a (lifting 1) 0) (raised 1 (t.of_object b)) (t.of_object (t.bound 0))

-- Both nodes stand in the table and are of one sort.
pub record CanExchangeUnder (from to : ℕ) (t : Listing) : Type 0 where
  pub old : is_some (slice_get (nodes t) from) ≡ true
  pub new : is_some (slice_get (nodes t) to) ≡ true
  pub sort : tree_sort (the_value (slice_get (nodes t) to)) ≡ tree_sort (the_value (slice_get (nodes t) from))
