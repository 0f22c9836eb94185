-- What stands at the nodes of a table.
use Rattle.std.specs.Prelude.{◌≡◌, ℕ, List, Some, slice_get}
use Rattle.jh_form.specs.Tree.{TermTree, IntTree, FieldTree, SetTree, ValueTree, FormulaTree, of_object, of_number, of_truth, of_set, of_field}
use Rattle.jh_arena.specs.table.Entries.{the_truth, the_object, the_number, the_set, the_field, the_value}

-- the formula, term, field or value at a node
abbrev pub formula_at : List ValueTree → ℕ → FormulaTree
formula_at ts k = the_truth (slice_get ts k)

abbrev pub term_at : List ValueTree → ℕ → TermTree
term_at ts k = the_object (slice_get ts k)

abbrev pub field_at : List ValueTree → ℕ → FieldTree
field_at ts k = the_field (slice_get ts k)

abbrev pub number_at : List ValueTree → ℕ → IntTree
number_at ts k = the_number (slice_get ts k)

abbrev pub set_at : List ValueTree → ℕ → SetTree
set_at ts k = the_set (slice_get ts k)

abbrev pub value_at : List ValueTree → ℕ → ValueTree
value_at ts k = the_value (slice_get ts k)

-- a formula, a term, a field, any value stands at the node
abbrev pub IsFormula : List ValueTree → ℕ → Type 0
IsFormula ts k = slice_get ts k ≡ Some (of_truth (formula_at ts k))

abbrev pub IsTerm : List ValueTree → ℕ → Type 0
IsTerm ts k = slice_get ts k ≡ Some (of_object (term_at ts k))

abbrev pub IsField : List ValueTree → ℕ → Type 0
IsField ts k = slice_get ts k ≡ Some (of_field (field_at ts k))

abbrev pub IsNumber : List ValueTree → ℕ → Type 0
IsNumber ts k = slice_get ts k ≡ Some (of_number (number_at ts k))

abbrev pub IsSet : List ValueTree → ℕ → Type 0
IsSet ts k = slice_get ts k ≡ Some (of_set (set_at ts k))

abbrev pub IsValue : List ValueTree → ℕ → Type 0
IsValue ts k = slice_get ts k ≡ Some (value_at ts k)
