-- What is shown of formulas over nodes.
use Rattle.std.specs.Prelude.{◌≡◌, Bool, true, false, not, List, Option, Some, slice_get}
use Rattle.jh_form.specs.Tree.{FormulaTree, ValueTree, of_truth}
use Rattle.jh_arena.specs.table.Entries.{is_truth, the_truth}
use Rattle.jh_arena.specs.declared.table.shapes.Shape.{Shape}
use Rattle.jh_arena.specs.declared.table.shapes.Shape.TheVariants as s
use Rattle.jh_query.specs.queries.Named.{is_divisor}
pub use Rattle.jh_approx.specs.definition.Shown.{replacement}
use Rattle.jh_approx.specs.definition.Shown.{shown, is_sayable, and_of, implies_of}
use Rattle.jh_query_names.specs.declared.visible_part.memo.Signed.{Signed}
use Rattle.jh_query_names.specs.declared.visible_part.memo.Made.{Made}

-- a query can't speak of what has this shape
unfoldable pub is_replaced : Shape → Bool
is_replaced (s.All a) = true
is_replaced (s.Ex a) = true
is_replaced (s.Reach l a b) = true
is_replaced (s.Tree l) = true
is_replaced (s.Divides z a) = not (is_divisor z)
is_replaced x = false

-- a formula that stays as it is, or is replaced
abbrev pub leaf : FormulaTree → Bool → Bool → FormulaTree
leaf a positive true = replacement positive
leaf a positive false = a

abbrev pub is_kept : Bool → Bool
is_kept replaced = not replaced

-- The node of the answer is this formula, and its flag is this one.
pub record IsMade (ts : List ValueTree) (made : Made) (a : FormulaTree) (sayable : Bool) : Type 0 where
  pub node : slice_get ts made.node ≡ Some (of_truth a)
  pub flag : made.sayable ≡ sayable

-- what is shown of a formula, and whether that is all of it
abbrev pub IsShown : List ValueTree → FormulaTree → Bool → Made → Type 0
IsShown ts a positive made = IsMade ts made (shown a positive) (is_sayable a)

-- what is shown of the formula at a node
pub record IsShownAt (ts : List ValueTree) (k : Signed) (made : Made) : Type 0 where
  pub there : is_truth (slice_get ts k.node) ≡ true
  pub is : IsShown ts (the_truth (slice_get ts k.node)) k.positive made

-- What is noted is right.
pub record HoldsShown (ts : List ValueTree) (find : Signed → Option Made) : Type 0 where
  pub at : (k : Signed) (made : Made) → find k ≡ Some made → IsShownAt ts k made

-- the two implications of an equivalence
abbrev pub turned : FormulaTree → FormulaTree → Bool → FormulaTree
turned a b positive = and_of (implies_of (shown a (not positive)) (shown b positive)) (implies_of (shown b (not positive)) (shown a positive))
