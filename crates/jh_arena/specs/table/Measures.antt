-- The sizes that a table keeps beside its nodes.
use Rattle.std.specs.Prelude.{◌≡◌, ◌-◌, ◌^◌, min, true, List, [], ◌∷◌, length}
use Rattle.jh_form.specs.Tree.{ValueTree}
use Rattle.jh_boxed.specs.Sizes.{value_size, value_depth}
use Rattle.jh_boxed.specs.declared.counting.Extent.{Extent}
use Rattle.jh_arena.specs.declared.table.shapes.Shape.{Shape}
use Rattle.jh_arena.specs.table.Entries.{Pools}
use Rattle.jh_arena.specs.table.Nodes.{listed, well}
use Rattle.jh_form.specs.Closed.{is_closed_value}
use Rattle.jh_form.specs.Passing.{value_passes}
use Rattle.jh_arena.specs.declared.table.facts.Facts.{Facts}
use Rattle.jh_arena.specs.table.Facing.{IsLeast, marked, turn_below}

-- the size and the depth of a tree, up to the greatest number of 64 bits
unfoldable pub extent_of : ValueTree → Extent
extent_of v = record { nodes = min (value_size v) (2 ^ 64 - 1); depth = min (value_depth v) (2 ^ 64 - 1) }

-- What is true of the facts beside a tree: each of its free names has a number in the pool whose bit is set.
pub record AreFacts (p : Pools) (v : ValueTree) (f : Facts) : Type 0 where
  pub extent : f.extent ≡ extent_of v
  pub loose : IsLeast (λ d. is_closed_value v d) f.loose
  pub names : value_passes v (marked p.names f.names) ≡ true
  pub turn : IsLeast (λ n. value_passes v (turn_below n)) f.turn

abbrev pub AllFacts : Pools → List ValueTree → List Facts → Type 0
AllFacts p [] [] = Unit {0}
AllFacts p [] (f ∷ fs) = ⊥
AllFacts p (v ∷ vs) [] = ⊥
AllFacts p (v ∷ vs) (f ∷ fs) = AreFacts p v f × AllFacts p vs fs

-- What is true of every table: each shape fits the trees before it, and beside each stands the extent of
-- its tree.
pub record IsTable (p : Pools) (xs : List Shape) (es : List Facts) : Type 0 where
  pub well : well p [] xs ≡ true
  pub counted : length es ≡ length (listed p [] xs)
  pub facts : AllFacts p (listed p [] xs) es
