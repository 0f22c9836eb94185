-- The formulas of a source as nodes of a table, by their numbers.
use Rattle.std.specs.Prelude.{◌≡◌, ◌<◌, ℕ, List, Option, Some, None, length, slice_get}
use Rattle.std.specs.Option.{option_map_or}
use Rattle.jh_ast.specs.Programs.{ProgramTree}
use Rattle.jh_form.specs.Tree.{ValueTree}
use Rattle.jh_arena.specs.table.Entries.{Listing}
use Rattle.jh_arena.specs.table.Nodes.{nodes}
use Rattle.jh_vars.specs.Opened.{opened}

-- the node of the formula of a number
abbrev pub node_of : List (Option ℕ) → ℕ → Option ℕ
node_of ns n = option_map_or (λ o. o) (slice_get ns n) None

-- the value of a node, where there is one
abbrev pub told_at : Listing → Option ℕ → Option ValueTree
told_at t o = option_map_or (λ k. slice_get (nodes t) k) o None

-- The nodes stand in the table, and each is the formula of its number with all definitions opened.
pub record AreFormulas (p : ProgramTree) (t : Listing) (ns : List (Option ℕ)) : Type 0 where
  pub inside : (n k : ℕ) → node_of ns n ≡ Some k → k < length (nodes t)
  pub is : (n : ℕ) → told_at t (node_of ns n) ≡ opened p n
