-- The trees that are taken out of a table.
use Rattle.std.specs.Prelude.{◌≤◌, ◌^◌}
use Rattle.jh_form.specs.Tree.{ValueTree}
use Rattle.jh_arena.specs.jh_boxed.Sizes.{value_size, value_depth}

-- The tree has at most 2^26 nodes, each counted where it stands, and nests at most 10,001 deep.
pub record IsSmall (v : ValueTree) : Type 0 where
  pub size : value_size v ≤ 2 ^ 26
  pub depth : value_depth v ≤ 10001
