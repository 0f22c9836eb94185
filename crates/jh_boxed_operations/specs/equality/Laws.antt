-- What the test of equality of trees says.
use Rattle.std.specs.Prelude.{◌≡◌, ◌↔◌, true}
use Rattle.jh_form.specs.Tree.{ValueTree}
use Rattle.jh_boxed_operations.specs.comparison.Exchanged.{equal_trees}

-- the test is true exactly where two trees are one, labels included
abbrev pub EqualityIsDecided : Type 0
EqualityIsDecided = (u v : ValueTree) → (equal_trees u v ≡ true) ↔ (u ≡ v)
