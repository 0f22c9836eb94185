-- The first constant of the sequents of a formula.
use Rattle.std.specs.Prelude.{◌≡◌, ℕ, max}
use Rattle.jh_form.specs.Tree.{FormulaTree}
use Rattle.jh_form.specs.Passing.{formula_passes}
use Rattle.jh_arena.specs.table.Facing.{IsLeast}
use Rattle.jh_seq.specs.splitting.Split.{before}

-- The turn after those of all names of a formula, and at least 1: constants from it on are free, and no name of a
-- source is one.
pub record IsFirst (a : FormulaTree) (k : ℕ) : Type 0 where
  pub turn : ℕ
  pub least : IsLeast (λ n. formula_passes a (before n)) turn
  pub is : k ≡ max turn 1
