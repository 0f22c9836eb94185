-- The names of the pieces of state of which something holds.
use Rattle.std.specs.Prelude.{◌≡◌, List, map}
use Rattle.jh_name.specs.declared.naming.Name.{Name}
use Rattle.jh_effects.specs.jh_ast.Programs.{ProgramTree}
use Rattle.jh_effects.specs.jh_vars.Written.{Written, IsSelected, written_name}

-- These are the names of a list of pieces of state: of those of which something holds, in the order of all state, each once.
pub record AreNamesOf (p : ProgramTree) (holds : Written → Type 0) (names : List Name) : Type 0 where
  pub selected : List Written
  pub is : IsSelected p holds selected
  pub named : names ≡ map (written_name p) selected
