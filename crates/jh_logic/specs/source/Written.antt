-- What a source says of what its methods may write and what their `modifies` names, as the commands take it.
use Rattle.std.specs.Prelude.{◌≡◌, ◌↔◌, true}
use Rattle.std.specs.List.{Contains}
use Rattle.jh_ast.specs.Programs.{ProgramTree}
use Rattle.jh_vars.specs.Written.{Written, Callee, MayWrite, all_state, written_name}
use Rattle.jh_semantics.specs.Code.{Text}
use Rattle.jh_semantics.specs.LoweredProgram.{ModifiesOf}
use Rattle.jh_guard.specs.Writes.{Writes}

-- Of each piece of the state a method may write it exactly where the test of its text says so, and what is said to be modified is.
pub record AreWrites (p : ProgramTree) (ws : Writes) : Type 0 where
  pub written : (m : Callee) (x : Written) → Contains (all_state p) x → (ws.written m (written_name p x).text ≡ true) ↔ MayWrite p m x
  pub modified : (m : Callee) (y : Text) → ws.modified m y ≡ true → ModifiesOf p m y
