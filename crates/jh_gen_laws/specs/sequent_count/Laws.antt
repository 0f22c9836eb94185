-- That no method of a program which a made source spells has many sequents.
use Rattle.std.specs.Prelude.{ℕ, ◌≡◌, ◌≤◌, Some, length}
use Rattle.jh_name.specs.declared.place.MethodId.{MethodId}
use Rattle.jh_ast.specs.Programs.{ProgramTree}
use Rattle.jh_vars.specs.Written.{Callee}
use Rattle.jh_semantics.specs.Program.{Method}
use Rattle.jh_semantics.specs.LoweredProgram.{program_of}
use Rattle.jh_obligations.specs.jh_guard.Methods.{method_command}
use Rattle.jh_obligations.specs.jh_guard.Writes.{Writes}
use Rattle.jh_wp.specs.Wp.{wp}
use Rattle.jh_seq.specs.splitting.Split.{split_of}
use Rattle.jh_gen_laws.specs.typing.Trees.{IsMade}

-- Whatever its methods may write, the weakest precondition of each gives no more than 2,000 sequents.
abbrev pub MadeOwesFew : Type 0
MadeOwesFew =
    (n : ℕ) (p : ProgramTree) (ws : Writes) (m : Callee) (x : Method) (id : MethodId) (k : ℕ) → IsMade n p → (program_of p).method m ≡ Some x →
    length (split_of id (wp (method_command (program_of p) ws m x).body (method_command (program_of p) ws m x).returned (method_command (program_of p) ws m x).returned) k) ≤ 2000
