-- The numbers of the methods of a source, and the program whose methods they are.
use Rattle.std.specs.Prelude.{◌≡◌, ℕ, nat_lt, length, Option, Some, None, slice_get, option_map, if◌then◌else◌}
use Rattle.jh_ast.specs.Programs.{ProgramTree}
use Rattle.jh_rules.specs.Names.{◌then◌}
use Rattle.jh_symbols.specs.member_numbers.Numbering.{number_in}
use Rattle.jh_vars.specs.Written.{Callee}
use Rattle.jh_semantics.specs.Program.{Program}
use Rattle.jh_semantics.specs.declared.typed_code.stmts.MethodCode.{MethodCode}
use Rattle.jh_semantics.specs.typed_code.Statements.{method_in}
use Rattle.jh_machine_compiler.specs.declared.source.Source.{Source}

-- the number of a method, where there is such a method
unfoldable pub numbered_in : Source → Callee → Option ℕ
numbered_in s m = number_in s.numbers.now m.class m.name then λ k. (if nat_lt k (length s.methods.now) then Some k else None)

-- the code of a method
abbrev pub code_of : Source → Callee → Option MethodCode
code_of s m = number_in s.numbers.now m.class m.name then λ k. slice_get s.methods.now k

-- the methods of a program are those of the source
abbrev pub HasMethods : ProgramTree → Source → Program → Type 0
HasMethods p s q = (m : Callee) → q.method m ≡ option_map (method_in p) (code_of s m)
