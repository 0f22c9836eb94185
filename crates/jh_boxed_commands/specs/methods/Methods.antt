-- The command of a method of a source.
use Rattle.std.specs.Prelude.{◌≡◌, ℕ, List, Option, Some, option_map, slice_get}
use Rattle.jh_name.specs.declared.place.MethodId.{MethodId}
use Rattle.jh_ast.specs.Programs.{ProgramTree, ClassPart, MethodPart}
use Rattle.jh_form.specs.Bare.{formula_tree}
use Rattle.jh_rules.specs.Names.{◌then◌}
use Rattle.jh_rules.specs.Words.{text_of}
use Rattle.jh_outline.specs.jh_vars.Written.{Callee}
use Rattle.jh_semantics.specs.Program.{Program, Method}
use Rattle.jh_semantics.specs.LoweredProgram.{program_of}
use Rattle.jh_command_terms.specs.jh_guard.Methods.{method_command}
use Rattle.jh_command_terms.specs.jh_guard.Writes.{Writes}
use Rattle.jh_outline.specs.outline.Rows.{AreExact}
use Rattle.jh_boxed_commands.specs.commands.Trees.{command_tree}
use Rattle.jh_boxed_commands.specs.declared.commands.command.MethodCommand.{MethodCommand}

-- the method of these numbers, by its class and its own name, where there is one
abbrev pub callee_with : MethodId → List ℕ → Callee
callee_with id text = record { class = id.class; name = text }

abbrev pub callee_at : ProgramTree → MethodId → Option Callee
callee_at p id = slice_get p.classes id.class then λ (c : ClassPart). option_map (λ (m : MethodPart). callee_with id (text_of m.name)) (slice_get c.methods id.method)

-- a boxed command is that of a method of a program, where its methods write and name so
pub record IsCommandOf (p : Program) (ws : Writes) (m : Callee) (code : Method) (made : MethodCommand) : Type 0 where
  pub body : command_tree made.body ≡ (method_command p ws m code).body
  pub returned : formula_tree made.returned ≡ (method_command p ws m code).returned

-- A boxed command is that of the method of these numbers, for what the methods of its source may write and name.
pub record IsMethodCommand (p : ProgramTree) (id : MethodId) (made : MethodCommand) : Type 0 where
  pub callee : Callee
  pub named : callee_at p id ≡ Some callee
  pub code : Method
  pub there : (program_of p).method callee ≡ Some code
  pub writes : Writes
  pub exact : AreExact p writes
  pub is : IsCommandOf (program_of p) writes callee code made
