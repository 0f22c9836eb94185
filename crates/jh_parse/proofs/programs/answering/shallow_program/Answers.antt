use Rattle.std.proofs.Common.{sym, ◌∙◌}
use Rattle.std.proofs.lemmas.Option.{none-some}
use Rattle.jh_ast.specs.declared.program.Program.{Program}
use Rattle.jh_ast.specs.Bare.{program_tree}
use Rattle.jh_operators.proofs.lookahead.Options.{of_found}
use Rattle.jh_spec.proofs.parser.Refusals.{refused-none}
use Rattle.jh_parse.specs.programs.MemberReading.{program_at}
use Rattle.jh_parse.proofs.programs.MemberComplete.{program-complete}
use Rattle.jh_parse.proofs.programs.MemberSound.{program-sound}
use Rattle.jh_parse.proofs.programs.answering.shallow_program.Goals as goal

-- what is read is spelled
pub returns-in-Ok : goal.returns-in-Ok
returns-in-Ok c = (c.requires.shallow, of_found (program-sound c.args.tokens.now) (program_tree c.in-Ok.program) c.in-Ok.ensures)

-- where nothing is read, nothing is spelled
pub returns-in-Err-Refused : goal.returns-in-Err-Refused
returns-in-Err-Refused c = (c.requires.shallow, λ t s. none-some t (sym (refused-none {X = Program} program_tree (program_at c.args.tokens.now) c.in-Err-Refused.field-0 c.in-Err-Refused.near c.in-Err-Refused.field-0-is c.in-Err-Refused.ensures) ∙ program-complete c.args.tokens.now t s), c.start_near.ensures)
