use Rattle.std.proofs.Common.{ap, ◌∙◌}
use Rattle.jh_ast.specs.Bare.{program_tree}
use Rattle.jh_ast.specs.declared.program.Program.{Program}
use Rattle.jh_boxed_commands.specs.methods.Methods.{callee_at}
use Rattle.jahob_calls.proofs.sources.makes_command.Goals as goal

pub of_method-requires-clause-there : goal.of_method-requires-clause-there
of_method-requires-clause-there c = λ e. c.in-Some.ensures.there (ap (λ (q : Program). callee_at (program_tree q) c.args.id) c.program.ensures.same ∙ e)
