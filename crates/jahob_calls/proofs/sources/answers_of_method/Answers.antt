use Rattle.std.proofs.Common.{sym, subst}
use Rattle.jh_ast.specs.declared.program.Program.{Program}
use Rattle.jh_ast.specs.Bare.{program_tree}
use Rattle.jh_boxed_commands.specs.jh_logic.source.Laws.{IsAccepted}
use Rattle.jh_vars.specs.Reading.{IsAcyclic}
use Rattle.jahob_calls.proofs.sources.answers_of_method.Goals as goal

pub makes_from-requires-clause-accepted : goal.makes_from-requires-clause-accepted
makes_from-requires-clause-accepted c = subst (λ (q : Program). IsAccepted (program_tree q)) (sym c.in-Ok.ensures.same) c.requires

pub makes_from-requires-clause-acyclic : goal.makes_from-requires-clause-acyclic
makes_from-requires-clause-acyclic c = subst (λ (q : Program). IsAcyclic (program_tree q)) (sym c.in-Ok.ensures.same) c.in-Ok.ensures.acyclic
