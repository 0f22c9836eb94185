use Rattle.std.proofs.Common.{subst, sym}
use Rattle.jh_ast.specs.Bare.{program_tree}
use Rattle.jh_ast.specs.declared.program.Program.{Program}
use Rattle.jh_reply.specs.Refusals.{Spells}
use Rattle.jh_reply.proofs.reading.read.Goals as goal

-- src/reading.rt
pub returns-clause-spelled : goal.returns-clause-spelled
returns-clause-spelled c =
    subst (λ (q : Program). Spells c.args.bytes.now (program_tree q)) (sym c.in_ok-made.ensures.same)
    (record { parsed = c.in_ok-source.ensures.parsed; typed = c.in_ok-source.ensures.typed; acyclic = c.in_ok-made.ensures.acyclic })
