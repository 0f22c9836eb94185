use Rattle.jh_ast.specs.Bare.{program_tree}
use Rattle.jh_reply.proofs.making.sum_program.Goals as goal

-- src/making.rt
pub returns-in-Ok : goal.returns-in-Ok
returns-in-Ok c = c.reply_to_counts.ensures (program_tree c.args.source.program) c.in-Ok.ensures.tallied
