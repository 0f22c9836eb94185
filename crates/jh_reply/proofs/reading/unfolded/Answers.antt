use Rattle.jh_ast.specs.Bare.{program_tree}
use Rattle.jh_reply.proofs.reading.unfolded.Goals as goal

pub returns-in-Err-clause-why : goal.returns-in-Err-clause-why
returns-in-Err-clause-why c = c.loop_of.ensures (program_tree c.args.source) c.in-Err.ensures.cause
