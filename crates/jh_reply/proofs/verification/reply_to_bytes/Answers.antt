use Rattle.std.proofs.Common.{inl}
use Rattle.jh_ast.specs.Bare.{program_tree}
use Rattle.jh_reply.proofs.Fitting.{reply-fits}
use Rattle.jh_reply.proofs.verification.reply_to_bytes.Goals as goal

-- src/verification.rt
pub reply_to_program-requires-clause-accepted : goal.reply_to_program-requires-clause-accepted
reply_to_program-requires-clause-accepted c = c.spelled_source_is_accepted.ensures c.args.bytes.now (program_tree c.in-Ok.source.program) c.in-Ok.ensures.spelled

-- src/verification.rt
pub returns-in-Ok : goal.returns-in-Ok
returns-in-Ok c = reply-fits c.args.options c.args.bytes.now (program_tree c.in-Ok.source.program) c.reply_to_program.result c.in-Ok.ensures.spelled c.reply_to_program.ensures

-- src/verification.rt
pub returns-in-Err : goal.returns-in-Err
returns-in-Err c = inl (c.reply_to_refusal.ensures c.args.bytes.now c.in-Err.ensures.why)
