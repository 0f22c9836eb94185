use Rattle.std.proofs.Common.{inl, inr}
use Rattle.jh_ast.specs.Bare.{program_tree}
use Rattle.jh_reply.proofs.making.sum_bytes.Goals as goal

-- src/making.rt
pub sum_program-requires-clause-accepted : goal.sum_program-requires-clause-accepted
sum_program-requires-clause-accepted c = c.spelled_source_is_accepted.ensures c.args.bytes.now (program_tree c.in-Ok.source.program) c.in-Ok.ensures.spelled

-- src/making.rt
pub returns-in-Ok : goal.returns-in-Ok
returns-in-Ok c = inr (program_tree c.in-Ok.source.program, c.in-Ok.ensures.spelled, c.sum_program.ensures)

-- src/making.rt
pub returns-in-Err : goal.returns-in-Err
returns-in-Err c = inl (c.reply_to_refusal.ensures c.args.bytes.now c.in-Err.ensures.why)
