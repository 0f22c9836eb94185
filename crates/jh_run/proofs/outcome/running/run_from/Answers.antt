use Rattle.std.proofs.Common.{sym}
use Rattle.jh_outline.specs.jh_method_commands.environment.Outlines.{callee_of}
use Rattle.jh_run.proofs.outcome.running.run_from.Goals as goal

-- src/running.rt
pub run_on-requires-clause-ready : goal.run_on-requires-clause-ready
run_on-requires-clause-ready c = (c.args.outline.now, callee_of c.args.method.now, c.in_ok-ready.ensures.ready, sym c.number-number.ensures)
