use Rattle.std.proofs.Common.{ap, option_map}
use Rattle.jh_outline.specs.jh_method_commands.environment.Outlines.{program_in, source_of}
use Rattle.jh_semantics.specs.typed_code.Statements.{method_in}
use Rattle.jh_run.proofs.outcome.running.run_named.Goals as goal

-- src/running.rt
pub returns-in-None-clause-why : goal.returns-in-None-clause-why
unfolding program_in
returns-in-None-clause-why c = ap (option_map (method_in (source_of c.args.outline.now))) (c.callable.ensures.none c.in-None.is)
