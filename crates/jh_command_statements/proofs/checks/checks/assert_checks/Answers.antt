use Rattle.std.proofs.Common.{arith}
use Rattle.jh_arena.proofs.table.Listed.{extends-trans}
use Rattle.jh_command_statements.proofs.checks.StepSteps.{fact-stays, checks-next, checks-all}
use Rattle.jh_command_statements.proofs.checks.checks.assert_checks.Goals as goal

pub assert_check-requires : goal.assert_check-requires
assert_check-requires c = fact-stays c.args.table.now c.loop-place.table c.args.checks.now c.check_at.result c.loop-place.place c.requires c.check_at.ensures c.loop-place.invariant.grows

pub loop-place-preserved : goal.loop-place-preserved
loop-place-preserved c = record {
  grows = extends-trans c.args.table.now c.loop-place.table c.assert_check.new.table c.loop-place.invariant.grows c.assert_check.ensures.grows;
  commands = λ cs are.
      checks-next c.args.table.now c.loop-place.table c.assert_check.new.table c.args.commands.now.items c.loop-place.commands.items c.assert_check.new.commands.items c.args.checks.now c.check_at.result c.loop-place.place cs are c.check_at.ensures c.loop-place.invariant.grows c.assert_check.ensures.grows
      (c.loop-place.invariant.commands cs are) c.in_ok-assert_check.ensures.commands;
}

pub returns-clause-commands : goal.returns-clause-commands
returns-clause-commands c = λ cs are.
    checks-all c.args.table.now c.loop-place.table c.args.commands.now.items c.loop-place.commands.items c.args.checks.now c.loop-place.place cs are (omega (arith, c.loop-place-test.false)) (c.loop-place.invariant.commands cs are)
