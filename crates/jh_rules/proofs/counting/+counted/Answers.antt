use Rattle.jh_rules.proofs.Counts.{counts-end}
use Rattle.jh_rules.proofs.counting.+counted.Goals as goal

-- src/counting.rt
pub all_counted-returns : goal.all_counted-returns
all_counted-returns t c = counts-end c.args.stmts.now c.loop-stmt.stmt-index c.loop-stmt.total c.loop-stmt-test.false c.loop-stmt.invariant.fits c.loop-stmt.invariant.same
