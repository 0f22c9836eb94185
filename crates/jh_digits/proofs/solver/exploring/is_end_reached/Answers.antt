use Rattle.std.proofs.Common.{sym, ◌∙◌}
use Rattle.jh_digits.proofs.solver.Closing.{none_from_followed}
use Rattle.jh_digits.proofs.solver.exploring.is_end_reached.Goals as goal

pub returns-then-not-sweep-clause-none : goal.returns-then-not-sweep-clause-none
returns-then-not-sweep-clause-none c = λ _.
    let mark = rw c.end_cell-end.ensures.value at c.mark_at.ensures in
    none_from_followed c.args.system.now c.loop-table.table c.requires.formed c.loop-table.invariant (c.sweep.ensures.followed c.if-not-sweep.true) (sym mark ∙ c.loop-table-test.true)
