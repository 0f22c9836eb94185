use Rattle.std.proofs.Common.{sym, ◌∙◌}
use Rattle.jh_digits.proofs.solver.Marks.{reach_adds, reached_here}
use Rattle.jh_digits.proofs.solver.marking.reach.Goals as goal

pub returns-then-is_new-clause-adds : goal.returns-then-is_new-clause-adds
returns-then-is_new-clause-adds c =
    rw c.put_mark.ensures (reach_adds c.args.system.now c.args.table.now c.args.column c.args.cell c.args.mark c.requires.table c.requires.column c.requires.cell (sym c.mark_at-is_new.ensures ∙ c.if-is_new.true) c.requires.waiting)

pub returns-then-is_new-clause-reached : goal.returns-then-is_new-clause-reached
returns-then-is_new-clause-reached c =
    rw c.put_mark.ensures (reached_here c.args.system.now c.args.table.now c.args.column c.args.cell c.args.mark c.requires.table c.requires.column c.requires.cell c.requires.mark)
