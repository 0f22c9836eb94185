use Rattle.std.proofs.Common.{refl, sym, arith}
use Rattle.jh_digits.proofs.solver.Marks.{finish_table, finish_fewer}
use Rattle.jh_digits.proofs.solver.marking.finish.Goals as goal

pub returns-clause-table : goal.returns-clause-table
returns-clause-table c =
    rw c.put_mark.ensures (finish_table c.args.system.now c.args.table.now c.args.column c.args.cell _ c.requires.table c.requires.column c.requires.cell c.mark_at-mark.result (sym c.mark_at-mark.ensures) (omega (arith, c.mark_at-mark.ensures, c.requires.waiting)) refl c.requires.followed)

pub returns-clause-fewer : goal.returns-clause-fewer
returns-clause-fewer c =
    rw c.put_mark.ensures (finish_fewer c.args.system.now c.args.table.now c.args.column c.args.cell _ c.requires.table c.requires.column c.requires.cell c.mark_at-mark.result (sym c.mark_at-mark.ensures) (omega (arith, c.mark_at-mark.ensures, c.requires.waiting)) refl c.requires.followed)
