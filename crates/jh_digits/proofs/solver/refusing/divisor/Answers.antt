use Rattle.std.proofs.lemmas.Nat.Gcd.{dvd_trans}
use Rattle.jh_digits.specs.systems.Solution.{entry_of}
use Rattle.jh_digits.specs.systems.Nodes.{plus, minus}
use Rattle.jh_digits.proofs.solver.Refusals.{divides_more}
use Rattle.jh_digits.proofs.solver.refusing.divisor.Goals as goal

pub loop-column-preserved : goal.loop-column-preserved
loop-column-preserved c =
    let both = c.gcd-common.ensures in
    let one = c.gcd-plus.ensures in
    let down = dvd_trans c.gcd-common.result both.0 one.0 in
    record {
      plus = divides_more (λ j. plus (entry_of c.args.system.now c.args.row j)) c.loop-column.column c.gcd-common.result c.loop-column.common down c.loop-column.invariant.plus (rw (← c.plus_entry.ensures.value) (dvd_trans c.gcd-common.result both.0 one.1));
      minus = divides_more (λ j. minus (entry_of c.args.system.now c.args.row j)) c.loop-column.column c.gcd-common.result c.loop-column.common down c.loop-column.invariant.minus (rw (← c.minus_entry.ensures.value) both.1);
    }
