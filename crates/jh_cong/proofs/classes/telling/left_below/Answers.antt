use Rattle.std.proofs.Common.{◌-◌, arith}
use Rattle.jh_cong.proofs.classes.Keeping.{has-fewer}
use Rattle.jh_cong.proofs.classes.telling.left_below.Goals as goal

pub loop-left-preserved : goal.loop-left-preserved
loop-left-preserved c =
    let left = c.loop-left.left in
    let inside = c.loop-left.invariant.inside in
    let more = c.loop-left-test.true in
    let large = c.if-number_at-count.false in
    record {
      inside = omega (arith, inside);
      kept = λ k l h. has-fewer c.args.numbers.now left (left - 1) c.number_at.result k (omega (arith, more)) c.number_at.ensures (λ same. omega (arith, large, l, same)) (c.loop-left.invariant.kept k l h);
    }
