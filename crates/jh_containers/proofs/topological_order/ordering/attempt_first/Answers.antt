use Rattle.std.proofs.Common.{arith}
use Rattle.jh_containers.proofs.topological_order.Orderings.{tried-next}
use Rattle.jh_containers.proofs.topological_order.ordering.attempt_first.Goals as goal

pub loop-thing-preserved : goal.loop-thing-preserved
loop-thing-preserved c = record {
  ordered = c.in_ok-attempt.ensures.ordered;
  things = c.in_ok-attempt.ensures.things;
  distinct = c.in_ok-attempt.ensures.distinct;
  keeps = λ i r e. c.in_ok-attempt.ensures.keeps i r (c.loop-thing.invariant.keeps i r e);
  tried = tried-next c.args.reads.now c.args.done.now c.loop-thing.done c.attempt.new.done c.loop-thing.thing c.loop-thing-test.true c.loop-thing.invariant.keeps c.in_ok-attempt.ensures.keeps c.in_ok-attempt.ensures.tried c.loop-thing.invariant.tried;
}

pub returns-clause-tried : goal.returns-clause-tried
returns-clause-tried c = λ r lt. c.loop-thing.invariant.tried r (omega arith)
