use Rattle.std.proofs.Common.{◌<◌, length, arith}
use Rattle.std.proofs.lemmas.Option.{slice_get_within}
use Rattle.jh_containers.proofs.transitive_closure.Places.{item-get}
use Rattle.jh_containers.proofs.topological_order.Orderings.{tried-more}
use Rattle.jh_containers.proofs.topological_order.ordering.attempt_all.Goals as goal

pub loop-thing-preserved : goal.loop-thing-preserved
loop-thing-preserved c = record {
  ordered = c.in_ok-attempt.ensures.ordered;
  things = c.in_ok-attempt.ensures.things;
  distinct = c.in_ok-attempt.ensures.distinct;
  keeps = λ i r e. c.in_ok-attempt.ensures.keeps i r (c.loop-thing.invariant.keeps i r e);
  tried =
      tried-more c.args.reads.now c.args.done.now c.loop-thing.done c.attempt.new.done c.args.things.now c.loop-thing.thing-index _ (item-get c.args.things.now c.loop-thing.thing-index _ c.loop-thing-test.true)
      c.loop-thing.invariant.keeps c.in_ok-attempt.ensures.keeps c.in_ok-attempt.ensures.tried c.loop-thing.invariant.tried;
}

pub returns-clause-tried : goal.returns-clause-tried
returns-clause-tried c = λ r k. let inside : k.0 < length c.args.things.now = slice_get_within c.args.things.now k.0 r k.1 in c.loop-thing.invariant.tried k.0 r (omega arith) k.1
