use Rattle.std.proofs.Common.{subst, ◌<◌, ℕ, List, length, arith}
use Rattle.jh_containers.specs.transitive_closure.Spreads.{IsIn}
use Rattle.jh_containers.specs.topological_order.Orders.{IsTried}
use Rattle.jh_containers.proofs.topological_order.Orderings.{no-cycle, few-things, waits-none, waits-more, waits-end}
use Rattle.jh_containers.proofs.topological_order.Walks.{cycle-among}
use Rattle.jh_containers.proofs.topological_order.ordering.order.Goals as goal

pub loop-turn-init : goal.loop-turn-init
loop-turn-init c = record {
  ordered = c.in_ok-attempt_first.ensures.ordered;
  things = c.in_ok-attempt_first.ensures.things;
  distinct = c.in_ok-attempt_first.ensures.distinct;
  waits = λ r lt. waits-none c.args.reads.now c.attempt_first.new.done c.new-done.result r (c.in_ok-attempt_first.ensures.tried r lt);
}

pub returns-then-at-len-clause-all : goal.returns-then-at-len-clause-all
returns-then-at-len-clause-all c = λ r lt. waits-end c.args.reads.now c.loop-turn.done c.loop-turn.at r (omega arith) (c.loop-turn.invariant.waits r lt)

pub returns-then-at-len-clause-few : goal.returns-then-at-len-clause-few
returns-then-at-len-clause-few c = few-things c.args.reads.now c.loop-turn.done c.loop-turn.invariant.things c.loop-turn.invariant.distinct

pub returns-then-at-len-clause-sound : goal.returns-then-at-len-clause-sound
returns-then-at-len-clause-sound c = λ x k. no-cycle c.args.reads.now c.loop-turn.done c.loop-turn.invariant.ordered k.0 x k.1

pub returns-then-at-len-clause-cycle : goal.returns-then-at-len-clause-cycle
returns-then-at-len-clause-cycle c = λ inside r lt out. cycle-among c.args.reads.now c.loop-turn.done (λ q l. waits-end c.args.reads.now c.loop-turn.done c.loop-turn.at q (omega arith) (c.loop-turn.invariant.waits q l)) inside r lt out

pub loop-turn-preserved : goal.loop-turn-preserved
loop-turn-preserved c =
    let reads = c.args.reads.now in
    let readers = c.args.readers.now in
    let old = c.loop-turn.done in
    let new = c.attempt_all.new.done in
    let x = c.at-thing.result in
    let inside : c.loop-turn.at < length old = omega arith in
    let tried = subst (λ (ms : List ℕ). (r : ℕ) → IsIn ms r → r < length reads → IsTried reads new old r) c.reads_of.ensures c.in_ok-attempt_all.ensures.tried in
    record {
      ordered = c.in_ok-attempt_all.ensures.ordered;
      things = c.in_ok-attempt_all.ensures.things;
      distinct = c.in_ok-attempt_all.ensures.distinct;
      waits = λ r lt. waits-more reads readers old new c.loop-turn.at x c.requires.reversed inside c.at-thing.ensures c.in_ok-attempt_all.ensures.keeps tried r lt (c.loop-turn.invariant.waits r lt);
    }
