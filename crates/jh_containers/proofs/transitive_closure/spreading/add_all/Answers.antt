use Rattle.std.proofs.Common.{arith}
use Rattle.jh_containers.proofs.transitive_closure.Places.{item-get, is-in-item, added-more, added-all, more-only}
use Rattle.jh_containers.proofs.transitive_closure.spreading.add_all.Goals as goal

-- src/spreading.rt
pub loop-fact-preserved : goal.loop-fact-preserved
loop-fact-preserved c = record {
  added = added-more c.args.facts.now (λ f. f) c.loop-fact.list c.add.new.self c.loop-fact.fact-index _ (item-get c.args.facts.now c.loop-fact.fact-index _ c.loop-fact-test.true) c.in_ok-add.ensures.keeps c.in_ok-add.ensures.added c.loop-fact.invariant.added;
  only = λ f k. more-only c.args.facts.now c.args.list.now c.loop-fact.list _ f (is-in-item c.args.facts.now c.loop-fact.fact-index _ c.loop-fact-test.true) c.loop-fact.invariant.only (c.in_ok-add.ensures.only f k);
}

-- src/spreading.rt
pub returns-clause-added : goal.returns-clause-added
returns-clause-added c = added-all c.args.facts.now (λ f. f) c.loop-fact.list c.loop-fact.fact-index (omega arith) c.loop-fact.invariant.added
