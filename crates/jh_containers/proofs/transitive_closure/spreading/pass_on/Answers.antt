use Rattle.std.proofs.Common.{arith}
use Rattle.jh_containers.proofs.transitive_closure.Places.{item-get, is-in-item, added-more, added-all, more-passed}
use Rattle.jh_containers.proofs.transitive_closure.spreading.pass_on.Goals as goal

-- src/spreading.rt
pub returns-in_err-add-clause-only : goal.returns-in_err-add-clause-only
returns-in_err-add-clause-only c = λ f k. more-passed c.args.to.now c.args.what c.args.list.now c.loop-of.list _ f (is-in-item c.args.to.now c.loop-of.of-index _ c.loop-of-test.true) c.loop-of.invariant.only (c.in_err-add.ensures.only f k)

-- src/spreading.rt
pub loop-of-preserved : goal.loop-of-preserved
loop-of-preserved c = record {
  added =
      added-more c.args.to.now (λ m. record { of = m; what = c.args.what }) c.loop-of.list c.add.new.self c.loop-of.of-index _ (item-get c.args.to.now c.loop-of.of-index _ c.loop-of-test.true) c.in_ok-add.ensures.keeps c.in_ok-add.ensures.added c.loop-of.invariant.added;
  keeps = λ place f e. c.in_ok-add.ensures.keeps place f (c.loop-of.invariant.keeps place f e);
  only = λ f k. more-passed c.args.to.now c.args.what c.args.list.now c.loop-of.list _ f (is-in-item c.args.to.now c.loop-of.of-index _ c.loop-of-test.true) c.loop-of.invariant.only (c.in_ok-add.ensures.only f k);
}

-- src/spreading.rt
pub returns-clause-added : goal.returns-clause-added
returns-clause-added c = added-all c.args.to.now (λ m. record { of = m; what = c.args.what }) c.loop-of.list c.loop-of.of-index (omega arith) c.loop-of.invariant.added
