use Rattle.std.proofs.Common.{arith}
use Rattle.jh_containers.proofs.transitive_closure.Places.{item-get, is-in-item, added-more, added-all}
use Rattle.jh_effects.proofs.written_state.Reached.{more-of}
use Rattle.jh_effects.proofs.written_state.reaching.add_row.Goals as goal

-- src/reaching.rt
pub returns-in_err-add-clause-keeps : goal.returns-in_err-add-clause-keeps
returns-in_err-add-clause-keeps c = λ place f e. c.in_err-add.ensures.keeps place f (c.loop-what.invariant.keeps place f e)

-- src/reaching.rt
pub returns-in_err-add-clause-only : goal.returns-in_err-add-clause-only
returns-in_err-add-clause-only c = λ f k. more-of c.args.of c.args.row.now c.args.list.now c.loop-what.list _ f (is-in-item c.args.row.now c.loop-what.what-index _ c.loop-what-test.true) c.loop-what.invariant.only (c.in_err-add.ensures.only f k)

-- src/reaching.rt
pub loop-what-preserved : goal.loop-what-preserved
loop-what-preserved c = record {
  added =
      added-more c.args.row.now (λ what. record { of = c.args.of; what = what }) c.loop-what.list c.add.new.self c.loop-what.what-index _ (item-get c.args.row.now c.loop-what.what-index _ c.loop-what-test.true) c.in_ok-add.ensures.keeps c.in_ok-add.ensures.added c.loop-what.invariant.added;
  keeps = λ place f e. c.in_ok-add.ensures.keeps place f (c.loop-what.invariant.keeps place f e);
  only = λ f k. more-of c.args.of c.args.row.now c.args.list.now c.loop-what.list _ f (is-in-item c.args.row.now c.loop-what.what-index _ c.loop-what-test.true) c.loop-what.invariant.only (c.in_ok-add.ensures.only f k);
}

-- src/reaching.rt
pub returns-clause-added : goal.returns-clause-added
returns-clause-added c = added-all c.args.row.now (λ what. record { of = c.args.of; what = what }) c.loop-what.list c.loop-what.what-index (omega arith) c.loop-what.invariant.added
