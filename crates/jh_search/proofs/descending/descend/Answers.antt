use Rattle.std.proofs.Common.{refl, rules}
use Rattle.jh_search.proofs.Descents.{is-model}
use Rattle.jh_search.proofs.Lists.{none-so, some-so}
use Rattle.jh_search.proofs.Moves.{ends-at-leaf, goes-on-searching}
use Rattle.jh_search.proofs.descending.descend.Goals as goal

pub returns-in-None-clause-model : goal.returns-in-None-clause-model
returns-in-None-clause-model c =
    is-model c.args.problem.now c.propagate_on.new.branch (none-so c.in_ok-cause.field-0 c.in_default.is c.in_ok-cause.ensures.branch) c.whole_fixpoint_is_model.ensures
    (none-so c.in_ok-cause.field-0 c.in_default.is c.in_ok-cause.ensures.fixpoint)
    (none-so c.in_ok-atom.field-0 c.in-None.is c.in_ok-atom.ensures.none)

pub returns-in-Some-clause-leaf : goal.returns-in-Some-clause-leaf
returns-in-Some-clause-leaf c =
    let closed = some-so _ c.in_ok-cause.field-0 c.in-Some.cause c.in-Some.is c.in_ok-cause.ensures.closed in
    ends-at-leaf c.args.problem.now c.loop-cause.searching _ c.in_ok-cause.ensures.table c.in_ok-cause.ensures.decisions c.in_ok-cause.ensures.longer refl refl c.loop-cause.invariant.searching c.in-Some.cause closed.0 closed.1
    (some-so _ c.in_ok-cause.field-0 c.in-Some.cause c.in-Some.is c.in_ok-cause.ensures.cause)

pub take-requires-clause-searching : goal.take-requires-clause-searching
take-requires-clause-searching c = goes-on-searching c.args.problem.now c.loop-cause.searching _ c.in_ok-cause.ensures.table c.in_ok-cause.ensures.decisions c.in_ok-cause.ensures.longer refl refl c.loop-cause.invariant.searching (none-so c.in_ok-cause.field-0 c.in_default.is c.in_ok-cause.ensures.branch)

pub loop-cause-preserved : goal.loop-cause-preserved
loop-cause-preserved c = record {
  searching = c.in_ok-take-in-Some-2.ensures.searching;
  table = search rules;
  closed = search rules;
  rested = λ is. c.in_ok-take-in-Some-2.ensures.rested (none-so c.in_ok-cause.field-0 c.in_default.is c.in_ok-cause.ensures.rested);
}
