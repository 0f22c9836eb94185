use Rattle.std.proofs.Common.{◌≤◌, refl, length, arith}
use Rattle.jh_arena.specs.table.Nodes.{nodes}
use Rattle.jh_approx.specs.free_name_tests.Passing.{name_passes}
use Rattle.jh_query_names.specs.query_names.Kinds.{value_at}
use Rattle.jh_abstraction.specs.choice_of_hypotheses.Choosing.{stands_within}
use Rattle.jh_abstraction.proofs.choice_of_hypotheses.Lists.{all-end, all-next, all-stop}
use Rattle.jh_abstraction.proofs.choice_of_hypotheses.near.reads_within.Goals as goal

pub loop-place-init : goal.loop-place-init
loop-place-init c = λ goal free. refl

pub returns-then-not-stands_within : goal.returns-then-not-stands_within
returns-then-not-stands_within c = λ goal free.
    all-stop (λ n. name_passes (stands_within goal) (value_at (nodes c.args.table.now) n)) c.args.free.now c.loop-place.place c.number_at.result c.stands_within.result
    c.number_at.ensures (c.stands_within.ensures goal free) c.if-not-stands_within.true (c.loop-place.invariant goal free)

pub loop-place-preserved : goal.loop-place-preserved
loop-place-preserved c = λ goal free.
    all-next (λ n. name_passes (stands_within goal) (value_at (nodes c.args.table.now) n)) c.args.free.now c.loop-place.place c.number_at.result c.stands_within.result
    c.number_at.ensures (c.stands_within.ensures goal free) c.if-not-stands_within.false (c.loop-place.invariant goal free)

pub returns : goal.returns
returns c = λ goal free.
    let far : length c.args.free.now ≤ c.loop-place.place = search arith in
    all-end (λ n. name_passes (stands_within goal) (value_at (nodes c.args.table.now) n)) c.args.free.now c.loop-place.place far (c.loop-place.invariant goal free)
