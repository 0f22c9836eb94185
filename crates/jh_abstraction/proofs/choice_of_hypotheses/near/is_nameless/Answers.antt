use Rattle.std.proofs.Common.{◌≤◌, length, arith}
use Rattle.jh_arena.specs.table.Nodes.{nodes}
use Rattle.jh_approx.specs.free_name_tests.Passing.{name_passes}
use Rattle.jh_approx.specs.definition.Links.{is_set_of_class}
use Rattle.jh_query_names.specs.query_names.Kinds.{value_at}
use Rattle.jh_abstraction.proofs.choice_of_hypotheses.Lists.{all-end, all-next, all-stop}
use Rattle.jh_abstraction.proofs.choice_of_hypotheses.near.is_nameless.Goals as goal

pub returns-then-not-is_class : goal.returns-then-not-is_class
returns-then-not-is_class c =
    all-stop (λ n. name_passes is_set_of_class (value_at (nodes c.args.table.now) n)) c.args.free.now c.loop-place.place c.number_at.result c.is_class.result
    c.number_at.ensures c.is_class.ensures c.if-not-is_class.true c.loop-place.invariant

pub loop-place-preserved : goal.loop-place-preserved
loop-place-preserved c =
    all-next (λ n. name_passes is_set_of_class (value_at (nodes c.args.table.now) n)) c.args.free.now c.loop-place.place c.number_at.result c.is_class.result
    c.number_at.ensures c.is_class.ensures c.if-not-is_class.false c.loop-place.invariant

pub returns : goal.returns
returns c =
    let far : length c.args.free.now ≤ c.loop-place.place = search arith in
    all-end (λ n. name_passes is_set_of_class (value_at (nodes c.args.table.now) n)) c.args.free.now c.loop-place.place far c.loop-place.invariant
