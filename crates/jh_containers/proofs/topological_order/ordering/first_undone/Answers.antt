use Rattle.std.proofs.Common.{rules, ◌≡◌, true, false, length, arith}
use Rattle.jh_containers.proofs.transitive_closure.Places.{item-get}
use Rattle.jh_containers.proofs.topological_order.Orderings.{undone-at, before-more, undone-end}
use Rattle.jh_containers.proofs.topological_order.ordering.first_undone.Goals as goal

pub returns-then-not-has-clause-undone : goal.returns-then-not-has-clause-undone
returns-then-not-has-clause-undone c =
    let no : c.has.result ≡ false = search rules in
    undone-at c.args.row.now c.args.done.now c.loop-at.at _ c.has.result (item-get c.args.row.now c.loop-at.at _ c.loop-at-test.true) c.has.ensures no

pub loop-at-preserved : goal.loop-at-preserved
loop-at-preserved c =
    let yes : c.has.result ≡ true = search rules in
    before-more c.args.row.now c.args.done.now c.loop-at.at _ c.has.result (item-get c.args.row.now c.loop-at.at _ c.loop-at-test.true) c.has.ensures yes c.loop-at.invariant

pub returns-clause-undone : goal.returns-clause-undone
returns-clause-undone c = λ d. undone-end c.args.row.now c.args.done.now (length c.args.row.now) d (omega arith)
