use Rattle.std.proofs.Common.{ap, ◌∙◌, ◌<◌, Option, Some, length, arith}
use Rattle.std.proofs.lemmas.Option.{slice_get_within}
use Rattle.jh_form.specs.Tree.{ValueTree}
use Rattle.jh_form.specs.Sorts.{tree_sort}
use Rattle.jh_arena.specs.table.Entries.{the_value}
use Rattle.jh_arena.specs.table.Nodes.{nodes}
use Rattle.jh_machine.proofs.ghosts.NodeSteps.{some_there}
use Rattle.jh_machine.proofs.ghosts.ghosts.sort_of.Goals as goal

pub returns-then-node-len-clause-sort : goal.returns-then-node-len-clause-sort
unfolding the_value
returns-then-node-len-clause-sort c = λ v is. ap (λ z. Some z) (c.sort.ensures ∙ ap (λ (o : Option ValueTree). tree_sort (the_value o)) is)

pub returns-then-node-len-clause-there : goal.returns-then-node-len-clause-there
returns-then-node-len-clause-there c =
    let ts = nodes c.args.moment.now.table.now in
    let lt : c.args.node < length ts = omega (arith, c.len.ensures, c.if-node-len.true) in
    (some_there ts c.args.node lt, c.sort.ensures)

pub returns-else-node-len-clause-sort : goal.returns-else-node-len-clause-sort
returns-else-node-len-clause-sort c = λ v is.
    let lt = slice_get_within (nodes c.args.moment.now.table.now) c.args.node v is in
    absurd (omega (arith, lt, c.len.ensures, c.if-node-len.false))
