use Rattle.jh_form.specs.Bare.{value_tree}
use Rattle.jh_arena.specs.table.Nodes.{nodes}
use Rattle.jh_deriv.proofs.Operands.{bare-value, if-ok}
use Rattle.jh_deriv.proofs.entering.bare_value.Goals as goal

pub returns-clause-node : goal.returns-clause-node
returns-clause-node c =
    let t1 = c.enter.new.table in
    let t2 = c.unlabelled.new.table in
    if-ok c.unlabelled.result (λ made is. bare-value (nodes t1) (nodes t2) c.in_ok-node.node made (value_tree c.args.value.now) c.in_ok-node.ensures.node is) c.unlabelled.ensures.tree
