use Rattle.jh_form.specs.Bare.{field_tree}
use Rattle.jh_arena.specs.table.Nodes.{nodes}
use Rattle.jh_deriv.proofs.Operands.{bare-field, if-ok}
use Rattle.jh_deriv.proofs.entering.bare_field.Goals as goal

pub returns-clause-node : goal.returns-clause-node
returns-clause-node c =
    let t1 = c.enter_field.new.table in
    let t2 = c.unlabelled.new.table in
    if-ok c.unlabelled.result (λ made is. bare-field (nodes t1) (nodes t2) c.in_ok-node.node made (field_tree c.args.field.now) c.in_ok-node.ensures.node is) c.unlabelled.ensures.tree
