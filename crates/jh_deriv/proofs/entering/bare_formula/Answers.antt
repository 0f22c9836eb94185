use Rattle.jh_form.specs.Bare.{formula_tree}
use Rattle.jh_arena.specs.table.Nodes.{nodes}
use Rattle.jh_deriv.proofs.Operands.{bare-truth, if-ok}
use Rattle.jh_deriv.proofs.entering.bare_formula.Goals as goal

pub returns-clause-node : goal.returns-clause-node
returns-clause-node c =
    let t1 = c.enter_formula.new.table in
    let t2 = c.unlabelled.new.table in
    if-ok c.unlabelled.result (λ made is. bare-truth (nodes t1) (nodes t2) c.in_ok-node.node made (formula_tree c.args.formula.now) c.in_ok-node.ensures.node is) c.unlabelled.ensures.tree
