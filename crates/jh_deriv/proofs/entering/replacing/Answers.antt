use Rattle.jh_form.specs.Tree.{of_truth}
use Rattle.jh_form.specs.Bare.{formula_tree, value_tree}
use Rattle.jh_boxed_operations.specs.comparison.Unmarked.{unmarked_formula, unmarked_value}
use Rattle.jh_arena.specs.table.Nodes.{nodes}
use Rattle.jh_arena.proofs.table.Listed.{node-stays, extends-trans}
use Rattle.jh_deriv.proofs.Operands.{entered-replacing}
use Rattle.jh_deriv.proofs.entering.replacing.Goals as goal

pub returns-clause-step : goal.returns-clause-step
returns-clause-step c =
    let t1 = c.bare_formula.new.table in
    let t2 = c.bare_formula-2.new.table in
    let t3 = c.bare_value.new.table in
    let t4 = c.bare_value-2.new.table in
    let a = unmarked_formula (formula_tree c.args.fact.now) in
    let b = unmarked_formula (formula_tree c.args.made.now) in
    let v = unmarked_value (value_tree c.args.old.now) in
    let w = unmarked_value (value_tree c.args.new.now) in
    let later = extends-trans t2 t3 t4 c.bare_value.ensures.grows c.bare_value-2.ensures.grows in
    entered-replacing (nodes t4) c.in_ok-fact.fact c.in_ok-made.made c.in_ok-old.old c.in_ok-new.new a b v w
    (node-stays t1 t4 c.in_ok-fact.fact (of_truth a) (extends-trans t1 t2 t4 c.bare_formula-2.ensures.grows later) c.in_ok-fact.ensures.node)
    (node-stays t2 t4 c.in_ok-made.made (of_truth b) later c.in_ok-made.ensures.node)
    (node-stays t3 t4 c.in_ok-old.old v c.bare_value-2.ensures.grows c.in_ok-old.ensures.node)
    c.in_ok-new.ensures.node
