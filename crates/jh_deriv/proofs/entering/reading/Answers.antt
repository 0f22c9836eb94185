use Rattle.jh_form.specs.Tree.{of_object, of_field}
use Rattle.jh_form.specs.Bare.{term_tree, field_tree}
use Rattle.jh_boxed_operations.specs.comparison.Unmarked.{unmarked_term, unmarked_field}
use Rattle.jh_arena.specs.table.Nodes.{nodes}
use Rattle.jh_arena.proofs.table.Listed.{node-stays}
use Rattle.jh_deriv.proofs.Operands.{entered-reading}
use Rattle.jh_deriv.proofs.entering.reading.Goals as goal

pub returns-clause-step : goal.returns-clause-step
returns-clause-step c =
    let t1 = c.bare_field.new.table in
    let t2 = c.bare_term.new.table in
    let t3 = c.bare_term-2.new.table in
    let f = unmarked_field (field_tree c.args.field.now) in
    let a = unmarked_term (term_tree c.args.left.now) in
    let b = unmarked_term (term_tree c.args.right.now) in
    entered-reading (nodes t3) c.args.kind c.in_ok-field.field c.in_ok-left.left c.in_ok-right.right f a b
    (node-stays t2 t3 c.in_ok-field.field (of_field f) c.bare_term-2.ensures.grows (node-stays t1 t2 c.in_ok-field.field (of_field f) c.bare_term.ensures.grows c.in_ok-field.ensures.node))
    (node-stays t2 t3 c.in_ok-left.left (of_object a) c.bare_term-2.ensures.grows c.in_ok-left.ensures.node)
    c.in_ok-right.ensures.node
