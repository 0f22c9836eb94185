use Rattle.std.proofs.Common.{ap, ◌∙◌, Some}
use Rattle.jh_form.specs.Tree.{of_object, of_field}
use Rattle.jh_form.specs.Bare.{term_tree, field_tree}
use Rattle.jh_boxed_operations.specs.comparison.Unmarked.{unmarked_term, unmarked_field}
use Rattle.jh_arena.specs.table.Nodes.{nodes}
use Rattle.jh_arena.proofs.table.Listed.{node-stays}
use Rattle.jh_arena.proofs.table.NodeSteps.{fits-Update, tree-Update}
use Rattle.jh_deriv.proofs.Operands.{if-ok}
use Rattle.jh_deriv.proofs.entering.bare_update.Goals as goal

pub make-requires : goal.make-requires
make-requires c =
    let t1 = c.bare_field.new.table in
    let t2 = c.bare_term.new.table in
    let t3 = c.bare_term-2.new.table in
    let f = unmarked_field (field_tree c.args.base.now.field) in
    let a = unmarked_term (term_tree c.args.base.now.at) in
    let v = unmarked_term (term_tree c.args.base.now.value) in
    fits-Update t3.pools (nodes t3) c.in_ok-field.field c.in_ok-at.at c.in_ok-value.value f a (of_object v)
    (node-stays t2 t3 c.in_ok-field.field (of_field f) c.bare_term-2.ensures.grows (node-stays t1 t2 c.in_ok-field.field (of_field f) c.bare_term.ensures.grows c.in_ok-field.ensures.node))
    (node-stays t2 t3 c.in_ok-at.at (of_object a) c.bare_term-2.ensures.grows c.in_ok-at.ensures.node)
    c.in_ok-value.ensures.node

pub returns-clause-node : goal.returns-clause-node
returns-clause-node c =
    let t1 = c.bare_field.new.table in
    let t2 = c.bare_term.new.table in
    let t3 = c.bare_term-2.new.table in
    let f = unmarked_field (field_tree c.args.base.now.field) in
    let a = unmarked_term (term_tree c.args.base.now.at) in
    let v = unmarked_term (term_tree c.args.base.now.value) in
    let tree = tree-Update t3.pools (nodes t3) c.in_ok-field.field c.in_ok-at.at c.in_ok-value.value f a (of_object v)
    (node-stays t2 t3 c.in_ok-field.field (of_field f) c.bare_term-2.ensures.grows (node-stays t1 t2 c.in_ok-field.field (of_field f) c.bare_term.ensures.grows c.in_ok-field.ensures.node))
    (node-stays t2 t3 c.in_ok-at.at (of_object a) c.bare_term-2.ensures.grows c.in_ok-at.ensures.node)
    c.in_ok-value.ensures.node in
    if-ok c.make.result (λ node is. is ∙ ap (λ z. Some z) tree) c.make.ensures.node
