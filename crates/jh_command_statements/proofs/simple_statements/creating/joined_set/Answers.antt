use Rattle.std.proofs.Common.{Some, ap, ◌∙◌, slice_get}
use Rattle.jh_form.specs.Tree.{of_object, of_set}
use Rattle.jh_form.specs.Tree as tree
use Rattle.jh_semantics.specs.State.{named}
use Rattle.jh_arena.specs.table.Entries.{the_object, the_set}
use Rattle.jh_arena.specs.table.Nodes.{nodes}
use Rattle.jh_command_statements.proofs.simple_statements.CheckedSteps.{if-ok, set-there, set-is, object-is}
use Rattle.jh_command_statements.proofs.simple_statements.creating.joined_set.Goals as goal

pub union_of-requires-clause-a : goal.union_of-requires-clause-a
union_of-requires-clause-a c = set-there c.set_node.new.table c.in_ok-set.set (tree.free_set (named c.args.text.now)) c.in_ok-set.ensures.node

pub union_of-requires-clause-b : goal.union_of-requires-clause-b
union_of-requires-clause-b c =
    let a = the_object (slice_get (nodes c.args.table.now) c.args.object) in
    set-there c.set_node.new.table c.in_ok-one.one (tree.single a) (c.set_node.ensures.grows.nodes.keeps c.in_ok-one.one (of_set (tree.single a)) c.in_ok-one.ensures.node)

pub returns-clause-node : goal.returns-clause-node
returns-clause-node c =
    let t = c.args.table.now in
    let u = c.set_node.new.table in
    let a0 = the_object (slice_get (nodes t) c.args.object) in
    let first = set-is u c.in_ok-set.set (tree.free_set (named c.args.text.now)) c.in_ok-set.ensures.node in
    let second = set-is u c.in_ok-one.one (tree.single a0) (c.set_node.ensures.grows.nodes.keeps c.in_ok-one.one (of_set (tree.single a0)) c.in_ok-one.ensures.node) in
    if-ok c.union_of.result
    (λ made e a h. e ∙ (λ i. Some (of_set (tree.union (first i) ((second ∙ ap tree.single (object-is t c.args.object a h)) i)))))
    c.union_of.ensures.node
