use Rattle.std.proofs.Common.{Some, ap, ◌∙◌, slice_get}
use Rattle.jh_form.specs.Tree.{of_object, of_truth}
use Rattle.jh_form.specs.Tree as tree
use Rattle.jh_semantics.specs.State.{named}
use Rattle.jh_arena.specs.table.Entries.{the_object}
use Rattle.jh_arena.specs.table.Nodes.{nodes}
use Rattle.jh_arena.proofs.table.Children.{it-is-object}
use Rattle.jh_state_facts.proofs.changes.AddedSteps.{on-ok}
use Rattle.jh_command_statements.proofs.simple_statements.CheckedSteps.{set-there, set-is, object-there, object-is, truth-there}
use Rattle.jh_command_statements.proofs.simple_statements.setting.push_member.Goals as goal

pub member-requires-clause-a : goal.member-requires-clause-a
member-requires-clause-a c =
    let a = the_object (slice_get (nodes c.args.table.now) c.args.object) in
    object-there c.set_node.new.table c.args.object a (c.set_node.ensures.grows.nodes.keeps c.args.object (of_object a) (it-is-object (slice_get (nodes c.args.table.now) c.args.object) c.requires))

pub member-requires-clause-b : goal.member-requires-clause-b
member-requires-clause-b c = set-there c.set_node.new.table c.in_ok-set.set (tree.free_set (named c.args.class.now)) c.in_ok-set.ensures.node

pub assert_bare-requires : goal.assert_bare-requires
assert_bare-requires c = truth-there c.member.new.table c.in_ok-fact.fact _ c.in_ok-fact.ensures.node

pub returns-clause-commands : goal.returns-clause-commands
returns-clause-commands c =
    let u = c.set_node.new.table in
    let set = set-is u c.in_ok-set.set (tree.free_set (named c.args.class.now)) c.in_ok-set.ensures.node in
    on-ok c.assert_bare.result
    (λ h a e.
    let object = object-is u c.args.object a (c.set_node.ensures.grows.nodes.keeps c.args.object (of_object a) e) in
    h (tree.member a (tree.free_set (named c.args.class.now))) (c.in_ok-fact.ensures.node ∙ (λ i. Some (of_truth (tree.member (object i) (set i))))))
    c.assert_bare.ensures.commands
