use Rattle.std.proofs.Common.{rules, ◌≡◌, ap, sym, ◌∙◌, Some}
use Rattle.jh_form.specs.Tree.{of_object, of_field}
use Rattle.jh_form.specs.Tree as tree
use Rattle.jh_arena.specs.table.Nodes.{nodes}
use Rattle.jh_arena.proofs.table.NodeSteps.{tree-ReadObject}
use Rattle.jh_semantics.specs.Code as code
use Rattle.jh_semantics.specs.State.{named}
use Rattle.jh_guard.specs.Terms as terms
use Rattle.jh_semantics.specs.typed_code.Codes.{object_code}
use Rattle.jh_command_terms.proofs.terms.CheckSteps.{if-ok}
use Rattle.jh_command_terms.proofs.terms.TermSteps.{object_code-Read}
use Rattle.jh_command_terms.proofs.terms.objects.+object_term.Goals as goal

pub object_term-returns-in_ok-field-in-Read-clause-node : goal.object_term-returns-in_ok-field-in-Read-clause-node
object_term-returns-in_ok-field-in-Read-clause-node t c =
    let u = c.field_node.new.table in
    let r = object_code c.deref.result.now in
    let f = tree.free_field (named c.in-Read.field.text) in
    let whole : object_code c.args.code.now ≡ code.read_object c.in-Read.field.text r c.in-Read.place = search (rules, object_code-Read) in
    let receiver = c.field_node.ensures.grows.nodes.keeps c.in_ok-receiver-in-Read.receiver (of_object (terms.object_term r)) c.in_ok-receiver-in-Read.ensures.node in
    if-ok c.make-in-Read.result
    (λ made node. node ∙ ap Some (tree-ReadObject u.pools (nodes u) c.in_ok-field-in-Read.field c.in_ok-receiver-in-Read.receiver f (terms.object_term r) c.in_ok-field-in-Read.ensures.node receiver ∙ ap (λ e. of_object (terms.object_term e)) (sym whole)))
    c.make-in-Read.ensures.node
