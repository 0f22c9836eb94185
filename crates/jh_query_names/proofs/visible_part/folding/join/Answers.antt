use Rattle.std.proofs.Common.{◌≡◌, sym, ap, ◌∙◌, Some, slice_get}
use Rattle.std.proofs.lemmas.Result.{IfOk-weaker}
use Rattle.jh_form.specs.Tree.{of_truth}
use Rattle.jh_arena.specs.table.Entries.{the_truth}
use Rattle.jh_arena.specs.table.Nodes.{nodes}
use Rattle.jh_query_names.specs.visible_part.Folding.{constant, folded, left_of, joined}
use Rattle.jh_query_names.proofs.visible_part.Foldings.{joined-is}
use Rattle.jh_query_names.proofs.visible_part.folding.join.Goals as goal

pub returns-clause-node : goal.returns-clause-node
returns-clause-node c =
    let k = c.args.connective in
    let a = the_truth (slice_get (nodes c.args.table.now) c.args.a) in
    let b = the_truth (slice_get (nodes c.args.table.now) c.args.b) in
    let rest : c.folded-rest.result ≡ folded k (constant a) (constant b) = c.folded-rest.ensures ∙ (λ i. folded k (c.constant-left.ensures i) (c.constant-right.ensures i)) in
    IfOk-weaker
    c.left_of.result
    (λ made. slice_get (nodes c.left_of.new.table) made ≡ Some (of_truth (left_of c.folded-rest.result k a b)))
    (λ made. slice_get (nodes c.left_of.new.table) made ≡ Some (of_truth (joined k a b)))
    (λ made at. at ∙ ap (λ f. Some (of_truth f)) (ap (λ r. left_of r k a b) rest ∙ sym (joined-is k a b)))
    c.left_of.ensures.node
