use Rattle.std.proofs.Common.{◌≡◌, ◌∙◌, ap, sym, Some, slice_get, arith}
use Rattle.std.proofs.lemmas.Result.{IfOk-weaker}
use Rattle.jh_boxed.specs.Mapped.{mapped_value}
use Rattle.jh_form.specs.Tree.{of_object}
use Rattle.jh_arena.specs.table.Entries.{the_object, the_value}
use Rattle.jh_arena.specs.table.Nodes.{nodes, tree_in}
use Rattle.jh_arena.specs.declared.table.shapes.Shape.TheVariants as s
use Rattle.jh_substitution.specs.rewriting.Rewritten.{leaves_alone}
use Rattle.jh_substitution.specs.rewriting.Staying.{grown}
use Rattle.jh_substitution.specs.rewriting.Walks.{IsRewritten}
use Rattle.jh_substitution.proofs.rewriting.Sorted.{object-some, there-within}
use Rattle.jh_substitution.specs.simultaneous.Lifted.{lifting}
use Rattle.jh_vars.specs.Resolved.{receiving, shifted}
use Rattle.jh_receiver.proofs.Receivings.{receives-below, receives-loose, lifted-object}
use Rattle.jh_receiver.proofs.receiving.received_bound.Goals as goal

pub returns-then-number-depth-clause-node : goal.returns-then-number-depth-clause-node
returns-then-number-depth-clause-node c =
    receives-below c.args.table.now.pools (nodes c.args.table.now) (nodes c.args.table.now) (the_object (slice_get (nodes c.args.table.now) c.args.receiver)) c.args.depth c.args.number c.args.node c.if-number-depth.true c.requires.there

pub returns-else-number-depth-clause-node : goal.returns-else-number-depth-clause-node
returns-else-number-depth-clause-node c =
    let old = nodes c.args.table.now in
    let new = nodes c.lift.new.table in
    let same : slice_get new c.args.receiver ≡ slice_get old c.args.receiver = grown old new c.args.receiver c.lift.ensures.grows.nodes (object-some (slice_get old c.args.receiver) c.requires.receiver) in
    IfOk-weaker
    c.lift.result
    (λ made. slice_get new made ≡ Some (mapped_value (the_value (slice_get old c.args.receiver)) (lifting c.args.depth) 0))
    (λ made. IsRewritten (leaves_alone (receiving (the_object (slice_get new c.args.receiver)))) new c.args.node c.args.depth made)
    (λ r e. receives-loose c.args.table.now.pools old new (the_object (slice_get new c.args.receiver)) c.args.depth c.args.number c.args.node r (omega arith)
    (c.lift.ensures.grows.nodes.keeps c.args.node (tree_in c.args.table.now (s.Bound c.args.number)) c.requires.there)
    (e ∙ ap Some (lifted-object (slice_get old c.args.receiver) c.args.depth c.requires.receiver) ∙ (λ i. Some (of_object (shifted c.args.depth (the_object (sym same i)))))))
    c.lift.ensures.tree

pub lift-requires : goal.lift-requires
lift-requires c = there-within (nodes c.args.table.now) c.args.receiver (object-some (slice_get (nodes c.args.table.now) c.args.receiver) c.requires.receiver)
