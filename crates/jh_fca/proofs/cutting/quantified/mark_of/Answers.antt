use Rattle.std.proofs.Common.{◌≡◌, sym, ap, ◌&&◌, ◌∙◌, Some, slice_get}
use Rattle.std.proofs.lemmas.Result.{IfOk-weaker}
use Rattle.jh_form.specs.Tree.{of_truth}
use Rattle.jh_arena.specs.table.Entries.{the_truth, the_mark}
use Rattle.jh_arena.specs.table.Nodes.{nodes, fits, shape_tree, tree_in}
use Rattle.jh_arena.specs.declared.table.shapes.Shape.TheVariants as s
use Rattle.jh_fca.specs.cutting.Cut.{mark_of}
use Rattle.jh_fca.proofs.cutting.Foldings.{mark-neither, mark-constant}
use Rattle.jh_fca.proofs.cutting.Standing.{truth-of}
use Rattle.jh_fca.proofs.cutting.quantified.mark_of.Goals as goal

pub make-requires : goal.make-requires
unfolding fits
make-requires c =
    λ i. c.requires.label i && c.requires.a i

pub returns-in-Some-clause-node : goal.returns-in-Some-clause-node
returns-in-Some-clause-node c =
    truth-of (slice_get (nodes c.args.table.now) c.args.a) c.requires.a ∙ ap (λ f. Some (of_truth f)) (mark-constant (the_mark (slice_get c.args.table.now.pools.marks c.args.label)) (the_truth (slice_get (nodes c.args.table.now) c.args.a)) c.in-Some.field-0 (sym c.constant.ensures ∙ c.in-Some.is))

pub returns-in-None-clause-node : goal.returns-in-None-clause-node
unfolding shape_tree
returns-in-None-clause-node c =
    IfOk-weaker
    c.make.result
    (λ made. slice_get (nodes c.make.new.self) made ≡ Some (tree_in c.args.table.now (s.Mark c.args.label c.args.a)))
    (λ made. slice_get (nodes c.make.new.self) made ≡ Some (of_truth (mark_of (the_mark (slice_get c.args.table.now.pools.marks c.args.label)) (the_truth (slice_get (nodes c.args.table.now) c.args.a)))))
    (λ made at. at ∙ ap (λ f. Some (of_truth f)) (mark-neither (the_mark (slice_get c.args.table.now.pools.marks c.args.label)) (the_truth (slice_get (nodes c.args.table.now) c.args.a)) (sym c.constant.ensures ∙ c.in-None.is)))
    c.make.ensures.node
