use Rattle.std.proofs.Common.{◌≡◌, ◌∙◌, ap, Some, slice_get}
use Rattle.std.proofs.lemmas.Result.{IfOk-weaker}
use Rattle.jh_form.specs.Tree.{of_truth}
use Rattle.jh_form.specs.Tree as t
use Rattle.jh_arena.specs.table.Entries.{the_truth}
use Rattle.jh_arena.specs.table.Nodes.{nodes, tree_in}
use Rattle.jh_arena.specs.declared.table.shapes.Shape.TheVariants as s
use Rattle.jh_arena.proofs.table.NodeSteps.{fits-Mark, tree-Mark}
use Rattle.jh_arena.proofs.makers.Joins.{truth-stays}
use Rattle.jh_arena.proofs.makers.labels.labelled.Goals as goal

pub make-requires : goal.make-requires
make-requires c =
    fits-Mark c.mark.new.self.pools (nodes c.mark.new.self) c.in_ok-number.number c.args.a c.args.mark.now (the_truth (slice_get (nodes c.args.table.now) c.args.a)) c.in_ok-number.ensures.number
    (truth-stays c.args.table.now c.mark.new.self c.args.a c.in_ok-number.ensures.grows c.requires.a)

pub returns-clause-node : goal.returns-clause-node
returns-clause-node c =
    IfOk-weaker
    c.make.result
    (λ made. slice_get (nodes c.make.new.self) made ≡ Some (tree_in c.mark.new.self (s.Mark c.in_ok-number.number c.args.a)))
    (λ made. slice_get (nodes c.make.new.self) made ≡ Some (of_truth (t.mark c.args.mark.now (the_truth (slice_get (nodes c.args.table.now) c.args.a)))))
    (λ made e. e ∙ ap (λ v. Some v) (tree-Mark c.mark.new.self.pools (nodes c.mark.new.self) c.in_ok-number.number c.args.a c.args.mark.now (the_truth (slice_get (nodes c.args.table.now) c.args.a)) c.in_ok-number.ensures.number (truth-stays c.args.table.now c.mark.new.self c.args.a c.in_ok-number.ensures.grows c.requires.a)))
    c.make.ensures.node
