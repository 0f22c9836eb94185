use Rattle.std.proofs.Common.{◌≡◌, ◌∙◌, ap, Some, slice_get}
use Rattle.std.proofs.lemmas.Result.{IfOk-weaker}
use Rattle.jh_form.specs.Tree.{of_truth}
use Rattle.jh_form.specs.Tree as t
use Rattle.jh_arena.specs.table.Entries.{fields_at}
use Rattle.jh_arena.specs.table.Nodes.{nodes, tree_in}
use Rattle.jh_arena.specs.declared.table.shapes.Shape.TheVariants as s
use Rattle.jh_arena.proofs.makers.FieldLists.{forest-fits, forest-tree}
use Rattle.jh_arena.proofs.makers.reaches.forest.Goals as goal

pub make-requires : goal.make-requires
make-requires c = forest-fits c.args.table.now c.list.new.self c.in_ok-list.list c.args.fields.now c.list.ensures.nodes c.in_ok-list.ensures.number c.requires

pub returns-clause-node : goal.returns-clause-node
returns-clause-node c =
    IfOk-weaker
    c.make.result
    (λ made. slice_get (nodes c.make.new.self) made ≡ Some (tree_in c.list.new.self (s.Tree c.in_ok-list.list)))
    (λ made. slice_get (nodes c.make.new.self) made ≡ Some (of_truth (t.tree (fields_at (nodes c.args.table.now) c.args.fields.now))))
    (λ made e. e ∙ ap (λ v. Some v) (forest-tree c.args.table.now c.list.new.self c.in_ok-list.list c.args.fields.now c.list.ensures.nodes c.in_ok-list.ensures.number c.requires))
    c.make.ensures.node
