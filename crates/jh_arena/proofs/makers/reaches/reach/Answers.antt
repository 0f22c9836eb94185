use Rattle.std.proofs.Common.{◌≡◌, ◌∙◌, ap, Some, slice_get}
use Rattle.std.proofs.lemmas.Result.{IfOk-weaker}
use Rattle.jh_form.specs.Tree.{of_truth}
use Rattle.jh_form.specs.Tree as t
use Rattle.jh_arena.specs.table.Entries.{the_object, fields_at}
use Rattle.jh_arena.specs.table.Nodes.{nodes, tree_in}
use Rattle.jh_arena.specs.declared.table.shapes.Shape.TheVariants as s
use Rattle.jh_arena.proofs.makers.FieldLists.{reach-fits, reach-tree}
use Rattle.jh_arena.proofs.makers.reaches.reach.Goals as goal

pub make-requires : goal.make-requires
make-requires c =
    reach-fits c.args.table.now c.list.new.self c.in_ok-list.list c.args.fields.now c.list.ensures.nodes c.in_ok-list.ensures.number c.requires.fields c.args.a c.args.b c.requires.a c.requires.b

pub returns-clause-node : goal.returns-clause-node
returns-clause-node c =
    IfOk-weaker
    c.make.result
    (λ made. slice_get (nodes c.make.new.self) made ≡ Some (tree_in c.list.new.self (s.Reach c.in_ok-list.list c.args.a c.args.b)))
    (λ made. slice_get (nodes c.make.new.self) made ≡ Some (of_truth (t.reach (fields_at (nodes c.args.table.now) c.args.fields.now) (the_object (slice_get (nodes c.args.table.now) c.args.a)) (the_object (slice_get (nodes c.args.table.now) c.args.b)))))
    (λ made e. e ∙ ap (λ v. Some v) (reach-tree c.args.table.now c.list.new.self c.in_ok-list.list c.args.fields.now c.list.ensures.nodes c.in_ok-list.ensures.number c.requires.fields c.args.a c.args.b c.requires.a c.requires.b))
    c.make.ensures.node
