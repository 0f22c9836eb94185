use Rattle.std.proofs.Common.{◌≡◌, sym, ap, ◌∙◌, Some, slice_get}
use Rattle.std.proofs.lemmas.Result.{IfOk-weaker}
use Rattle.jh_form.specs.Tree.{of_field}
use Rattle.jh_form.specs.Tree as t
use Rattle.jh_arena.specs.table.Entries.{the_field, the_object, the_value}
use Rattle.jh_arena.specs.table.Nodes.{nodes, shape_tree, tree_in}
use Rattle.jh_arena.specs.declared.table.shapes.Shape.TheVariants as s
use Rattle.jh_arena.proofs.table.PartSteps.{part-Update-a, part-Update-c}
use Rattle.jh_normal_forms.specs.idle_updates.Dropped.{without_field_value}
use Rattle.jh_normal_forms.proofs.idle_updates.Arms.{field-of, value-inside, without-field, without-other}
use Rattle.jh_normal_forms.proofs.idle_updates.dropping.update.Goals as goal

pub sort-requires : goal.sort-requires
sort-requires c = value-inside (nodes c.args.table.now) c.args.value (part-Update-c c.args.table.now.pools (nodes c.args.table.now) c.args.field c.args.at c.args.value c.requires.fits)

pub returns-in-Field-clause-node : goal.returns-in-Field-clause-node
returns-in-Field-clause-node c =
    let v = c.args.table.now in
    let f = the_field (slice_get (nodes v) c.args.field) in
    field-of (slice_get (nodes v) c.args.field) (part-Update-a v.pools (nodes v) c.args.field c.args.at c.args.value c.requires.fits)
    ∙ ap (λ g. Some (of_field g)) (without-field f (the_object (slice_get (nodes v) c.args.at)) (the_value (slice_get (nodes v) c.args.value)) c.sort.result c.sort.ensures c.in-Field.is)

pub returns-in_default-clause-node : goal.returns-in_default-clause-node
unfolding shape_tree
returns-in_default-clause-node c =
    let v = c.args.table.now in
    let f = the_field (slice_get (nodes v) c.args.field) in
    let a = the_object (slice_get (nodes v) c.args.at) in
    let w = the_value (slice_get (nodes v) c.args.value) in
    IfOk-weaker
    c.make.result
    (λ made. slice_get (nodes c.make.new.self) made ≡ Some (tree_in v (s.Update c.args.field c.args.at c.args.value)))
    (λ made. slice_get (nodes c.make.new.self) made ≡ Some (of_field (without_field_value (t.update f a w))))
    (λ made at. at ∙ ap (λ g. Some (of_field g)) (without-other f a w c.sort.result c.sort.ensures c.in_default.not-Field))
    c.make.ensures.node
