use Rattle.std.proofs.Common.{◌≡◌, sym, ap, ◌∙◌, Some, slice_get}
use Rattle.jh_form.specs.Tree.{of_field, free_field}
use Rattle.jh_arena.specs.table.Entries.{the_name}
use Rattle.jh_arena.specs.table.Nodes.{nodes, fits_in, tree_in, shape_tree}
use Rattle.jh_arena.specs.declared.table.shapes.Shape.TheVariants as s
use Rattle.jh_arena.proofs.table.PartSteps.{part-FreeField-n}
use Rattle.jh_field_constraints.proofs.Shapes.{no-free-field}
use Rattle.jh_field_constraints.proofs.Standings.{name-same, some-inside, value-inside, value-same}
use Rattle.jh_field_constraints.proofs.naming.name_of.Goals as goal

pub shape-requires : goal.shape-requires
shape-requires c = value-inside (nodes c.args.table.now) c.args.field (of_field (free_field c.requires.field.0)) c.requires.field.1

pub name_at-requires : goal.name_at-requires
name_at-requires c = some-inside c.args.table.now.pools.names c.in-FreeField.number (part-FreeField-n c.args.table.now.pools (nodes c.args.table.now) c.in-FreeField.number (ap (fits_in c.args.table.now) (sym c.in-FreeField.is) ∙ c.shape.ensures.fits))

pub returns : goal.returns
unfolding shape_tree the_name
returns c = λ f k.
    let tree : slice_get (nodes c.args.table.now) c.args.field ≡ Some (tree_in c.args.table.now (s.FreeField c.in-FreeField.number)) = c.shape.ensures.tree ∙ ap (λ x. Some (tree_in c.args.table.now x)) c.in-FreeField.is in
    ap the_name (sym c.name_at.ensures) ∙ name-same (slice_get (nodes c.args.table.now) c.args.field) (the_name (slice_get c.args.table.now.pools.names c.in-FreeField.number)) f tree k

pub unreachable-requires : goal.unreachable-requires
unreachable-requires c =
    no-free-field c.args.table.now.pools (nodes c.args.table.now) c.shape.result c.requires.field.0 c.in_default.not-FreeField
    (value-same (slice_get (nodes c.args.table.now) c.args.field) (tree_in c.args.table.now c.shape.result) (of_field (free_field c.requires.field.0)) c.shape.ensures.tree c.requires.field.1)
