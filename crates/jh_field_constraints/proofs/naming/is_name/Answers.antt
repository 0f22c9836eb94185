use Rattle.std.proofs.Common.{sym, ap, ◌∙◌, slice_get}
use Rattle.jh_form.specs.Passing.{name_equal}
use Rattle.jh_arena.specs.table.Entries.{is_field, the_field, the_name}
use Rattle.jh_arena.specs.table.Nodes.{nodes, fits_in, shape_tree}
use Rattle.jh_arena.specs.declared.table.shapes.Shape.TheVariants as s
use Rattle.jh_arena.proofs.table.PartSteps.{part-FreeField-n}
use Rattle.jh_fca.specs.elimination.Constraints.{is_name}
use Rattle.jh_field_constraints.proofs.Shapes.{field-as, not-name}
use Rattle.jh_field_constraints.proofs.Standings.{field-inside, some-inside}
use Rattle.jh_field_constraints.proofs.naming.is_name.Goals as goal

pub shape-requires : goal.shape-requires
shape-requires c = field-inside (nodes c.args.table.now) c.args.field c.requires.field

pub name_at-requires : goal.name_at-requires
name_at-requires c = some-inside c.args.table.now.pools.names c.in-FreeField.number (part-FreeField-n c.args.table.now.pools (nodes c.args.table.now) c.in-FreeField.number (ap (fits_in c.args.table.now) (sym c.in-FreeField.is) ∙ c.shape.ensures.fits))

pub returns-in-FreeField : goal.returns-in-FreeField
unfolding shape_tree the_field the_name is_name
returns-in-FreeField c =
    field-as c.args.table.now.pools (nodes c.args.table.now) (is_name c.args.name.now) (slice_get (nodes c.args.table.now) c.args.field) c.shape.result (s.FreeField c.in-FreeField.number) c.names_are_one.result c.shape.ensures.tree c.in-FreeField.is
    (c.names_are_one.ensures ∙ ap (λ o. name_equal (the_name o) c.args.name.now) (sym c.name_at.ensures))

pub returns-in_default : goal.returns-in_default
returns-in_default c =
    not-name c.args.table.now.pools (nodes c.args.table.now) c.args.name.now c.shape.result c.in_default.not-FreeField (ap is_field (sym c.shape.ensures.tree) ∙ c.requires.field) ∙ ap (λ o. is_name c.args.name.now (the_field o)) (sym c.shape.ensures.tree)
