use Rattle.std.proofs.Common.{sym, ap, ◌∙◌, Some}
use Rattle.jh_arena.specs.table.Entries.{is_field, the_field, the_name}
use Rattle.jh_arena.specs.table.Nodes.{nodes, shape_tree}
use Rattle.jh_arena.proofs.table.Below.{inside}
use Rattle.jh_arena.proofs.table.PartSteps.{part-FreeField-n}
use Rattle.jh_loop_targets.specs.Telling.{field_text}
use Rattle.jh_loop_targets.proofs.Ghosted.{field-inside, other-field}
use Rattle.jh_loop_targets.proofs.ghosts.field_name.Goals as goal

pub shape-requires : goal.shape-requires
shape-requires c = field-inside (nodes c.args.table.now) c.args.field c.requires

pub name_at-requires : goal.name_at-requires
name_at-requires c = inside c.args.table.now.pools.names c.in-FreeField.number (part-FreeField-n c.args.table.now.pools (nodes c.args.table.now) c.in-FreeField.number c.in-FreeField.ensures.fits)

pub returns-in-FreeField : goal.returns-in-FreeField
unfolding shape_tree the_field the_name
returns-in-FreeField c =
    ap Some (c.text.ensures ∙ ap (λ o. (the_name o).text) (sym c.name_at.ensures))
    ∙ sym (ap (λ v. field_text (the_field v)) c.in-FreeField.ensures.tree)

pub returns-in_default : goal.returns-in_default
returns-in_default c =
    sym (ap (λ v. field_text (the_field v)) c.shape.ensures.tree ∙ other-field c.args.table.now c.shape.result (sym (ap is_field c.shape.ensures.tree) ∙ c.requires) c.in_default.not-FreeField)
