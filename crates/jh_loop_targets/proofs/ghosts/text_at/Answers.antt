use Rattle.std.proofs.Common.{sym, ap, ◌∙◌, Some, slice_get}
use Rattle.jh_arena.specs.table.Entries.{the_field, the_object, the_name, the_value}
use Rattle.jh_arena.specs.table.Nodes.{nodes, shape_tree}
use Rattle.jh_arena.proofs.table.PartSteps.{part-FreeObject-n, part-FreeNumber-n, part-FreeTruth-n, part-FreeSet-n, part-ReadObject-a, part-ReadNumber-a, part-ReadTruth-a, part-ReadSet-a}
use Rattle.jh_arena.proofs.table.Below.{inside}
use Rattle.jh_loop_targets.specs.Telling.{ghost_text}
use Rattle.jh_loop_targets.proofs.Ghosted.{read-object, read-number, read-truth, read-set, other-shape}
use Rattle.jh_loop_targets.proofs.ghosts.text_at.Goals as goal

pub name_at-requires : goal.name_at-requires
name_at-requires c = inside c.args.table.now.pools.names c.in-FreeObject.number (part-FreeObject-n c.args.table.now.pools (nodes c.args.table.now) c.in-FreeObject.number c.in-FreeObject.ensures.fits)

pub returns-in-FreeObject : goal.returns-in-FreeObject
unfolding shape_tree the_value the_name
returns-in-FreeObject c =
    ap Some (c.text.ensures ∙ ap (λ o. (the_name o).text) (sym c.name_at.ensures))
    ∙ sym (ap (λ v. ghost_text (the_value v)) c.in-FreeObject.ensures.tree)

pub name_at-requires-in-FreeNumber : goal.name_at-requires-in-FreeNumber
name_at-requires-in-FreeNumber c = inside c.args.table.now.pools.names c.in-FreeNumber.number (part-FreeNumber-n c.args.table.now.pools (nodes c.args.table.now) c.in-FreeNumber.number c.in-FreeNumber.ensures.fits)

pub returns-in-FreeNumber : goal.returns-in-FreeNumber
unfolding shape_tree the_value the_name
returns-in-FreeNumber c =
    ap Some (c.text-in-FreeNumber.ensures ∙ ap (λ o. (the_name o).text) (sym c.name_at-in-FreeNumber.ensures))
    ∙ sym (ap (λ v. ghost_text (the_value v)) c.in-FreeNumber.ensures.tree)

pub name_at-requires-in-FreeTruth : goal.name_at-requires-in-FreeTruth
name_at-requires-in-FreeTruth c = inside c.args.table.now.pools.names c.in-FreeTruth.number (part-FreeTruth-n c.args.table.now.pools (nodes c.args.table.now) c.in-FreeTruth.number c.in-FreeTruth.ensures.fits)

pub returns-in-FreeTruth : goal.returns-in-FreeTruth
unfolding shape_tree the_value the_name
returns-in-FreeTruth c =
    ap Some (c.text-in-FreeTruth.ensures ∙ ap (λ o. (the_name o).text) (sym c.name_at-in-FreeTruth.ensures))
    ∙ sym (ap (λ v. ghost_text (the_value v)) c.in-FreeTruth.ensures.tree)

pub name_at-requires-in-FreeSet : goal.name_at-requires-in-FreeSet
name_at-requires-in-FreeSet c = inside c.args.table.now.pools.names c.in-FreeSet.number (part-FreeSet-n c.args.table.now.pools (nodes c.args.table.now) c.in-FreeSet.number c.in-FreeSet.ensures.fits)

pub returns-in-FreeSet : goal.returns-in-FreeSet
unfolding shape_tree the_value the_name
returns-in-FreeSet c =
    ap Some (c.text-in-FreeSet.ensures ∙ ap (λ o. (the_name o).text) (sym c.name_at-in-FreeSet.ensures))
    ∙ sym (ap (λ v. ghost_text (the_value v)) c.in-FreeSet.ensures.tree)

pub field_name-requires : goal.field_name-requires
field_name-requires c = part-ReadObject-a c.args.table.now.pools (nodes c.args.table.now) c.in-ReadObject.field c.in-ReadObject._object c.in-ReadObject.ensures.fits

pub returns-in-ReadObject : goal.returns-in-ReadObject
unfolding shape_tree the_value
returns-in-ReadObject c =
    c.field_name.ensures
    ∙ sym (ap (λ v. ghost_text (the_value v)) c.in-ReadObject.ensures.tree ∙ read-object (the_field (slice_get (nodes c.args.table.now) c.in-ReadObject.field)) (the_object (slice_get (nodes c.args.table.now) c.in-ReadObject._object)))

pub field_name-requires-in-ReadNumber : goal.field_name-requires-in-ReadNumber
field_name-requires-in-ReadNumber c = part-ReadNumber-a c.args.table.now.pools (nodes c.args.table.now) c.in-ReadNumber.field c.in-ReadNumber._object c.in-ReadNumber.ensures.fits

pub returns-in-ReadNumber : goal.returns-in-ReadNumber
unfolding shape_tree the_value
returns-in-ReadNumber c =
    c.field_name-in-ReadNumber.ensures
    ∙ sym (ap (λ v. ghost_text (the_value v)) c.in-ReadNumber.ensures.tree ∙ read-number (the_field (slice_get (nodes c.args.table.now) c.in-ReadNumber.field)) (the_object (slice_get (nodes c.args.table.now) c.in-ReadNumber._object)))

pub field_name-requires-in-ReadTruth : goal.field_name-requires-in-ReadTruth
field_name-requires-in-ReadTruth c = part-ReadTruth-a c.args.table.now.pools (nodes c.args.table.now) c.in-ReadTruth.field c.in-ReadTruth._object c.in-ReadTruth.ensures.fits

pub returns-in-ReadTruth : goal.returns-in-ReadTruth
unfolding shape_tree the_value
returns-in-ReadTruth c =
    c.field_name-in-ReadTruth.ensures
    ∙ sym (ap (λ v. ghost_text (the_value v)) c.in-ReadTruth.ensures.tree ∙ read-truth (the_field (slice_get (nodes c.args.table.now) c.in-ReadTruth.field)) (the_object (slice_get (nodes c.args.table.now) c.in-ReadTruth._object)))

pub field_name-requires-in-ReadSet : goal.field_name-requires-in-ReadSet
field_name-requires-in-ReadSet c = part-ReadSet-a c.args.table.now.pools (nodes c.args.table.now) c.in-ReadSet.field c.in-ReadSet._object c.in-ReadSet.ensures.fits

pub returns-in-ReadSet : goal.returns-in-ReadSet
unfolding shape_tree the_value
returns-in-ReadSet c =
    c.field_name-in-ReadSet.ensures
    ∙ sym (ap (λ v. ghost_text (the_value v)) c.in-ReadSet.ensures.tree ∙ read-set (the_field (slice_get (nodes c.args.table.now) c.in-ReadSet.field)) (the_object (slice_get (nodes c.args.table.now) c.in-ReadSet._object)))

pub returns-in_default : goal.returns-in_default
unfolding the_value
returns-in_default c =
    sym (ap (λ v. ghost_text (the_value v)) c.shape.ensures.tree
    ∙ other-shape c.args.table.now c.shape.result c.in_default.not-FreeObject c.in_default.not-FreeNumber c.in_default.not-FreeTruth c.in_default.not-FreeSet c.in_default.not-ReadObject c.in_default.not-ReadNumber c.in_default.not-ReadTruth c.in_default.not-ReadSet)
