use Rattle.std.proofs.Common.{refl, sym, ap, ◌∙◌, slice_get}
use Rattle.std.proofs.lemmas.Bool.{true≢false}
use Rattle.jh_arena.specs.table.Nodes.{nodes, fits_in}
use Rattle.jh_arena.proofs.table.Below.{inside}
use Rattle.jh_arena.proofs.table.PartSteps.{part-FreeField-n}
use Rattle.jh_local_form.proofs.updates.Askings.{name-tree, name-else, text-name}
use Rattle.jh_local_form.proofs.updates.naming.name_under.Goals as goal

pub loop-inner-init : goal.loop-inner-init
loop-inner-init c = record { is = c.requires; text = refl }

pub name_at-requires : goal.name_at-requires
name_at-requires c =
    let v = c.args.table.now in
    inside v.pools.names c.in-FreeField.number (part-FreeField-n v.pools (nodes v) c.in-FreeField.number (ap (fits_in v) (sym c.in-FreeField.is) ∙ c.shape.ensures.fits))

pub unreachable-requires : goal.unreachable-requires
unreachable-requires c =
    let v = c.args.table.now in
    let r = c.in_default.ensures in
    true≢false (sym (name-tree (slice_get (nodes v) c.loop-inner.under) v.pools (nodes v) c.shape.result r.0 r.1 c.shape.ensures.tree) ∙ name-else v.pools (nodes v) c.shape.result c.in_default-shape.not-FreeField)

pub returns : goal.returns
returns c =
    let v = c.args.table.now in
    sym (c.loop-inner.invariant.text ∙ text-name v.pools (nodes v) (slice_get (nodes v) c.loop-inner.under) c.shape.result c.in-FreeField.number c.name_at.result.now c.shape.ensures.tree c.in-FreeField.is c.name_at.ensures)
