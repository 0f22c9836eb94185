use Rattle.std.proofs.Common.{sym, ap, ◌∙◌, slice_get}
use Rattle.jh_arena.specs.table.Entries.{is_field}
use Rattle.jh_arena.specs.table.Nodes.{nodes, fits_in}
use Rattle.jh_arena.proofs.table.PartSteps.{part-Update-a}
use Rattle.jh_local_form.proofs.updates.Askings.{field-else, text-inner, first-below, field-inside}
use Rattle.jh_local_form.proofs.updates.naming.inner_of.Goals as goal

pub returns-in-Update : goal.returns-in-Update
returns-in-Update c =
    let v = c.args.table.now in (
      first-below c.args.field v.pools.lists c.shape.result c.in-Update.inner c.in-Update.field-1 c.in-Update.field-2 c.in-Update.is c.shape.ensures.below,
      part-Update-a v.pools (nodes v) c.in-Update.inner c.in-Update.field-1 c.in-Update.field-2 (ap (fits_in v) (sym c.in-Update.is) ∙ c.shape.ensures.fits),
      text-inner v.pools (nodes v) (slice_get (nodes v) c.args.field) c.shape.result c.in-Update.inner c.in-Update.field-1 c.in-Update.field-2 c.shape.ensures.tree c.in-Update.is,
    )

pub returns-in_default : goal.returns-in_default
returns-in_default c =
    let v = c.args.table.now in
    let r = field-else v.pools (nodes v) c.shape.result c.in_default.not-Update (ap is_field (sym c.shape.ensures.tree) ∙ c.requires) in
    (r.0, c.shape.ensures.tree ∙ r.1)

pub shape-requires : goal.shape-requires
shape-requires c = field-inside (nodes c.args.table.now) c.args.field c.requires
