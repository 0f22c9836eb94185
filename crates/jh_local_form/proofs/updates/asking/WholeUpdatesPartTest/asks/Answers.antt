use Rattle.std.proofs.Common.{slice_get}
use Rattle.jh_arena.specs.table.Nodes.{nodes}
use Rattle.jh_local_form.proofs.updates.Askings.{whole-of, else-of}
use Rattle.jh_local_form.proofs.updates.asking.WholeUpdatesPartTest.asks.Goals as goal

pub returns-in-Update : goal.returns-in-Update
returns-in-Update c =
    whole-of c.args.table.now.pools (nodes c.args.table.now) (slice_get (nodes c.args.table.now) c.args.node) c.shape.result c.in-Update.field-0 c.in-Update.field-1 c.in-Update.field-2 c.is_closed.result c.shape.ensures.tree c.in-Update.is c.is_closed.ensures

pub returns-in_default : goal.returns-in_default
returns-in_default c = else-of c.args.table.now.pools (nodes c.args.table.now) (slice_get (nodes c.args.table.now) c.args.node) c.shape.result c.shape.ensures.tree c.in_default.not-Update
