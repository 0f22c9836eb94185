use Rattle.std.proofs.Common.{slice_get}
use Rattle.jh_arena.specs.table.Nodes.{nodes}
use Rattle.jh_local_form.proofs.updates.Askings.{field-inside}
use Rattle.jh_local_form.proofs.field_lists.Tested.{free-of, else-free}
use Rattle.jh_local_form.proofs.field_lists.testing.is_name.Goals as goal

pub returns-in-FreeField : goal.returns-in-FreeField
returns-in-FreeField c = free-of c.args.table.now.pools (nodes c.args.table.now) (slice_get (nodes c.args.table.now) c.args.field) c.shape.result c.in-FreeField.field-0 c.shape.ensures.tree c.in-FreeField.is

pub returns-in_default : goal.returns-in_default
returns-in_default c = else-free c.args.table.now.pools (nodes c.args.table.now) (slice_get (nodes c.args.table.now) c.args.field) c.shape.result c.shape.ensures.tree c.in_default.not-FreeField c.requires

pub shape-requires : goal.shape-requires
shape-requires c = field-inside (nodes c.args.table.now) c.args.field c.requires
