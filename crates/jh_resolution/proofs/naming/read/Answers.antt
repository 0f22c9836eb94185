use Rattle.jh_arena.specs.table.Nodes.{nodes}
use Rattle.jh_arena.proofs.table.NodeSteps.{fits-ReadObject, fits-ReadNumber, fits-ReadTruth, fits-ReadSet}
use Rattle.jh_resolution.proofs.NameSteps.{object-on}
use Rattle.jh_resolution.proofs.naming.read.Goals as goal

pub make-requires : goal.make-requires
make-requires c = fits-ReadObject c.field.new.table.pools (nodes c.field.new.table) c.in_ok-field.field c.args.receiver _ _ c.in_ok-field.ensures.node (object-on c.args.table.now c.field.new.table c.args.receiver c.in_ok-field.ensures.grows c.requires)

pub make-requires-in-Int : goal.make-requires-in-Int
make-requires-in-Int c = fits-ReadNumber c.field.new.table.pools (nodes c.field.new.table) c.in_ok-field.field c.args.receiver _ _ c.in_ok-field.ensures.node (object-on c.args.table.now c.field.new.table c.args.receiver c.in_ok-field.ensures.grows c.requires)

pub make-requires-in-Bool : goal.make-requires-in-Bool
make-requires-in-Bool c = fits-ReadTruth c.field.new.table.pools (nodes c.field.new.table) c.in_ok-field.field c.args.receiver _ _ c.in_ok-field.ensures.node (object-on c.args.table.now c.field.new.table c.args.receiver c.in_ok-field.ensures.grows c.requires)

pub make-requires-in-Set : goal.make-requires-in-Set
make-requires-in-Set c = fits-ReadSet c.field.new.table.pools (nodes c.field.new.table) c.in_ok-field.field c.args.receiver _ _ c.in_ok-field.ensures.node (object-on c.args.table.now c.field.new.table c.args.receiver c.in_ok-field.ensures.grows c.requires)
