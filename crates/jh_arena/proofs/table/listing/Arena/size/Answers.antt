use Rattle.std.specs.HashMap.{keys, values}
use Rattle.jh_arena.proofs.table.Tables.{seen, size-is}
use Rattle.jh_arena.proofs.table.listing.Arena.size.Goals as goal

pub returns : goal.returns
returns c = size-is c.args.self.now (values c.self.inside.nodes) (seen (record { names = c.self.inside.names.keys; marks = c.self.inside.marks.keys; lists = c.self.inside.lists.keys }) (keys c.self.inside.nodes) (values c.self.inside.nodes) c.args.self.now c.self.view_is c.self.invariant) c.args.node c.index.result.now c.index.ensures
