use Rattle.std.specs.HashMap.{keys, values}
use Rattle.jh_arena.proofs.table.Tables.{seen, parts-first}
use Rattle.jh_arena.proofs.table.listing.Arena.parts_come_first.Goals as goal

pub returns : goal.returns
returns c = parts-first c.args.self.now (values c.self.inside.nodes) (seen (record { names = c.self.inside.names.keys; marks = c.self.inside.marks.keys; lists = c.self.inside.lists.keys }) (keys c.self.inside.nodes) (values c.self.inside.nodes) c.args.self.now c.self.view_is c.self.invariant)
