use Rattle.std.proofs.Common.{ap}
use Rattle.std.specs.HashMap.{keys, values}
use Rattle.jh_arena.proofs.table.Named.{number-named, nowhere-named}
use Rattle.jh_arena.proofs.table.Tables.{seen}
use Rattle.jh_arena.proofs.table.listing.Arena.number_of.Goals as goal

pub returns-clause-number : goal.returns-clause-number
returns-clause-number c = number-named c.self.inside.names.keys c.args.self.now.pools.names c.args.name.now c.get_index_of.result (ap (λ t. t.pools.names) c.self.view_is) c.get_index_of.ensures.index

pub returns-clause-nowhere : goal.returns-clause-nowhere
returns-clause-nowhere c = nowhere-named c.args.self.now (values c.self.inside.nodes) c.self.inside.names.keys c.args.name.now c.get_index_of.result (seen (record { names = c.self.inside.names.keys; marks = c.self.inside.marks.keys; lists = c.self.inside.lists.keys }) (keys c.self.inside.nodes) (values c.self.inside.nodes) c.args.self.now c.self.view_is c.self.invariant) (ap (λ t. t.pools.names) c.self.view_is) c.get_index_of.ensures.index
