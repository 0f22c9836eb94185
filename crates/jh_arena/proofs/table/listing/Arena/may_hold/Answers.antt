use Rattle.std.proofs.Common.{ap, slice_get}
use Rattle.std.specs.HashMap.{keys, values}
use Rattle.jh_arena.proofs.table.Tables.{seen, facts-of}
use Rattle.jh_arena.proofs.table.Faces.{none-held, bit-unset, only-one}
use Rattle.jh_arena.specs.table.Entries.{the_value}
use Rattle.jh_arena.specs.table.Nodes.{nodes}
use Rattle.jh_arena.proofs.table.listing.Arena.may_hold.Goals as goal

pub returns : goal.returns
returns c = λ unset x at.
    let are = facts-of c.args.self.now (values c.self.inside.nodes) (seen (record { names = c.self.inside.names.keys; marks = c.self.inside.marks.keys; lists = c.self.inside.lists.keys }) (keys c.self.inside.nodes) (values c.self.inside.nodes) c.args.self.now c.self.view_is c.self.invariant) c.args.node c.index.result.now c.index.ensures in
    none-held c.args.self.now.pools.names c.index.result.now.names c.args.number x (the_value (slice_get (nodes c.args.self.now) c.args.node))
    (only-one c.self.inside.names.keys c.args.self.now.pools.names c.args.number x c.len-names.ensures.unique (ap (λ t. t.pools.names) c.self.view_is) at)
    (bit-unset c.has_bit.result c.index.result.now.names c.args.number unset c.has_bit.ensures) are.names
