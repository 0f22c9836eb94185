use Rattle.std.specs.HashMap.{keys, values}
use Rattle.jh_arena.proofs.table.Tables.{differ, known}
use Rattle.jh_arena.proofs.table.listing.Arena.nodes_differ.Goals as goal

pub returns-clause-different : goal.returns-clause-different
returns-clause-different c = differ (record { names = c.self.inside.names.keys; marks = c.self.inside.marks.keys; lists = c.self.inside.lists.keys }) (keys c.self.inside.nodes) (values c.self.inside.nodes) c.args.self.now c.self.view_is c.self.invariant (record { names = c.len-names.ensures.unique; marks = c.len-marks.ensures.unique; lists = c.len-lists.ensures.unique; shapes = c.len-count.ensures.unique })

pub returns-clause-known : goal.returns-clause-known
returns-clause-known c = known (record { names = c.self.inside.names.keys; marks = c.self.inside.marks.keys; lists = c.self.inside.lists.keys }) (keys c.self.inside.nodes) (values c.self.inside.nodes) c.args.self.now c.self.view_is c.self.invariant (record { names = c.len-names.ensures.unique; marks = c.len-marks.ensures.unique; lists = c.len-lists.ensures.unique; shapes = c.len-count.ensures.unique })
