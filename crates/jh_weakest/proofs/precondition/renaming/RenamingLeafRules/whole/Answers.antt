use Rattle.std.proofs.Common.{slice_get}
use Rattle.jh_arena.specs.table.Entries.{the_name}
use Rattle.jh_arena.specs.table.Nodes.{nodes, tree_in}
use Rattle.jh_substitution.proofs.rewriting.Alone.{name-listed}
use Rattle.jh_weakest.proofs.precondition.Renames.{lacks-renamed}
use Rattle.jh_weakest.proofs.precondition.renaming.RenamingLeafRules.whole.Goals as goal

pub returns-else-may_hold-clause-node : goal.returns-else-may_hold-clause-node
returns-else-may_hold-clause-node c =
    let x = the_name (slice_get c.args.table.now.pools.names c.args.self.now.name) in
    lacks-renamed (nodes c.args.table.now) c.args.node c.args._depth x (the_name (slice_get c.args.table.now.pools.names c.args.self.now.with)) (tree_in c.args.table.now c.args._shape) c.requires.there
    (c.may_hold.ensures c.if-may_hold.false x (name-listed (slice_get c.args.table.now.pools.names c.args.self.now.name) c.requires.ready.named))
