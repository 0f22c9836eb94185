use Rattle.jh_arena.specs.table.Nodes.{nodes, tree_in}
use Rattle.jh_substitution.proofs.rewriting.Sorted.{stays-rewritten}
use Rattle.jh_fca.specs.local_form.Named.{naming}
use Rattle.jh_local_form.specs.updates.Updating.{values_in}
use Rattle.jh_local_form.proofs.updates.Renamed.{leaf-stays}
use Rattle.jh_local_form.proofs.updates.renaming.NamingLeafRules.leaf.Goals as goal

pub returns-clause-node : goal.returns-clause-node
returns-clause-node c =
    let t = c.args._table.now in
    let us = values_in (nodes t) c.args.self.now.updates in
    stays-rewritten (nodes t) (naming us c.args.self.now.first) c.args.node c.args._depth (tree_in t c.args._shape) c.requires.there (leaf-stays us c.args.self.now.first t.pools (nodes t) c.args._depth c.args._shape c.requires.leaf)
