use Rattle.jh_arena.specs.table.Nodes.{nodes, tree_in}
use Rattle.jh_arena.proofs.table.Listed.{extends-refl}
use Rattle.jh_substitution.proofs.rewriting.Sorted.{whole-rewritten}
use Rattle.jh_fca.specs.local_form.Named.{naming}
use Rattle.jh_local_form.specs.updates.Updating.{values_in}
use Rattle.jh_local_form.proofs.updates.Renamed.{whole-called, whole-uncalled, name-within}
use Rattle.jh_local_form.proofs.updates.renaming.NamingLeafRules.whole.Goals as goal

pub name_at-requires : goal.name_at-requires
name_at-requires c =
    name-within c.args.table.now c.args.self.now c.requires.ready.0 c.requires.ready.1 c.in-Some.place c.args.node c.in-Some.ensures.found

pub returns-in-Some-clause-node : goal.returns-in-Some-clause-node
returns-in-Some-clause-node c =
    let t = c.args.table.now in
    whole-rewritten t t (naming (values_in (nodes t) c.args.self.now.updates) c.args.self.now.first) c.args.node c.args._depth c.name_at.result c.args._shape (extends-refl t) c.requires.inner c.requires.there
    (whole-called t c.args.self.now c.requires.ready.0 c.requires.ready.1 c.in-Some.place c.args.node c.name_at.result c.args._depth c.in-Some.ensures.found c.name_at.ensures)

pub returns-in-None-clause-node : goal.returns-in-None-clause-node
returns-in-None-clause-node c =
    let t = c.args.table.now in
    whole-uncalled t c.args.self.now c.requires.ready.0 c.requires.ready.1 c.args.node (tree_in t c.args._shape) c.nodes_differ.ensures.different c.requires.there (c.place_of.ensures.missed c.in-None.is)
