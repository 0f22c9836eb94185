use Rattle.jh_arena.specs.table.Nodes.{nodes}
use Rattle.jh_query_names.proofs.visible_part.Standing.{truth-inside, shown-before}
use Rattle.jh_query_names.proofs.visible_part.showing.shown.Goals as goal

pub is_shallow-requires : goal.is_shallow-requires
is_shallow-requires c = truth-inside (nodes c.args.table.now) c.args.formula c.requires.formula

pub returns-clause-tree : goal.returns-clause-tree
returns-clause-tree c =
    (shown-before c.args.table.now c.shown_of.new.table (record { node = c.args.formula; positive = c.args.positive }) c.in_ok-made.made c.shown_of.ensures.grows c.requires.formula c.in_ok-made.ensures.shown).node
