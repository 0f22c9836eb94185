-- Written by tools/enter.py.
use Rattle.jh_form.specs.Tree.{of_set}
use Rattle.jh_form.specs.Bare.{set_tree}
use Rattle.jh_import.proofs.entering.Keeping.{kept-parts}
use Rattle.jh_import.proofs.entering.guarded.enter_set.Goals as goal

pub returns-clause-kept : goal.returns-clause-kept
returns-clause-kept c =
    kept-parts c.args.table.now c.enter_set-node.new.table (of_set (set_tree c.args.term.now)) c.parts_come_first.ensures c.enter_set-node.ensures.grows c.nodes_differ.ensures.different c.enter_set-node.ensures.only
