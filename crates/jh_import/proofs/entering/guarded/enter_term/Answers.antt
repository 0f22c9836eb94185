-- Written by tools/enter.py.
use Rattle.jh_form.specs.Tree.{of_object}
use Rattle.jh_form.specs.Bare.{term_tree}
use Rattle.jh_import.proofs.entering.Keeping.{kept-parts}
use Rattle.jh_import.proofs.entering.guarded.enter_term.Goals as goal

pub returns-clause-kept : goal.returns-clause-kept
returns-clause-kept c =
    kept-parts c.args.table.now c.enter_term-node.new.table (of_object (term_tree c.args.term.now)) c.parts_come_first.ensures c.enter_term-node.ensures.grows c.nodes_differ.ensures.different c.enter_term-node.ensures.only
