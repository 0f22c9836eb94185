-- Written by tools/enter.py.
use Rattle.jh_form.specs.Tree.{of_truth}
use Rattle.jh_form.specs.Bare.{formula_tree}
use Rattle.jh_import.proofs.entering.Keeping.{kept-parts}
use Rattle.jh_import.proofs.entering.guarded.enter_formula.Goals as goal

pub returns-clause-kept : goal.returns-clause-kept
returns-clause-kept c =
    kept-parts c.args.table.now c.enter_formula-node.new.table (of_truth (formula_tree c.args.formula.now)) c.parts_come_first.ensures c.enter_formula-node.ensures.grows c.nodes_differ.ensures.different c.enter_formula-node.ensures.only
