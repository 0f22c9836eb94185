-- Written by tools/enter.py.
use Rattle.jh_form.specs.Tree.{of_field}
use Rattle.jh_form.specs.Bare.{field_tree}
use Rattle.jh_import.proofs.entering.Keeping.{kept-parts}
use Rattle.jh_import.proofs.entering.guarded.enter_field.Goals as goal

pub returns-clause-kept : goal.returns-clause-kept
returns-clause-kept c =
    kept-parts c.args.table.now c.enter_field-node.new.table (of_field (field_tree c.args.field.now)) c.parts_come_first.ensures c.enter_field-node.ensures.grows c.nodes_differ.ensures.different c.enter_field-node.ensures.only
