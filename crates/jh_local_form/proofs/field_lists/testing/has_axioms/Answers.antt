use Rattle.jh_local_form.proofs.field_lists.Tested.{axioms-told, axioms-untold}
use Rattle.jh_local_form.proofs.field_lists.testing.has_axioms.Goals as goal

pub returns-then-is_short : goal.returns-then-is_short
returns-then-is_short c = λ fs are.
    axioms-told c.args.table.now c.nodes_differ.ensures.different c.args.fields.now fs c.is_short.result c.all_differ.result are c.is_short.ensures c.if-is_short.true c.all_differ.ensures

pub returns-else-is_short : goal.returns-else-is_short
returns-else-is_short c = λ fs are.
    axioms-untold c.args.table.now c.nodes_differ.ensures.different c.args.fields.now fs c.is_short.result are c.is_short.ensures c.if-is_short.false
