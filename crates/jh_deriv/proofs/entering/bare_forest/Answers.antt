use Rattle.jh_deriv.proofs.Bares.{bare-are, bare-forest}
use Rattle.jh_deriv.proofs.Operands.{if-ok}
use Rattle.jh_deriv.proofs.entering.bare_forest.Goals as goal

pub forest-requires : goal.forest-requires
forest-requires c = bare-are c.bare_fields.new.table c.in_ok-nodes.nodes.items c.as_slice.result.now c.args.fields.now c.in_ok-nodes.ensures.nodes c.as_slice.ensures.value

pub returns-clause-node : goal.returns-clause-node
returns-clause-node c =
    if-ok c.forest.result
    (λ made is. bare-forest c.bare_fields.new.table c.forest.new.table c.in_ok-nodes.nodes.items c.as_slice.result.now c.args.fields.now made c.in_ok-nodes.ensures.nodes c.as_slice.ensures.value is)
    c.forest.ensures.node
