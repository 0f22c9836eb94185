use Rattle.std.proofs.Common.{subst, ◌↔◌, IsTrue}
use Rattle.jh_form.specs.Tree.{ValueTree}
use Rattle.jh_form.specs.Bare.{formula_tree, value_tree}
use Rattle.jh_arena.specs.table.Nodes.{nodes}
use Rattle.jh_boxed_operations.specs.comparison.Exchanged.{Exchanged}
use Rattle.jh_derivation_steps.specs.premises.Nodes.{value_at}
use Rattle.jh_deriv.proofs.suiting.exchanged.Goals as goal

pub returns : goal.returns
returns c =
    let ts = nodes c.args.table.now in
    let a = formula_tree c.args.from.now in
    let b = formula_tree c.args.to.now in
    subst (λ (v : ValueTree). IsTrue c.replaces.result ↔ Exchanged a b (value_at ts c.args.old) v) c.in_ok-new.ensures.tree
    (subst (λ (v : ValueTree). IsTrue c.replaces.result ↔ Exchanged a b v (value_tree c.in_ok-new.new)) c.in_ok-old.ensures.tree c.replaces.ensures)
