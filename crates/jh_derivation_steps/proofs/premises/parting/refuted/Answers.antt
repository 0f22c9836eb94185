use Rattle.std.proofs.Common.{[], ◌∷◌}
use Rattle.jh_arena.specs.table.Nodes.{nodes}
use Rattle.jh_derivation_rules.specs.Rules.{rule_of}
use Rattle.jh_derivation_steps.specs.declared.premises.nodes.Nodes.TheVariants as n
use Rattle.jh_derivation_steps.specs.premises.Nodes.{formula_at}
use Rattle.jh_derivation_steps.proofs.premises.Ruling.{one-is, closes}
use Rattle.jh_derivation_steps.proofs.premises.parting.refuted.Goals as goal

pub returns-clause-rule : goal.returns-clause-rule
unfolding rule_of
returns-clause-rule c =
    let t0 = c.args.table.now in
    (closes (nodes t0) (n.One c.args.node) (formula_at (nodes t0) c.args.node ∷ []) (one-is (nodes t0) c.args.node (formula_at (nodes t0) c.args.node) c.requires.node)).0

pub returns-clause-there : goal.returns-clause-there
returns-clause-there c =
    let t0 = c.args.table.now in
    (closes (nodes t0) (n.One c.args.node) (formula_at (nodes t0) c.args.node ∷ []) (one-is (nodes t0) c.args.node (formula_at (nodes t0) c.args.node) c.requires.node)).1
