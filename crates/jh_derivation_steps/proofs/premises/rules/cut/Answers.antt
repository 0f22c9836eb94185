use Rattle.std.proofs.Common.{[], ◌∷◌}
use Rattle.jh_form.specs.Tree.{FormulaTree, ValueTree, of_truth, of_object, of_field}
use Rattle.jh_form.specs.Tree as t
use Rattle.jh_arena.specs.table.Nodes.{nodes}
use Rattle.jh_derivation_rules.specs.Rules.{rule_of}
use Rattle.jh_derivation_steps.specs.declared.premises.nodes.Nodes.TheVariants as n
use Rattle.jh_derivation_steps.specs.premises.Nodes.{formula_at}
use Rattle.jh_derivation_steps.proofs.premises.Carried.{keeps}
use Rattle.jh_derivation_steps.proofs.premises.Ruling.{one-is, none-are, splits}
use Rattle.jh_derivation_steps.proofs.premises.rules.cut.Goals as goal

pub returns-clause-rule : goal.returns-clause-rule
unfolding rule_of
returns-clause-rule c =
    let t0 = c.args.table.now in
    let f = formula_at (nodes t0) c.args.node in
    let t1 = c.negation.new.table in
    let negated = c.in_ok-negated.ensures.made f c.requires.node in
    let node = keeps t0 t1 c.negation.ensures.grows c.args.node (of_truth f) c.requires.node in
    splits (nodes t1) n.Nothing (n.One c.args.node) (n.One c.in_ok-negated.negated) [] (f ∷ []) (t.negation f ∷ []) (none-are (nodes t1)) (one-is (nodes t1) c.args.node f node) (one-is (nodes t1) c.in_ok-negated.negated (t.negation f) negated)
