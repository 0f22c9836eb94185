use Rattle.std.proofs.Common.{ap, ◌∙◌, [], ◌∷◌, Some}
use Rattle.jh_form.specs.Tree.{FormulaTree, ValueTree, of_truth, of_object, of_field}
use Rattle.jh_form.specs.Tree as t
use Rattle.jh_arena.specs.table.Nodes.{nodes}
use Rattle.jh_arena.proofs.table.NodeSteps.{tree-False}
use Rattle.jh_derivation_rules.specs.Rules.{rule_of}
use Rattle.jh_derivation_steps.specs.declared.premises.nodes.Nodes.TheVariants as n
use Rattle.jh_derivation_steps.proofs.premises.Ruling.{one-is, closes}
use Rattle.jh_derivation_steps.proofs.premises.rules.absurdity.Goals as goal

pub returns-clause-rule : goal.returns-clause-rule
unfolding rule_of
returns-clause-rule c =
    let t0 = c.args.table.now in
    let t1 = c.make.new.self in
    closes (nodes t1) (n.One c.in_ok-falsehood.falsehood) (t.false_formula ∷ []) (one-is (nodes t1) c.in_ok-falsehood.falsehood t.false_formula (c.in_ok-falsehood.ensures.node ∙ ap Some (tree-False t0.pools (nodes t0))))
