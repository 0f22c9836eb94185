use Rattle.std.proofs.Common.{◌∙◌, [], ◌∷◌, Some}
use Rattle.jh_form.specs.Tree.{of_truth}
use Rattle.jh_arena.specs.table.Entries.{the_truth}
use Rattle.jh_arena.specs.table.Nodes.{nodes}
use Rattle.jh_derivation_rules.specs.Rules.{rule_of, rule_from}
use Rattle.jh_derivation_steps.specs.premises.Nodes.{formula_at}
use Rattle.jh_derivation_steps.proofs.premises.Carried.{keeps, is-formula}
use Rattle.jh_derivation_steps.proofs.premises.rules.replacing.Goals as goal

pub returns-clause-rule : goal.returns-clause-rule
unfolding rule_of the_truth
returns-clause-rule c =
    let t0 = c.args.table.now in
    let t1 = c.equation.new.table in
    let f = formula_at (nodes t0) c.args.fact in
    let g = formula_at (nodes t0) c.args.made in
    let fact = keeps t0 t1 c.equation.ensures.grows c.args.fact (of_truth f) c.requires.fact in
    let made = keeps t0 t1 c.equation.ensures.grows c.args.made (of_truth g) c.requires.made in (
      c.from_fact.ensures.rule (nodes t1) ∙ (λ i. rule_from (c.in_ok-given.ensures.made.0 i) (the_truth (fact i) ∷ []) (Some (the_truth (made i)))),
      c.from_fact.ensures.there (nodes t1) c.in_ok-given.ensures.made.1 (is-formula (nodes t1) c.args.fact f fact) (is-formula (nodes t1) c.args.made g made),
    )
