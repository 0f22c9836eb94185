use Rattle.std.proofs.Common.{◌∙◌, [], ◌∷◌}
use Rattle.jh_form.specs.Tree.{of_truth}
use Rattle.jh_arena.specs.table.Entries.{the_truth}
use Rattle.jh_arena.specs.table.Nodes.{nodes}
use Rattle.jh_derivation_rules.specs.Rules.{rule_of, rule_adds, is_closed_step}
use Rattle.jh_derivation_steps.specs.premises.Nodes.{formula_at, formulas_at, AreFormulas}
use Rattle.jh_derivation_steps.proofs.premises.Carried.{keeps, is-formula}
use Rattle.jh_derivation_steps.proofs.premises.rules.relation.Goals as goal

pub fact_opened-requires-clause-closed : goal.fact_opened-requires-clause-closed
unfolding is_closed_step
fact_opened-requires-clause-closed c = c.requires.closed

pub returns-clause-rule : goal.returns-clause-rule
unfolding rule_of formulas_at the_truth AreFormulas
returns-clause-rule c =
    let t0 = c.args.table.now in
    let t1 = c.fact_opened.new.table in
    let f = formula_at (nodes t0) c.args.node in
    let node = keeps t0 t1 c.fact_opened.ensures.grows c.args.node (of_truth f) c.requires.node in
    (c.adding.ensures.rule (nodes t1) ∙ (λ i. rule_adds (the_truth (node i) ∷ []) (c.in_ok-made.ensures.made.0 i)), c.adding.ensures.there (nodes t1) (is-formula (nodes t1) c.args.node f node) c.in_ok-made.ensures.made.1)
