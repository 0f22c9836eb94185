use Rattle.std.proofs.Common.{refl, sym, ◌∙◌, [], ◌∷◌, slice_get}
use Rattle.jh_form.specs.Tree.{FormulaTree, ValueTree, of_truth, of_object, of_field}
use Rattle.jh_form.specs.Tree as t
use Rattle.jh_arena.specs.table.Entries.{the_truth}
use Rattle.jh_arena.specs.table.Nodes.{nodes, shape_tree}
use Rattle.jh_arena.specs.declared.table.shapes.Shape.TheVariants as s
use Rattle.jh_arena.proofs.table.PartSteps.{part-Negation-a}
use Rattle.jh_arena.proofs.table.Children.{it-is-truth}
use Rattle.jh_arena.proofs.table.Listed.{extends-refl}
use Rattle.jh_derivation_rules.specs.Rules.{rule_adds, negation_rule}
use Rattle.jh_derivation_steps.specs.premises.Nodes.{formula_at, formulas_at, option_rule, IsRule, AreFormulas}
use Rattle.jh_derivation_steps.proofs.premises.Carried.{keeps, is-formula}
use Rattle.jh_derivation_steps.proofs.premises.Shaping.{fits-at, tree-at, formula-at}
use Rattle.jh_derivation_steps.proofs.premises.Forms.{negation-none}
use Rattle.jh_derivation_steps.proofs.premises.forming.inward.Goals as goal

pub pushed-requires : goal.pushed-requires
pushed-requires c =
    let t0 = c.args.table.now in
    let a = formula_at (nodes t0) c.in-Negation.inside in
    let fits = fits-at t0 c.shape.result (s.Negation c.in-Negation.inside) c.shape.ensures.fits c.in-Negation.is in
    let ha = it-is-truth (slice_get (nodes t0) c.in-Negation.inside) (part-Negation-a t0.pools (nodes t0) c.in-Negation.inside fits) in
    record { node = ha }

pub returns-in_ok-made-in-Negation-clause-rule : goal.returns-in_ok-made-in-Negation-clause-rule
unfolding negation_rule shape_tree the_truth formulas_at AreFormulas
returns-in_ok-made-in-Negation-clause-rule c =
    let t0 = c.args.table.now in
    let a = formula_at (nodes t0) c.in-Negation.inside in
    let t1 = c.pushed.new.table in
    let node = keeps t0 t1 c.pushed.ensures.grows c.args.node (of_truth (t.negation a)) (tree-at t0 c.args.node c.shape.result (s.Negation c.in-Negation.inside) c.shape.ensures.tree c.in-Negation.is) in (
      c.adding.ensures.rule (nodes t1) ∙ (λ i. rule_adds (the_truth (node i) ∷ []) (c.in_ok-made-in-Negation.ensures.made.0 i)) ∙ sym (formula-at negation_rule t0 c.args.node c.shape.result (s.Negation c.in-Negation.inside) c.shape.ensures.tree c.in-Negation.is),
      c.adding.ensures.there (nodes t1) (is-formula (nodes t1) c.args.node (t.negation a) node) c.in_ok-made-in-Negation.ensures.made.1,
    )

pub returns-in_default : goal.returns-in_default
unfolding option_rule IsRule
returns-in_default c =
    let t0 = c.args.table.now in
    record { rule = (sym (formula-at negation_rule t0 c.args.node c.shape.result c.shape.result c.shape.ensures.tree refl ∙ negation-none t0.pools (nodes t0) c.shape.result c.in_default.not-Negation), tt); grows = extends-refl t0 }
