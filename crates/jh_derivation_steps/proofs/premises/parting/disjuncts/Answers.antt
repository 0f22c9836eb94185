use Rattle.std.proofs.Common.{refl, sym, ◌∙◌, [], ◌∷◌, slice_get}
use Rattle.jh_form.specs.Tree.{FormulaTree, ValueTree, of_truth, of_object, of_field}
use Rattle.jh_form.specs.Tree as t
use Rattle.jh_arena.specs.table.Entries.{the_truth}
use Rattle.jh_arena.specs.table.Nodes.{nodes, shape_tree}
use Rattle.jh_arena.specs.declared.table.shapes.Shape.TheVariants as s
use Rattle.jh_arena.proofs.table.PartSteps.{part-Or-a, part-Or-b}
use Rattle.jh_arena.proofs.table.Children.{it-is-truth}
use Rattle.jh_derivation_rules.specs.Rules.{disjunction_rule}
use Rattle.jh_derivation_steps.specs.declared.premises.nodes.Nodes.TheVariants as n
use Rattle.jh_derivation_steps.specs.premises.Nodes.{formula_at, option_rule, IsRule}
use Rattle.jh_derivation_steps.proofs.premises.Shaping.{fits-at, tree-at, formula-at}
use Rattle.jh_derivation_steps.proofs.premises.Ruling.{one-is, splits}
use Rattle.jh_derivation_steps.proofs.premises.Forms.{disjunction-none}
use Rattle.jh_derivation_steps.proofs.premises.parting.disjuncts.Goals as goal

pub returns-in-Or-clause-rule : goal.returns-in-Or-clause-rule
unfolding disjunction_rule shape_tree the_truth
returns-in-Or-clause-rule c =
    let t0 = c.args.table.now in
    let a = formula_at (nodes t0) c.in-Or.left in
    let b = formula_at (nodes t0) c.in-Or.right in
    let fits = fits-at t0 c.shape.result (s.Or c.in-Or.left c.in-Or.right) c.shape.ensures.fits c.in-Or.is in
    let ha = it-is-truth (slice_get (nodes t0) c.in-Or.left) (part-Or-a t0.pools (nodes t0) c.in-Or.left c.in-Or.right fits) in
    let hb = it-is-truth (slice_get (nodes t0) c.in-Or.right) (part-Or-b t0.pools (nodes t0) c.in-Or.left c.in-Or.right fits) in
    let node = one-is (nodes t0) c.args.node (t.or a b) (tree-at t0 c.args.node c.shape.result (s.Or c.in-Or.left c.in-Or.right) c.shape.ensures.tree c.in-Or.is) in
    let made = splits (nodes t0) (n.One c.args.node) (n.One c.in-Or.left) (n.One c.in-Or.right) (t.or a b ∷ []) (a ∷ []) (b ∷ []) node (one-is (nodes t0) c.in-Or.left a ha) (one-is (nodes t0) c.in-Or.right b hb) in
    made.0 ∙ sym (formula-at disjunction_rule t0 c.args.node c.shape.result (s.Or c.in-Or.left c.in-Or.right) c.shape.ensures.tree c.in-Or.is)

pub returns-in-Or-clause-there : goal.returns-in-Or-clause-there
unfolding disjunction_rule shape_tree the_truth
returns-in-Or-clause-there c =
    let t0 = c.args.table.now in
    let a = formula_at (nodes t0) c.in-Or.left in
    let b = formula_at (nodes t0) c.in-Or.right in
    let fits = fits-at t0 c.shape.result (s.Or c.in-Or.left c.in-Or.right) c.shape.ensures.fits c.in-Or.is in
    let ha = it-is-truth (slice_get (nodes t0) c.in-Or.left) (part-Or-a t0.pools (nodes t0) c.in-Or.left c.in-Or.right fits) in
    let hb = it-is-truth (slice_get (nodes t0) c.in-Or.right) (part-Or-b t0.pools (nodes t0) c.in-Or.left c.in-Or.right fits) in
    let node = one-is (nodes t0) c.args.node (t.or a b) (tree-at t0 c.args.node c.shape.result (s.Or c.in-Or.left c.in-Or.right) c.shape.ensures.tree c.in-Or.is) in
    let made = splits (nodes t0) (n.One c.args.node) (n.One c.in-Or.left) (n.One c.in-Or.right) (t.or a b ∷ []) (a ∷ []) (b ∷ []) node (one-is (nodes t0) c.in-Or.left a ha) (one-is (nodes t0) c.in-Or.right b hb) in
    made.1

pub returns-in_default : goal.returns-in_default
unfolding option_rule IsRule
returns-in_default c =
    let t0 = c.args.table.now in
    record { rule = sym (formula-at disjunction_rule t0 c.args.node c.shape.result c.shape.result c.shape.ensures.tree refl ∙ disjunction-none t0.pools (nodes t0) c.shape.result c.in_default.not-Or); there = tt }
