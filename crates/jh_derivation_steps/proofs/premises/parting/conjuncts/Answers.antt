use Rattle.std.proofs.Common.{refl, sym, ◌∙◌, [], ◌∷◌, slice_get}
use Rattle.jh_form.specs.Tree.{FormulaTree, ValueTree, of_truth, of_object, of_field}
use Rattle.jh_form.specs.Tree as t
use Rattle.jh_arena.specs.table.Entries.{the_truth}
use Rattle.jh_arena.specs.table.Nodes.{nodes, shape_tree}
use Rattle.jh_arena.specs.declared.table.shapes.Shape.TheVariants as s
use Rattle.jh_arena.proofs.table.PartSteps.{part-And-a, part-And-b}
use Rattle.jh_arena.proofs.table.Children.{it-is-truth}
use Rattle.jh_derivation_rules.specs.Rules.{conjunction_rule}
use Rattle.jh_derivation_steps.specs.declared.premises.nodes.Nodes.TheVariants as n
use Rattle.jh_derivation_steps.specs.premises.Nodes.{formula_at, option_rule, IsRule}
use Rattle.jh_derivation_steps.proofs.premises.Shaping.{fits-at, tree-at, formula-at}
use Rattle.jh_derivation_steps.proofs.premises.Ruling.{one-is, two-are, goes}
use Rattle.jh_derivation_steps.proofs.premises.Forms.{conjunction-none}
use Rattle.jh_derivation_steps.proofs.premises.parting.conjuncts.Goals as goal

pub returns-in-And-clause-rule : goal.returns-in-And-clause-rule
unfolding conjunction_rule shape_tree the_truth
returns-in-And-clause-rule c =
    let t0 = c.args.table.now in
    let a = formula_at (nodes t0) c.in-And.left in
    let b = formula_at (nodes t0) c.in-And.right in
    let fits = fits-at t0 c.shape.result (s.And c.in-And.left c.in-And.right) c.shape.ensures.fits c.in-And.is in
    let ha = it-is-truth (slice_get (nodes t0) c.in-And.left) (part-And-a t0.pools (nodes t0) c.in-And.left c.in-And.right fits) in
    let hb = it-is-truth (slice_get (nodes t0) c.in-And.right) (part-And-b t0.pools (nodes t0) c.in-And.left c.in-And.right fits) in
    let node = one-is (nodes t0) c.args.node (t.and a b) (tree-at t0 c.args.node c.shape.result (s.And c.in-And.left c.in-And.right) c.shape.ensures.tree c.in-And.is) in
    let made = goes (nodes t0) (n.One c.args.node) (n.Two c.in-And.left c.in-And.right) (t.and a b ∷ []) (a ∷ b ∷ []) node (two-are (nodes t0) c.in-And.left c.in-And.right a b ha hb) in
    made.0 ∙ sym (formula-at conjunction_rule t0 c.args.node c.shape.result (s.And c.in-And.left c.in-And.right) c.shape.ensures.tree c.in-And.is)

pub returns-in-And-clause-there : goal.returns-in-And-clause-there
unfolding conjunction_rule shape_tree the_truth
returns-in-And-clause-there c =
    let t0 = c.args.table.now in
    let a = formula_at (nodes t0) c.in-And.left in
    let b = formula_at (nodes t0) c.in-And.right in
    let fits = fits-at t0 c.shape.result (s.And c.in-And.left c.in-And.right) c.shape.ensures.fits c.in-And.is in
    let ha = it-is-truth (slice_get (nodes t0) c.in-And.left) (part-And-a t0.pools (nodes t0) c.in-And.left c.in-And.right fits) in
    let hb = it-is-truth (slice_get (nodes t0) c.in-And.right) (part-And-b t0.pools (nodes t0) c.in-And.left c.in-And.right fits) in
    let node = one-is (nodes t0) c.args.node (t.and a b) (tree-at t0 c.args.node c.shape.result (s.And c.in-And.left c.in-And.right) c.shape.ensures.tree c.in-And.is) in
    let made = goes (nodes t0) (n.One c.args.node) (n.Two c.in-And.left c.in-And.right) (t.and a b ∷ []) (a ∷ b ∷ []) node (two-are (nodes t0) c.in-And.left c.in-And.right a b ha hb) in
    made.1

pub returns-in_default : goal.returns-in_default
unfolding option_rule IsRule
returns-in_default c =
    let t0 = c.args.table.now in
    record { rule = sym (formula-at conjunction_rule t0 c.args.node c.shape.result c.shape.result c.shape.ensures.tree refl ∙ conjunction-none t0.pools (nodes t0) c.shape.result c.in_default.not-And); there = tt }
