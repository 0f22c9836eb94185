use Rattle.std.proofs.Common.{refl, sym, ◌∙◌, [], ◌∷◌, slice_get}
use Rattle.jh_form.specs.Tree.{FormulaTree, ValueTree, of_truth, of_object, of_field}
use Rattle.jh_form.specs.Tree as t
use Rattle.jh_arena.specs.table.Entries.{the_truth}
use Rattle.jh_arena.specs.table.Nodes.{nodes, shape_tree}
use Rattle.jh_arena.specs.declared.table.shapes.Shape.TheVariants as s
use Rattle.jh_arena.proofs.table.PartSteps.{part-Implies-a, part-Implies-b}
use Rattle.jh_arena.proofs.table.Children.{it-is-truth}
use Rattle.jh_arena.proofs.table.Listed.{extends-refl}
use Rattle.jh_derivation_rules.specs.Rules.{implication_rule}
use Rattle.jh_derivation_steps.specs.declared.premises.nodes.Nodes.TheVariants as n
use Rattle.jh_derivation_steps.specs.premises.Nodes.{formula_at, option_rule, IsRule}
use Rattle.jh_derivation_steps.proofs.premises.Carried.{keeps}
use Rattle.jh_derivation_steps.proofs.premises.Shaping.{fits-at, tree-at, formula-at}
use Rattle.jh_derivation_steps.proofs.premises.Ruling.{one-is, splits}
use Rattle.jh_derivation_steps.proofs.premises.Forms.{implication-none}
use Rattle.jh_derivation_steps.proofs.premises.forming.implication.Goals as goal

pub negation-requires : goal.negation-requires
negation-requires c =
    let t0 = c.args.table.now in
    let a = formula_at (nodes t0) c.in-Implies.left in
    let b = formula_at (nodes t0) c.in-Implies.right in
    let fits = fits-at t0 c.shape.result (s.Implies c.in-Implies.left c.in-Implies.right) c.shape.ensures.fits c.in-Implies.is in
    let ha = it-is-truth (slice_get (nodes t0) c.in-Implies.left) (part-Implies-a t0.pools (nodes t0) c.in-Implies.left c.in-Implies.right fits) in
    let hb = it-is-truth (slice_get (nodes t0) c.in-Implies.right) (part-Implies-b t0.pools (nodes t0) c.in-Implies.left c.in-Implies.right fits) in
    record { a = ha }

pub returns-in_ok-left-in-Implies-clause-rule : goal.returns-in_ok-left-in-Implies-clause-rule
unfolding implication_rule shape_tree the_truth
returns-in_ok-left-in-Implies-clause-rule c =
    let t0 = c.args.table.now in
    let a = formula_at (nodes t0) c.in-Implies.left in
    let b = formula_at (nodes t0) c.in-Implies.right in
    let fits = fits-at t0 c.shape.result (s.Implies c.in-Implies.left c.in-Implies.right) c.shape.ensures.fits c.in-Implies.is in
    let ha = it-is-truth (slice_get (nodes t0) c.in-Implies.left) (part-Implies-a t0.pools (nodes t0) c.in-Implies.left c.in-Implies.right fits) in
    let hb = it-is-truth (slice_get (nodes t0) c.in-Implies.right) (part-Implies-b t0.pools (nodes t0) c.in-Implies.left c.in-Implies.right fits) in
    let t1 = c.negation.new.table in
    let node = keeps t0 t1 c.negation.ensures.grows c.args.node (of_truth (t.implies a b)) (tree-at t0 c.args.node c.shape.result (s.Implies c.in-Implies.left c.in-Implies.right) c.shape.ensures.tree c.in-Implies.is) in
    let made = splits (nodes t1) (n.One c.args.node) (n.One c.in_ok-left-in-Implies.left) (n.One c.in-Implies.right) (t.implies a b ∷ []) (t.negation a ∷ []) (b ∷ []) (one-is (nodes t1) c.args.node (t.implies a b) node)
    (one-is (nodes t1) c.in_ok-left-in-Implies.left (t.negation a) (c.in_ok-left-in-Implies.ensures.made a ha)) (one-is (nodes t1) c.in-Implies.right b (keeps t0 t1 c.negation.ensures.grows c.in-Implies.right (of_truth b) hb)) in
    (made.0 ∙ sym (formula-at implication_rule t0 c.args.node c.shape.result (s.Implies c.in-Implies.left c.in-Implies.right) c.shape.ensures.tree c.in-Implies.is), made.1)

pub returns-in_default : goal.returns-in_default
unfolding option_rule IsRule
returns-in_default c =
    let t0 = c.args.table.now in
    record { rule = (sym (formula-at implication_rule t0 c.args.node c.shape.result c.shape.result c.shape.ensures.tree refl ∙ implication-none t0.pools (nodes t0) c.shape.result c.in_default.not-Implies), tt); grows = extends-refl t0 }
