use Rattle.std.proofs.Common.{refl, sym, ◌∙◌, [], ◌∷◌, slice_get}
use Rattle.jh_form.specs.Tree.{FormulaTree, ValueTree, of_truth, of_object, of_field}
use Rattle.jh_form.specs.Tree as t
use Rattle.jh_arena.specs.table.Entries.{the_truth}
use Rattle.jh_arena.specs.table.Nodes.{nodes, shape_tree}
use Rattle.jh_arena.specs.declared.table.shapes.Shape.TheVariants as s
use Rattle.jh_arena.proofs.table.PartSteps.{part-Iff-a, part-Iff-b}
use Rattle.jh_arena.proofs.table.Children.{it-is-truth}
use Rattle.jh_arena.proofs.table.Listed.{extends-refl}
use Rattle.jh_derivation_rules.specs.Rules.{equivalence_rule}
use Rattle.jh_derivation_steps.specs.declared.premises.nodes.Nodes.TheVariants as n
use Rattle.jh_derivation_steps.specs.premises.Nodes.{formula_at, option_rule, IsRule}
use Rattle.jh_derivation_steps.proofs.premises.Carried.{keeps, is-formula}
use Rattle.jh_derivation_steps.proofs.premises.Shaping.{fits-at, tree-at, formula-at}
use Rattle.jh_derivation_steps.proofs.premises.Ruling.{one-is, two-are, splits}
use Rattle.jh_derivation_steps.proofs.premises.Forms.{equivalence-none}
use Rattle.jh_derivation_steps.proofs.premises.forming.equivalence.Goals as goal

pub negation-requires : goal.negation-requires
negation-requires c =
    let t0 = c.args.table.now in
    let a = formula_at (nodes t0) c.in-Iff.left in
    let b = formula_at (nodes t0) c.in-Iff.right in
    let fits = fits-at t0 c.shape.result (s.Iff c.in-Iff.left c.in-Iff.right) c.shape.ensures.fits c.in-Iff.is in
    let ha = it-is-truth (slice_get (nodes t0) c.in-Iff.left) (part-Iff-a t0.pools (nodes t0) c.in-Iff.left c.in-Iff.right fits) in
    let hb = it-is-truth (slice_get (nodes t0) c.in-Iff.right) (part-Iff-b t0.pools (nodes t0) c.in-Iff.left c.in-Iff.right fits) in
    record { a = ha }

pub negation-requires-in-Iff : goal.negation-requires-in-Iff
negation-requires-in-Iff c =
    let t0 = c.args.table.now in
    let a = formula_at (nodes t0) c.in-Iff.left in
    let b = formula_at (nodes t0) c.in-Iff.right in
    let fits = fits-at t0 c.shape.result (s.Iff c.in-Iff.left c.in-Iff.right) c.shape.ensures.fits c.in-Iff.is in
    let ha = it-is-truth (slice_get (nodes t0) c.in-Iff.left) (part-Iff-a t0.pools (nodes t0) c.in-Iff.left c.in-Iff.right fits) in
    let hb = it-is-truth (slice_get (nodes t0) c.in-Iff.right) (part-Iff-b t0.pools (nodes t0) c.in-Iff.left c.in-Iff.right fits) in
    let t1 = c.negation.new.table in
    record { a = is-formula (nodes t1) c.in-Iff.right b (keeps t0 t1 c.negation.ensures.grows c.in-Iff.right (of_truth b) hb) }

pub returns-in_ok-not_right-in-Iff-clause-rule : goal.returns-in_ok-not_right-in-Iff-clause-rule
unfolding equivalence_rule shape_tree the_truth
returns-in_ok-not_right-in-Iff-clause-rule c =
    let t0 = c.args.table.now in
    let a = formula_at (nodes t0) c.in-Iff.left in
    let b = formula_at (nodes t0) c.in-Iff.right in
    let fits = fits-at t0 c.shape.result (s.Iff c.in-Iff.left c.in-Iff.right) c.shape.ensures.fits c.in-Iff.is in
    let ha = it-is-truth (slice_get (nodes t0) c.in-Iff.left) (part-Iff-a t0.pools (nodes t0) c.in-Iff.left c.in-Iff.right fits) in
    let hb = it-is-truth (slice_get (nodes t0) c.in-Iff.right) (part-Iff-b t0.pools (nodes t0) c.in-Iff.left c.in-Iff.right fits) in
    let t1 = c.negation.new.table in
    let t2 = c.negation-in-Iff.new.table in
    let g = c.negation.ensures.grows in
    let h = c.negation-in-Iff.ensures.grows in
    let node = keeps t1 t2 h c.args.node (of_truth (t.iff a b)) (keeps t0 t1 g c.args.node (of_truth (t.iff a b)) (tree-at t0 c.args.node c.shape.result (s.Iff c.in-Iff.left c.in-Iff.right) c.shape.ensures.tree c.in-Iff.is)) in
    let left = keeps t1 t2 h c.in-Iff.left (of_truth a) (keeps t0 t1 g c.in-Iff.left (of_truth a) ha) in
    let right1 = keeps t0 t1 g c.in-Iff.right (of_truth b) hb in
    let right = keeps t1 t2 h c.in-Iff.right (of_truth b) right1 in
    let not_left = keeps t1 t2 h c.in_ok-not_left-in-Iff.not_left (of_truth (t.negation a)) (c.in_ok-not_left-in-Iff.ensures.made a ha) in
    let not_right = c.in_ok-not_right-in-Iff.ensures.made b right1 in
    let made = splits (nodes t2) (n.One c.args.node) (n.Two c.in-Iff.left c.in-Iff.right) (n.Two c.in_ok-not_left-in-Iff.not_left c.in_ok-not_right-in-Iff.not_right) (t.iff a b ∷ []) (a ∷ b ∷ []) (t.negation a ∷ t.negation b ∷ [])
    (one-is (nodes t2) c.args.node (t.iff a b) node) (two-are (nodes t2) c.in-Iff.left c.in-Iff.right a b left right)
    (two-are (nodes t2) c.in_ok-not_left-in-Iff.not_left c.in_ok-not_right-in-Iff.not_right (t.negation a) (t.negation b) not_left not_right) in
    (made.0 ∙ sym (formula-at equivalence_rule t0 c.args.node c.shape.result (s.Iff c.in-Iff.left c.in-Iff.right) c.shape.ensures.tree c.in-Iff.is), made.1)

pub returns-in_default : goal.returns-in_default
unfolding option_rule IsRule
returns-in_default c =
    let t0 = c.args.table.now in
    record { rule = (sym (formula-at equivalence_rule t0 c.args.node c.shape.result c.shape.result c.shape.ensures.tree refl ∙ equivalence-none t0.pools (nodes t0) c.shape.result c.in_default.not-Iff), tt); grows = extends-refl t0 }
