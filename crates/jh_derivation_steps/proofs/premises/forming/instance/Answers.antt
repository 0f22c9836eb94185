use Rattle.std.proofs.Common.{refl, sym, ap, ◌∙◌, [], ◌∷◌}
use Rattle.jh_form.specs.Tree.{FormulaTree, ValueTree, of_truth, of_object, of_field}
use Rattle.jh_form.specs.Tree as t
use Rattle.jh_boxed_operations.specs.substitution.Opened.{opened}
use Rattle.jh_arena.specs.table.Entries.{the_truth, the_object, is_object}
use Rattle.jh_arena.specs.table.Nodes.{nodes, shape_tree}
use Rattle.jh_arena.specs.declared.table.shapes.Shape.TheVariants as s
use Rattle.jh_arena.proofs.table.PartSteps.{part-All-a}
use Rattle.jh_arena.proofs.table.Listed.{extends-refl}
use Rattle.jh_derivation_rules.specs.Rules.{instance_rule}
use Rattle.jh_derivation_steps.specs.declared.premises.nodes.Nodes.TheVariants as n
use Rattle.jh_derivation_steps.specs.premises.Nodes.{formula_at, term_at, option_rule, IsRule}
use Rattle.jh_derivation_steps.proofs.premises.Carried.{keeps}
use Rattle.jh_derivation_steps.proofs.premises.Shaping.{fits-at, tree-at, formula-at}
use Rattle.jh_derivation_steps.proofs.premises.Ruling.{one-is, goes}
use Rattle.jh_derivation_steps.proofs.premises.Forms.{instance-none}
use Rattle.jh_derivation_steps.proofs.premises.forming.instance.Goals as goal

pub open-requires-clause-body : goal.open-requires-clause-body
open-requires-clause-body c =
    let t0 = c.args.table.now in
    let a = formula_at (nodes t0) c.in-All.body in
    let fits = fits-at t0 c.shape.result (s.All c.in-All.body) c.shape.ensures.fits c.in-All.is in
    part-All-a t0.pools (nodes t0) c.in-All.body fits

pub open-requires-clause-with : goal.open-requires-clause-with
unfolding is_object
open-requires-clause-with c = ap is_object c.requires.term

pub returns-in_ok-opened-in-All-clause-rule : goal.returns-in_ok-opened-in-All-clause-rule
unfolding instance_rule shape_tree the_truth the_object
returns-in_ok-opened-in-All-clause-rule c =
    let t0 = c.args.table.now in
    let a = formula_at (nodes t0) c.in-All.body in
    let t1 = c.open.new.table in
    let node = keeps t0 t1 c.open.ensures.grows c.args.node (of_truth (t.all a)) (tree-at t0 c.args.node c.shape.result (s.All c.in-All.body) c.shape.ensures.tree c.in-All.is) in
    let made = goes (nodes t1) (n.One c.args.node) (n.One c.in_ok-opened-in-All.opened) (t.all a ∷ []) (opened a (term_at (nodes t0) c.args.term) ∷ []) (one-is (nodes t1) c.args.node (t.all a) node) (one-is (nodes t1) c.in_ok-opened-in-All.opened (opened a (term_at (nodes t0) c.args.term)) (c.in_ok-opened-in-All.ensures.tree)) in
    (made.0 ∙ sym (formula-at (λ z. instance_rule z (term_at (nodes t0) c.args.term)) t0 c.args.node c.shape.result (s.All c.in-All.body) c.shape.ensures.tree c.in-All.is), made.1)

pub returns-in_default : goal.returns-in_default
unfolding option_rule IsRule
returns-in_default c =
    let t0 = c.args.table.now in
    record { rule = (sym (formula-at (λ z. instance_rule z (term_at (nodes t0) c.args.term)) t0 c.args.node c.shape.result c.shape.result c.shape.ensures.tree refl ∙ instance-none t0.pools (nodes t0) (term_at (nodes t0) c.args.term) c.shape.result c.in_default.not-All), tt); grows = extends-refl t0 }
