use Rattle.std.proofs.Common.{refl, sym, ap, ◌∙◌, [], ◌∷◌, Some}
use Rattle.jh_form.specs.Tree.{FormulaTree, ValueTree, of_truth, of_object, of_field}
use Rattle.jh_form.specs.Tree as t
use Rattle.jh_form.specs.Closed.{is_closed_term, is_closed_formula}
use Rattle.jh_boxed_operations.specs.substitution.Opened.{opened}
use Rattle.jh_arena.specs.table.Entries.{the_truth, the_object, is_object}
use Rattle.jh_arena.specs.table.Nodes.{nodes, shape_tree}
use Rattle.jh_arena.specs.declared.table.shapes.Shape.TheVariants as s
use Rattle.jh_arena.proofs.table.PartSteps.{part-Ex-a}
use Rattle.jh_arena.proofs.table.Listed.{extends-refl}
use Rattle.jh_derivation_rules.specs.Rules.{witness_rule}
use Rattle.jh_derivation_steps.specs.declared.premises.nodes.Nodes.TheVariants as n
use Rattle.jh_derivation_steps.specs.premises.Nodes.{formula_at, term_at, option_rule, name_of, IsRule}
use Rattle.jh_derivation_steps.proofs.premises.Carried.{keeps}
use Rattle.jh_derivation_steps.proofs.premises.Shaping.{fits-at, tree-at, formula-at}
use Rattle.jh_derivation_steps.proofs.premises.Ruling.{one-is, goes}
use Rattle.jh_derivation_steps.proofs.premises.Forms.{witness-none}
use Rattle.jh_derivation_steps.proofs.premises.forming.witness.Goals as goal

pub open-requires-clause-body : goal.open-requires-clause-body
open-requires-clause-body c =
    let t0 = c.args.table.now in
    let a = formula_at (nodes t0) c.in-Ex.body in
    let fits = fits-at t0 c.shape.result (s.Ex c.in-Ex.body) c.shape.ensures.fits c.in-Ex.is in
    part-Ex-a t0.pools (nodes t0) c.in-Ex.body fits

pub open-requires-clause-with : goal.open-requires-clause-with
unfolding is_object
open-requires-clause-with c = ap is_object c.requires.name

pub open-requires-clause-closed : goal.open-requires-clause-closed
unfolding is_closed_formula the_object
open-requires-clause-closed c = ap (λ o. is_closed_term (the_object o) 0) c.requires.name

pub returns-in_ok-opened-in-Ex-clause-rule : goal.returns-in_ok-opened-in-Ex-clause-rule
unfolding witness_rule shape_tree the_truth the_object
returns-in_ok-opened-in-Ex-clause-rule c =
    let t0 = c.args.table.now in
    let a = formula_at (nodes t0) c.in-Ex.body in
    let t1 = c.open.new.table in
    let node = keeps t0 t1 c.open.ensures.grows c.args.node (of_truth (t.ex a)) (tree-at t0 c.args.node c.shape.result (s.Ex c.in-Ex.body) c.shape.ensures.tree c.in-Ex.is) in
    let made = goes (nodes t1) (n.One c.args.node) (n.One c.in_ok-opened-in-Ex.opened) (t.ex a ∷ []) (opened a (t.free_object (name_of (term_at (nodes t0) c.args.name))) ∷ []) (one-is (nodes t1) c.args.node (t.ex a) node) (one-is (nodes t1) c.in_ok-opened-in-Ex.opened (opened a (t.free_object (name_of (term_at (nodes t0) c.args.name)))) (c.in_ok-opened-in-Ex.ensures.tree ∙ ap (λ w. Some (of_truth (opened a w))) (ap the_object c.requires.name))) in
    (made.0 ∙ sym (formula-at (λ z. witness_rule z (name_of (term_at (nodes t0) c.args.name))) t0 c.args.node c.shape.result (s.Ex c.in-Ex.body) c.shape.ensures.tree c.in-Ex.is), made.1)

pub returns-in_default : goal.returns-in_default
unfolding option_rule IsRule
returns-in_default c =
    let t0 = c.args.table.now in
    record { rule = (sym (formula-at (λ z. witness_rule z (name_of (term_at (nodes t0) c.args.name))) t0 c.args.node c.shape.result c.shape.result c.shape.ensures.tree refl ∙ witness-none t0.pools (nodes t0) (name_of (term_at (nodes t0) c.args.name)) c.shape.result c.in_default.not-Ex), tt); grows = extends-refl t0 }
