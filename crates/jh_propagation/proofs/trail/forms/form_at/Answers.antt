use Rattle.std.proofs.Common.{◌≡◌, refl, sym, ap, ◌∙◌, subst, true, Some}
use Rattle.jh_arena.specs.table.Entries.{is_truth, the_truth}
use Rattle.jh_arena.specs.table.Nodes.{nodes, shape_tree}
use Rattle.jh_arena.specs.table.Parts.{own_parts, list_parts}
use Rattle.jh_arena.proofs.table.PartSteps.{part-Negation-a, part-And-a, part-And-b, part-Or-a, part-Or-b}
use Rattle.jh_models.specs.ground_models.Atoms.{literal}
use Rattle.jh_propagation.specs.trail.Forms.{known_of, literal_of, IsForm}
use Rattle.jh_propagation.proofs.trail.Shaped.{inside, parts-later, atom-shape}
use Rattle.jh_propagation.proofs.trail.forms.form_at.Goals as goal

pub shape-requires : goal.shape-requires
shape-requires c = inside (nodes c.args.table.now) c.args.node c.requires

pub returns-in-True-clause-form : goal.returns-in-True-clause-form
unfolding the_truth shape_tree
returns-in-True-clause-form c = ap (λ o. known_of (the_truth o)) c.in-True.ensures.tree

pub returns-in-False-clause-form : goal.returns-in-False-clause-form
unfolding the_truth shape_tree
returns-in-False-clause-form c = ap (λ o. known_of (the_truth o)) c.in-False.ensures.tree

pub returns-in-And-clause-form : goal.returns-in-And-clause-form
unfolding the_truth shape_tree
returns-in-And-clause-form c = ap the_truth c.in-And.ensures.tree

pub returns-in-And-clause-parts : goal.returns-in-And-clause-parts
unfolding own_parts list_parts
returns-in-And-clause-parts c = let l = c.args.table.now in record {
  left = part-And-a l.pools (nodes l) c.in-And.a c.in-And.b c.in-And.ensures.fits;
  right = part-And-b l.pools (nodes l) c.in-And.a c.in-And.b c.in-And.ensures.fits;
  left_below = c.in-And.ensures.below.below 0 c.in-And.a refl;
  right_below = c.in-And.ensures.below.below 1 c.in-And.b refl;
}

pub returns-in-Or-clause-form : goal.returns-in-Or-clause-form
unfolding the_truth shape_tree
returns-in-Or-clause-form c = ap the_truth c.in-Or.ensures.tree

pub returns-in-Or-clause-parts : goal.returns-in-Or-clause-parts
unfolding own_parts list_parts
returns-in-Or-clause-parts c = let l = c.args.table.now in record {
  left = part-Or-a l.pools (nodes l) c.in-Or.a c.in-Or.b c.in-Or.ensures.fits;
  right = part-Or-b l.pools (nodes l) c.in-Or.a c.in-Or.b c.in-Or.ensures.fits;
  left_below = c.in-Or.ensures.below.below 0 c.in-Or.a refl;
  right_below = c.in-Or.ensures.below.below 1 c.in-Or.b refl;
}

pub denied_form-requires : goal.denied_form-requires
denied_form-requires c = part-Negation-a c.args.table.now.pools (nodes c.args.table.now) c.in-Negation.a c.in-Negation.ensures.fits

pub returns-in-Negation-clause-form : goal.returns-in-Negation-clause-form
unfolding the_truth shape_tree
returns-in-Negation-clause-form c = subst (λ i. IsForm (nodes c.args.table.now) i c.denied_form.result) (sym (ap the_truth c.in-Negation.ensures.tree)) c.denied_form.ensures.form

pub returns-in-Negation-clause-parts : goal.returns-in-Negation-clause-parts
unfolding own_parts list_parts
returns-in-Negation-clause-parts c = parts-later (nodes c.args.table.now) c.in-Negation.a c.args.node (c.in-Negation.ensures.below.below 0 c.in-Negation.a refl) c.denied_form.result c.denied_form.ensures.parts

pub returns-in_default-clause-form : goal.returns-in_default-clause-form
returns-in_default-clause-form c =
    let l = c.args.table.now in
    subst (λ o. literal_of (the_truth o) ≡ Some (literal (the_truth o) true)) (sym c.shape.ensures.tree)
    (atom-shape l c.shape.result (ap is_truth (sym c.shape.ensures.tree) ∙ c.requires) c.in_default.not-True c.in_default.not-False c.in_default.not-And c.in_default.not-Or c.in_default.not-Negation)
