use Rattle.std.proofs.Common.{◌≡◌, sym, ap, ◌∙◌, subst, false, Some}
use Rattle.jh_form.specs.Tree as t
use Rattle.jh_arena.specs.table.Entries.{is_truth, the_truth}
use Rattle.jh_arena.specs.table.Nodes.{nodes, shape_tree}
use Rattle.jh_models.specs.ground_models.Atoms.{literal}
use Rattle.jh_propagation.specs.trail.Forms.{known_of, denied_literal}
use Rattle.jh_propagation.proofs.trail.Shaped.{inside, denied-shape}
use Rattle.jh_propagation.proofs.trail.forms.denied_form.Goals as goal

pub shape-requires : goal.shape-requires
shape-requires c = inside (nodes c.args.table.now) c.args.node c.requires

pub returns-in-True-clause-form : goal.returns-in-True-clause-form
unfolding the_truth shape_tree
returns-in-True-clause-form c = ap (λ o. known_of (t.negation (the_truth o))) c.in-True.ensures.tree

pub returns-in-False-clause-form : goal.returns-in-False-clause-form
unfolding the_truth shape_tree
returns-in-False-clause-form c = ap (λ o. known_of (t.negation (the_truth o))) c.in-False.ensures.tree

pub returns-in_default-clause-form : goal.returns-in_default-clause-form
returns-in_default-clause-form c =
    subst (λ o. denied_literal (the_truth o) ≡ Some (literal (the_truth o) false)) (sym c.shape.ensures.tree)
    (denied-shape c.args.table.now c.shape.result (ap is_truth (sym c.shape.ensures.tree) ∙ c.requires) c.in_default.not-True c.in_default.not-False)
