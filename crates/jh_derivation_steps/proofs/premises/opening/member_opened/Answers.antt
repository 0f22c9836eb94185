-- Written by tools/premises_arms.py.
use Rattle.std.proofs.Common.{refl, sym, ap, ◌∙◌, Some, slice_get}
use Rattle.jh_form.specs.Tree.{FormulaTree}
use Rattle.jh_form.specs.Tree as t
use Rattle.jh_boxed_operations.specs.substitution.Opened.{opened}
use Rattle.jh_arena.specs.table.Entries.{the_truth, the_set, the_object, is_object, is_set}
use Rattle.jh_arena.specs.table.Nodes.{nodes, shape_tree}
use Rattle.jh_arena.specs.declared.table.shapes.Shape.TheVariants as s
use Rattle.jh_arena.proofs.table.PartSteps.{part-Compl-a, part-Compr-a, part-Diff-a, part-Diff-b, part-Inter-a, part-Inter-b, part-Single-a, part-Union-a, part-Union-b}
use Rattle.jh_arena.proofs.table.NodeSteps.{tree-EqObject, fits-EqObject, tree-False, tree-True}
use Rattle.jh_arena.proofs.table.Children.{it-is-object, it-is-set}
use Rattle.jh_derivation_rules.specs.Rules.{member_opened}
use Rattle.jh_derivation_steps.specs.premises.Nodes.{formula_at, term_at, set_at, option_formula, IsMade}
use Rattle.jh_derivation_steps.proofs.premises.Shaping.{fits-at, set-at, arm}
use Rattle.jh_arena.proofs.table.Listed.{extends-refl}
use Rattle.jh_derivation_steps.proofs.premises.Others.{member_opened-none}
use Rattle.jh_derivation_steps.proofs.premises.opening.member_opened.Goals as goal

pub returns-in_ok-make-in-Empty-clause-made : goal.returns-in_ok-make-in-Empty-clause-made
unfolding member_opened shape_tree the_truth the_set the_object is_object
returns-in_ok-make-in-Empty-clause-made c =
    let t0 = c.args.table.now in
    arm (nodes c.make.new.self) c.in_ok-make-in-Empty.field-0 (t.false_formula) (member_opened (term_at (nodes t0) c.args.object) (set_at (nodes t0) c.args.set)) (set-at (λ z. member_opened (term_at (nodes t0) c.args.object) z) t0 c.args.set c.shape.result s.Empty c.shape.ensures.tree c.in-Empty.is) (c.in_ok-make-in-Empty.ensures.node ∙ ap Some (tree-False t0.pools (nodes t0)))

pub returns-in_ok-make-in-Univ-clause-made : goal.returns-in_ok-make-in-Univ-clause-made
unfolding member_opened shape_tree the_truth the_set the_object is_object
returns-in_ok-make-in-Univ-clause-made c =
    let t0 = c.args.table.now in
    arm (nodes c.make-in-Univ.new.self) c.in_ok-make-in-Univ.field-0 (t.true_formula) (member_opened (term_at (nodes t0) c.args.object) (set_at (nodes t0) c.args.set)) (set-at (λ z. member_opened (term_at (nodes t0) c.args.object) z) t0 c.args.set c.shape.result s.Univ c.shape.ensures.tree c.in-Univ.is) (c.in_ok-make-in-Univ.ensures.node ∙ ap Some (tree-True t0.pools (nodes t0)))

pub make-requires-in-Single : goal.make-requires-in-Single
make-requires-in-Single c =
    let t0 = c.args.table.now in
    fits-EqObject t0.pools (nodes t0) c.args.object c.in-Single.a (term_at (nodes t0) c.args.object) (term_at (nodes t0) c.in-Single.a) c.requires.object (it-is-object (slice_get (nodes t0) c.in-Single.a) (part-Single-a t0.pools (nodes t0) c.in-Single.a (fits-at t0 c.shape.result (s.Single c.in-Single.a) c.shape.ensures.fits c.in-Single.is)))

pub returns-in_ok-make-in-Single-clause-made : goal.returns-in_ok-make-in-Single-clause-made
unfolding member_opened shape_tree the_truth the_set the_object is_object
returns-in_ok-make-in-Single-clause-made c =
    let t0 = c.args.table.now in
    arm (nodes c.make-in-Single.new.self) c.in_ok-make-in-Single.field-0 (t.eq_object (term_at (nodes t0) c.args.object) (term_at (nodes t0) c.in-Single.a)) (member_opened (term_at (nodes t0) c.args.object) (set_at (nodes t0) c.args.set)) (set-at (λ z. member_opened (term_at (nodes t0) c.args.object) z) t0 c.args.set c.shape.result (s.Single c.in-Single.a) c.shape.ensures.tree c.in-Single.is) (c.in_ok-make-in-Single.ensures.node ∙ ap Some (tree-EqObject t0.pools (nodes t0) c.args.object c.in-Single.a (term_at (nodes t0) c.args.object) (term_at (nodes t0) c.in-Single.a) c.requires.object (it-is-object (slice_get (nodes t0) c.in-Single.a) (part-Single-a t0.pools (nodes t0) c.in-Single.a (fits-at t0 c.shape.result (s.Single c.in-Single.a) c.shape.ensures.fits c.in-Single.is)))))

pub in_either-requires-clause-a : goal.in_either-requires-clause-a
in_either-requires-clause-a c =
    let t0 = c.args.table.now in
    (it-is-set (slice_get (nodes t0) c.in-Union.a) (part-Union-a t0.pools (nodes t0) c.in-Union.a c.in-Union.b (fits-at t0 c.shape.result (s.Union c.in-Union.a c.in-Union.b) c.shape.ensures.fits c.in-Union.is)))

pub in_either-requires-clause-b : goal.in_either-requires-clause-b
in_either-requires-clause-b c =
    let t0 = c.args.table.now in
    (it-is-set (slice_get (nodes t0) c.in-Union.b) (part-Union-b t0.pools (nodes t0) c.in-Union.a c.in-Union.b (fits-at t0 c.shape.result (s.Union c.in-Union.a c.in-Union.b) c.shape.ensures.fits c.in-Union.is)))

pub returns-in_ok-in_either-in-Union-clause-made : goal.returns-in_ok-in_either-in-Union-clause-made
unfolding member_opened shape_tree the_truth the_set the_object is_object
returns-in_ok-in_either-in-Union-clause-made c =
    let t0 = c.args.table.now in
    arm (nodes c.in_either.new.table) c.in_ok-in_either-in-Union.field-0 (t.or (t.member (term_at (nodes t0) c.args.object) (set_at (nodes t0) c.in-Union.a)) (t.member (term_at (nodes t0) c.args.object) (set_at (nodes t0) c.in-Union.b))) (member_opened (term_at (nodes t0) c.args.object) (set_at (nodes t0) c.args.set)) (set-at (λ z. member_opened (term_at (nodes t0) c.args.object) z) t0 c.args.set c.shape.result (s.Union c.in-Union.a c.in-Union.b) c.shape.ensures.tree c.in-Union.is) (c.in_ok-in_either-in-Union.ensures.made (term_at (nodes t0) c.args.object) (set_at (nodes t0) c.in-Union.a) (set_at (nodes t0) c.in-Union.b) c.requires.object (it-is-set (slice_get (nodes t0) c.in-Union.a) (part-Union-a t0.pools (nodes t0) c.in-Union.a c.in-Union.b (fits-at t0 c.shape.result (s.Union c.in-Union.a c.in-Union.b) c.shape.ensures.fits c.in-Union.is))) (it-is-set (slice_get (nodes t0) c.in-Union.b) (part-Union-b t0.pools (nodes t0) c.in-Union.a c.in-Union.b (fits-at t0 c.shape.result (s.Union c.in-Union.a c.in-Union.b) c.shape.ensures.fits c.in-Union.is))))

pub in_both-requires-clause-a : goal.in_both-requires-clause-a
in_both-requires-clause-a c =
    let t0 = c.args.table.now in
    (it-is-set (slice_get (nodes t0) c.in-Inter.a) (part-Inter-a t0.pools (nodes t0) c.in-Inter.a c.in-Inter.b (fits-at t0 c.shape.result (s.Inter c.in-Inter.a c.in-Inter.b) c.shape.ensures.fits c.in-Inter.is)))

pub in_both-requires-clause-b : goal.in_both-requires-clause-b
in_both-requires-clause-b c =
    let t0 = c.args.table.now in
    (it-is-set (slice_get (nodes t0) c.in-Inter.b) (part-Inter-b t0.pools (nodes t0) c.in-Inter.a c.in-Inter.b (fits-at t0 c.shape.result (s.Inter c.in-Inter.a c.in-Inter.b) c.shape.ensures.fits c.in-Inter.is)))

pub returns-in_ok-in_both-in-Inter-clause-made : goal.returns-in_ok-in_both-in-Inter-clause-made
unfolding member_opened shape_tree the_truth the_set the_object is_object
returns-in_ok-in_both-in-Inter-clause-made c =
    let t0 = c.args.table.now in
    arm (nodes c.in_both.new.table) c.in_ok-in_both-in-Inter.field-0 (t.and (t.member (term_at (nodes t0) c.args.object) (set_at (nodes t0) c.in-Inter.a)) (t.member (term_at (nodes t0) c.args.object) (set_at (nodes t0) c.in-Inter.b))) (member_opened (term_at (nodes t0) c.args.object) (set_at (nodes t0) c.args.set)) (set-at (λ z. member_opened (term_at (nodes t0) c.args.object) z) t0 c.args.set c.shape.result (s.Inter c.in-Inter.a c.in-Inter.b) c.shape.ensures.tree c.in-Inter.is) (c.in_ok-in_both-in-Inter.ensures.made (term_at (nodes t0) c.args.object) (set_at (nodes t0) c.in-Inter.a) (set_at (nodes t0) c.in-Inter.b) c.requires.object (it-is-set (slice_get (nodes t0) c.in-Inter.a) (part-Inter-a t0.pools (nodes t0) c.in-Inter.a c.in-Inter.b (fits-at t0 c.shape.result (s.Inter c.in-Inter.a c.in-Inter.b) c.shape.ensures.fits c.in-Inter.is))) (it-is-set (slice_get (nodes t0) c.in-Inter.b) (part-Inter-b t0.pools (nodes t0) c.in-Inter.a c.in-Inter.b (fits-at t0 c.shape.result (s.Inter c.in-Inter.a c.in-Inter.b) c.shape.ensures.fits c.in-Inter.is))))

pub in_first-requires-clause-a : goal.in_first-requires-clause-a
in_first-requires-clause-a c =
    let t0 = c.args.table.now in
    (it-is-set (slice_get (nodes t0) c.in-Diff.a) (part-Diff-a t0.pools (nodes t0) c.in-Diff.a c.in-Diff.b (fits-at t0 c.shape.result (s.Diff c.in-Diff.a c.in-Diff.b) c.shape.ensures.fits c.in-Diff.is)))

pub in_first-requires-clause-b : goal.in_first-requires-clause-b
in_first-requires-clause-b c =
    let t0 = c.args.table.now in
    (it-is-set (slice_get (nodes t0) c.in-Diff.b) (part-Diff-b t0.pools (nodes t0) c.in-Diff.a c.in-Diff.b (fits-at t0 c.shape.result (s.Diff c.in-Diff.a c.in-Diff.b) c.shape.ensures.fits c.in-Diff.is)))

pub returns-in_ok-in_first-in-Diff-clause-made : goal.returns-in_ok-in_first-in-Diff-clause-made
unfolding member_opened shape_tree the_truth the_set the_object is_object
returns-in_ok-in_first-in-Diff-clause-made c =
    let t0 = c.args.table.now in
    arm (nodes c.in_first.new.table) c.in_ok-in_first-in-Diff.field-0 (t.and (t.member (term_at (nodes t0) c.args.object) (set_at (nodes t0) c.in-Diff.a)) (t.negation (t.member (term_at (nodes t0) c.args.object) (set_at (nodes t0) c.in-Diff.b)))) (member_opened (term_at (nodes t0) c.args.object) (set_at (nodes t0) c.args.set)) (set-at (λ z. member_opened (term_at (nodes t0) c.args.object) z) t0 c.args.set c.shape.result (s.Diff c.in-Diff.a c.in-Diff.b) c.shape.ensures.tree c.in-Diff.is) (c.in_ok-in_first-in-Diff.ensures.made (term_at (nodes t0) c.args.object) (set_at (nodes t0) c.in-Diff.a) (set_at (nodes t0) c.in-Diff.b) c.requires.object (it-is-set (slice_get (nodes t0) c.in-Diff.a) (part-Diff-a t0.pools (nodes t0) c.in-Diff.a c.in-Diff.b (fits-at t0 c.shape.result (s.Diff c.in-Diff.a c.in-Diff.b) c.shape.ensures.fits c.in-Diff.is))) (it-is-set (slice_get (nodes t0) c.in-Diff.b) (part-Diff-b t0.pools (nodes t0) c.in-Diff.a c.in-Diff.b (fits-at t0 c.shape.result (s.Diff c.in-Diff.a c.in-Diff.b) c.shape.ensures.fits c.in-Diff.is))))

pub outside-requires-clause-a : goal.outside-requires-clause-a
outside-requires-clause-a c =
    let t0 = c.args.table.now in
    (it-is-set (slice_get (nodes t0) c.in-Compl.a) (part-Compl-a t0.pools (nodes t0) c.in-Compl.a (fits-at t0 c.shape.result (s.Compl c.in-Compl.a) c.shape.ensures.fits c.in-Compl.is)))

pub returns-in_ok-outside-in-Compl-clause-made : goal.returns-in_ok-outside-in-Compl-clause-made
unfolding member_opened shape_tree the_truth the_set the_object is_object
returns-in_ok-outside-in-Compl-clause-made c =
    let t0 = c.args.table.now in
    arm (nodes c.outside.new.table) c.in_ok-outside-in-Compl.field-0 (t.negation (t.member (term_at (nodes t0) c.args.object) (set_at (nodes t0) c.in-Compl.a))) (member_opened (term_at (nodes t0) c.args.object) (set_at (nodes t0) c.args.set)) (set-at (λ z. member_opened (term_at (nodes t0) c.args.object) z) t0 c.args.set c.shape.result (s.Compl c.in-Compl.a) c.shape.ensures.tree c.in-Compl.is) (c.in_ok-outside-in-Compl.ensures.made (term_at (nodes t0) c.args.object) (set_at (nodes t0) c.in-Compl.a) c.requires.object (it-is-set (slice_get (nodes t0) c.in-Compl.a) (part-Compl-a t0.pools (nodes t0) c.in-Compl.a (fits-at t0 c.shape.result (s.Compl c.in-Compl.a) c.shape.ensures.fits c.in-Compl.is))))

pub open-requires-clause-body : goal.open-requires-clause-body
open-requires-clause-body c =
    let t0 = c.args.table.now in
    (part-Compr-a t0.pools (nodes t0) c.in-Compr.a (fits-at t0 c.shape.result (s.Compr c.in-Compr.a) c.shape.ensures.fits c.in-Compr.is))

pub open-requires-clause-with : goal.open-requires-clause-with
unfolding member_opened shape_tree the_truth the_set the_object is_object
open-requires-clause-with c = ap is_object c.requires.object

pub returns-in_ok-open-in-Compr-clause-made : goal.returns-in_ok-open-in-Compr-clause-made
unfolding member_opened shape_tree the_truth the_set the_object is_object
returns-in_ok-open-in-Compr-clause-made c =
    let t0 = c.args.table.now in
    arm (nodes c.open.new.table) c.in_ok-open-in-Compr.field-0 (opened (formula_at (nodes t0) c.in-Compr.a) (term_at (nodes t0) c.args.object)) (member_opened (term_at (nodes t0) c.args.object) (set_at (nodes t0) c.args.set)) (set-at (λ z. member_opened (term_at (nodes t0) c.args.object) z) t0 c.args.set c.shape.result (s.Compr c.in-Compr.a) c.shape.ensures.tree c.in-Compr.is) c.in_ok-open-in-Compr.ensures.tree

pub returns-in_default : goal.returns-in_default
unfolding member_opened shape_tree the_truth the_set the_object is_object option_formula IsMade is_set
returns-in_default c =
    let t0 = c.args.table.now in
    record { made = (sym (set-at (λ z. member_opened (term_at (nodes t0) c.args.object) z) t0 c.args.set c.shape.result c.shape.result c.shape.ensures.tree refl ∙ member_opened-none t0.pools (nodes t0) (term_at (nodes c.args.table.now) c.args.object) c.shape.result (ap is_set (sym c.shape.ensures.tree ∙ c.requires.set)) c.in_default.not-Empty c.in_default.not-Univ c.in_default.not-Single c.in_default.not-Union c.in_default.not-Inter c.in_default.not-Diff c.in_default.not-Compl c.in_default.not-Compr), tt); grows = extends-refl t0 }
