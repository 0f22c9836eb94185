-- Written by tools/premises_arms.py.
use Rattle.std.proofs.Common.{refl, sym, ap, ◌∙◌, Some, slice_get}
use Rattle.jh_form.specs.Tree.{FormulaTree}
use Rattle.jh_form.specs.Tree as t
use Rattle.jh_arena.specs.table.Entries.{the_truth, the_set, the_object, is_object, is_truth}
use Rattle.jh_arena.specs.table.Nodes.{nodes, shape_tree}
use Rattle.jh_arena.specs.declared.table.shapes.Shape.TheVariants as s
use Rattle.jh_arena.proofs.table.PartSteps.{part-All-a, part-And-a, part-And-b, part-Ex-a, part-Iff-a, part-Iff-b, part-Implies-a, part-Implies-b, part-Negation-a, part-Or-a, part-Or-b}
use Rattle.jh_arena.proofs.table.NodeSteps.{tree-False, tree-True}
use Rattle.jh_arena.proofs.table.Children.{it-is-truth}
use Rattle.jh_derivation_rules.specs.Rules.{pushed}
use Rattle.jh_derivation_steps.specs.premises.Nodes.{formula_at, option_formula, IsMade}
use Rattle.jh_derivation_steps.proofs.premises.Shaping.{fits-at, formula-at, arm}
use Rattle.jh_arena.proofs.table.Listed.{extends-refl}
use Rattle.jh_derivation_steps.proofs.premises.Others.{pushed-none}
use Rattle.jh_derivation_steps.proofs.premises.opening.pushed.Goals as goal

pub returns-in-Negation-clause-made : goal.returns-in-Negation-clause-made
unfolding pushed shape_tree the_truth the_set the_object is_object
returns-in-Negation-clause-made c =
    let t0 = c.args.table.now in
    arm (nodes t0) c.in-Negation.a ((formula_at (nodes t0) c.in-Negation.a)) (pushed (formula_at (nodes t0) c.args.node)) (formula-at pushed t0 c.args.node c.shape.result (s.Negation c.in-Negation.a) c.shape.ensures.tree c.in-Negation.is) (it-is-truth (slice_get (nodes t0) c.in-Negation.a) (part-Negation-a t0.pools (nodes t0) c.in-Negation.a (fits-at t0 c.shape.result (s.Negation c.in-Negation.a) c.shape.ensures.fits c.in-Negation.is)))

pub not_both-requires-clause-a : goal.not_both-requires-clause-a
not_both-requires-clause-a c =
    let t0 = c.args.table.now in
    (it-is-truth (slice_get (nodes t0) c.in-And.a) (part-And-a t0.pools (nodes t0) c.in-And.a c.in-And.b (fits-at t0 c.shape.result (s.And c.in-And.a c.in-And.b) c.shape.ensures.fits c.in-And.is)))

pub not_both-requires-clause-b : goal.not_both-requires-clause-b
not_both-requires-clause-b c =
    let t0 = c.args.table.now in
    (it-is-truth (slice_get (nodes t0) c.in-And.b) (part-And-b t0.pools (nodes t0) c.in-And.a c.in-And.b (fits-at t0 c.shape.result (s.And c.in-And.a c.in-And.b) c.shape.ensures.fits c.in-And.is)))

pub returns-in_ok-not_both-in-And-clause-made : goal.returns-in_ok-not_both-in-And-clause-made
unfolding pushed shape_tree the_truth the_set the_object is_object
returns-in_ok-not_both-in-And-clause-made c =
    let t0 = c.args.table.now in
    arm (nodes c.not_both.new.table) c.in_ok-not_both-in-And.field-0 (t.or (t.negation (formula_at (nodes t0) c.in-And.a)) (t.negation (formula_at (nodes t0) c.in-And.b))) (pushed (formula_at (nodes t0) c.args.node)) (formula-at pushed t0 c.args.node c.shape.result (s.And c.in-And.a c.in-And.b) c.shape.ensures.tree c.in-And.is) (c.in_ok-not_both-in-And.ensures.made (formula_at (nodes t0) c.in-And.a) (formula_at (nodes t0) c.in-And.b) (it-is-truth (slice_get (nodes t0) c.in-And.a) (part-And-a t0.pools (nodes t0) c.in-And.a c.in-And.b (fits-at t0 c.shape.result (s.And c.in-And.a c.in-And.b) c.shape.ensures.fits c.in-And.is))) (it-is-truth (slice_get (nodes t0) c.in-And.b) (part-And-b t0.pools (nodes t0) c.in-And.a c.in-And.b (fits-at t0 c.shape.result (s.And c.in-And.a c.in-And.b) c.shape.ensures.fits c.in-And.is))))

pub neither-requires-clause-a : goal.neither-requires-clause-a
neither-requires-clause-a c =
    let t0 = c.args.table.now in
    (it-is-truth (slice_get (nodes t0) c.in-Or.a) (part-Or-a t0.pools (nodes t0) c.in-Or.a c.in-Or.b (fits-at t0 c.shape.result (s.Or c.in-Or.a c.in-Or.b) c.shape.ensures.fits c.in-Or.is)))

pub neither-requires-clause-b : goal.neither-requires-clause-b
neither-requires-clause-b c =
    let t0 = c.args.table.now in
    (it-is-truth (slice_get (nodes t0) c.in-Or.b) (part-Or-b t0.pools (nodes t0) c.in-Or.a c.in-Or.b (fits-at t0 c.shape.result (s.Or c.in-Or.a c.in-Or.b) c.shape.ensures.fits c.in-Or.is)))

pub returns-in_ok-neither-in-Or-clause-made : goal.returns-in_ok-neither-in-Or-clause-made
unfolding pushed shape_tree the_truth the_set the_object is_object
returns-in_ok-neither-in-Or-clause-made c =
    let t0 = c.args.table.now in
    arm (nodes c.neither.new.table) c.in_ok-neither-in-Or.field-0 (t.and (t.negation (formula_at (nodes t0) c.in-Or.a)) (t.negation (formula_at (nodes t0) c.in-Or.b))) (pushed (formula_at (nodes t0) c.args.node)) (formula-at pushed t0 c.args.node c.shape.result (s.Or c.in-Or.a c.in-Or.b) c.shape.ensures.tree c.in-Or.is) (c.in_ok-neither-in-Or.ensures.made (formula_at (nodes t0) c.in-Or.a) (formula_at (nodes t0) c.in-Or.b) (it-is-truth (slice_get (nodes t0) c.in-Or.a) (part-Or-a t0.pools (nodes t0) c.in-Or.a c.in-Or.b (fits-at t0 c.shape.result (s.Or c.in-Or.a c.in-Or.b) c.shape.ensures.fits c.in-Or.is))) (it-is-truth (slice_get (nodes t0) c.in-Or.b) (part-Or-b t0.pools (nodes t0) c.in-Or.a c.in-Or.b (fits-at t0 c.shape.result (s.Or c.in-Or.a c.in-Or.b) c.shape.ensures.fits c.in-Or.is))))

pub without-requires-clause-a : goal.without-requires-clause-a
without-requires-clause-a c =
    let t0 = c.args.table.now in
    (it-is-truth (slice_get (nodes t0) c.in-Implies.a) (part-Implies-a t0.pools (nodes t0) c.in-Implies.a c.in-Implies.b (fits-at t0 c.shape.result (s.Implies c.in-Implies.a c.in-Implies.b) c.shape.ensures.fits c.in-Implies.is)))

pub without-requires-clause-b : goal.without-requires-clause-b
without-requires-clause-b c =
    let t0 = c.args.table.now in
    (it-is-truth (slice_get (nodes t0) c.in-Implies.b) (part-Implies-b t0.pools (nodes t0) c.in-Implies.a c.in-Implies.b (fits-at t0 c.shape.result (s.Implies c.in-Implies.a c.in-Implies.b) c.shape.ensures.fits c.in-Implies.is)))

pub returns-in_ok-without-in-Implies-clause-made : goal.returns-in_ok-without-in-Implies-clause-made
unfolding pushed shape_tree the_truth the_set the_object is_object
returns-in_ok-without-in-Implies-clause-made c =
    let t0 = c.args.table.now in
    arm (nodes c.without.new.table) c.in_ok-without-in-Implies.field-0 (t.and (formula_at (nodes t0) c.in-Implies.a) (t.negation (formula_at (nodes t0) c.in-Implies.b))) (pushed (formula_at (nodes t0) c.args.node)) (formula-at pushed t0 c.args.node c.shape.result (s.Implies c.in-Implies.a c.in-Implies.b) c.shape.ensures.tree c.in-Implies.is) (c.in_ok-without-in-Implies.ensures.made (formula_at (nodes t0) c.in-Implies.a) (formula_at (nodes t0) c.in-Implies.b) (it-is-truth (slice_get (nodes t0) c.in-Implies.a) (part-Implies-a t0.pools (nodes t0) c.in-Implies.a c.in-Implies.b (fits-at t0 c.shape.result (s.Implies c.in-Implies.a c.in-Implies.b) c.shape.ensures.fits c.in-Implies.is))) (it-is-truth (slice_get (nodes t0) c.in-Implies.b) (part-Implies-b t0.pools (nodes t0) c.in-Implies.a c.in-Implies.b (fits-at t0 c.shape.result (s.Implies c.in-Implies.a c.in-Implies.b) c.shape.ensures.fits c.in-Implies.is))))

pub unlike-requires-clause-a : goal.unlike-requires-clause-a
unlike-requires-clause-a c =
    let t0 = c.args.table.now in
    (it-is-truth (slice_get (nodes t0) c.in-Iff.a) (part-Iff-a t0.pools (nodes t0) c.in-Iff.a c.in-Iff.b (fits-at t0 c.shape.result (s.Iff c.in-Iff.a c.in-Iff.b) c.shape.ensures.fits c.in-Iff.is)))

pub unlike-requires-clause-b : goal.unlike-requires-clause-b
unlike-requires-clause-b c =
    let t0 = c.args.table.now in
    (it-is-truth (slice_get (nodes t0) c.in-Iff.b) (part-Iff-b t0.pools (nodes t0) c.in-Iff.a c.in-Iff.b (fits-at t0 c.shape.result (s.Iff c.in-Iff.a c.in-Iff.b) c.shape.ensures.fits c.in-Iff.is)))

pub returns-in_ok-unlike-in-Iff-clause-made : goal.returns-in_ok-unlike-in-Iff-clause-made
unfolding pushed shape_tree the_truth the_set the_object is_object
returns-in_ok-unlike-in-Iff-clause-made c =
    let t0 = c.args.table.now in
    arm (nodes c.unlike.new.table) c.in_ok-unlike-in-Iff.field-0 (t.iff (formula_at (nodes t0) c.in-Iff.a) (t.negation (formula_at (nodes t0) c.in-Iff.b))) (pushed (formula_at (nodes t0) c.args.node)) (formula-at pushed t0 c.args.node c.shape.result (s.Iff c.in-Iff.a c.in-Iff.b) c.shape.ensures.tree c.in-Iff.is) (c.in_ok-unlike-in-Iff.ensures.made (formula_at (nodes t0) c.in-Iff.a) (formula_at (nodes t0) c.in-Iff.b) (it-is-truth (slice_get (nodes t0) c.in-Iff.a) (part-Iff-a t0.pools (nodes t0) c.in-Iff.a c.in-Iff.b (fits-at t0 c.shape.result (s.Iff c.in-Iff.a c.in-Iff.b) c.shape.ensures.fits c.in-Iff.is))) (it-is-truth (slice_get (nodes t0) c.in-Iff.b) (part-Iff-b t0.pools (nodes t0) c.in-Iff.a c.in-Iff.b (fits-at t0 c.shape.result (s.Iff c.in-Iff.a c.in-Iff.b) c.shape.ensures.fits c.in-Iff.is))))

pub some_not-requires : goal.some_not-requires
some_not-requires c =
    let t0 = c.args.table.now in
    record { a = (it-is-truth (slice_get (nodes t0) c.in-All.a) (part-All-a t0.pools (nodes t0) c.in-All.a (fits-at t0 c.shape.result (s.All c.in-All.a) c.shape.ensures.fits c.in-All.is))) }

pub returns-in_ok-some_not-in-All-clause-made : goal.returns-in_ok-some_not-in-All-clause-made
unfolding pushed shape_tree the_truth the_set the_object is_object
returns-in_ok-some_not-in-All-clause-made c =
    let t0 = c.args.table.now in
    arm (nodes c.some_not.new.table) c.in_ok-some_not-in-All.field-0 (t.ex (t.negation (formula_at (nodes t0) c.in-All.a))) (pushed (formula_at (nodes t0) c.args.node)) (formula-at pushed t0 c.args.node c.shape.result (s.All c.in-All.a) c.shape.ensures.tree c.in-All.is) (c.in_ok-some_not-in-All.ensures.made (formula_at (nodes t0) c.in-All.a) (it-is-truth (slice_get (nodes t0) c.in-All.a) (part-All-a t0.pools (nodes t0) c.in-All.a (fits-at t0 c.shape.result (s.All c.in-All.a) c.shape.ensures.fits c.in-All.is))))

pub never-requires : goal.never-requires
never-requires c =
    let t0 = c.args.table.now in
    record { a = (it-is-truth (slice_get (nodes t0) c.in-Ex.a) (part-Ex-a t0.pools (nodes t0) c.in-Ex.a (fits-at t0 c.shape.result (s.Ex c.in-Ex.a) c.shape.ensures.fits c.in-Ex.is))) }

pub returns-in_ok-never-in-Ex-clause-made : goal.returns-in_ok-never-in-Ex-clause-made
unfolding pushed shape_tree the_truth the_set the_object is_object
returns-in_ok-never-in-Ex-clause-made c =
    let t0 = c.args.table.now in
    arm (nodes c.never.new.table) c.in_ok-never-in-Ex.field-0 (t.all (t.negation (formula_at (nodes t0) c.in-Ex.a))) (pushed (formula_at (nodes t0) c.args.node)) (formula-at pushed t0 c.args.node c.shape.result (s.Ex c.in-Ex.a) c.shape.ensures.tree c.in-Ex.is) (c.in_ok-never-in-Ex.ensures.made (formula_at (nodes t0) c.in-Ex.a) (it-is-truth (slice_get (nodes t0) c.in-Ex.a) (part-Ex-a t0.pools (nodes t0) c.in-Ex.a (fits-at t0 c.shape.result (s.Ex c.in-Ex.a) c.shape.ensures.fits c.in-Ex.is))))

pub returns-in_ok-make-in-True-clause-made : goal.returns-in_ok-make-in-True-clause-made
unfolding pushed shape_tree the_truth the_set the_object is_object
returns-in_ok-make-in-True-clause-made c =
    let t0 = c.args.table.now in
    arm (nodes c.make.new.self) c.in_ok-make-in-True.field-0 (t.false_formula) (pushed (formula_at (nodes t0) c.args.node)) (formula-at pushed t0 c.args.node c.shape.result s.True c.shape.ensures.tree c.in-True.is) (c.in_ok-make-in-True.ensures.node ∙ ap Some (tree-False t0.pools (nodes t0)))

pub returns-in_ok-make-in-False-clause-made : goal.returns-in_ok-make-in-False-clause-made
unfolding pushed shape_tree the_truth the_set the_object is_object
returns-in_ok-make-in-False-clause-made c =
    let t0 = c.args.table.now in
    arm (nodes c.make-in-False.new.self) c.in_ok-make-in-False.field-0 (t.true_formula) (pushed (formula_at (nodes t0) c.args.node)) (formula-at pushed t0 c.args.node c.shape.result s.False c.shape.ensures.tree c.in-False.is) (c.in_ok-make-in-False.ensures.node ∙ ap Some (tree-True t0.pools (nodes t0)))

pub returns-in_default : goal.returns-in_default
unfolding pushed shape_tree the_truth the_set the_object is_object option_formula IsMade is_truth
returns-in_default c =
    let t0 = c.args.table.now in
    record { made = (sym (formula-at pushed t0 c.args.node c.shape.result c.shape.result c.shape.ensures.tree refl ∙ pushed-none t0.pools (nodes t0) c.shape.result (ap is_truth (sym c.shape.ensures.tree ∙ c.requires.node)) c.in_default.not-Negation c.in_default.not-And c.in_default.not-Or c.in_default.not-Implies c.in_default.not-Iff c.in_default.not-All c.in_default.not-Ex c.in_default.not-True c.in_default.not-False), tt); grows = extends-refl t0 }
