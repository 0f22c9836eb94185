-- Written by tools/premises_arms.py.
use Rattle.std.proofs.Common.{refl, sym, ap, subst, ◌∙◌, slice_get}
use Rattle.std.specs.Prelude.{Option}
use Rattle.jh_form.specs.Tree.{FormulaTree}
use Rattle.jh_form.specs.Closed.{is_closed_term, is_closed_set, is_closed_formula}
use Rattle.jh_form.proofs.ClosedLemmas.{both-left}
use Rattle.jh_form.specs.Tree as t
use Rattle.jh_arena.specs.table.Entries.{the_truth, the_set, the_object, is_object, is_truth}
use Rattle.jh_arena.specs.table.Nodes.{nodes, shape_tree}
use Rattle.jh_arena.specs.declared.table.shapes.Shape.TheVariants as s
use Rattle.jh_arena.proofs.table.PartSteps.{part-EqSet-a, part-EqSet-b, part-Member-a, part-Member-b, part-Subset-a, part-Subset-b}
use Rattle.jh_arena.proofs.table.Children.{it-is-object, it-is-set}
use Rattle.jh_derivation_rules.specs.Rules.{relation_opened}
use Rattle.jh_derivation_steps.specs.premises.Nodes.{formula_at, term_at, set_at, option_formula, IsMade, Makes}
use Rattle.jh_derivation_steps.proofs.premises.Shaping.{fits-at, formula-at, arm}
use Rattle.jh_arena.proofs.table.Listed.{extends-refl}
use Rattle.jh_derivation_steps.proofs.premises.Others.{relation_opened-none}
use Rattle.jh_derivation_steps.proofs.premises.opening.relation_opened.Goals as goal

pub same_members-requires-clause-a : goal.same_members-requires-clause-a
same_members-requires-clause-a c =
    let t0 = c.args.table.now in
    (it-is-set (slice_get (nodes t0) c.in-EqSet.a) (part-EqSet-a t0.pools (nodes t0) c.in-EqSet.a c.in-EqSet.b (fits-at t0 c.shape.result (s.EqSet c.in-EqSet.a c.in-EqSet.b) c.shape.ensures.fits c.in-EqSet.is)))

pub same_members-requires-clause-b : goal.same_members-requires-clause-b
same_members-requires-clause-b c =
    let t0 = c.args.table.now in
    (it-is-set (slice_get (nodes t0) c.in-EqSet.b) (part-EqSet-b t0.pools (nodes t0) c.in-EqSet.a c.in-EqSet.b (fits-at t0 c.shape.result (s.EqSet c.in-EqSet.a c.in-EqSet.b) c.shape.ensures.fits c.in-EqSet.is)))

pub returns-in_ok-same_members-in-EqSet-clause-made : goal.returns-in_ok-same_members-in-EqSet-clause-made
unfolding relation_opened shape_tree the_truth the_set the_object is_object
returns-in_ok-same_members-in-EqSet-clause-made c =
    let t0 = c.args.table.now in
    arm (nodes c.same_members.new.table) c.in_ok-same_members-in-EqSet.field-0 (t.all (t.iff (t.member (t.bound 0) (set_at (nodes t0) c.in-EqSet.a)) (t.member (t.bound 0) (set_at (nodes t0) c.in-EqSet.b)))) (relation_opened (formula_at (nodes t0) c.args.node)) (formula-at relation_opened t0 c.args.node c.shape.result (s.EqSet c.in-EqSet.a c.in-EqSet.b) c.shape.ensures.tree c.in-EqSet.is) (c.in_ok-same_members-in-EqSet.ensures.made (set_at (nodes t0) c.in-EqSet.a) (set_at (nodes t0) c.in-EqSet.b) (it-is-set (slice_get (nodes t0) c.in-EqSet.a) (part-EqSet-a t0.pools (nodes t0) c.in-EqSet.a c.in-EqSet.b (fits-at t0 c.shape.result (s.EqSet c.in-EqSet.a c.in-EqSet.b) c.shape.ensures.fits c.in-EqSet.is))) (it-is-set (slice_get (nodes t0) c.in-EqSet.b) (part-EqSet-b t0.pools (nodes t0) c.in-EqSet.a c.in-EqSet.b (fits-at t0 c.shape.result (s.EqSet c.in-EqSet.a c.in-EqSet.b) c.shape.ensures.fits c.in-EqSet.is))))

pub all_members-requires-clause-a : goal.all_members-requires-clause-a
all_members-requires-clause-a c =
    let t0 = c.args.table.now in
    (it-is-set (slice_get (nodes t0) c.in-Subset.a) (part-Subset-a t0.pools (nodes t0) c.in-Subset.a c.in-Subset.b (fits-at t0 c.shape.result (s.Subset c.in-Subset.a c.in-Subset.b) c.shape.ensures.fits c.in-Subset.is)))

pub all_members-requires-clause-b : goal.all_members-requires-clause-b
all_members-requires-clause-b c =
    let t0 = c.args.table.now in
    (it-is-set (slice_get (nodes t0) c.in-Subset.b) (part-Subset-b t0.pools (nodes t0) c.in-Subset.a c.in-Subset.b (fits-at t0 c.shape.result (s.Subset c.in-Subset.a c.in-Subset.b) c.shape.ensures.fits c.in-Subset.is)))

pub returns-in_ok-all_members-in-Subset-clause-made : goal.returns-in_ok-all_members-in-Subset-clause-made
unfolding relation_opened shape_tree the_truth the_set the_object is_object
returns-in_ok-all_members-in-Subset-clause-made c =
    let t0 = c.args.table.now in
    arm (nodes c.all_members.new.table) c.in_ok-all_members-in-Subset.field-0 (t.all (t.implies (t.member (t.bound 0) (set_at (nodes t0) c.in-Subset.a)) (t.member (t.bound 0) (set_at (nodes t0) c.in-Subset.b)))) (relation_opened (formula_at (nodes t0) c.args.node)) (formula-at relation_opened t0 c.args.node c.shape.result (s.Subset c.in-Subset.a c.in-Subset.b) c.shape.ensures.tree c.in-Subset.is) (c.in_ok-all_members-in-Subset.ensures.made (set_at (nodes t0) c.in-Subset.a) (set_at (nodes t0) c.in-Subset.b) (it-is-set (slice_get (nodes t0) c.in-Subset.a) (part-Subset-a t0.pools (nodes t0) c.in-Subset.a c.in-Subset.b (fits-at t0 c.shape.result (s.Subset c.in-Subset.a c.in-Subset.b) c.shape.ensures.fits c.in-Subset.is))) (it-is-set (slice_get (nodes t0) c.in-Subset.b) (part-Subset-b t0.pools (nodes t0) c.in-Subset.a c.in-Subset.b (fits-at t0 c.shape.result (s.Subset c.in-Subset.a c.in-Subset.b) c.shape.ensures.fits c.in-Subset.is))))

pub member_opened-requires-clause-object : goal.member_opened-requires-clause-object
member_opened-requires-clause-object c =
    let t0 = c.args.table.now in
    (it-is-object (slice_get (nodes t0) c.in-Member.a) (part-Member-a t0.pools (nodes t0) c.in-Member.a c.in-Member.b (fits-at t0 c.shape.result (s.Member c.in-Member.a c.in-Member.b) c.shape.ensures.fits c.in-Member.is)))

pub member_opened-requires-clause-set : goal.member_opened-requires-clause-set
member_opened-requires-clause-set c =
    let t0 = c.args.table.now in
    (it-is-set (slice_get (nodes t0) c.in-Member.b) (part-Member-b t0.pools (nodes t0) c.in-Member.a c.in-Member.b (fits-at t0 c.shape.result (s.Member c.in-Member.a c.in-Member.b) c.shape.ensures.fits c.in-Member.is)))

pub member_opened-requires-clause-closed : goal.member_opened-requires-clause-closed
unfolding relation_opened shape_tree the_truth the_set the_object is_object is_closed_formula
member_opened-requires-clause-closed c =
    let t0 = c.args.table.now in
    both-left (is_closed_term (term_at (nodes t0) c.in-Member.a) 0) (is_closed_set (set_at (nodes t0) c.in-Member.b) 0) (sym (formula-at (λ f. is_closed_formula f 0) t0 c.args.node c.shape.result (s.Member c.in-Member.a c.in-Member.b) c.shape.ensures.tree c.in-Member.is) ∙ c.requires.closed)

pub returns-in-Member-clause-made : goal.returns-in-Member-clause-made
unfolding relation_opened shape_tree the_truth the_set the_object is_object
returns-in-Member-clause-made c =
    let t0 = c.args.table.now in
    subst (λ (o : Option FormulaTree). Makes (nodes c.member_opened.new.table) o c.member_opened.result) (sym (formula-at relation_opened t0 c.args.node c.shape.result (s.Member c.in-Member.a c.in-Member.b) c.shape.ensures.tree c.in-Member.is)) c.member_opened.ensures.made

pub returns-in_default : goal.returns-in_default
unfolding relation_opened shape_tree the_truth the_set the_object is_object option_formula IsMade is_truth
returns-in_default c =
    let t0 = c.args.table.now in
    record { made = (sym (formula-at relation_opened t0 c.args.node c.shape.result c.shape.result c.shape.ensures.tree refl ∙ relation_opened-none t0.pools (nodes t0) c.shape.result (ap is_truth (sym c.shape.ensures.tree ∙ c.requires.node)) c.in_default.not-EqSet c.in_default.not-Subset c.in_default.not-Member), tt); grows = extends-refl t0 }
