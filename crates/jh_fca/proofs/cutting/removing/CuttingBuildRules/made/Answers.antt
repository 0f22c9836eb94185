use Rattle.std.proofs.Common.{◌≡◌, refl, sym, ap, ◌∙◌, Some, slice_get}
use Rattle.std.proofs.lemmas.Result.{IfOk-weaker}
use Rattle.jh_form.specs.Tree.{of_truth}
use Rattle.jh_arena.specs.table.Entries.{the_truth}
use Rattle.jh_arena.specs.table.Nodes.{nodes, fits_in, shape_tree, tree_in}
use Rattle.jh_arena.specs.declared.table.shapes.Shape.TheVariants as s
use Rattle.jh_arena.specs.table.Entries.{the_mark}
use Rattle.jh_arena.proofs.table.PartSteps.{part-Negation-a, part-And-a, part-And-b, part-Or-a, part-Or-b, part-Implies-a, part-Implies-b, part-Iff-a, part-Iff-b, part-All-a, part-Ex-a, part-Mark-m, part-Mark-a}
use Rattle.jh_normal_forms.specs.rebuilding.Walking.{applied}
use Rattle.jh_approx.specs.definition.Shown.{negation_of, and_of, or_of, implies_of, iff_of}
use Rattle.jh_fca.specs.cutting.Cut.{all_of, ex_of, mark_of, cut_once, cutting}
use Rattle.jh_fca.specs.cutting.Leaves.{cut_leaf}
use Rattle.jh_fca.proofs.cutting.Arms.{cut-as, cut-other}
use Rattle.jh_fca.proofs.cutting.removing.CuttingBuildRules.made.Goals as goal

pub negation_of-requires : goal.negation_of-requires
negation_of-requires c =
    let v = c.args.table.now in
    record { a = part-Negation-a v.pools (nodes v) c.in-Negation.a (ap (fits_in v) (sym c.in-Negation.is) ∙ c.requires.fits) }

pub returns-in-Negation-clause-node : goal.returns-in-Negation-clause-node
unfolding applied shape_tree cut_once
returns-in-Negation-clause-node c =
    let v = c.args.table.now in
    IfOk-weaker
    c.negation_of.result
    (λ made. slice_get (nodes c.negation_of.new.table) made ≡ Some (of_truth (negation_of (the_truth (slice_get (nodes v) c.in-Negation.a)))))
    (λ made. slice_get (nodes c.negation_of.new.table) made ≡ Some (applied (tree_in v c.args.shape) cutting c.args.polarity))
    (λ made at. at ∙ ap (λ w. Some w) (cut-as v.pools (nodes v) c.args.shape (s.Negation c.in-Negation.a) c.args.polarity (of_truth (negation_of (the_truth (slice_get (nodes v) c.in-Negation.a)))) c.in-Negation.is refl))
    c.negation_of.ensures.node

pub and_of-requires : goal.and_of-requires
and_of-requires c =
    let v = c.args.table.now in
    record { a = part-And-a v.pools (nodes v) c.in-And.a c.in-And.b (ap (fits_in v) (sym c.in-And.is) ∙ c.requires.fits); b = part-And-b v.pools (nodes v) c.in-And.a c.in-And.b (ap (fits_in v) (sym c.in-And.is) ∙ c.requires.fits) }

pub returns-in-And-clause-node : goal.returns-in-And-clause-node
unfolding applied shape_tree cut_once
returns-in-And-clause-node c =
    let v = c.args.table.now in
    IfOk-weaker
    c.and_of.result
    (λ made. slice_get (nodes c.and_of.new.table) made ≡ Some (of_truth (and_of (the_truth (slice_get (nodes v) c.in-And.a)) (the_truth (slice_get (nodes v) c.in-And.b)))))
    (λ made. slice_get (nodes c.and_of.new.table) made ≡ Some (applied (tree_in v c.args.shape) cutting c.args.polarity))
    (λ made at. at ∙ ap (λ w. Some w) (cut-as v.pools (nodes v) c.args.shape (s.And c.in-And.a c.in-And.b) c.args.polarity (of_truth (and_of (the_truth (slice_get (nodes v) c.in-And.a)) (the_truth (slice_get (nodes v) c.in-And.b)))) c.in-And.is refl))
    c.and_of.ensures.node

pub or_of-requires : goal.or_of-requires
or_of-requires c =
    let v = c.args.table.now in
    record { a = part-Or-a v.pools (nodes v) c.in-Or.a c.in-Or.b (ap (fits_in v) (sym c.in-Or.is) ∙ c.requires.fits); b = part-Or-b v.pools (nodes v) c.in-Or.a c.in-Or.b (ap (fits_in v) (sym c.in-Or.is) ∙ c.requires.fits) }

pub returns-in-Or-clause-node : goal.returns-in-Or-clause-node
unfolding applied shape_tree cut_once
returns-in-Or-clause-node c =
    let v = c.args.table.now in
    IfOk-weaker
    c.or_of.result
    (λ made. slice_get (nodes c.or_of.new.table) made ≡ Some (of_truth (or_of (the_truth (slice_get (nodes v) c.in-Or.a)) (the_truth (slice_get (nodes v) c.in-Or.b)))))
    (λ made. slice_get (nodes c.or_of.new.table) made ≡ Some (applied (tree_in v c.args.shape) cutting c.args.polarity))
    (λ made at. at ∙ ap (λ w. Some w) (cut-as v.pools (nodes v) c.args.shape (s.Or c.in-Or.a c.in-Or.b) c.args.polarity (of_truth (or_of (the_truth (slice_get (nodes v) c.in-Or.a)) (the_truth (slice_get (nodes v) c.in-Or.b)))) c.in-Or.is refl))
    c.or_of.ensures.node

pub implies_of-requires : goal.implies_of-requires
implies_of-requires c =
    let v = c.args.table.now in
    record { a = part-Implies-a v.pools (nodes v) c.in-Implies.a c.in-Implies.b (ap (fits_in v) (sym c.in-Implies.is) ∙ c.requires.fits); b = part-Implies-b v.pools (nodes v) c.in-Implies.a c.in-Implies.b (ap (fits_in v) (sym c.in-Implies.is) ∙ c.requires.fits) }

pub returns-in-Implies-clause-node : goal.returns-in-Implies-clause-node
unfolding applied shape_tree cut_once
returns-in-Implies-clause-node c =
    let v = c.args.table.now in
    IfOk-weaker
    c.implies_of.result
    (λ made. slice_get (nodes c.implies_of.new.table) made ≡ Some (of_truth (implies_of (the_truth (slice_get (nodes v) c.in-Implies.a)) (the_truth (slice_get (nodes v) c.in-Implies.b)))))
    (λ made. slice_get (nodes c.implies_of.new.table) made ≡ Some (applied (tree_in v c.args.shape) cutting c.args.polarity))
    (λ made at. at ∙ ap (λ w. Some w) (cut-as v.pools (nodes v) c.args.shape (s.Implies c.in-Implies.a c.in-Implies.b) c.args.polarity (of_truth (implies_of (the_truth (slice_get (nodes v) c.in-Implies.a)) (the_truth (slice_get (nodes v) c.in-Implies.b)))) c.in-Implies.is refl))
    c.implies_of.ensures.node

pub iff_of-requires : goal.iff_of-requires
iff_of-requires c =
    let v = c.args.table.now in
    record { a = part-Iff-a v.pools (nodes v) c.in-Iff.a c.in-Iff.b (ap (fits_in v) (sym c.in-Iff.is) ∙ c.requires.fits); b = part-Iff-b v.pools (nodes v) c.in-Iff.a c.in-Iff.b (ap (fits_in v) (sym c.in-Iff.is) ∙ c.requires.fits) }

pub returns-in-Iff-clause-node : goal.returns-in-Iff-clause-node
unfolding applied shape_tree cut_once
returns-in-Iff-clause-node c =
    let v = c.args.table.now in
    IfOk-weaker
    c.iff_of.result
    (λ made. slice_get (nodes c.iff_of.new.table) made ≡ Some (of_truth (iff_of (the_truth (slice_get (nodes v) c.in-Iff.a)) (the_truth (slice_get (nodes v) c.in-Iff.b)))))
    (λ made. slice_get (nodes c.iff_of.new.table) made ≡ Some (applied (tree_in v c.args.shape) cutting c.args.polarity))
    (λ made at. at ∙ ap (λ w. Some w) (cut-as v.pools (nodes v) c.args.shape (s.Iff c.in-Iff.a c.in-Iff.b) c.args.polarity (of_truth (iff_of (the_truth (slice_get (nodes v) c.in-Iff.a)) (the_truth (slice_get (nodes v) c.in-Iff.b)))) c.in-Iff.is refl))
    c.iff_of.ensures.node

pub all_of-requires : goal.all_of-requires
all_of-requires c =
    let v = c.args.table.now in
    record { a = part-All-a v.pools (nodes v) c.in-All.a (ap (fits_in v) (sym c.in-All.is) ∙ c.requires.fits) }

pub returns-in-All-clause-node : goal.returns-in-All-clause-node
unfolding applied shape_tree cut_once
returns-in-All-clause-node c =
    let v = c.args.table.now in
    IfOk-weaker
    c.all_of.result
    (λ made. slice_get (nodes c.all_of.new.table) made ≡ Some (of_truth (all_of (the_truth (slice_get (nodes v) c.in-All.a)))))
    (λ made. slice_get (nodes c.all_of.new.table) made ≡ Some (applied (tree_in v c.args.shape) cutting c.args.polarity))
    (λ made at. at ∙ ap (λ w. Some w) (cut-as v.pools (nodes v) c.args.shape (s.All c.in-All.a) c.args.polarity (of_truth (all_of (the_truth (slice_get (nodes v) c.in-All.a)))) c.in-All.is refl))
    c.all_of.ensures.node

pub ex_of-requires : goal.ex_of-requires
ex_of-requires c =
    let v = c.args.table.now in
    record { a = part-Ex-a v.pools (nodes v) c.in-Ex.a (ap (fits_in v) (sym c.in-Ex.is) ∙ c.requires.fits) }

pub returns-in-Ex-clause-node : goal.returns-in-Ex-clause-node
unfolding applied shape_tree cut_once
returns-in-Ex-clause-node c =
    let v = c.args.table.now in
    IfOk-weaker
    c.ex_of.result
    (λ made. slice_get (nodes c.ex_of.new.table) made ≡ Some (of_truth (ex_of (the_truth (slice_get (nodes v) c.in-Ex.a)))))
    (λ made. slice_get (nodes c.ex_of.new.table) made ≡ Some (applied (tree_in v c.args.shape) cutting c.args.polarity))
    (λ made at. at ∙ ap (λ w. Some w) (cut-as v.pools (nodes v) c.args.shape (s.Ex c.in-Ex.a) c.args.polarity (of_truth (ex_of (the_truth (slice_get (nodes v) c.in-Ex.a)))) c.in-Ex.is refl))
    c.ex_of.ensures.node

pub mark_of-requires : goal.mark_of-requires
mark_of-requires c =
    let v = c.args.table.now in
    record { label = part-Mark-m v.pools (nodes v) c.in-Mark.label c.in-Mark.a (ap (fits_in v) (sym c.in-Mark.is) ∙ c.requires.fits); a = part-Mark-a v.pools (nodes v) c.in-Mark.label c.in-Mark.a (ap (fits_in v) (sym c.in-Mark.is) ∙ c.requires.fits) }

pub returns-in-Mark-clause-node : goal.returns-in-Mark-clause-node
unfolding applied shape_tree cut_once
returns-in-Mark-clause-node c =
    let v = c.args.table.now in
    IfOk-weaker
    c.mark_of.result
    (λ made. slice_get (nodes c.mark_of.new.table) made ≡ Some (of_truth (mark_of (the_mark (slice_get v.pools.marks c.in-Mark.label)) (the_truth (slice_get (nodes v) c.in-Mark.a)))))
    (λ made. slice_get (nodes c.mark_of.new.table) made ≡ Some (applied (tree_in v c.args.shape) cutting c.args.polarity))
    (λ made at. at ∙ ap (λ w. Some w) (cut-as v.pools (nodes v) c.args.shape (s.Mark c.in-Mark.label c.in-Mark.a) c.args.polarity (of_truth (mark_of (the_mark (slice_get v.pools.marks c.in-Mark.label)) (the_truth (slice_get (nodes v) c.in-Mark.a)))) c.in-Mark.is refl))
    c.mark_of.ensures.node

pub returns-in_default : goal.returns-in_default
returns-in_default c = record {
  node = IfOk-weaker
      c.leaf.result
      (λ made. slice_get (nodes c.leaf.new.table) made ≡ Some (cut_leaf (tree_in c.args.table.now c.args.shape) c.args.polarity))
      (λ made. slice_get (nodes c.leaf.new.table) made ≡ Some (applied (tree_in c.args.table.now c.args.shape) cutting c.args.polarity))
      (λ made at. at ∙ ap (λ v. Some v) (cut-other c.args.table.now.pools (nodes c.args.table.now) c.args.shape c.args.polarity c.in_default.not-Negation c.in_default.not-And c.in_default.not-Or c.in_default.not-Implies c.in_default.not-Iff c.in_default.not-All c.in_default.not-Ex c.in_default.not-Mark))
      c.leaf.ensures.node;
  grows = c.leaf.ensures.grows;
}
