use Rattle.std.proofs.Common.{◌≡◌, refl, sym, ap, ◌∙◌, Some, slice_get}
use Rattle.std.proofs.lemmas.Result.{IfOk-weaker}
use Rattle.jh_form.specs.Tree.{of_truth}
use Rattle.jh_form.specs.Tree as t
use Rattle.jh_arena.specs.table.Entries.{the_truth}
use Rattle.jh_arena.specs.table.Nodes.{nodes, fits_in, shape_tree, tree_in}
use Rattle.jh_arena.specs.declared.table.shapes.Shape.TheVariants as s
use Rattle.jh_arena.proofs.table.PartSteps.{part-Iff-a, part-Iff-b}
use Rattle.jh_normal_forms.specs.rebuilding.Walking.{applied}
use Rattle.jh_fca.specs.cutting.Cut.{two_ways, opening_iffs}
use Rattle.jh_fca.proofs.cutting.Arms.{iffs-as, iffs-other}
use Rattle.jh_fca.proofs.cutting.iffs.OpeningIffsBuildRules.made.Goals as goal

pub opened-requires : goal.opened-requires
opened-requires c =
    let v = c.args.table.now in
    let fits = ap (fits_in v) (sym c.in-Iff.is) ∙ c.requires.fits in
    record { a = part-Iff-a v.pools (nodes v) c.in-Iff.a c.in-Iff.b fits; b = part-Iff-b v.pools (nodes v) c.in-Iff.a c.in-Iff.b fits }

pub returns-in-Iff-clause-node : goal.returns-in-Iff-clause-node
unfolding applied shape_tree
returns-in-Iff-clause-node c =
    let v = c.args.table.now in
    let p = the_truth (slice_get (nodes v) c.in-Iff.a) in
    let q = the_truth (slice_get (nodes v) c.in-Iff.b) in
    IfOk-weaker
    c.opened.result
    (λ made. slice_get (nodes c.opened.new.table) made ≡ Some (of_truth (two_ways (t.iff p q))))
    (λ made. slice_get (nodes c.opened.new.table) made ≡ Some (applied (tree_in v c.args.shape) opening_iffs c.args._polarity))
    (λ made at. at ∙ ap (λ w. Some w) (iffs-as v.pools (nodes v) c.args.shape (s.Iff c.in-Iff.a c.in-Iff.b) c.args._polarity (of_truth (two_ways (t.iff p q))) c.in-Iff.is refl))
    c.opened.ensures.node

pub returns-in_default : goal.returns-in_default
returns-in_default c = record {
  node = IfOk-weaker
      c.make.result
      (λ made. slice_get (nodes c.make.new.self) made ≡ Some (tree_in c.args.table.now c.args.shape))
      (λ made. slice_get (nodes c.make.new.self) made ≡ Some (applied (tree_in c.args.table.now c.args.shape) opening_iffs c.args._polarity))
      (λ made at. at ∙ ap (λ v. Some v) (sym (iffs-other c.args.table.now.pools (nodes c.args.table.now) c.args.shape c.args._polarity c.in_default.not-Iff)))
      c.make.ensures.node;
  grows = c.make.ensures.grows;
}
