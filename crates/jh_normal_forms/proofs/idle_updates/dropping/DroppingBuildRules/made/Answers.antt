use Rattle.std.proofs.Common.{◌≡◌, refl, sym, ap, ◌∙◌, Some, slice_get}
use Rattle.std.proofs.lemmas.Result.{IfOk-weaker}
use Rattle.jh_form.specs.Tree.{of_field}
use Rattle.jh_form.specs.Tree as t
use Rattle.jh_arena.specs.table.Entries.{the_field, the_object, the_value}
use Rattle.jh_arena.specs.table.Nodes.{nodes, fits_in, shape_tree, tree_in}
use Rattle.jh_arena.specs.declared.table.shapes.Shape.TheVariants as s
use Rattle.jh_normal_forms.specs.rebuilding.Walking.{applied}
use Rattle.jh_normal_forms.specs.idle_updates.Dropped.{without_field_value, dropping}
use Rattle.jh_normal_forms.proofs.idle_updates.Arms.{update-as, other-made}
use Rattle.jh_normal_forms.proofs.idle_updates.dropping.DroppingBuildRules.made.Goals as goal

pub update-requires : goal.update-requires
update-requires c = record { fits = ap (fits_in c.args.table.now) (sym c.in-Update.is) ∙ c.requires.fits }

pub returns-in-Update-clause-node : goal.returns-in-Update-clause-node
unfolding applied shape_tree
returns-in-Update-clause-node c =
    let v = c.args.table.now in
    let w = without_field_value (t.update (the_field (slice_get (nodes v) c.in-Update.field)) (the_object (slice_get (nodes v) c.in-Update.at)) (the_value (slice_get (nodes v) c.in-Update.value))) in
    IfOk-weaker
    c.update.result
    (λ made. slice_get (nodes c.update.new.table) made ≡ Some (of_field w))
    (λ made. slice_get (nodes c.update.new.table) made ≡ Some (applied (tree_in v c.args.shape) dropping c.args._polarity))
    (λ made at. at ∙ ap (λ u. Some u) (update-as v.pools (nodes v) c.args.shape (s.Update c.in-Update.field c.in-Update.at c.in-Update.value) c.args._polarity (of_field w) c.in-Update.is refl))
    c.update.ensures.node

pub returns-in_default : goal.returns-in_default
returns-in_default c = record {
  node = IfOk-weaker
      c.make.result
      (λ made. slice_get (nodes c.make.new.self) made ≡ Some (tree_in c.args.table.now c.args.shape))
      (λ made. slice_get (nodes c.make.new.self) made ≡ Some (applied (tree_in c.args.table.now c.args.shape) dropping c.args._polarity))
      (λ made at. at ∙ ap (λ v. Some v) (sym (other-made c.args.table.now.pools (nodes c.args.table.now) c.args.shape c.args._polarity c.in_default.not-Update)))
      c.make.ensures.node;
  grows = c.make.ensures.grows;
}
