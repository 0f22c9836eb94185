-- Formulas that speak of a list of fields.
use Rattle.std.proofs.Common.{◌≡◌, refl, ap, ◌∙◌, ℕ, true, List, slice_get, Some}
use Rattle.jh_form.specs.Tree.{of_object, of_truth}
use Rattle.jh_form.specs.Tree as t
use Rattle.jh_arena.specs.table.Entries.{Listing, is_object, the_object, are_fields, fields_at}
use Rattle.jh_arena.specs.table.Nodes.{nodes, fits_in, tree_in}
use Rattle.jh_arena.specs.declared.table.shapes.Shape.TheVariants as s
use Rattle.jh_arena.proofs.table.Children.{it-is-object}
use Rattle.jh_arena.proofs.table.NodeSteps.{fits-Reach, tree-Reach, fits-Tree, tree-Tree}

module _ (old new : Listing) (list : ℕ) (fs : List ℕ) (same : nodes new ≡ nodes old) (listed : slice_get new.pools.lists list ≡ Some fs) (fields : are_fields (nodes old) fs ≡ true) where
  are : are_fields (nodes new) fs ≡ true
  are = ap (λ ts. are_fields ts fs) same ∙ fields

  at : (a : ℕ) → is_object (slice_get (nodes old) a) ≡ true → slice_get (nodes new) a ≡ Some (of_object (the_object (slice_get (nodes old) a)))
  at a h = ap (λ ts. slice_get ts a) same ∙ it-is-object (slice_get (nodes old) a) h

  pub reach-fits : (a b : ℕ) → is_object (slice_get (nodes old) a) ≡ true → is_object (slice_get (nodes old) b) ≡ true → fits_in new (s.Reach list a b) ≡ true
  reach-fits a b h k =
      fits-Reach new.pools (nodes new) list a b fs (fields_at (nodes new) fs) (the_object (slice_get (nodes old) a)) (the_object (slice_get (nodes old) b)) listed are refl (at a h) (at b k)

  pub reach-tree : (a b : ℕ) → is_object (slice_get (nodes old) a) ≡ true → is_object (slice_get (nodes old) b) ≡ true →
      tree_in new (s.Reach list a b) ≡ of_truth (t.reach (fields_at (nodes old) fs) (the_object (slice_get (nodes old) a)) (the_object (slice_get (nodes old) b)))
  reach-tree a b h k =
      tree-Reach new.pools (nodes new) list a b fs (fields_at (nodes old) fs) (the_object (slice_get (nodes old) a)) (the_object (slice_get (nodes old) b)) listed are (ap (λ ts. fields_at ts fs) same) (at a h) (at b k)

  pub forest-fits : fits_in new (s.Tree list) ≡ true
  forest-fits = fits-Tree new.pools (nodes new) list fs (fields_at (nodes new) fs) listed are refl

  pub forest-tree : tree_in new (s.Tree list) ≡ of_truth (t.tree (fields_at (nodes old) fs))
  forest-tree = tree-Tree new.pools (nodes new) list fs (fields_at (nodes old) fs) listed are (ap (λ ts. fields_at ts fs) same)
