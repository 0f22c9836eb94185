-- A shape is asked for exactly where its tree is.
use Rattle.std.proofs.Common.{◌≡◌, refl, sym, ap, ◌∙◌, Bool, false, List, Some, Option}
use Rattle.jh_name.specs.declared.place.Sort.TheVariants as Sort
use Rattle.jh_form.specs.Tree.{ValueTree, of_object, of_number, of_truth, of_set, of_field}
use Rattle.jh_form.specs.Sorts.{tree_sort}
use Rattle.jh_form.specs.Closed.{is_closed_value}
use Rattle.jh_arena.specs.table.Entries.{Pools, the_value}
use Rattle.jh_arena.specs.table.Nodes.{shape_tree}
use Rattle.jh_arena.specs.declared.table.shapes.Shape.{Shape}
use Rattle.jh_arena.specs.declared.table.shapes.Shape.TheVariants as s
use Rattle.jh_normal_forms.specs.parts.Asked.{is_closed_object, is_update, is_field_list, is_free_name, is_update_shape, is_field_list_shape, is_free_name_shape}

module _ (p : Pools) (ts : List ValueTree) where
  pub update-shape : (x : Shape) → is_update_shape x ≡ is_update (shape_tree p ts x)
  unfolding is_update_shape is_update shape_tree
  update-shape (s.Update a b c) = refl
  update-shape _ = refl

  pub field_list-shape : (x : Shape) → is_field_list_shape x ≡ is_field_list (shape_tree p ts x)
  unfolding is_field_list_shape is_field_list shape_tree
  field_list-shape (s.Reach l a b) = refl
  field_list-shape (s.Tree l) = refl
  field_list-shape _ = refl

  pub free_name-shape : (x : Shape) → is_free_name_shape x ≡ is_free_name (shape_tree p ts x)
  unfolding is_free_name_shape is_free_name shape_tree
  free_name-shape (s.FreeObject n) = refl
  free_name-shape (s.FreeNumber n) = refl
  free_name-shape (s.FreeTruth n) = refl
  free_name-shape (s.FreeSet n) = refl
  free_name-shape (s.FreeField n) = refl
  free_name-shape _ = refl

-- what a test says of the tree of a node
pub asked-there : (test : ValueTree → Bool) (o : Option ValueTree) (v : ValueTree) (b : Bool) → o ≡ Some v → b ≡ test v → b ≡ test (the_value o)
unfolding the_value
asked-there test o v b e h = h ∙ ap (λ q. test (the_value q)) (sym e)

-- a term for an object is closed where its value is, and nothing else is asked for
pub object-asked : (v : ValueTree) (closed : Bool) → tree_sort v ≡ Sort.Obj → closed ≡ is_closed_value v 0 → closed ≡ is_closed_object v
unfolding is_closed_object is_closed_value
object-asked (of_object a) closed e h = h
object-asked (of_number a) closed e h = absurd (cc)
object-asked (of_truth a) closed e h = absurd (cc)
object-asked (of_set a) closed e h = absurd (cc)
object-asked (of_field a) closed e h = absurd (cc)

pub other-asked : (v : ValueTree) → (tree_sort v ≡ Sort.Obj → ⊥) → false ≡ is_closed_object v
unfolding is_closed_object
other-asked (of_object a) h = absurd (h refl)
other-asked _ h = refl
