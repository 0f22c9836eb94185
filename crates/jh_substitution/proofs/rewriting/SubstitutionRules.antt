-- Written by tools/rewrite.py.
-- The rules of a substitution, over a table.
use Rattle.std.proofs.Common.{◌≡◌, refl, sym, ap, ℕ, Bool, true, false, if◌then◌else◌, List, slice_get, is_some}
use Rattle.std.proofs.lemmas.Bool.{true≢false}
use Rattle.jh_name.specs.declared.naming.Name.{Name}
use Rattle.jh_name.specs.declared.place.Sort as place
use Rattle.jh_name.specs.declared.place.Sort.TheVariants as Sort
use Rattle.jh_form.specs.Tree.{ValueTree, of_object, of_number, of_truth, of_set, of_field}
use Rattle.jh_form.specs.Tree as t
use Rattle.jh_form.specs.Passing.{name_equal}
use Rattle.jh_form.proofs.Names.{name_equal-same, name_equal-true}
use Rattle.jh_substitution.specs.rewriting.Rewritten.{leaves_alone, rewritten_value, rewritten_term, rewritten_int, rewritten_set, rewritten_field, rewritten_formula}
use Rattle.jh_boxed_operations.specs.substitution.Substituted.{substituting}
use Rattle.jh_form.specs.Sorts.{tree_sort}
use Rattle.jh_arena.specs.table.Entries.{Pools, the_name}
use Rattle.jh_arena.specs.table.Nodes.{fits, shape_tree}
use Rattle.jh_arena.specs.declared.table.shapes.Shape.{Shape}
use Rattle.jh_arena.specs.declared.table.shapes.Shape.TheVariants as s
use Rattle.jh_substitution.specs.rewriting.Leaf.{is_leaf, free_shape, free_value}

-- where the test passes, and where the names differ
pub chosen : {X : Type 0} (x : Name) (a c : X) → (if name_equal x x then a else c) ≡ a
chosen x a c = ap (λ b. if b then a else c) (name_equal-same x x refl)

unless : {X : Type 0} (y x : Name) (a c : X) (b : Bool) → name_equal y x ≡ b → (y ≡ x → ⊥) → (if b then a else c) ≡ c
unless y x a c true e differs = absurd (differs (name_equal-true y x e))
unless y x a c false e differs = refl

pub other : {X : Type 0} (y x : Name) (a c : X) → (y ≡ x → ⊥) → (if name_equal y x then a else c) ≡ c
other y x a c differs = unless y x a c (name_equal y x) refl differs

-- the value stands for the name
pub free-exchanged : (x : Name) (v : ValueTree) (d : ℕ) → rewritten_value (free_value x v) (leaves_alone (substituting x v)) d ≡ v
unfolding rewritten_value rewritten_term rewritten_int rewritten_set rewritten_field rewritten_formula
free-exchanged x (of_object a) d = ap of_object (chosen x a (t.free_object x))
free-exchanged x (of_number a) d = ap of_number (chosen x a (t.free_number x))
free-exchanged x (of_truth a) d = ap of_truth (chosen x a (t.free_truth x))
free-exchanged x (of_set a) d = ap of_set (chosen x a (t.free_set x))
free-exchanged x (of_field a) d = ap of_field (chosen x a (t.free_field x))

-- another leaf stays
pub other-kept : (p : Pools) (ts : List ValueTree) (x : Name) (d : ℕ) (y : Shape) (v : ValueTree) → is_leaf y ≡ true → (shape_tree p ts y ≡ free_value x v → ⊥) →
    rewritten_value (shape_tree p ts y) (leaves_alone (substituting x v)) d ≡ shape_tree p ts y
unfolding is_leaf shape_tree rewritten_value rewritten_term rewritten_int rewritten_set rewritten_field rewritten_formula
other-kept p ts x d (s.Bound k) (of_object a) leaf differs = refl
other-kept p ts x d (s.Bound k) (of_number a) leaf differs = refl
other-kept p ts x d (s.Bound k) (of_truth a) leaf differs = refl
other-kept p ts x d (s.Bound k) (of_set a) leaf differs = refl
other-kept p ts x d (s.Bound k) (of_field a) leaf differs = refl
other-kept p ts x d (s.FreeObject n) (of_object a) leaf differs = ap of_object (other (the_name (slice_get p.names n)) x a (t.free_object (the_name (slice_get p.names n))) (λ e. differs (ap (λ z. of_object (t.free_object z)) e)))
other-kept p ts x d (s.FreeObject n) (of_number a) leaf differs = refl
other-kept p ts x d (s.FreeObject n) (of_truth a) leaf differs = refl
other-kept p ts x d (s.FreeObject n) (of_set a) leaf differs = refl
other-kept p ts x d (s.FreeObject n) (of_field a) leaf differs = refl
other-kept p ts x d (s.FreeNumber n) (of_object a) leaf differs = refl
other-kept p ts x d (s.FreeNumber n) (of_number a) leaf differs = ap of_number (other (the_name (slice_get p.names n)) x a (t.free_number (the_name (slice_get p.names n))) (λ e. differs (ap (λ z. of_number (t.free_number z)) e)))
other-kept p ts x d (s.FreeNumber n) (of_truth a) leaf differs = refl
other-kept p ts x d (s.FreeNumber n) (of_set a) leaf differs = refl
other-kept p ts x d (s.FreeNumber n) (of_field a) leaf differs = refl
other-kept p ts x d (s.FreeTruth n) (of_object a) leaf differs = refl
other-kept p ts x d (s.FreeTruth n) (of_number a) leaf differs = refl
other-kept p ts x d (s.FreeTruth n) (of_truth a) leaf differs = ap of_truth (other (the_name (slice_get p.names n)) x a (t.free_truth (the_name (slice_get p.names n))) (λ e. differs (ap (λ z. of_truth (t.free_truth z)) e)))
other-kept p ts x d (s.FreeTruth n) (of_set a) leaf differs = refl
other-kept p ts x d (s.FreeTruth n) (of_field a) leaf differs = refl
other-kept p ts x d (s.FreeSet n) (of_object a) leaf differs = refl
other-kept p ts x d (s.FreeSet n) (of_number a) leaf differs = refl
other-kept p ts x d (s.FreeSet n) (of_truth a) leaf differs = refl
other-kept p ts x d (s.FreeSet n) (of_set a) leaf differs = ap of_set (other (the_name (slice_get p.names n)) x a (t.free_set (the_name (slice_get p.names n))) (λ e. differs (ap (λ z. of_set (t.free_set z)) e)))
other-kept p ts x d (s.FreeSet n) (of_field a) leaf differs = refl
other-kept p ts x d (s.FreeField n) (of_object a) leaf differs = refl
other-kept p ts x d (s.FreeField n) (of_number a) leaf differs = refl
other-kept p ts x d (s.FreeField n) (of_truth a) leaf differs = refl
other-kept p ts x d (s.FreeField n) (of_set a) leaf differs = refl
other-kept p ts x d (s.FreeField n) (of_field a) leaf differs = ap of_field (other (the_name (slice_get p.names n)) x a (t.free_field (the_name (slice_get p.names n))) (λ e. differs (ap (λ z. of_field (t.free_field z)) e)))
other-kept p ts x d _ v leaf differs = absurd (true≢false (sym leaf))

-- the free name at the sort of the value
pub free-fits : (p : Pools) (ts : List ValueTree) (n : ℕ) (sort : place.Sort) → is_some (slice_get p.names n) ≡ true → fits p ts (free_shape n sort) ≡ true
unfolding fits free_shape
free-fits p ts n Sort.Obj h = h
free-fits p ts n Sort.Int h = h
free-fits p ts n Sort.Bool h = h
free-fits p ts n Sort.Set h = h
free-fits p ts n Sort.Field h = h

pub free-tree : (p : Pools) (ts : List ValueTree) (n : ℕ) (v : ValueTree) → shape_tree p ts (free_shape n (tree_sort v)) ≡ free_value (the_name (slice_get p.names n)) v
unfolding shape_tree free_shape
free-tree p ts n (of_object a) = refl
free-tree p ts n (of_number a) = refl
free-tree p ts n (of_truth a) = refl
free-tree p ts n (of_set a) = refl
free-tree p ts n (of_field a) = refl
