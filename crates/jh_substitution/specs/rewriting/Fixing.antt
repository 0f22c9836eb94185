-- Leaves that a map of leaves leaves as they are.
use Rattle.std.specs.Prelude.{◌≡◌, ℕ, ◌<◌, Bool, true}
use Rattle.jh_name.specs.declared.naming.Name.{Name}
use Rattle.jh_name.specs.declared.place.Sort as place
use Rattle.jh_name.specs.declared.place.Sort.TheVariants as Sort
use Rattle.jh_form.specs.Tree as t
use Rattle.jh_boxed.specs.Mapped.{LeafMap, mapped_value}

-- The map fixes each free name that passes, and each bound variable.
pub record FixesNames (l : LeafMap) (p : Name → place.Sort → Bool) : Type 0 where
  pub object : (x : Name) (d : ℕ) → p x Sort.Obj ≡ true → l.object_at x d ≡ t.free_object x
  pub number : (x : Name) (d : ℕ) → p x Sort.Int ≡ true → l.number_at x d ≡ t.free_number x
  pub truth : (x : Name) (d : ℕ) → p x Sort.Bool ≡ true → l.truth_at x d ≡ t.free_truth x
  pub set : (x : Name) (d : ℕ) → p x Sort.Set ≡ true → l.set_at x d ≡ t.free_set x
  pub field : (x : Name) (d : ℕ) → p x Sort.Field ≡ true → l.field_at x d ≡ t.free_field x
  pub bound : (k d : ℕ) → l.bound_at k d ≡ t.bound k

-- The map fixes each free name, and each bound variable of the binders passed.
pub record FixesBound (l : LeafMap) : Type 0 where
  pub object : (x : Name) (d : ℕ) → l.object_at x d ≡ t.free_object x
  pub number : (x : Name) (d : ℕ) → l.number_at x d ≡ t.free_number x
  pub truth : (x : Name) (d : ℕ) → l.truth_at x d ≡ t.free_truth x
  pub set : (x : Name) (d : ℕ) → l.set_at x d ≡ t.free_set x
  pub field : (x : Name) (d : ℕ) → l.field_at x d ≡ t.free_field x
  pub bound : (k d : ℕ) → k < d → l.bound_at k d ≡ t.bound k

-- The map leaves each free name and each bound variable as it is.
pub record ChangesNothing (l : LeafMap) : Type 0 where
  pub object : (x : Name) (d : ℕ) → l.object_at x d ≡ t.free_object x
  pub number : (x : Name) (d : ℕ) → l.number_at x d ≡ t.free_number x
  pub truth : (x : Name) (d : ℕ) → l.truth_at x d ≡ t.free_truth x
  pub set : (x : Name) (d : ℕ) → l.set_at x d ≡ t.free_set x
  pub field : (x : Name) (d : ℕ) → l.field_at x d ≡ t.free_field x
  pub bound : (k d : ℕ) → l.bound_at k d ≡ t.bound k

-- mapping with leaves that change nothing gives the same tree
abbrev pub MapChangesNothing : Type 0
MapChangesNothing = (l : LeafMap) → ChangesNothing l → (v : t.ValueTree) (d : ℕ) → mapped_value v l d ≡ v
