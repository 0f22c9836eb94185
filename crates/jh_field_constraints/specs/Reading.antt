-- Reads of a field in an atom of local shape.
use Rattle.std.specs.Prelude.{◌≡◌, ℕ, Bool, true, false, ◌||◌, List, slice_get}
use Rattle.jh_name.specs.declared.naming.Name.{Name}
use Rattle.jh_form.specs.Tree.{FieldTrees, ValueTree, FormulaTree}
use Rattle.jh_form.specs.Tree as t
use Rattle.jh_arena.specs.table.Entries.{is_truth, the_truth}
use Rattle.jh_seq.specs.splitting.Local.{has_local_shape}
use Rattle.jh_fca.specs.elimination.Constraints.{is_name}

-- a read of the field that gives an object
unfoldable pub is_object_read : Name → ValueTree → Bool
is_object_read f (t.of_object (t.read_object g a)) = is_name f g
is_object_read f v = false

-- what is no connective, no quantifier and no label
unfoldable pub is_atom : FormulaTree → Bool
is_atom (t.negation a) = false
is_atom (t.and a b) = false
is_atom (t.or a b) = false
is_atom (t.implies a b) = false
is_atom (t.iff a b) = false
is_atom (t.all a) = false
is_atom (t.ex a) = false
is_atom (t.mark m a) = false
is_atom p = true

-- a `reach` or a `tree` along this field, where the fields of the list are names
abbrev pub is_among : Name → FieldTrees → Bool
is_among f t.none = false
is_among f (t.more g gs) = is_name f g || is_among f gs

unfoldable pub is_along : Name → ValueTree → Bool
is_along f (t.of_truth (t.reach fs a b)) = is_among f fs
is_along f (t.of_truth (t.tree fs)) = is_among f fs
is_along f v = false

-- a formula of local shape stands at this node
pub record IsLocalAt (ts : List ValueTree) (n : ℕ) : Type 0 where
  pub there : is_truth (slice_get ts n) ≡ true
  pub shaped : has_local_shape (the_truth (slice_get ts n)) ≡ true

-- an atom of local shape
pub record IsLocalAtom (ts : List ValueTree) (n : ℕ) : Type 0 where
  pub local : IsLocalAt ts n
  pub atom : is_atom (the_truth (slice_get ts n)) ≡ true
