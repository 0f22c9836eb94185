-- When a map of leaves keeps the meaning of what it maps.
use Rattle.std.specs.Prelude.{◌≡◌, ℕ, ◌+◌, ◌≤◌, List, ◌∷◌, length, slice_index}
use Rattle.jh_name.specs.declared.naming.Name.{Name}
use Rattle.jh_form.specs.Tree.{ValueTree}
use Rattle.jh_form.specs.Meaning.{Interp, term_value, int_value, truth, set_value, field_value, datum}
use Rattle.jh_boxed.specs.Mapped.{LeafMap, mapped_value}

-- What stands for a leaf means in m what the leaf means in n. The objects of the bound variables, the
-- innermost binder's first, are e after the mapping, of which the first d belong to the binders that
-- were passed, and `view d e` before it.
pub record Keeps (l : LeafMap) (m n : Interp) (view : ℕ → List ℕ → List ℕ) : Type 0 where
  pub last : m.last ≡ n.last
  pub under : (d : ℕ) (e : List ℕ) (x : ℕ) → view (d + 1) (x ∷ e) ≡ x ∷ view d e
  pub object : (x : Name) (d : ℕ) (e : List ℕ) → d ≤ length e → term_value (l.object_at x d) m e ≡ n.object x
  pub number : (x : Name) (d : ℕ) (e : List ℕ) → d ≤ length e → int_value (l.number_at x d) m e ≡ n.number x
  pub truth : (x : Name) (d : ℕ) (e : List ℕ) → d ≤ length e → truth (l.truth_at x d) m e ≡ n.truth x
  pub set : (x : Name) (d : ℕ) (e : List ℕ) → d ≤ length e → set_value (l.set_at x d) m e ≡ n.set x
  pub field : (x : Name) (d : ℕ) (e : List ℕ) → d ≤ length e → field_value (l.field_at x d) m e ≡ n.field x
  pub bound : (k d : ℕ) (e : List ℕ) → d ≤ length e → term_value (l.bound_at k d) m e ≡ slice_index (view d e) k

-- where each leaf keeps its meaning, the mapped tree has the meaning of the tree
abbrev pub MapKeepsMeaning : Type 0
MapKeepsMeaning =
    (l : LeafMap) (m n : Interp) (view : ℕ → List ℕ → List ℕ) → Keeps l m n view →
    (a : ValueTree) (d : ℕ) (e : List ℕ) → d ≤ length e →
    datum (mapped_value a l d) m e ≡ datum a n (view d e)
