-- Updates by nodes, with the names that stand for them.
use Rattle.std.specs.Prelude.{◌≡◌, ℕ, List, [], ◌∷◌, Option, Some, None, slice_get}
use Rattle.jh_form.specs.Tree.{TermTree, FieldTree, ValueTree, FormulaTree, of_object, of_field, of_truth, update}
use Rattle.jh_substitution.specs.rewriting.Rewritten.{rewritten_term, rewritten_field, rewritten_value}
use Rattle.jh_fca.specs.local_form.Named.{naming}
use Rattle.jh_local_form.specs.declared.updates.facts.NamedUpdate.{NamedUpdate}
use Rattle.jh_local_form.specs.updates.Updating.{named_as}

-- The parts of an update stand at nodes, where the updates of a list have their names.
pub record HasParts (ts : List ValueTree) (x : NamedUpdate) (us : List ValueTree) (k : ℕ) (f : FieldTree) (a : TermTree) (v : ValueTree) : Type 0 where
  pub on : slice_get ts x.field ≡ Some (of_field (rewritten_field f (naming us k) 0))
  pub for_object : slice_get ts x.at ≡ Some (of_object (rewritten_term a (naming us k) 0))
  pub gives : slice_get ts x.value ≡ Some (rewritten_value v (naming us k) 0)

-- These nodes stand for an update of a list: the name that stands for it, and its parts.
pub record IsNamedUpdate (ts : List ValueTree) (x : NamedUpdate) (us : List ValueTree) (k : ℕ) (u : ValueTree) : Type 0 where
  pub old : FieldTree
  pub object : TermTree
  pub new : ValueTree
  pub is : u ≡ of_field (update old object new)
  pub named : slice_get ts x.name ≡ Some (named_as us k u)
  pub parts : HasParts ts x us k old object new

-- there is a node where there is a formula, which stands there
unfoldable pub AreTold : List ValueTree → Option ℕ → List FormulaTree → Type 0
AreTold ts None facts = facts ≡ []
AreTold ts (Some n) facts = (a : FormulaTree) × (facts ≡ a ∷ []) × (slice_get ts n ≡ Some (of_truth a))
