-- Which nodes stand for updates that lead from a list of fields to another.
use Rattle.std.specs.Prelude.{◌≡◌, List, [], ◌∷◌, Some, slice_get}
use Rattle.jh_form.specs.Tree.{ValueTree, of_object, of_field, free_field}
use Rattle.jh_local_form.specs.declared.updates.facts.NamedUpdate.{NamedUpdate}
use Rattle.jh_fca.specs.local_form.Chains.{ChangeTree}

-- the nodes stand for this update
pub record IsChange (ts : List ValueTree) (x : NamedUpdate) (c : ChangeTree) : Type 0 where
  pub called : slice_get ts x.name ≡ Some (of_field (free_field c.name))
  pub on : slice_get ts x.field ≡ Some (of_field c.field)
  pub for_object : slice_get ts x.at ≡ Some (of_object c.at)
  pub gives : slice_get ts x.value ≡ Some (of_object c.value)

-- one by one
unfoldable pub AreChanges : List ValueTree → List NamedUpdate → List ChangeTree → Type 0
AreChanges ts [] [] = Unit {0}
AreChanges ts [] (c ∷ cs) = ⊥
AreChanges ts (x ∷ xs) [] = ⊥
AreChanges ts (x ∷ xs) (c ∷ cs) = IsChange ts x c × AreChanges ts xs cs
