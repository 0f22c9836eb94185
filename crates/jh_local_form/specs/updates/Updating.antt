-- Which nodes of a table stand for updates, and which for their names.
use Rattle.std.specs.Prelude.{◌≡◌, ◌<◌, ℕ, true, List, [], ◌∷◌, map, Option, Some, None, slice_get}
use Rattle.std.specs.List.{list_all}
use Rattle.jh_name.specs.declared.naming.Name.{Name}
use Rattle.jh_form.specs.Tree.{ValueTree, of_field, free_field}
use Rattle.jh_arena.specs.table.Entries.{Listing, is_field, the_field, the_value}
use Rattle.jh_arena.specs.table.Growth.{AreDifferent}
use Rattle.jh_arena.specs.table.Nodes.{nodes}
use Rattle.jh_fca.specs.local_form.Named.{is_whole_update, text_under, name_of}

-- at these nodes stand these values, one by one
unfoldable pub AreValues : List ValueTree → List ℕ → List ValueTree → Type 0
AreValues ts [] [] = Unit {0}
AreValues ts [] (v ∷ vs) = ⊥
AreValues ts (n ∷ ns) [] = ⊥
AreValues ts (n ∷ ns) (v ∷ vs) = (slice_get ts n ≡ Some v) × AreValues ts ns vs

-- what stands at these nodes
abbrev pub values_in : List ValueTree → List ℕ → List ValueTree
values_in ts ns = map (λ n. the_value (slice_get ts n)) ns

-- At the nodes stand updates that hold no variable bound outside them, each once.
pub record AreUpdates (ts : List ValueTree) (ns : List ℕ) (us : List ValueTree) : Type 0 where
  pub are : AreValues ts ns us
  pub whole : list_all is_whole_update us ≡ true
  pub differ : AreDifferent us

-- The nodes of updates and of the names that stand for them, and the turn of the first name.
pub record Names : Type 0 where
  pub updates : List ℕ
  pub names : List ℕ
  pub first : ℕ

-- The name of an update of a list, as a value.
abbrev pub named_as : List ValueTree → ℕ → ValueTree → ValueTree
named_as us k u = of_field (free_field (name_of us k u))

-- The nodes are those of these updates, and of the name of each.
pub record IsNaming (t : Listing) (n : Names) (us : List ValueTree) : Type 0 where
  pub updates : AreUpdates (nodes t) n.updates us
  pub names : AreValues (nodes t) n.names (map (named_as us n.first) us)

-- they are those of some updates
abbrev pub HasNames : Names → Listing → Type 0
HasNames n t = (us : List ValueTree) × IsNaming t n us

-- An inner field is that which an update updates, and stands before it; where there is none the field is a name.
abbrev pub HasInner : Listing → ℕ → Option ℕ → Type 0
HasInner t field (Some inner) =
    (inner < field) × (is_field (slice_get (nodes t) inner) ≡ true) × (text_under (the_field (slice_get (nodes t) field)) ≡ text_under (the_field (slice_get (nodes t) inner)))
HasInner t field None = (x : Name) × (slice_get (nodes t) field ≡ Some (of_field (free_field x)))
