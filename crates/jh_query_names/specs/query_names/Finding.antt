-- What was found of names so far.
use Rattle.std.specs.Prelude.{◌≡◌, ℕ, ◌<◌, Bool, true, List, [], ◌∷◌, length, map, nat_eq}
use Rattle.std.specs.List.{list_any}
use Rattle.jh_form.specs.Tree.{ValueTree}
use Rattle.jh_query_names.specs.query_names.Gathered.{value_names, has_name}
use Rattle.jh_query_names.specs.query_names.Kinds.{value_at}

-- the values at these nodes
abbrev pub values_at : List ValueTree → List ℕ → List ValueTree
values_at ts ns = map (value_at ts) ns

-- whether a node is one of these
abbrev pub has_node : List ℕ → ℕ → Bool
has_node ns n = list_any (nat_eq n) ns

-- The names are nodes, and those of each node that was seen are among them.
pub record IsFound (ts : List ValueTree) (found seen : List ℕ) : Type 0 where
  pub inside : (n : ℕ) → has_node found n ≡ true → n < length ts
  pub known : (n : ℕ) → has_node seen n ≡ true → (v : ValueTree) → has_name (value_names (value_at ts n)) v ≡ true → has_name (values_at ts found) v ≡ true

-- each of these nodes stands before another
abbrev pub AreBelow : ℕ → List ℕ → Type 0
AreBelow node [] = Unit {0}
AreBelow node (n ∷ ns) = (n < node) × AreBelow node ns
