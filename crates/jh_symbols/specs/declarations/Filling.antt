-- Tables that are filled.
use Rattle.std.specs.Prelude.{ℕ, ◌≡◌, List, [], None, is_some}
use Rattle.std.specs.List.{flat_map}
use Rattle.indexmap.specs.IndexMap.{get_by_text}
use Rattle.jh_ast.specs.Programs.{ProgramTree, ClassPart}
use Rattle.jh_rules.specs.Words.{is_one_of}
use Rattle.jh_rules.specs.Names.{class_from, number_of, states_from}
use Rattle.jh_symbols.specs.declared.scopes.looking.Lookups.{Lookups}
use Rattle.jh_symbols.specs.declarations.Entries.{AreTables, class_labels}
use Rattle.jh_symbols.specs.declarations.States.{first_of, last_of}

-- no name is there
pub record IsBlank (t : Lookups) : Type 0 where
  pub numbers : (x : List ℕ) → get_by_text t.classes x ≡ None
  pub tables : t.members.items ≡ []
  pub firsts : (x : List ℕ) → get_by_text t.first_states x ≡ None
  pub lasts : (x : List ℕ) → get_by_text t.last_states x ≡ None
  pub labels : (x : List ℕ) → get_by_text t.invariants x ≡ None

-- the tables say what some classes declare
pub record Filled (t : Lookups) (cs : List ClassPart) : Type 0 where
  pub numbers : (x : List ℕ) → get_by_text t.classes x ≡ class_from 0 x cs
  pub tables : AreTables (λ x. get_by_text t.classes x) 0 t.members.items cs
  pub firsts : (p : ProgramTree) → AreTables (number_of p) 0 t.members.items cs → (x : List ℕ) → get_by_text t.first_states x ≡ first_of (states_from p 0 x cs)
  pub lasts : (p : ProgramTree) → AreTables (number_of p) 0 t.members.items cs → (x : List ℕ) → get_by_text t.last_states x ≡ last_of (states_from p 0 x cs)
  pub labels : (x : List ℕ) → is_some (get_by_text t.invariants x) ≡ is_one_of x (flat_map class_labels cs)
