-- Checks whose facts are nodes of a table.
use Rattle.std.specs.Prelude.{◌≡◌, ℕ, true, Bool, ◌&&◌, List, [], ◌∷◌, ◌++◌, Option, Some, None, slice_get}
use Rattle.jh_form.specs.Tree.{of_truth, of_object}
use Rattle.jh_arena.specs.table.Entries.{Listing, is_truth}
use Rattle.jh_arena.specs.table.Nodes.{nodes}
use Rattle.jh_semantics.specs.Code.{Target}
use Rattle.jh_semantics.specs.Code as c
use Rattle.jh_guard.specs.Terms.{Check, object_term}
use Rattle.jh_command_terms.specs.declared.terms.checks.CheckNode.{CheckNode}

-- one by one these checks are those
unfoldable pub AreChecks : Listing → List CheckNode → List Check → Type 0
AreChecks t [] [] = Unit {0}
AreChecks t [] (c ∷ cs) = ⊥
AreChecks t (n ∷ ns) [] = ⊥
AreChecks t (n ∷ ns) (c ∷ cs) = (n.place ≡ c.place) × (slice_get (nodes t) n.fact ≡ Some (of_truth c.fact)) × AreChecks t ns cs

-- Behind what a list held, checks are added that are these.
pub record AddsChecks (t : Listing) (old new : List CheckNode) (more : List Check) : Type 0 where
  pub added : List CheckNode
  pub list : new ≡ old ++ added
  pub are : AreChecks t added more

-- the fact of each check is a formula
unfoldable pub are_facts : Listing → List CheckNode → Bool
are_facts t [] = true
are_facts t (n ∷ ns) = is_truth (slice_get (nodes t) n.fact) && are_facts t ns

-- A target that is a field has the node of its receiver, and another has none.
unfoldable pub IsReceiver : Listing → Option ℕ → Target → Type 0
IsReceiver t (Some n) (c.to_field f r p) = slice_get (nodes t) n ≡ Some (of_object (object_term r))
IsReceiver t None (c.to_field f r p) = ⊥
IsReceiver t None x = Unit {0}
IsReceiver t (Some n) x = ⊥
