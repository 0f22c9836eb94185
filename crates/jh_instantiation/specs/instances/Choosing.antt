-- The choices of terms for the variables of a universal that are left, after terms were chosen for its outer ones.
use Rattle.std.specs.Prelude.{◌≡◌, ℕ, zero, suc, Bool, true, not, ◌||◌, if◌then◌else◌, List, [], ◌∷◌, ◌++◌, slice_get}
use Rattle.std.specs.List.{flat_map}
use Rattle.jh_form.specs.Tree.{TermTree, FormulaTree}
use Rattle.jh_form.specs.Closed.{is_closed_term}
use Rattle.jh_arena.specs.table.Entries.{Listing, is_object, the_object}
use Rattle.jh_arena.specs.table.Nodes.{nodes}
use Rattle.jh_inst.specs.instances.Terms.{is_among}
use Rattle.jh_inst.specs.instances.Rounds.{put_at}

-- Those that have a new term, which one of those that were chosen is where the flag says so.
abbrev pub choices_from : List TermTree → Bool → ℕ → List TermTree → List TermTree → List (List TermTree)
choices_from chosen new zero ts old = if new then chosen ∷ [] else []
choices_from chosen new (suc m) ts old = flat_map (λ a. choices_from (chosen ++ (a ∷ [])) (new || not (is_among a old)) m ts old) ts

-- Put at terms that were chosen a universal is this formula, to be put at those for the variables that are left.
abbrev pub Leads : FormulaTree → List TermTree → FormulaTree → Type 0
Leads universal chosen a = (ws : List TermTree) → put_at universal (chosen ++ ws) ≡ put_at a ws

-- each node is a term for an object without loose bound variables
abbrev pub AreUsable : Listing → List ℕ → Type 0
AreUsable t [] = Unit {0}
AreUsable t (n ∷ ns) = (is_object (slice_get (nodes t) n) ≡ true) × (is_closed_term (the_object (slice_get (nodes t) n)) 0 ≡ true) × AreUsable t ns
