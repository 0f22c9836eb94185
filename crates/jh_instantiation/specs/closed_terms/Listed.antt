-- Terms at the nodes of a list.
use Rattle.std.specs.Prelude.{◌≡◌, ℕ, List, [], ◌∷◌, Some, filter, slice_get}
use Rattle.jh_form.specs.Tree.{TermTree, of_object}
use Rattle.jh_form.specs.Closed.{is_closed_term}
use Rattle.jh_arena.specs.table.Entries.{Listing}
use Rattle.jh_arena.specs.table.Nodes.{nodes}

-- the nodes are these terms, one by one
abbrev pub AreTerms : Listing → List ℕ → List TermTree → Type 0
AreTerms t [] [] = Unit {0}
AreTerms t [] (a ∷ more) = ⊥
AreTerms t (n ∷ ns) [] = ⊥
AreTerms t (n ∷ ns) (a ∷ more) = (slice_get (nodes t) n ≡ Some (of_object a)) × AreTerms t ns more

-- Adding to a list of nodes adds to the terms of these: the terms that are added, one after another, each where it isn't there.
abbrev pub Adds : Listing → List ℕ → List ℕ → (List TermTree → List TermTree) → Type 0
Adds t old new added = (ts : List TermTree) → AreTerms t old ts → AreTerms t new (added ts)

-- those of some terms that have no bound variable
abbrev pub closed_among : List TermTree → List TermTree
closed_among ws = filter (λ b. is_closed_term b 0) ws
