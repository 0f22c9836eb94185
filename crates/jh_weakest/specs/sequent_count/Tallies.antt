-- What a tally says: how many goals there are, for any weights of the truth names.
use Rattle.std.specs.Prelude.{◌≡◌, ℕ, ◌+◌, ◌*◌, true, false, List, [], ◌∷◌, Some, slice_get}
use Rattle.jh_name.specs.declared.naming.Name.{Name}
use Rattle.jh_form.specs.Tree.{FormulaTree, of_truth}
use Rattle.jh_form.specs.Tree as tree
use Rattle.jh_arena.specs.table.Entries.{Listing, the_truth}
use Rattle.jh_arena.specs.table.Nodes.{nodes}
use Rattle.jh_weakest.specs.declared.sequent_count.tally.Share.{Share}
use Rattle.jh_seq.specs.counting.Goals.{Weights, capped}

-- the truth name that a formula is
abbrev pub truth_name : FormulaTree → Name
truth_name (tree.free_truth x) = x
truth_name _ = record { text = []; turn = 0 }

abbrev pub name_at : Listing → ℕ → Name
name_at t n = truth_name (the_truth (slice_get (nodes t) n))

-- the node is a truth name
abbrev pub IsName : Listing → ℕ → Type 0
IsName t n = slice_get (nodes t) n ≡ Some (of_truth (tree.free_truth (name_at t n)))

abbrev pub AreNames : Listing → List Share → Type 0
AreNames t [] = Unit {0}
AreNames t (s ∷ ss) = IsName t s.leaf × AreNames t ss

-- how many goals shares are
abbrev pub shares_of : Listing → List Share → Weights → ℕ
shares_of t [] w = 0
shares_of t (s ∷ ss) w = s.times * w (name_at t s.leaf) s.marked + shares_of t ss w

abbrev pub tally_of : Listing → ℕ → List Share → Weights → ℕ
tally_of t fixed ss w = fixed + shares_of t ss w

-- no share is of this node
abbrev pub Lacks : ℕ → List Share → Type 0
Lacks leaf [] = Unit {0}
Lacks leaf (s ∷ ss) = (s.leaf ≡ leaf → ⊥) × Lacks leaf ss

-- The tally counts what g does, up to the greatest count.
pub record Counts (t : Listing) (fixed : ℕ) (ss : List Share) (g : Weights → ℕ) : Type 0 where
  pub names : AreNames t ss
  pub is : (w : Weights) → capped (tally_of t fixed ss w) ≡ capped (g w)

-- All shares are the rest, so many of the name at a node, under no label and under one, and what is left.
abbrev pub IsTaken : Listing → Weights → ℕ → List Share → List Share → ℕ → ℕ → List Share → Type 0
IsTaken t w leaf all rest plain marked left =
    capped (shares_of t all w) ≡ capped ((shares_of t rest w + (plain * w (name_at t leaf) false + marked * w (name_at t leaf) true)) + shares_of t left w)
