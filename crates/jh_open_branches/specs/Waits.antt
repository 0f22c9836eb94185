-- Branches that wait on a stack.
use Rattle.std.specs.Prelude.{◌≡◌, ℕ, List, [], ◌∷◌, ◌++◌, length, take}
use Rattle.jh_derivation_steps.specs.declared.premises.nodes.Nodes.{Nodes}
use Rattle.jh_derivation_steps.specs.declared.premises.nodes.Adds.{Adds}
use Rattle.jh_derivation_steps.specs.declared.premises.nodes.Adds.TheVariants as a
use Rattle.jh_open_branches.specs.declared.branches.Waiting.{Waiting}
use Rattle.jh_open_branches.specs.Placed.{numbers}

-- a branch that keeps all these facts
abbrev pub waits_with : List ℕ → Nodes → Waiting
waits_with ks added = record { count = length ks; added = added }

-- the branches that a step opens, the left one last
unfoldable pub waits : List ℕ → Adds → List Waiting
waits ks a.Closes = []
waits ks (a.Goes x) = waits_with ks x ∷ []
waits ks (a.Splits x y) = waits_with ks y ∷ waits_with ks x ∷ []

-- the facts of a branch that waits
abbrev pub kept_by : List ℕ → Waiting → List ℕ
kept_by ks w = take w.count ks ++ numbers w.added

-- the last branch that waited is worked at now
abbrev pub Follows : List ℕ → List Waiting → List ℕ → List Waiting → Type 0
Follows ks ws new rest = (w : Waiting) × (ws ≡ rest ++ w ∷ []) × (new ≡ kept_by ks w)
