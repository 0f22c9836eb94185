-- Nodes by the numbers of formulas, in pairs and in a list.
use Rattle.std.specs.Prelude.{ℕ, nat_eq, List, Option, Some, None, slice_get}
use Rattle.std.specs.Map.{lookup}
use Rattle.std.specs.Option.{option_map_or}

-- the node of the formula of a number
abbrev pub place_of : List (ℕ × ℕ) → ℕ → Option ℕ
place_of q n = lookup (nat_eq n) q

-- what stands for a number in a list of nodes
abbrev pub node_at : List (Option ℕ) → ℕ → Option ℕ
node_at ns n = option_map_or (λ o. o) (slice_get ns n) None

-- what is there, or else another
infixl 10 ◌or_else◌
abbrev pub ◌or_else◌ : {X : Type 0} → Option X → Option X → Option X
None or_else y = y
(Some x) or_else y = Some x
