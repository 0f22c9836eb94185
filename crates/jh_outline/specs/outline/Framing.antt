-- Marks at places, and which members are framed.
use Rattle.std.specs.Prelude.{◌&&◌, ◌+◌, ℕ, Bool, false, not, nat_eq, List, slice_get}
use Rattle.std.specs.List.{list_any}
use Rattle.std.specs.Option.{option_map_or}

-- the mark at a place
abbrev pub mark_at : List Bool → ℕ → Bool
mark_at marks j = option_map_or (λ b. b) (slice_get marks j) false

-- Whether a member is among the places of what is written and not among those of what is named. So many sets come before the members.
abbrev pub is_framed : List ℕ → List ℕ → ℕ → ℕ → Bool
is_framed written modified sets k = list_any (nat_eq (sets + k)) written && not (list_any (nat_eq (sets + k)) modified)
