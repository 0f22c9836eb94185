-- Lists of nodes of which no two are one.
use Rattle.std.specs.Prelude.{ℕ, Bool, true, not, ◌&&◌, List, [], ◌∷◌, nat_eq}
use Rattle.std.specs.List.{list_any}

-- whether no two of the nodes are one
abbrev pub all_apart : List ℕ → Bool
all_apart [] = true
all_apart (n ∷ ns) = not (list_any (nat_eq n) ns) && all_apart ns
