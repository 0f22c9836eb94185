-- What a set of nodes holds.
use Rattle.std.specs.Prelude.{ℕ, Bool, nat_eq}
use Rattle.indexmap.specs.IndexSet.{IndexSet, contains}

-- whether the set has the node
abbrev pub has : {S : Type 0} → IndexSet ℕ S → ℕ → Bool
has s n = contains nat_eq s n
