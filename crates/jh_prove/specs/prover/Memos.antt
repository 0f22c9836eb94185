-- What a memo holds.
use Rattle.std.specs.Prelude.{ℕ, Option, nat_eq}
use Rattle.indexmap.specs.IndexMap.{IndexMap, get}

-- the answer for a node
abbrev pub found : {S : Type 0} → IndexMap ℕ ℕ S → ℕ → Option ℕ
found m k = get nat_eq m k
