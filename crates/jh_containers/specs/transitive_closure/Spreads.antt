-- Facts that are passed on along edges.
use Rattle.std.specs.Prelude.{◌≡◌, ℕ, List, [], Some, slice_get}
use Rattle.std.specs.Option.{option_map_or}
use Rattle.std.specs.declared.alloc.Global.{Global}
use Rattle.std.specs.declared.vec.Vec.{Vec}
use Rattle.jh_containers.specs.declared.transitive_closure.facts.Fact.{Fact}

-- something stands in a list
abbrev pub IsIn : {X : Type 0} → List X → X → Type 0
IsIn xs x = (i : ℕ) × (slice_get xs i ≡ Some x)

-- the items of a row of edges
abbrev pub items_of : Vec ℕ Global → List ℕ
items_of row = row.items

-- the things to which what is so of a thing is passed on
abbrev pub passed_to : List (List ℕ) → ℕ → List ℕ
passed_to edges n = option_map_or (λ ms. ms) (slice_get edges n) []

-- what is given, or passed on along an edge
pub data Spreads (facts : List Fact) (edges : List (List ℕ)) : Fact → Type 0 where
  given : (f : Fact) → IsIn facts f → Spreads facts edges f
  passed : (m : ℕ) (f : Fact) → IsIn (passed_to edges f.of) m → Spreads facts edges f → Spreads facts edges (record { of = m; what = f.what })
