-- Lists of numbers, one for each class.
use Rattle.std.specs.Prelude.{ℕ, List, [], slice_get}
use Rattle.std.specs.Option.{option_map_or}
use Rattle.std.specs.declared.alloc.Global.{Global}
use Rattle.std.specs.declared.vec.Vec.{Vec}

-- the list at a place
abbrev pub row : List (Vec ℕ Global) → ℕ → List ℕ
row uses r = option_map_or (λ (v : Vec ℕ Global). v.items) (slice_get uses r) []
