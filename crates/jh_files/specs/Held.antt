use Rattle.std.specs.Prelude.{ℕ, List, [], ◌∷◌, Option, None, Some, String, string_bytes, nat_eq, if◌then◌else◌, unwrap_or}
use Rattle.std.specs.Cmp.Lexicographic.{pointwise}
use Rattle.std.specs.declared.vec.Vec.{Vec}
use Rattle.std.specs.declared.alloc.Global.{Global}

-- the bytes of the first entry that has the name
abbrev pub found : List (String Global × Vec ℕ Global) → List ℕ → Option (List ℕ)
found [] name = None
found (entry ∷ entries) name = if pointwise nat_eq (string_bytes entry.0) name then Some entry.1.items else found entries name

-- these, and no bytes where no entry has the name
abbrev pub bytes_of : List (String Global × Vec ℕ Global) → List ℕ → List ℕ
bytes_of entries name = unwrap_or (found entries name) []
