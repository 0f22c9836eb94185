-- Nothing stands behind the end of a list.
use Rattle.std.proofs.Common.{◌≡◌, ℕ, ◌<◌, ◌≤◌, List, Some, length, slice_get, arith}
use Rattle.std.proofs.lemmas.Option.{slice_get_within}
use Rattle.jh_name.specs.declared.naming.Name.{Name}

pub not_there : {A : Type 0} (names : List Name) (k : ℕ) (x : Name) → slice_get names k ≡ Some x → length names ≤ k → A
not_there names k x at past = let within : k < length names = slice_get_within names k x at in absurd (omega arith)
