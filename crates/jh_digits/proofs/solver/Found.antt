-- A look-up that cannot fail.
use Rattle.std.proofs.Common.{◌≡◌, ℕ, Option, Some, None, rules}
use Rattle.std.specs.Prelude.{IfNone, IfSome, IsSome}

pub found : {P : Type 0} (r : Option ℕ) → IfNone r (¬ P) → P → IsSome r
found None n p = absurd (n p)
found (Some x) n p = search rules

pub found_value : (P : ℕ → Type 0) (r : Option ℕ) (x : ℕ) → r ≡ Some x → IfSome r P → P x
found_value P r x e h = rw e at h
