-- A tree under more binders: its loose bound variables rise.
use Rattle.std.specs.Prelude.{ℕ, ◌+◌, nat_lt, if◌then◌else◌}
use Rattle.std.proofs.Common.{refl}
use Rattle.jh_form.specs.Tree as t
use Rattle.jh_boxed.specs.Mapped.{LeafMap, unchanged}
use Rattle.jh_substitution.specs.rewriting.Rewritten.{leaves_alone}
use Rattle.jh_substitution.specs.rewriting.Walks.{Stays}

-- Under d inner binders the loose bound variables have the numbers from d on. These rise, smaller ones stay.
abbrev pub lifting : ℕ → LeafMap
lifting by = record unchanged { bound_at = λ k d. if nat_lt k d then t.bound k else t.bound (k + by) }

-- a lifting hangs on no table
pub lifting-stays : (by : ℕ) → Stays (λ t. Unit {0}) (λ t. leaves_alone (lifting by))
lifting-stays by = record { ready = λ old new g h. h; same = λ old new g h. refl }
