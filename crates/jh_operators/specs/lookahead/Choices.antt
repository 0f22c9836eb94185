-- How a reader goes on: one thing after another, or one of two.
use Rattle.std.specs.Prelude.{Bool, true, false, Option, None, Some}

-- what is read after what is there
unfoldable pub and_then : {A B : Type 0} → Option A → (A → Option B) → Option B
and_then None f = None
and_then (Some x) f = f x

-- the one thing or the other
unfoldable pub choose : {A : Type 0} → Bool → A → A → A
choose true x y = x
choose false x y = y

-- where something is there the one thing, else the other
unfoldable pub given : {A B : Type 0} → Option A → (A → B) → B → B
given None f y = y
given (Some x) f y = f x

infixl 10 ◌>>=◌
abbrev pub ◌>>=◌ : {A B : Type 0} → Option A → (A → Option B) → Option B
o >>= f = and_then o f
