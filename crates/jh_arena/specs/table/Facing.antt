-- What a shape says of loose variables and free names by itself, and what its parts do.
use Rattle.std.specs.Prelude.{◌≡◌, ◌≤◌, ◌-◌, ◌^◌, ℕ, ◌+◌, ◌%◌, Bool, true, false, ◌&&◌, ◌||◌, List, [], ◌∷◌, nat_lt, nat_eq, slice_get}
use Rattle.std.specs.Int.{bit_at}
use Rattle.jh_boxed.specs.jh_name.declared.naming.Name.{Name}
use Rattle.jh_boxed.specs.jh_name.declared.place.Sort as place
use Rattle.jh_boxed.specs.jh_name.declared.place.Sort.TheVariants as Sort
use Rattle.jh_form.specs.Tree.{ValueTree}
use Rattle.jh_form.specs.Closed.{is_closed_value}
use Rattle.jh_form.specs.Passing.{value_passes, name_equal}
use Rattle.jh_arena.specs.table.Entries.{Pools, the_name, the_value}
use Rattle.jh_arena.specs.declared.table.shapes.Shape.{Shape}
use Rattle.jh_arena.specs.declared.table.shapes.Shape.TheVariants as s

unfoldable pub own_closed : Shape → ℕ → Bool
own_closed (s.Bound k) d = nat_lt k d
own_closed _ d = true

unfoldable pub under : Shape → ℕ → ℕ
under (s.Compr a) d = d + 1
under (s.All a) d = d + 1
under (s.Ex a) d = d + 1
under _ d = d

abbrev pub all_closed : ℕ → List ValueTree → List ℕ → Bool
all_closed d ts [] = true
all_closed d ts (n ∷ ns) = is_closed_value (the_value (slice_get ts n)) d && all_closed d ts ns

unfoldable pub own_passes : Pools → Shape → (Name → place.Sort → Bool) → Bool
own_passes p (s.FreeObject n) q = q (the_name (slice_get p.names n)) Sort.Obj
own_passes p (s.FreeNumber n) q = q (the_name (slice_get p.names n)) Sort.Int
own_passes p (s.FreeTruth n) q = q (the_name (slice_get p.names n)) Sort.Bool
own_passes p (s.FreeSet n) q = q (the_name (slice_get p.names n)) Sort.Set
own_passes p (s.FreeField n) q = q (the_name (slice_get p.names n)) Sort.Field
own_passes p _ q = true

abbrev pub all_pass : (Name → place.Sort → Bool) → List ValueTree → List ℕ → Bool
all_pass q ts [] = true
all_pass q ts (n ∷ ns) = value_passes (the_value (slice_get ts n)) q && all_pass q ts ns

-- the bit of a shape's own name
unfoldable pub own_bits : Shape → ℕ
own_bits (s.FreeObject n) = 2 ^ (n % 64)
own_bits (s.FreeNumber n) = 2 ^ (n % 64)
own_bits (s.FreeTruth n) = 2 ^ (n % 64)
own_bits (s.FreeSet n) = 2 ^ (n % 64)
own_bits (s.FreeField n) = 2 ^ (n % 64)
own_bits _ = 0

-- the binders that a shape needs around it, from those that its parts need
unfoldable pub loose_over : Shape → ℕ → ℕ
loose_over (s.Bound k) n = k + 1
loose_over (s.Compr a) n = n - 1
loose_over (s.All a) n = n - 1
loose_over (s.Ex a) n = n - 1
loose_over _ n = n

-- The test passes from n on and nowhere before.
pub record IsLeast (test : ℕ → Bool) (n : ℕ) : Type 0 where
  pub closed : (d : ℕ) → n ≤ d → test d ≡ true
  pub least : (d : ℕ) → test d ≡ true → n ≤ d

-- whether a number of the name in this list, counted from n, has its bit
unfoldable pub marked_from : ℕ → ℕ → List Name → Name → Bool
marked_from bits n [] y = false
marked_from bits n (x ∷ xs) y = (name_equal y x && nat_eq (bit_at bits (n % 64)) 1) || marked_from bits (n + 1) xs y

-- the test that a name has a number in the pool whose bit is set
abbrev pub marked : List Name → ℕ → Name → place.Sort → Bool
marked names bits y s = marked_from bits 0 names y

-- the test that the turn of a name is below n
abbrev pub turn_below : ℕ → Name → place.Sort → Bool
turn_below n x s = nat_lt x.turn n

-- the turn after that of a shape's own name
unfoldable pub own_turn : List Name → Shape → ℕ
own_turn names (s.FreeObject n) = (the_name (slice_get names n)).turn + 1
own_turn names (s.FreeNumber n) = (the_name (slice_get names n)).turn + 1
own_turn names (s.FreeTruth n) = (the_name (slice_get names n)).turn + 1
own_turn names (s.FreeSet n) = (the_name (slice_get names n)).turn + 1
own_turn names (s.FreeField n) = (the_name (slice_get names n)).turn + 1
own_turn names _ = 0
