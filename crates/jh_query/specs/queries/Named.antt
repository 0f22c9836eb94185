-- What queries name, and placements that are the same but for the numbers of their classes.
use Rattle.std.specs.Prelude.{◌≡◌, ℕ, ◌<◌, ◌==◌, nat_lt, Bool, true, false, ◌&&◌, List, length, ℤ, pos, negsuc}
use Rattle.std.specs.List.{list_all}
use Rattle.jh_query.specs.declared.queries.sizes.Spot.{Spot}
use Rattle.jh_query.specs.queries.Tree.{SetExprTree, NumTree, CondTree, QueryTree}
use Rattle.jh_query.specs.queries.Tree as t
use Rattle.jh_query.specs.queries.Sizing.{Sizing}
use Rattle.jh_query.specs.queries.Truth.{spot_of}

-- how many sets, elements, numbers and flags may be named
pub record Room : Type 0 where
  pub sets : ℕ
  pub elements : ℕ
  pub numbers : ℕ
  pub flags : ℕ

abbrev pub set_named : Room → SetExprTree → Bool
set_named m (t.var k) = nat_lt k m.sets
set_named m t.empty = true
set_named m t.all = true
set_named m (t.one i) = nat_lt i m.elements
set_named m (t.union a b) = set_named m a && set_named m b
set_named m (t.inter a b) = set_named m a && set_named m b
set_named m (t.diff a b) = set_named m a && set_named m b
set_named m (t.compl a) = set_named m a

abbrev pub num_named : Room → NumTree → Bool
num_named m (t.const c) = true
num_named m (t.number l) = nat_lt l m.numbers
num_named m (t.add a b) = num_named m a && num_named m b
num_named m (t.sub a b) = num_named m a && num_named m b
num_named m (t.neg a) = num_named m a
num_named m (t.scale k a) = num_named m a
num_named m (t.card s) = set_named m s

-- 1 and above
abbrev pub is_divisor : ℤ → Bool
is_divisor (pos a) = nat_lt 0 a
is_divisor (negsuc a) = false

abbrev pub cond_named : Room → CondTree → Bool
cond_named m t.yes = true
cond_named m t.no = true
cond_named m (t.flag f) = nat_lt f m.flags
cond_named m (t.same_element i j) = nat_lt i m.elements && nat_lt j m.elements
cond_named m (t.member i s) = nat_lt i m.elements && set_named m s
cond_named m (t.equal_set a b) = set_named m a && set_named m b
cond_named m (t.within a b) = set_named m a && set_named m b
cond_named m (t.equal_num a b) = num_named m a && num_named m b
cond_named m (t.less_num a b) = num_named m a && num_named m b
cond_named m (t.divides k a) = is_divisor k && num_named m a
cond_named m (t.negation a) = cond_named m a
cond_named m (t.and a b) = cond_named m a && cond_named m b
cond_named m (t.or a b) = cond_named m a && cond_named m b
cond_named m (t.implies a b) = cond_named m a && cond_named m b
cond_named m (t.iff a b) = cond_named m a && cond_named m b

abbrev pub room_of : QueryTree → Room
room_of q = record { sets = q.sets; elements = q.elements; numbers = q.numbers; flags = q.flags }

-- A query names only its own sets, elements, numbers and flags, has an element 0, and divides by 1 or more.
pub record IsWellFormed (q : QueryTree) : Type 0 where
  pub null : 0 < q.elements
  pub hyps : list_all (cond_named (room_of q)) q.hyps ≡ true
  pub goal : cond_named (room_of q) q.goal ≡ true

-- the same elements are one object, and each is in the same region
pub record IsRenamed (s u : List Spot) : Type 0 where
  pub count : length s ≡ length u
  pub regions : (i : ℕ) → i < length s → (spot_of s i).region ≡ (spot_of u i).region
  pub classes : (i j : ℕ) → i < length s → j < length s → ((spot_of s i).class == (spot_of s j).class) ≡ ((spot_of u i).class == (spot_of u j).class)

-- sizes with the elements elsewhere
abbrev pub moved_to : Sizing → List Spot → Sizing
moved_to z u = record { rest = z.rest; spots = u; numbers = z.numbers; flags = z.flags }
