-- The bytes of a heap text: its lines, words and numbers.
use Rattle.std.specs.Prelude.{ℕ, ℤ, pos, neg_ℤ, ◌+◌, ◌*◌, ◌-◌, ◌^◌, ◌==◌, ◌&&◌, ◌||◌, nat_lt, nat_eq, Bool, true, if◌then◌else◌, List, [], ◌∷◌, length, drop, slice_index_or, Option, None, Some, option_map}
use Rattle.std.specs.List.{list_all}
use Rattle.std.specs.Cmp.Lexicographic.{pointwise}

abbrev pub same_bytes : List ℕ → List ℕ → Bool
same_bytes xs ys = pointwise nat_eq xs ys

abbrev pub is_empty : List ℕ → Bool
is_empty cs = length cs == 0

-- what stands before the first byte of a value, and what behind it
pub record Cut : Type 0 where
  pub before : List ℕ
  pub behind : List ℕ

abbrev pub cut_onto : ℕ → Option Cut → Option Cut
cut_onto c None = None
cut_onto c (Some x) = Some (record { before = c ∷ x.before; behind = x.behind })

abbrev pub cut : ℕ → List ℕ → Option Cut
cut b [] = None
cut b (c ∷ cs) = if c == b then Some (record { before = []; behind = cs }) else cut_onto c (cut b cs)

-- the parts between the bytes of a value: one more than there are of these
abbrev pub split_onto : ℕ → List (List ℕ) → List (List ℕ)
split_onto c [] = (c ∷ []) ∷ []
split_onto c (w ∷ ws) = (c ∷ w) ∷ ws

abbrev pub split : ℕ → List ℕ → List (List ℕ)
split b [] = [] ∷ []
split b (c ∷ cs) = if c == b then [] ∷ split b cs else split_onto c (split b cs)

abbrev pub is_digit : ℕ → Bool
is_digit c = nat_lt 47 c && nat_lt c 58

abbrev pub are_digits : List ℕ → Bool
are_digits cs = list_all is_digit cs

-- digits, at least one, and no 0 before others
abbrev pub is_numeral : List ℕ → Bool
is_numeral w = nat_lt 0 (length w) && (are_digits w && (length w == 1 || nat_lt 48 (slice_index_or w 0 0)))

-- the number that digits write behind another
abbrev pub value_from : ℕ → List ℕ → ℕ
value_from n [] = n
value_from n (c ∷ cs) = value_from (10 * n + (c - 48)) cs

abbrev pub numeral_value : List ℕ → ℕ
numeral_value w = value_from 0 w

-- a number that isn't negative and fits in 64 bits
unfoldable pub natural_of : List ℕ → Option ℕ
natural_of w = if is_numeral w && nat_lt (numeral_value w) (2 ^ 63) then Some (numeral_value w) else None

unfoldable pub negative_of : List ℕ → Option ℤ
negative_of w = if is_numeral w && nat_lt 0 (numeral_value w) && nat_lt (numeral_value w) (2 ^ 63 + 1) then Some (neg_ℤ (pos (numeral_value w))) else None

-- a number that fits in 64 bits; a minus stands before what isn't 0
unfoldable pub integer_of : List ℕ → Option ℤ
integer_of w = if slice_index_or w 0 0 == 45 then negative_of (drop 1 w) else option_map pos (natural_of w)

-- numbers, each greater than the one before it
abbrev pub is_beyond : Option ℕ → ℕ → Bool
is_beyond None a = true
is_beyond (Some b) a = nat_lt b a

abbrev pub ascending_on : Option ℕ → Option ℕ → (Option ℕ → Option (List ℕ)) → Option (List ℕ)
ascending_on least None rest = None
ascending_on least (Some a) rest = if is_beyond least a then option_map (λ xs. a ∷ xs) (rest (Some a)) else None

abbrev pub ascending_from : Option ℕ → List (List ℕ) → Option (List ℕ)
ascending_from least [] = Some []
ascending_from least (w ∷ ws) = ascending_on least (natural_of w) (λ last. ascending_from last ws)

-- such numbers, with a space between each two
unfoldable pub objects_of : List ℕ → Option (List ℕ)
objects_of bytes = ascending_from None (split 32 bytes)
