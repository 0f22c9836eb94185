-- Binary digits as text. A list of digits has the least one first.
use Rattle.std.specs.Prelude.{ℕ, ◌^◌, nat_lt, Bool, true, false, if◌then◌else◌, List, [], ◌∷◌, ◌++◌, codes}
use Rattle.std.specs.Fmt.{decimal}
use Rattle.jh_query.specs.queries.Sizing.{spelled}

-- there is some text
abbrev pub is_text : List ℕ → Bool
is_text [] = false
is_text (c ∷ text) = true

-- a text with a digit behind it, where it is no zero in front
abbrev pub with_digit : List ℕ → Bool → List ℕ
with_digit text true = text ++ codes "1"
with_digit [] false = []
with_digit (c ∷ text) false = (c ∷ text) ++ codes "0"

-- binary digits, the greatest first, without zeros in front
abbrev pub binary : List Bool → List ℕ
binary [] = []
binary (digit ∷ digits) = with_digit (binary digits) digit

-- what is below 2 to the power of 128 is shown in decimal, what isn't by its binary digits
abbrev pub digits_text : List Bool → List ℕ
digits_text digits = if nat_lt (spelled digits) (2 ^ 128) then decimal (spelled digits) else codes "0b" ++ binary digits
