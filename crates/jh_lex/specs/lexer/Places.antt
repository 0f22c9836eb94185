-- Places in a source: lines and columns from 1, columns in bytes.
use Rattle.std.specs.Prelude.{ℕ, ◌+◌, ◌==◌, ◌<◌, ◌≤◌, ◌^◌, List, [], ◌∷◌, if◌then◌else◌, sum_by}
use Rattle.std.specs.Char.{len_utf8}
use Rattle.jh_name.specs.declared.place.Place.{Place}

-- the place of the first byte
abbrev pub start : Place
start = record { line = 1; column = 1 }

-- the place behind a character that stands at p: a line feed ends its line
abbrev pub after_character : Place → ℕ → Place
after_character p c = if c == 10 then record { line = p.line + 1; column = 1 } else record { line = p.line; column = p.column + len_utf8 c }

-- the place behind characters of which the first stands at p
abbrev pub after : Place → List ℕ → Place
after p [] = p
after p (c ∷ cs) = after (after_character p c) cs

-- how many bytes the characters take
abbrev pub byte_count : List ℕ → ℕ
byte_count cs = sum_by len_utf8 cs

-- the text at p is so short that no place in it, or behind it, leaves 32 bits
pub record IsShort (p : Place) (cs : List ℕ) : Type 0 where
  pub line : 0 < p.line
  pub column : 0 < p.column
  pub bytes : p.line + p.column + byte_count cs ≤ 2 ^ 32
