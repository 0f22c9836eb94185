-- What the words behind a command are made of: options with their values, other words, and the numbers that are written there.
-- Words are their bytes in UTF-8.
use Rattle.std.specs.Prelude.{ℕ, ◌&&◌, ◌==◌, not, nat_eq, nat_le, Bool, List, [], ◌∷◌, length, Option, None, Some, is_some, option_map, option_and_then, find, codes, if◌then◌else◌, true}
use Rattle.std.specs.List.{list_all, list_any}
use Rattle.std.specs.Cmp.Lexicographic.{pointwise}
use Rattle.std.specs.Str.Parse.{digits_value}

abbrev pub Word : Type 0
Word = List ℕ

abbrev pub same_word : Word → Word → Bool
same_word x y = pointwise nat_eq x y

-- what stands before the first byte c of a text and what stands behind it, where the text has that byte
abbrev pub cut_at : ℕ → Word → Option (Word × Word)
cut_at c [] = None
cut_at c (b ∷ bs) = if b == c then Some ([], bs) else option_map (λ p. (b ∷ p.0, p.1)) (cut_at c bs)

-- ---- what kind of word a word is

pub data Shape : Type 0 where
  -- `--name`, an option whose value is the next word
  named : Word → Shape
  -- `--name=value`, an option with its value
  valued : Word → Word → Shape
  -- `--`, which ends the options
  end : Shape
  -- any other word that begins with `-`
  dashed : Shape
  -- a word that doesn't begin with `-`
  plain : Shape

-- what follows a hyphen (45) at the beginning of a text
abbrev pub after_hyphen : Word → Option Word
after_hyphen [] = None
after_hyphen (b ∷ bs) = if b == 45 then Some bs else None

abbrev pub begins_with_hyphen : Word → Bool
begins_with_hyphen w = is_some (after_hyphen w)

-- of a text behind `--`, which may be cut at an equals sign (61)
abbrev pub option_shape : Word → Option (Word × Word) → Shape
option_shape text None = named text
option_shape text (Some (name, value)) = valued name value

abbrev pub long_shape : Word → Shape
long_shape [] = end
long_shape (b ∷ bs) = option_shape (b ∷ bs) (cut_at 61 (b ∷ bs))

-- of a text behind `-`, by what follows a second hyphen
abbrev pub dashed_shape : Option Word → Shape
dashed_shape None = dashed
dashed_shape (Some text) = long_shape text

-- of a word, by what follows its first hyphen
abbrev pub shape_behind : Option Word → Shape
shape_behind None = plain
shape_behind (Some text) = dashed_shape (after_hyphen text)

abbrev pub shape : Word → Shape
shape w = shape_behind (after_hyphen w)

-- ---- what a list of words is made of: the options that are given, and the other words

pub record Given : Type 0 where
  pub name : Word
  pub value : Word

pub record Parts : Type 0 where
  pub options : List Given
  pub words : List Word

abbrev pub given : Word → Word → Given
given name value = record { name = name; value = value }

abbrev pub with_option : Word → Word → Parts → Parts
with_option name value p = record { options = given name value ∷ p.options; words = p.words }

abbrev pub with_word : Word → Parts → Parts
with_word w p = record { options = p.options; words = w ∷ p.words }

-- What a word and the words behind it are made of, by the shape of the first. `rest` says what those behind it are made of, where the
-- first of them is the value of an option of this name, or of none. Behind `--` all words stand for themselves.
abbrev pub parts_by : Shape → Word → List Word → (Option Word → Option Parts) → Option Parts
parts_by (named name) w ws rest = rest (Some name)
parts_by (valued name value) w ws rest = option_map (with_option name value) (rest None)
parts_by end w ws rest = Some (record { options = []; words = ws })
parts_by dashed w ws rest = None
parts_by plain w ws rest = option_map (with_word w) (rest None)

-- A value that is a word of its own doesn't begin with a hyphen.
abbrev pub parts_from : List Word → Option Word → Option Parts
parts_from [] None = Some (record { options = []; words = [] })
parts_from [] (Some name) = None
parts_from (w ∷ ws) None = parts_by (shape w) w ws (parts_from ws)
parts_from (w ∷ ws) (Some name) = if begins_with_hyphen w then None else option_map (with_option name w) (parts_from ws None)

abbrev pub parts : List Word → Option Parts
parts ws = parts_from ws None

-- ---- numbers and options

abbrev pub is_digit : ℕ → Bool
is_digit b = nat_le 48 b && nat_le b 57

abbrev pub are_digits : Word → Bool
are_digits w = list_all is_digit w

-- a number is 1 to 18 decimal digits without a sign; leading zeros are allowed
abbrev pub is_number : Word → Bool
is_number w = nat_le 1 (length w) && (nat_le (length w) 18 && are_digits w)

-- the number that a word is
abbrev pub number_in : Word → Option ℕ
number_in w = if is_number w then Some (digits_value 10 w) else None

-- an option, with the least and the greatest number that may be given for it, and the one that is meant where it isn't given
pub record Setting : Type 0 where
  pub name : Word
  pub least : ℕ
  pub most : ℕ
  pub default : ℕ

abbrev pub workers : Setting
workers = record { name = codes "workers"; least = 1; most = 16; default = 1 }

abbrev pub rounds : Setting
rounds = record { name = codes "rounds"; least = 1; most = 4; default = 1 }

abbrev pub leaves : Setting
leaves = record { name = codes "leaves"; least = 1; most = 100000; default = 5000 }

abbrev pub steps : Setting
steps = record { name = codes "steps"; least = 0; most = 1000000; default = 10000 }

abbrev pub is_within : Setting → ℕ → Bool
is_within s n = nat_le s.least n && nat_le n s.most

abbrev pub number_within : Setting → ℕ → Option ℕ
number_within s n = if is_within s n then Some n else None

-- the number that a word is for an option
abbrev pub number_for : Setting → Word → Option ℕ
number_for s w = if is_number w then number_within s (digits_value 10 w) else None

abbrev pub is_for : Word → Given → Bool
is_for name g = same_word g.name name

-- the value that is given for an option
abbrev pub value_for : Word → List Given → Option Word
value_for name gs = option_map (λ g. g.value) (find (is_for name) gs)

abbrev pub number_given : Setting → Option Word → Option ℕ
number_given s None = Some s.default
number_given s (Some value) = number_for s value

-- the number that is meant for an option, where what is given for it is one
abbrev pub number_of : Setting → List Given → Option ℕ
number_of s gs = number_given s (value_for s.name gs)

abbrev pub is_among : List Word → Word → Bool
is_among names name = list_any (same_word name) names

-- each option is one of these
abbrev pub are_among : List Word → List Given → Bool
are_among names gs = list_all (λ g. is_among names g.name) gs

-- none is given twice
abbrev pub are_once : List Given → Bool
are_once [] = true
are_once (g ∷ gs) = not (list_any (is_for g.name) gs) && are_once gs

abbrev pub are_options : List Word → List Given → Bool
are_options names gs = are_among names gs && are_once gs

-- a source may have 1 to 200 methods
abbrev pub methods_within : ℕ → Option ℕ
methods_within n = if nat_le 1 n && nat_le n 200 then Some n else None

abbrev pub methods_in : Word → Option ℕ
methods_in w = option_and_then methods_within (number_in w)
