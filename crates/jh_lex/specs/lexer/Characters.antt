-- Which characters are white space; which begin and continue a word is said below.
use Rattle.std.specs.Prelude.{ℕ, Bool, ◌||◌, ◌==◌, List, slice_index}
pub use Rattle.jh_lex.specs.word_front.Characters.{starts_word, continues_word}

-- a space, a tab, a line feed, a carriage return or a form feed
abbrev pub is_space : ℕ → Bool
is_space c = (c == 32) || (c == 9) || (c == 10) || (c == 13) || (c == 12)

-- the first character, or 0 where there is none
abbrev pub first : List ℕ → ℕ
first cs = slice_index cs 0
