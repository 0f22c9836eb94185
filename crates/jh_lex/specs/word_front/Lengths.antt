-- How long the word at the front of a text is, or the two words with a dot between them.
use Rattle.std.specs.Prelude.{ℕ, ◌+◌, ◌&&◌, ◌==◌, nat_lt, Bool, List, [], ◌∷◌, drop, slice_index, if◌then◌else◌}
use Rattle.std.specs.List.{prefix_len}
use Rattle.jh_lex.specs.word_front.Characters.{starts_word, continues_word}

-- how many characters the word at the front has
unfoldable pub word_length : List ℕ → ℕ
word_length [] = 0
word_length (c ∷ cs) = if starts_word c then 1 + prefix_len continues_word cs else 0

-- the same of the right half of a qualified word, whose left half has n characters, or 0; q says whether there are qualified words
abbrev pub right_length : Bool → ℕ → List ℕ → ℕ
right_length q n cs = if q && (slice_index cs n == 46) then word_length (drop (n + 1) cs) else 0

-- the same of a qualified word, or of a word of n characters where there is none
abbrev pub qualified_length : Bool → ℕ → List ℕ → ℕ
qualified_length q n cs = if nat_lt 0 (right_length q n cs) then n + 1 + right_length q n cs else n
