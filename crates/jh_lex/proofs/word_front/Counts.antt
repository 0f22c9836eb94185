-- How long a word is, by its first character.
use Rattle.std.proofs.Common.{◌≡◌, ℕ, ◌+◌, ◌<◌, cond, List, [], ◌∷◌, length, drop, get_or, refl, arith}
use Rattle.std.specs.List.{prefix_len}
use Rattle.jh_lex.specs.word_front.Characters.{starts_word, continues_word}
use Rattle.jh_lex.specs.word_front.Lengths.{word_length}

pub word_length-none : (cs : List ℕ) → length cs ≡ 0 → word_length cs ≡ 0
unfolding word_length
word_length-none [] h = refl
word_length-none (c ∷ cs) h = absurd (omega arith)

pub word_length-some : (cs : List ℕ) → 0 < length cs → word_length cs ≡ cond (starts_word (get_or cs 0 0)) (1 + prefix_len continues_word (drop 1 cs)) 0
unfolding word_length
word_length-some [] h = absurd (omega arith)
word_length-some (c ∷ cs) h = refl

pub ruleset word_rules = (word_length-none, word_length-some)
