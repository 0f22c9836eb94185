use Rattle.std.proofs.Common.{◌≡◌, ℕ, ◌<◌, true, get_or}
use Rattle.jh_lex.specs.word_front.Characters.{continues_word}
use Rattle.jh_lex.proofs.word_front.front.front_len.Given as goal

abbrev pub invariant-loop-i : goal.invariant-loop-i
invariant-loop-i l = (k : ℕ) → k < l.i → continues_word (get_or l.text k 0) ≡ true
