use Rattle.std.proofs.Common.{◌≡◌, false, get_or, sym, arith}
use Rattle.std.proofs.lemmas.Grind.{common_steps}
use Rattle.std.proofs.lemmas.List.Sums.{prefix_len_is}
use Rattle.jh_lex.specs.word_front.Characters.{continues_word}
use Rattle.jh_lex.proofs.word_front.front.front_len.Goals as goal

pub returns-then-not-continues_word-clause-value : goal.returns-then-not-continues_word-clause-value
returns-then-not-continues_word-clause-value c =
    let fails : continues_word (get_or c.args.text.now c.loop-i.i 0) ≡ false = grind (arith, common_steps) in
    sym (prefix_len_is continues_word c.args.text.now c.loop-i.i 0 (omega arith) c.loop-i.invariant (λ _. fails))

pub returns-clause-value : goal.returns-clause-value
returns-clause-value c = sym (prefix_len_is continues_word c.args.text.now _ 0 (omega arith) (λ k h. c.loop-i.invariant k (omega arith)) (λ h. absurd (omega arith)))
