use Rattle.std.proofs.Common.{◌≡◌, ◌+◌, ◌<◌, length, true, cond, get_or, sym, ◌∙◌, ap, arith, drop}
use Rattle.std.specs.List.{prefix_len}
use Rattle.std.proofs.lemmas.Grind.{common_steps}
use Rattle.std.proofs.lemmas.List.{take_rest}
use Rattle.jh_lex.specs.word_front.Characters.{starts_word, continues_word}
use Rattle.jh_lex.proofs.word_front.Counts.{word_length-some}
use Rattle.jh_lex.proofs.word_front.front.word_len.Goals as goal

pub returns-clause-value : goal.returns-clause-value
returns-clause-value c =
    let text = c.args.text.now in
    let starts : starts_word (get_or text 0 0) ≡ true = grind (arith, common_steps) in
    let some : 0 < length text = grind (arith, common_steps) in
    let front : c.front_len.result ≡ prefix_len continues_word (drop 1 text) = c.front_len.ensures.value ∙ ap (prefix_len continues_word) (take_rest text 1) in
    ap (λ n. 1 + n) front ∙ sym (word_length-some text some ∙ ap (λ b. cond b (1 + prefix_len continues_word (drop 1 text)) 0) starts)
