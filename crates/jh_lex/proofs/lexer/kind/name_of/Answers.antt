use Rattle.std.proofs.Common.{◌≡◌, ◌++◌, [], ◌∷◌, take, get_or, ap, sym, ◌∙◌, arith, append-nil}
use Rattle.std.specs.String.{string_bytes}
use Rattle.std.specs.Char.{encode_utf8}
use Rattle.std.specs.Str.{encode_utf8_all}
use Rattle.std.proofs.lemmas.Grind.{common_steps}
use Rattle.std.proofs.lemmas.List.{take_more}
use Rattle.std.proofs.lemmas.Str.{encodes-append}
use Rattle.jh_lex.proofs.lexer.kind.name_of.Goals as goal

-- the word is one character longer
pub loop-c-preserved : goal.loop-c-preserved
loop-c-preserved c =
    let text = c.args.text.now in
    let i = c.loop-c.c-index in
    let pushed : string_bytes c.push.new.self ≡ string_bytes c.loop-c.word ++ encode_utf8 (get_or text i 0) = grind (arith, common_steps) in
    let longer = take_more text i 0 (omega arith) in
    pushed ∙ ap (λ bs. bs ++ encode_utf8 (get_or text i 0)) c.loop-c.invariant
    ∙ sym (ap encode_utf8_all longer ∙ encodes-append (take i text) (get_or text i 0 ∷ []) ∙ ap (λ bs. encode_utf8_all (take i text) ++ bs) (append-nil (encode_utf8 (get_or text i 0))))
