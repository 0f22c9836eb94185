use Rattle.std.proofs.Common.{length, ap, sym, ◌∙◌, arith}
use Rattle.std.proofs.lemmas.Result.{err_from_is_err_and}
use Rattle.jh_lex.proofs.lexer.Sources.{bytes_of_text, text_lexes, text_faults}
use Rattle.jh_lex.proofs.lexer.lexing.text_tokens.Goals as goal

pub start-at-requires : goal.start-at-requires
start-at-requires c =
    let count = bytes_of_text c.args.text.now c.deref.result.now c.utf8.text (c.deref.ensures.value ∙ c.in_ok-characters.ensures) in
    omega (arith, count, c.requires)

pub returns-in_err-code-clause-fault : goal.returns-in_err-code-clause-fault
returns-in_err-code-clause-fault c =
    let p = err_from_is_err_and c.from_residual-in_err-code.result c.from_residual-in_err-code.ensures.1 in
    rw (p.1, p.2) (text_faults c.args.text.now c.in_ok-characters.characters.items c.start-at.result.rest.now c.start-at.result.place c.new-out.result.items c.code.new.out.items c.in_err-code.field-0.0 c.utf8.text c.in_ok-characters.ensures (c.start-at.ensures.rest ∙ c.deref.ensures.value) c.start-at.ensures.place c.in_err-code.ensures)

pub returns-clause-tokens : goal.returns-clause-tokens
returns-clause-tokens c =
    text_lexes c.args.text.now c.in_ok-characters.characters.items c.start-at.result.rest.now c.start-at.result.place c.skip.result.place c.new-out.result.items c.code.new.out.items c.push.new.self.items c.len.result c.utf8.text c.in_ok-characters.ensures (c.start-at.ensures.rest ∙ c.deref.ensures.value) c.start-at.ensures.place c.new-out.ensures.items c.in_ok-code.ensures c.skip.ensures.place (c.len.ensures ∙ sym c.deref.ensures.len ∙ ap length c.deref.ensures.value) c.in_ok-push.ensures.items
