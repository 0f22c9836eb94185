use Rattle.std.proofs.Common.{length, ap, subst, sym, ◌∙◌, arith, length-take}
use Rattle.std.specs.Str.{IsUtf8}
use Rattle.jh_lex.proofs.lexer.Sources.{bytes_of_text}
use Rattle.jh_lex.proofs.lexer.lexing.place_behind.Goals as goal

pub start-text-requires : goal.start-text-requires
start-text-requires c =
    let same = c.in-Ok.ensures.cases.0 in
    let utf8 = subst IsUtf8 (sym same) c.in-Ok.ensures.cases.1 in
    let count = bytes_of_text c.in-Ok.front.now c.deref.result.now utf8 (c.deref.ensures.value ∙ c.in_ok-front-in-Ok.ensures) in
    omega (arith, count, ap length same, length-take c.args.n c.args.bytes.now, c.requires.short)
