use Rattle.std.proofs.Common.{◌≡◌, ◌+◌, ◌-◌, ◌≤◌, ◌^◌, get_or, sym, arith}
use Rattle.std.proofs.lemmas.Grind.{common_steps}
use Rattle.jh_lex.specs.lexer.Lexemes.{value}
use Rattle.jh_lex.proofs.lexer.Digits.{value_more, value-take-le, small_value-great}
use Rattle.jh_lex.proofs.lexer.kind.number.Goals as goal

-- with one digit more the number is already too great
pub returns-then-value-digit : goal.returns-then-value-digit
returns-then-value-digit c =
    let digits = c.args.digits.now in
    let i = c.loop-c.c-index in
    let digit : c.from-digit.result ≡ get_or digits i 0 - 48 = grind (arith, common_steps) in
    let more = value_more digits i 0 (omega arith) in
    let great : 2 ^ 63 ≤ value digits = omega (arith, digit, more, c.loop-c.invariant.front, c.if-value-digit.true, value-take-le (i + 1) digits) in
    sym (small_value-great digits great)
