use Rattle.std.proofs.Common.{arith}
use Rattle.jh_lex.proofs.lexer.Counts.{sign_length_step, sign_length_all}
use Rattle.jh_lex.proofs.lexer.lexeme.sign_len.Goals as goal

pub loop-symbol-preserved : goal.loop-symbol-preserved
loop-symbol-preserved c = sign_length_step c.args.table.now c.loop-symbol.symbol-index _ c.args.text.now _ _ _ _ c.loop-symbol-test.true c.symbol_len.ensures c.max-longest.ensures c.loop-symbol.invariant

pub returns : goal.returns
returns c =
    let none = sign_length_all c.args.table.now c.loop-symbol.symbol-index c.args.text.now (omega arith) in
    omega (arith, c.loop-symbol.invariant, none)
