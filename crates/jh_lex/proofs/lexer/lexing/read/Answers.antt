use Rattle.std.proofs.Common.{ap, subst, sym}
use Rattle.std.specs.Str.{IsValidUpTo}
use Rattle.jh_lex.specs.lexer.Lexes.{not_utf8}
use Rattle.jh_lex.specs.declared.lexer.error.LexError.TheVariants.{NotUtf8}
use Rattle.jh_lex.proofs.lexer.lexing.read.Goals as goal

pub returns-in_ok-place-in-Err-clause-fault : goal.returns-in_ok-place-in-Err-clause-fault
returns-in_ok-place-in-Err-clause-fault c =
    let valid = subst (IsValidUpTo c.args.bytes.now) (sym c.valid_up_to.ensures) c.in-Err.ensures.cases.1 in
    not_utf8 c.valid_up_to.result valid (ap NotUtf8 c.in_ok-place-in-Err.ensures)
