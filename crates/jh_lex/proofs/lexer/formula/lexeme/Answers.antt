use Rattle.std.proofs.Common.{◌≡◌, take, arith}
use Rattle.std.proofs.lemmas.Grind.{common_steps}
use Rattle.jh_lex.specs.lexer.Lexemes.{kind_of}
use Rattle.jh_lex.proofs.lexer.Reading.{lexeme_read, lexeme_too_wide}
use Rattle.jh_lex.proofs.lexer.formula.lexeme.Goals as goal

pub returns-in-None-clause-reads : goal.returns-in-None-clause-reads
returns-in-None-clause-reads c =
    let n = c.lexeme_len-n.result in
    let is : c.in_ok-kind_of.field-0 ≡ kind_of c.args.mode (take n c.args.at.rest.now) = grind (arith, common_steps) in
    lexeme_too_wide c.args.mode c.args.at.place c.args.at.rest.now n c.in_ok-kind_of.field-0 (c.lexeme_len-n.ensures.longest (omega arith)) is c.in-None.is

pub returns-in_ok-push-in-Some-clause-reads : goal.returns-in_ok-push-in-Some-clause-reads
returns-in_ok-push-in-Some-clause-reads c =
    let n = c.lexeme_len-n.result in
    let is : c.in_ok-kind_of.field-0 ≡ kind_of c.args.mode (take n c.args.at.rest.now) = grind (arith, common_steps) in
    lexeme_read c.args.mode c.args.at.place c.args.at.rest.now n c.in_ok-kind_of.field-0 c.in-Some.kind c.args.out.now.items c.push.new.self.items (c.lexeme_len-n.ensures.longest (omega arith)) is c.in-Some.is c.in_ok-push-in-Some.ensures.items
