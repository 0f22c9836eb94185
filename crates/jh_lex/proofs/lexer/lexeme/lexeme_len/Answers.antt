use Rattle.jh_lex.proofs.lexer.Longest.{lexeme_is_longest, no_lexeme}
use Rattle.jh_lex.proofs.lexer.lexeme.lexeme_len.Goals as goal

pub returns-clause-longest : goal.returns-clause-longest
returns-clause-longest c h = lexeme_is_longest c.args.mode c.longest_len.result c.args.text.now c.longest_len.ensures h

pub returns-clause-none : goal.returns-clause-none
returns-clause-none c h = no_lexeme c.args.mode c.longest_len.result c.args.text.now c.longest_len.ensures h
