use Rattle.jh_lex.proofs.lexer.Sources.{source_accepted, source_refused}
use Rattle.jh_lex.proofs.lexer.lexing.tokens.Goals as goal

pub returns-clause-accepted : goal.returns-clause-accepted
returns-clause-accepted c = source_accepted (λ made. made.items) c.args.bytes.now c.read.result c.read.ensures.tokens c.read.ensures.fault

pub returns-clause-refused : goal.returns-clause-refused
returns-clause-refused c = source_refused (λ made. made.items) c.args.bytes.now c.read.result c.read.ensures.tokens c.read.ensures.fault
