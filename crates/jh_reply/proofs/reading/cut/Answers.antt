use Rattle.jh_lex.specs.declared.lexer.error.LexError.TheVariants as lex
use Rattle.jh_reply.specs.Refusals.{not_utf8, bad_char, open_comment, open_quote, too_wide}
use Rattle.jh_reply.proofs.Verifying.{fault-is}
use Rattle.jh_reply.proofs.reading.cut.Goals as goal

pub returns-in-Err-NotUtf8-clause-why : goal.returns-in-Err-NotUtf8-clause-why
returns-in-Err-NotUtf8-clause-why c = not_utf8 (fault-is c.args.bytes.now c.in-Err-NotUtf8.field-0 (lex.NotUtf8 c.in-Err-NotUtf8.place) c.in-Err-NotUtf8.field-0-is c.in-Err-NotUtf8.ensures.fault)

pub returns-in-Err-BadChar-clause-why : goal.returns-in-Err-BadChar-clause-why
returns-in-Err-BadChar-clause-why c = bad_char (fault-is c.args.bytes.now c.in-Err-BadChar.field-0 (lex.BadChar c.in-Err-BadChar.place) c.in-Err-BadChar.field-0-is c.in-Err-BadChar.ensures.fault)

pub returns-in-Err-OpenComment-clause-why : goal.returns-in-Err-OpenComment-clause-why
returns-in-Err-OpenComment-clause-why c = open_comment (fault-is c.args.bytes.now c.in-Err-OpenComment.field-0 (lex.OpenComment c.in-Err-OpenComment.place) c.in-Err-OpenComment.field-0-is c.in-Err-OpenComment.ensures.fault)

pub returns-in-Err-OpenQuote-clause-why : goal.returns-in-Err-OpenQuote-clause-why
returns-in-Err-OpenQuote-clause-why c = open_quote (fault-is c.args.bytes.now c.in-Err-OpenQuote.field-0 (lex.OpenQuote c.in-Err-OpenQuote.place) c.in-Err-OpenQuote.field-0-is c.in-Err-OpenQuote.ensures.fault)

pub returns-in-Err-TooWide-clause-why : goal.returns-in-Err-TooWide-clause-why
returns-in-Err-TooWide-clause-why c = too_wide (fault-is c.args.bytes.now c.in-Err-TooWide.field-0 (lex.TooWide c.in-Err-TooWide.place) c.in-Err-TooWide.field-0-is c.in-Err-TooWide.ensures.fault)
