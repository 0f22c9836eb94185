use Rattle.jh_reply.proofs.Verifying.{syntax-why, deep-why}
use Rattle.jh_reply.proofs.reading.parsed.Goals as goal

-- tokens that spell no program
pub returns-in-Err-Syntax-clause-why : goal.returns-in-Err-Syntax-clause-why
returns-in-Err-Syntax-clause-why c = syntax-why c.args.bytes.now c.in_ok-tokens.tokens.items c.as_slice.result.now c.in-Err-Syntax.field-0 c.in-Err-Syntax.place c.as_slice.ensures.value c.in_ok-tokens.ensures.cut c.in-Err-Syntax.ensures.parsed c.in-Err-Syntax.field-0-is

-- tokens of which one is nested too deep
pub returns-in-Err-TooDeep-clause-why : goal.returns-in-Err-TooDeep-clause-why
returns-in-Err-TooDeep-clause-why c = deep-why c.args.bytes.now c.in_ok-tokens.tokens.items c.as_slice.result.now c.in-Err-TooDeep.field-0 c.in-Err-TooDeep.place c.as_slice.ensures.value c.in_ok-tokens.ensures.cut c.in-Err-TooDeep.ensures.parsed c.in-Err-TooDeep.field-0-is
