use Rattle.std.proofs.Common.{sym}
use Rattle.std.proofs.lemmas.Bool.{ne_eqb}
use Rattle.jh_lex.specs.lexer.Texts.{LexemeStep, SpecificationStep}
use Rattle.jh_lex.specs.declared.lexer.mode.Mode.TheVariants.{Specification}
use Rattle.jh_lex.proofs.lexer.Reading.{step_weaker, specification_lexeme}
use Rattle.jh_lex.proofs.lexer.specification.specification_step.Goals as goal

pub returns-clause-reads : goal.returns-clause-reads
returns-clause-reads c =
    let p = c.args.at.place in
    let text = c.args.at.rest.now in
    step_weaker (LexemeStep Specification) SpecificationStep p text _ _ _ (λ s. specification_lexeme p text s c.requires (sym c.if-is_space.ensures) (ne_eqb _ 34 c.if-first-eq34.false)) c.lexeme.ensures.reads
