use Rattle.std.proofs.Common.{◌≡◌, false, get_or, arith}
use Rattle.std.proofs.lemmas.Grind.{common_steps}
use Rattle.jh_lex.specs.lexer.Characters.{is_space}
use Rattle.jh_lex.specs.lexer.Texts.{LexemeStep, FormulaStep}
use Rattle.jh_lex.specs.declared.lexer.mode.Mode.TheVariants.{Formula}
use Rattle.jh_lex.proofs.lexer.Reading.{step_weaker, formula_lexeme}
use Rattle.jh_lex.proofs.lexer.formula.formula_step.Goals as goal

pub returns-clause-reads : goal.returns-clause-reads
returns-clause-reads c =
    let p = c.args.at.place in
    let text = c.args.at.rest.now in
    let other : is_space (get_or text 0 0) ≡ false = grind (arith, common_steps) in
    step_weaker (LexemeStep Formula) FormulaStep p text _ _ _ (λ s. formula_lexeme p text s c.requires other) c.lexeme.ensures.reads
