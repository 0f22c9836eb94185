use Rattle.std.proofs.Common.{◌≡◌, ℕ, ◌++◌, ◌∷◌, List, subst, arith, MatchOption}
use Rattle.std.proofs.lemmas.Str.Pattern.{split_parts}
use Rattle.jh_lex.specs.lexer.Shapes.{HasNoDot}
use Rattle.jh_lex.proofs.lexer.Halving.{halves_words}
use Rattle.jh_lex.proofs.lexer.qualified.halves.Goals as goal

pub returns-clause-parts : goal.returns-clause-parts
returns-clause-parts c =
    subst (λ (text : List ℕ). MatchOption c.split_once.result (HasNoDot text) (λ parts. (text ≡ parts.0.now ++ 46 ∷ parts.1.now) × HasNoDot parts.0.now)) c.text.ensures
    (split_parts 46 c.text.result.now c.split_once.result c.split_once.ensures.cases (omega arith))

pub returns-clause-words : goal.returns-clause-words
returns-clause-words c = λ q. halves_words c.args.name.now c.text.result.now c.split_once.result c.text.ensures c.split_once.ensures.cases q
