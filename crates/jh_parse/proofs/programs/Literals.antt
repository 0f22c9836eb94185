-- Literals are read as they stand.
use Rattle.std.proofs.Common.{◌≡◌, ℕ, List, refl}
use Rattle.std.specs.Prelude.{Some}
use Rattle.jh_lex.specs.declared.lexer.symbol.Symbol.TheVariants as symbol
use Rattle.jh_lex.specs.declared.lexer.token.Token.{Token}
use Rattle.jh_ast.specs.Exprs.{ExprTree}
use Rattle.jh_operators.proofs.lookahead.Facts.{other}
use Rattle.jh_operators.proofs.lookahead.Options.{Holds, nothing, found, choose_holds, given_holds, of_found, choose_on, choose_off, given_on}
use Rattle.jh_operators.proofs.lookahead.Symbols.{number-plain}
use Rattle.jh_parse.specs.programs.Literals.{Literal, literal_at}
use Rattle.jh_parse.specs.programs.Literals as grammar

literal-sound : (ts : List Token) (i : ℕ) → Holds (λ a. Literal ts i a) (literal_at ts i)
unfolding literal_at
literal-sound ts i = choose_holds (λ e. found (grammar.null e)) (λ _.
    choose_holds (λ e. found (grammar.yes e)) (λ _.
    choose_holds (λ e. found (grammar.no e)) (λ _.
    given_holds (λ z e. found (grammar.number e)) (λ _. nothing))))

pub literal-is : (ts : List Token) (i : ℕ) (a : ExprTree) → literal_at ts i ≡ Some a → Literal ts i a
literal-is ts i a e = of_found (literal-sound ts i) a e

pub literal-complete : (ts : List Token) {i : ℕ} {a : ExprTree} → Literal ts i a → literal_at ts i ≡ Some a
unfolding literal_at
literal-complete ts (grammar.null e) = choose_on _ e refl
literal-complete ts {i = i} (grammar.yes e) = choose_off _ (other ts i symbol.True symbol.Null e refl) (choose_on _ e refl)
literal-complete ts {i = i} (grammar.no e) = choose_off _ (other ts i symbol.False symbol.Null e refl) (choose_off _ (other ts i symbol.False symbol.True e refl) (choose_on _ e refl))
literal-complete ts {i = i} (grammar.number {z = z} e) = choose_off _ (number-plain ts i z symbol.Null e) (choose_off _ (number-plain ts i z symbol.True e) (choose_off _ (number-plain ts i z symbol.False e) (given_on _ _ e refl)))
