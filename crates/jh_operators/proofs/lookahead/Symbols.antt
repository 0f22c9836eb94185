-- No symbol has a number of the other kinds of tokens.
use Rattle.std.proofs.Common.{◌≡◌, ◌≤◌, ℕ, true, false, List, refl, arith, ltb}
use Rattle.std.proofs.lemmas.Bool.{ne_eqb, ltb-true}
use Rattle.std.specs.Prelude.{ℤ, Some, ◌==◌}
use Rattle.jh_lex.specs.lexer.Numbers.{symbol_number}
use Rattle.jh_lex.specs.declared.lexer.symbol.Symbol.{Symbol}
use Rattle.jh_lex.specs.declared.lexer.symbol.Symbol.TheVariants as s
use Rattle.jh_lex.specs.declared.lexer.token.Token.{Token}
use Rattle.jh_ast.specs.declared.word.Word.{Word}
use Rattle.jh_operators.specs.lookahead.Standing.{is_at, name_at, number_at, kind_at}
use Rattle.jh_operators.proofs.lookahead.Facts.{kinds-apart, name-other, number-other}

small : (u : Symbol) → ltb (symbol_number u) 75 ≡ true
small s.LeftBrace = refl
small s.RightBrace = refl
small s.LeftParenthesis = refl
small s.RightParenthesis = refl
small s.LeftBracket = refl
small s.RightBracket = refl
small s.Semicolon = refl
small s.Comma = refl
small s.Dot = refl
small s.DotDot = refl
small s.Colon = refl
small s.ColonColon = refl
small s.ColonEqual = refl
small s.TildeColon = refl
small s.TildeEqual = refl
small s.Tilde = refl
small s.Equal = refl
small s.EqualEqual = refl
small s.BangEqual = refl
small s.Less = refl
small s.LessEqual = refl
small s.Greater = refl
small s.GreaterEqual = refl
small s.Plus = refl
small s.Minus = refl
small s.Star = refl
small s.Percent = refl
small s.Ampersand = refl
small s.AmpersandAmpersand = refl
small s.Bar = refl
small s.BarBar = refl
small s.Bang = refl
small s.Arrow = refl
small s.Class = refl
small s.Public = refl
small s.Private = refl
small s.Protected = refl
small s.Static = refl
small s.Final = refl
small s.Void = refl
small s.Int = refl
small s.Boolean = refl
small s.Null = refl
small s.True = refl
small s.False = refl
small s.This = refl
small s.If = refl
small s.Else = refl
small s.While = refl
small s.Return = refl
small s.New = refl
small s.Specvar = refl
small s.Ghost = refl
small s.Vardefs = refl
small s.Invariant = refl
small s.Requires = refl
small s.Modifies = refl
small s.Ensures = refl
small s.Inv = refl
small s.Assert = refl
small s.Note = refl
small s.From = refl
small s.ClaimedBy = refl
small s.All = refl
small s.Ex = refl
small s.Old = refl
small s.Card = refl
small s.Tree = refl
small s.RtranclPt = refl
small s.Union = refl
small s.Intersection = refl
small s.Dvd = refl
small s.Univ = refl
small s.TrueFormula = refl
small s.FalseFormula = refl

pub other_kind : (n : ℕ) (u : Symbol) → 75 ≤ n → (n == symbol_number u) ≡ false
other_kind n u h = ne_eqb n (symbol_number u) (λ e. omega (arith, e, h, ltb-true (symbol_number u) 75 (small u)))

-- no symbol stands where a name or a number is read
pub name-plain : (ts : List Token) (i : ℕ) (w : Word) (u : Symbol) → name_at ts i ≡ Some w → is_at ts i u ≡ false
name-plain ts i w u e = name-other ts i (symbol_number u) w e (other_kind 75 u (omega arith)) (other_kind 76 u (omega arith))

pub number-plain : (ts : List Token) (i : ℕ) (z : ℤ) (u : Symbol) → number_at ts i ≡ Some z → is_at ts i u ≡ false
number-plain ts i z u e = number-other ts i (symbol_number u) z e (other_kind 77 u (omega arith))

-- nor where another kind of token stands
pub kind-plain : (ts : List Token) (i n : ℕ) (u : Symbol) → 75 ≤ n → (kind_at ts i == n) ≡ true → is_at ts i u ≡ false
kind-plain ts i n u h e = kinds-apart ts i n (symbol_number u) e (other_kind n u h)
