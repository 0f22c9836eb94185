-- Numbers by which the kinds of tokens are told apart.
use Rattle.std.specs.Prelude.{ℕ}
use Rattle.jh_lex.specs.declared.lexer.symbol.Symbol.{Symbol}
use Rattle.jh_lex.specs.declared.lexer.symbol.Symbol.TheVariants as s
use Rattle.jh_lex.specs.declared.lexer.token.TokenKind.{TokenKind}
use Rattle.jh_lex.specs.declared.lexer.token.TokenKind.TheVariants as kind

-- the symbols in the order in which they are declared
abbrev pub symbol_number : Symbol → ℕ
symbol_number s.LeftBrace = 0
symbol_number s.RightBrace = 1
symbol_number s.LeftParenthesis = 2
symbol_number s.RightParenthesis = 3
symbol_number s.LeftBracket = 4
symbol_number s.RightBracket = 5
symbol_number s.Semicolon = 6
symbol_number s.Comma = 7
symbol_number s.Dot = 8
symbol_number s.DotDot = 9
symbol_number s.Colon = 10
symbol_number s.ColonColon = 11
symbol_number s.ColonEqual = 12
symbol_number s.TildeColon = 13
symbol_number s.TildeEqual = 14
symbol_number s.Tilde = 15
symbol_number s.Equal = 16
symbol_number s.EqualEqual = 17
symbol_number s.BangEqual = 18
symbol_number s.Less = 19
symbol_number s.LessEqual = 20
symbol_number s.Greater = 21
symbol_number s.GreaterEqual = 22
symbol_number s.Plus = 23
symbol_number s.Minus = 24
symbol_number s.Star = 25
symbol_number s.Percent = 26
symbol_number s.Ampersand = 27
symbol_number s.AmpersandAmpersand = 28
symbol_number s.Bar = 29
symbol_number s.BarBar = 30
symbol_number s.Bang = 31
symbol_number s.Arrow = 32
symbol_number s.Class = 33
symbol_number s.Public = 34
symbol_number s.Private = 35
symbol_number s.Protected = 36
symbol_number s.Static = 37
symbol_number s.Final = 38
symbol_number s.Void = 39
symbol_number s.Int = 40
symbol_number s.Boolean = 41
symbol_number s.Null = 42
symbol_number s.True = 43
symbol_number s.False = 44
symbol_number s.This = 45
symbol_number s.If = 46
symbol_number s.Else = 47
symbol_number s.While = 48
symbol_number s.Return = 49
symbol_number s.New = 50
symbol_number s.Specvar = 51
symbol_number s.Ghost = 52
symbol_number s.Vardefs = 53
symbol_number s.Invariant = 54
symbol_number s.Requires = 55
symbol_number s.Modifies = 56
symbol_number s.Ensures = 57
symbol_number s.Inv = 58
symbol_number s.Assert = 59
symbol_number s.Note = 60
symbol_number s.From = 61
symbol_number s.ClaimedBy = 62
symbol_number s.All = 63
symbol_number s.Ex = 64
symbol_number s.Old = 65
symbol_number s.Card = 66
symbol_number s.Tree = 67
symbol_number s.RtranclPt = 68
symbol_number s.Union = 69
symbol_number s.Intersection = 70
symbol_number s.Dvd = 71
symbol_number s.Univ = 72
symbol_number s.TrueFormula = 73
symbol_number s.FalseFormula = 74

-- the symbols, and after them the other kinds of tokens
abbrev pub kind_number : TokenKind → ℕ
kind_number (kind.Symbol x) = symbol_number x
kind_number (kind.Word x) = 75
kind_number (kind.Qualified x) = 76
kind_number (kind.Number n) = 77
kind_number kind.SpecOpen = 78
kind_number kind.SpecClose = 79
kind_number kind.QuoteOpen = 80
kind_number kind.QuoteClose = 81
kind_number kind.End = 82
