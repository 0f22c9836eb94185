-- The texts that are fixed, and which of them are signs and reserved words of each mode.
use Rattle.std.specs.Prelude.{ℕ, Bool, ◌&&◌, ◌==◌, List, [], ◌∷◌, ◌++◌, Option, Some, None, if◌then◌else◌, length, codes, false, true}
use Rattle.jh_lex.specs.declared.lexer.mode.Mode.{Mode}
use Rattle.jh_lex.specs.declared.lexer.mode.Mode.TheVariants.{Code, Specification, Formula}
use Rattle.jh_lex.specs.declared.lexer.symbol.Symbol.{Symbol}
use Rattle.jh_lex.specs.declared.lexer.symbol.Symbol.TheVariants as s

-- the characters of a symbol
abbrev pub text_of : Symbol → List ℕ
text_of s.LeftBrace = codes "{"
text_of s.RightBrace = codes "}"
text_of s.LeftParenthesis = codes "("
text_of s.RightParenthesis = codes ")"
text_of s.LeftBracket = codes "["
text_of s.RightBracket = codes "]"
text_of s.Semicolon = codes ";"
text_of s.Comma = codes ","
text_of s.Dot = codes "."
text_of s.DotDot = codes ".."
text_of s.Colon = codes ":"
text_of s.ColonColon = codes "::"
text_of s.ColonEqual = codes ":="
text_of s.TildeColon = codes "~:"
text_of s.TildeEqual = codes "~="
text_of s.Tilde = codes "~"
text_of s.Equal = codes "="
text_of s.EqualEqual = codes "=="
text_of s.BangEqual = codes "!="
text_of s.Less = codes "<"
text_of s.LessEqual = codes "<="
text_of s.Greater = codes ">"
text_of s.GreaterEqual = codes ">="
text_of s.Plus = codes "+"
text_of s.Minus = codes "-"
text_of s.Star = codes "*"
text_of s.Percent = codes "%"
text_of s.Ampersand = codes "&"
text_of s.AmpersandAmpersand = codes "&&"
text_of s.Bar = codes "|"
text_of s.BarBar = codes "||"
text_of s.Bang = codes "!"
text_of s.Arrow = codes "-->"
text_of s.Class = codes "class"
text_of s.Public = codes "public"
text_of s.Private = codes "private"
text_of s.Protected = codes "protected"
text_of s.Static = codes "static"
text_of s.Final = codes "final"
text_of s.Void = codes "void"
text_of s.Int = codes "int"
text_of s.Boolean = codes "boolean"
text_of s.Null = codes "null"
text_of s.True = codes "true"
text_of s.False = codes "false"
text_of s.This = codes "this"
text_of s.If = codes "if"
text_of s.Else = codes "else"
text_of s.While = codes "while"
text_of s.Return = codes "return"
text_of s.New = codes "new"
text_of s.Specvar = codes "specvar"
text_of s.Ghost = codes "ghost"
text_of s.Vardefs = codes "vardefs"
text_of s.Invariant = codes "invariant"
text_of s.Requires = codes "requires"
text_of s.Modifies = codes "modifies"
text_of s.Ensures = codes "ensures"
text_of s.Inv = codes "inv"
text_of s.Assert = codes "assert"
text_of s.Note = codes "note"
text_of s.From = codes "from"
text_of s.ClaimedBy = codes "claimedby"
text_of s.All = codes "ALL"
text_of s.Ex = codes "EX"
text_of s.Old = codes "old"
text_of s.Card = codes "card"
text_of s.Tree = codes "tree"
text_of s.RtranclPt = codes "rtrancl_pt"
text_of s.Union = codes "Un"
text_of s.Intersection = codes "Int"
text_of s.Dvd = codes "dvd"
text_of s.Univ = codes "UNIV"
text_of s.TrueFormula = codes "True"
text_of s.FalseFormula = codes "False"

-- the signs of each mode
abbrev pub signs : Mode → List Symbol
signs Code =
    s.LeftBrace ∷ s.RightBrace ∷ s.LeftParenthesis ∷ s.RightParenthesis ∷ s.Semicolon ∷ s.Comma ∷ s.Dot ∷ s.Equal ∷
    s.EqualEqual ∷ s.BangEqual ∷ s.Less ∷ s.LessEqual ∷ s.Greater ∷ s.GreaterEqual ∷ s.Plus ∷ s.Minus ∷ s.Star ∷
    s.AmpersandAmpersand ∷ s.BarBar ∷ s.Bang ∷ []
signs Specification =
    s.Semicolon ∷ s.Comma ∷ s.Colon ∷ s.ColonColon ∷ s.Equal ∷ s.ColonEqual ∷ []
signs Formula =
    s.DotDot ∷ s.Dot ∷ s.Comma ∷ s.Colon ∷ s.ColonColon ∷ s.TildeColon ∷ s.TildeEqual ∷ s.Equal ∷ s.EqualEqual ∷
    s.Less ∷ s.LessEqual ∷ s.Greater ∷ s.GreaterEqual ∷ s.Arrow ∷ s.Ampersand ∷ s.Bar ∷ s.Tilde ∷ s.Plus ∷ s.Minus ∷
    s.Star ∷ s.Percent ∷ s.LeftParenthesis ∷ s.RightParenthesis ∷ s.LeftBrace ∷ s.RightBrace ∷ s.LeftBracket ∷
    s.RightBracket ∷ []

-- what code reserves, and what specifications reserve beside that
abbrev pub words_of_code : List Symbol
words_of_code =
    s.Class ∷ s.Public ∷ s.Private ∷ s.Protected ∷ s.Static ∷ s.Final ∷ s.Void ∷ s.Int ∷ s.Boolean ∷ s.Null ∷
    s.True ∷ s.False ∷ s.This ∷ s.If ∷ s.Else ∷ s.While ∷ s.Return ∷ s.New ∷ []

abbrev pub words_of_specifications : List Symbol
words_of_specifications =
    s.Specvar ∷ s.Ghost ∷ s.Vardefs ∷ s.Invariant ∷ s.Requires ∷ s.Modifies ∷ s.Ensures ∷ s.Inv ∷ s.Assert ∷ s.Note ∷
    s.From ∷ s.ClaimedBy ∷ []

-- the reserved words of each mode
abbrev pub reserved : Mode → List Symbol
reserved Code = words_of_code
reserved Specification = words_of_code ++ words_of_specifications
reserved Formula =
    s.All ∷ s.Ex ∷ s.Old ∷ s.Card ∷ s.Tree ∷ s.RtranclPt ∷ s.Union ∷ s.Intersection ∷ s.Dvd ∷ s.Univ ∷ s.Null ∷
    s.TrueFormula ∷ s.FalseFormula ∷ []

-- whether the list begins with the text
abbrev pub begins_with : List ℕ → List ℕ → Bool
begins_with [] cs = true
begins_with (t ∷ ts) [] = false
begins_with (t ∷ ts) (c ∷ cs) = (t == c) && begins_with ts cs

-- whether the list is the text
abbrev pub is_text : List ℕ → List ℕ → Bool
is_text t cs = begins_with t cs && (length t == length cs)

-- the symbol of a table that has this text
abbrev pub find_text : List Symbol → List ℕ → Option Symbol
find_text [] cs = None
find_text (x ∷ xs) cs = if is_text (text_of x) cs then Some x else find_text xs cs
