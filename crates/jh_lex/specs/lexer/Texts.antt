-- How a text is cut into tokens, in each mode.
use Rattle.std.specs.Prelude.{◌≡◌, ℕ, ◌+◌, ◌<◌, ◌==◌, List, [], ◌∷◌, ◌++◌, length, take, drop, slice_index, slice_range, Option, Some, None, MatchOption, MatchBool}
use Rattle.jh_name.specs.declared.place.Place.{Place}
use Rattle.jh_lex.specs.lexer.Characters.{is_space, first}
use Rattle.jh_lex.specs.lexer.Ends.{close_at, quote_at, line_length}
use Rattle.jh_lex.specs.lexer.Lexemes.{IsLexeme, IsLongest, kind_of}
use Rattle.jh_lex.specs.lexer.Places.{after}
use Rattle.jh_lex.specs.declared.lexer.error.LexError.{LexError}
use Rattle.jh_lex.specs.declared.lexer.error.LexError.TheVariants.{BadChar, OpenComment, OpenQuote, TooWide}
use Rattle.jh_lex.specs.declared.lexer.mode.Mode.{Mode}
use Rattle.jh_lex.specs.declared.lexer.mode.Mode.TheVariants as mode
use Rattle.jh_lex.specs.declared.lexer.token.Token.{Token}
use Rattle.jh_lex.specs.declared.lexer.token.TokenKind.{TokenKind}
use Rattle.jh_lex.specs.declared.lexer.token.TokenKind.TheVariants as kind

-- what stands at the front of a text: some characters that give some tokens, or a fault
pub data Step : Type 0 where
  moves : List Token → ℕ → Step
  stops : LexError → Step

-- what a whole text gives: tokens, or its first fault
pub data Outcome : Type 0 where
  cut : List Token → Outcome
  fault : LexError → Outcome

abbrev pub with_front : List Token → Outcome → Outcome
with_front ts (cut us) = cut (ts ++ us)
with_front ts (fault e) = fault e

-- The text that begins at a place is cut from its front to its end, or up to the first fault, where S says what may
-- stand at the front.
pub data Run (S : Place → List ℕ → Step → Type 0) : Place → List ℕ → Outcome → Type 0 where
  ended : {p : Place} → Run S p [] (cut [])
  moved : {p : Place} {cs : List ℕ} {ts : List Token} {n : ℕ} {o : Outcome} → S p cs (moves ts n) → Run S (after p (take n cs)) (drop n cs) o → Run S p cs (with_front ts o)
  stopped : {p : Place} {cs : List ℕ} {e : LexError} → S p cs (stops e) → Run S p cs (fault e)

abbrev pub token : TokenKind → Place → Token
token k p = record { kind = k; place = p }

-- a token of n characters; what is no token, though it is the longest, is a number that is too wide
abbrev pub lexeme_step : Place → ℕ → Option TokenKind → Step
lexeme_step p n (Some k) = moves (token k p ∷ []) n
lexeme_step p n None = stops (TooWide p)

-- the longest token of the mode stands at the front, or no token of the mode does
pub data LexemeStep (m : Mode) (p : Place) (cs : List ℕ) (s : Step) : Type 0 where
  longest : (n : ℕ) → IsLongest m n cs → s ≡ lexeme_step p n (kind_of m (take n cs)) → LexemeStep m p cs s
  none : ((n : ℕ) → IsLexeme m (take n cs) → ⊥) → s ≡ stops (BadChar p) → LexemeStep m p cs s

-- what is enclosed gives its tokens, between one at p and one at q, and n characters are taken
abbrev pub enclosed : TokenKind → TokenKind → Place → Place → ℕ → Outcome → Step
enclosed opening closing p q n (cut ts) = moves (token opening p ∷ (ts ++ token closing q ∷ [])) n
enclosed opening closing p q n (fault e) = stops e

-- a formula: white space and tokens
abbrev pub FormulaStep : Place → List ℕ → Step → Type 0
FormulaStep p cs s = (0 < length cs) × MatchBool (is_space (first cs)) (s ≡ moves [] 1) (LexemeStep mode.Formula p cs s)

-- a quote: the formula goes up to the next quote, which is found first
abbrev pub QuoteStep : Place → List ℕ → Step → Type 0
QuoteStep p cs s = MatchOption (quote_at (drop 1 cs))
    (s ≡ stops (OpenQuote p))
    (λ n. (o : Outcome) × Run FormulaStep (after p (take 1 cs)) (take n (drop 1 cs)) o × (s ≡ enclosed kind.QuoteOpen kind.QuoteClose p (after p (take (n + 1) cs)) (n + 2) o))

-- a specification: white space, formulas between quotes, and tokens
abbrev pub SpecificationStep : Place → List ℕ → Step → Type 0
SpecificationStep p cs s = (0 < length cs) × MatchBool (is_space (first cs)) (s ≡ moves [] 1)
    (MatchBool (first cs == 34) (QuoteStep p cs s) (LexemeStep mode.Specification p cs s))

-- A comment, whose end is n characters from its front and has this width. Behind `/*` or `//` a colon makes it a
-- specification, and else it is dropped.
abbrev pub CommentStep : ℕ → ℕ → Place → List ℕ → Step → Type 0
CommentStep n width p cs s = MatchBool (slice_index cs 2 == 58)
    ((o : Outcome) × Run SpecificationStep (after p (take 3 cs)) (slice_range cs 3 n) o × (s ≡ enclosed kind.SpecOpen kind.SpecClose p (after p (take n cs)) (n + width) o))
    (s ≡ moves [] (n + width))

-- a slash: `/*` goes up to the next `*/` behind these two, and `//` to the end of the line; both are found first
abbrev pub SlashStep : Place → List ℕ → Step → Type 0
SlashStep p cs s = MatchBool (slice_index cs 1 == 42)
    (MatchOption (close_at (drop 2 cs)) (s ≡ stops (OpenComment p)) (λ n. CommentStep (n + 2) 2 p cs s))
    (MatchBool (slice_index cs 1 == 47) (CommentStep (line_length cs) 0 p cs s) (s ≡ stops (BadChar p)))

-- code: white space, comments and specifications, and tokens
abbrev pub CodeStep : Place → List ℕ → Step → Type 0
CodeStep p cs s = (0 < length cs) × MatchBool (is_space (first cs)) (s ≡ moves [] 1)
    (MatchBool (first cs == 47) (SlashStep p cs s) (LexemeStep mode.Code p cs s))
