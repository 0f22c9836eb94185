-- The tokens of a source, and its first fault.
use Rattle.std.specs.Prelude.{◌≡◌, ℕ, true, List, [], ◌∷◌, ◌++◌, take}
use Rattle.std.specs.Str.{all_scalars, encode_utf8_all, chars, IsValidUpTo}
use Rattle.jh_lex.specs.lexer.Places.{start, after}
use Rattle.jh_lex.specs.lexer.Texts.{Run, CodeStep, cut, fault, token}
use Rattle.jh_lex.specs.declared.lexer.error.LexError.{LexError}
use Rattle.jh_lex.specs.declared.lexer.error.LexError.TheVariants.{NotUtf8}
use Rattle.jh_lex.specs.declared.lexer.token.Token.{Token}
use Rattle.jh_lex.specs.declared.lexer.token.TokenKind.TheVariants.{End}

-- The bytes are the UTF-8 of characters that are cut, as code, into the tokens; these end with End, behind the last byte.
pub record Lexes (bytes : List ℕ) (tokens : List Token) : Type 0 where
  pub characters : List ℕ
  pub before_end : List Token
  pub are_scalars : all_scalars characters ≡ true
  pub encoded : encode_utf8_all characters ≡ bytes
  pub run : Run CodeStep start characters (cut before_end)
  pub all : tokens ≡ before_end ++ token End (after start characters) ∷ []

-- The bytes are not UTF-8, and the place is behind their longest front that is. Or they are the UTF-8 of characters that
-- are cut, as code, up to the fault.
pub data IsFirstFault (bytes : List ℕ) (e : LexError) : Type 0 where
  not_utf8 : (n : ℕ) → IsValidUpTo bytes n → e ≡ NotUtf8 (after start (chars (take n bytes))) → IsFirstFault bytes e
  in_text : (characters : List ℕ) → all_scalars characters ≡ true → encode_utf8_all characters ≡ bytes → Run CodeStep start characters (fault e) → IsFirstFault bytes e
