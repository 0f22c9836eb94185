-- A word of a fixed text.
use Rattle.std.proofs.Common.{◌≡◌, ℕ, Bool, true, false, List, refl, ap, sym, ◌∙◌}
use Rattle.std.proofs.lemmas.Bool.{false≢true}
use Rattle.std.specs.Prelude.{Option, None, Some, nat_eq, ◌==◌}
use Rattle.std.specs.Cmp.Lexicographic.{pointwise, same_text}
use Rattle.std.specs.Option.{option_map_or}
use Rattle.std.specs.List.{slice_get}
use Rattle.jh_lex.specs.lexer.Numbers.{kind_number}
use Rattle.jh_lex.specs.declared.lexer.token.Token.{Token}
use Rattle.jh_lex.specs.declared.lexer.token.TokenKind.{TokenKind}
use Rattle.jh_lex.specs.declared.lexer.token.TokenKind.TheVariants as kind
use Rattle.jh_operators.specs.lookahead.Standing.{is_word_kind, is_word_at, is_plain_word_at, kind_at}
use Rattle.jh_operators.proofs.lookahead.Facts.{kinds-apart}

text_is : (k : TokenKind) (a : List ℕ) → is_word_kind k a ≡ true → (kind_number k == 75) ≡ true
text_is (kind.Word n) a e = refl
text_is (kind.Symbol v) a e = absurd (false≢true e)
text_is (kind.Qualified n) a e = absurd (false≢true e)
text_is (kind.Number z) a e = absurd (false≢true e)
text_is kind.SpecOpen a e = absurd (false≢true e)
text_is kind.SpecClose a e = absurd (false≢true e)
text_is kind.QuoteOpen a e = absurd (false≢true e)
text_is kind.QuoteClose a e = absurd (false≢true e)
text_is kind.End a e = absurd (false≢true e)

-- it is a plain word
pub text-kind : (ts : List Token) (i : ℕ) (a : List ℕ) → is_word_at ts i a ≡ true → is_plain_word_at ts i ≡ true
text-kind ts i a e = by_token (slice_get ts i) e where
  by_token : (o : Option Token) → option_map_or (λ (t : Token). is_word_kind t.kind a) o false ≡ true → (option_map_or (λ (t : Token). kind_number t.kind) o 83 == 75) ≡ true
  by_token None e = absurd (false≢true e)
  by_token (Some t) e = text_is t.kind a e

text_apart : (k : TokenKind) (a b : List ℕ) → is_word_kind k a ≡ true → pointwise nat_eq a b ≡ false → is_word_kind k b ≡ false
text_apart (kind.Word n) a b e d = ap (λ t. pointwise nat_eq t b) (same_text n.text a (sym e)) ∙ d
text_apart (kind.Symbol v) a b e d = refl
text_apart (kind.Qualified n) a b e d = refl
text_apart (kind.Number z) a b e d = refl
text_apart kind.SpecOpen a b e d = refl
text_apart kind.SpecClose a b e d = refl
text_apart kind.QuoteOpen a b e d = refl
text_apart kind.QuoteClose a b e d = refl
text_apart kind.End a b e d = refl

-- of two texts only one stands there
pub text-other : (ts : List Token) (i : ℕ) (a b : List ℕ) → is_word_at ts i a ≡ true → pointwise nat_eq a b ≡ false → is_word_at ts i b ≡ false
text-other ts i a b e d = by_token (slice_get ts i) e where
  by_token : (o : Option Token) → option_map_or (λ (t : Token). is_word_kind t.kind a) o false ≡ true → option_map_or (λ (t : Token). is_word_kind t.kind b) o false ≡ false
  by_token None e = refl
  by_token (Some t) e = text_apart t.kind a b e d

-- no text stands where another kind of token does
pub kind-no_text : (ts : List Token) (i m : ℕ) (a : List ℕ) → (kind_at ts i == m) ≡ true → (m == 75) ≡ false → is_word_at ts i a ≡ false
kind-no_text ts i m a e d = by_text (is_word_at ts i a) refl where
  by_text : (b : Bool) → is_word_at ts i a ≡ b → b ≡ false
  by_text false h = refl
  by_text true h = absurd (false≢true (sym (kinds-apart ts i m 75 e d) ∙ text-kind ts i a h))
