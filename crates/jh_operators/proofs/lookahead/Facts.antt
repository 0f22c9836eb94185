-- What one token says of what else may stand there.
use Rattle.std.proofs.Common.{◌≡◌, ℕ, zero, suc, ◌<◌, Bool, true, false, List, [], ◌∷◌, length, refl, ap, sym, ◌∙◌, arith}
use Rattle.std.proofs.lemmas.Bool.{false≢true, eqb-true}
use Rattle.std.proofs.lemmas.Option.{none-some}
use Rattle.std.specs.Prelude.{ℤ, Option, None, Some, ◌==◌, ◌||◌}
use Rattle.std.specs.Option.{option_map_or}
use Rattle.std.specs.List.{slice_get}
use Rattle.jh_lex.specs.lexer.Numbers.{symbol_number, kind_number}
use Rattle.jh_lex.specs.declared.lexer.symbol.Symbol.{Symbol}
use Rattle.jh_lex.specs.declared.lexer.token.Token.{Token}
use Rattle.jh_lex.specs.declared.lexer.token.TokenKind.{TokenKind}
use Rattle.jh_lex.specs.declared.lexer.token.TokenKind.TheVariants as kind
use Rattle.jh_name.specs.declared.place.Place.{Place}
use Rattle.jh_ast.specs.declared.word.Word.{Word}
use Rattle.jh_operators.specs.lookahead.Standing.{Is, kind_at, is_at, is_plain_word_at, is_name_at, is_number_at, word_of, name_of, number_of, word_at, name_at, number_at}

-- of two kinds of tokens only one stands there
pub kinds-apart : (ts : List Token) (i m n : ℕ) → (kind_at ts i == m) ≡ true → (m == n) ≡ false → (kind_at ts i == n) ≡ false
kinds-apart ts i m n e d = ap (λ k. k == n) (eqb-true (kind_at ts i) m e) ∙ d

pub other : (ts : List Token) (i : ℕ) (s u : Symbol) → Is ts i s → (symbol_number s == symbol_number u) ≡ false → is_at ts i u ≡ false
other ts i s u e d = kinds-apart ts i (symbol_number s) (symbol_number u) e d

-- where a token of a kind stands, the list goes on
pub kind-within : (ts : List Token) (i m : ℕ) → (83 == m) ≡ false → (kind_at ts i == m) ≡ true → i < length ts
kind-within [] i m d e = absurd (false≢true (sym d ∙ e))
kind-within (t ∷ ts) zero m d e = omega arith
kind-within (t ∷ ts) (suc i) m d e = omega (arith, kind-within ts i m d e)

pub within : (ts : List Token) (i : ℕ) (s : Symbol) → (83 == symbol_number s) ≡ false → Is ts i s → i < length ts
within ts i s d e = kind-within ts i (symbol_number s) d e

-- what is read there says which kind of token it is
word_is : (k : TokenKind) (p : Place) (w : Word) → word_of k p ≡ Some w → (kind_number k == 75) ≡ true
word_is (kind.Word n) p w e = refl
word_is (kind.Symbol v) p w e = absurd (none-some _ e)
word_is (kind.Qualified n) p w e = absurd (none-some _ e)
word_is (kind.Number z) p w e = absurd (none-some _ e)
word_is kind.SpecOpen p w e = absurd (none-some _ e)
word_is kind.SpecClose p w e = absurd (none-some _ e)
word_is kind.QuoteOpen p w e = absurd (none-some _ e)
word_is kind.QuoteClose p w e = absurd (none-some _ e)
word_is kind.End p w e = absurd (none-some _ e)

name_is : (k : TokenKind) (p : Place) (w : Word) → name_of k p ≡ Some w → ((kind_number k == 75) || (kind_number k == 76)) ≡ true
name_is (kind.Word n) p w e = refl
name_is (kind.Qualified n) p w e = refl
name_is (kind.Symbol v) p w e = absurd (none-some _ e)
name_is (kind.Number z) p w e = absurd (none-some _ e)
name_is kind.SpecOpen p w e = absurd (none-some _ e)
name_is kind.SpecClose p w e = absurd (none-some _ e)
name_is kind.QuoteOpen p w e = absurd (none-some _ e)
name_is kind.QuoteClose p w e = absurd (none-some _ e)
name_is kind.End p w e = absurd (none-some _ e)

number_is : (k : TokenKind) (z : ℤ) → number_of k ≡ Some z → (kind_number k == 77) ≡ true
number_is (kind.Number z) w e = refl
number_is (kind.Word n) w e = absurd (none-some _ e)
number_is (kind.Qualified n) w e = absurd (none-some _ e)
number_is (kind.Symbol v) w e = absurd (none-some _ e)
number_is kind.SpecOpen w e = absurd (none-some _ e)
number_is kind.SpecClose w e = absurd (none-some _ e)
number_is kind.QuoteOpen w e = absurd (none-some _ e)
number_is kind.QuoteClose w e = absurd (none-some _ e)
number_is kind.End w e = absurd (none-some _ e)

word_named : (k : TokenKind) (p : Place) (w : Word) → word_of k p ≡ Some w → name_of k p ≡ Some w
word_named (kind.Word n) p w e = e
word_named (kind.Symbol v) p w e = absurd (none-some _ e)
word_named (kind.Qualified n) p w e = absurd (none-some _ e)
word_named (kind.Number z) p w e = absurd (none-some _ e)
word_named kind.SpecOpen p w e = absurd (none-some _ e)
word_named kind.SpecClose p w e = absurd (none-some _ e)
word_named kind.QuoteOpen p w e = absurd (none-some _ e)
word_named kind.QuoteClose p w e = absurd (none-some _ e)
word_named kind.End p w e = absurd (none-some _ e)

-- what is read of the token that stands there, where it says something of its kind
told : {A : Type 0} (f : Token → Option A) (test : ℕ → Bool) (x : A) → ((t : Token) → f t ≡ Some x → test (kind_number t.kind) ≡ true) → (o : Option Token) → option_map_or f o None ≡ Some x → test (option_map_or (λ (t : Token). kind_number t.kind) o 83) ≡ true
told f test x h None e = absurd (none-some _ e)
told f test x h (Some t) e = h t e

pub word-kind : (ts : List Token) (i : ℕ) (w : Word) → word_at ts i ≡ Some w → is_plain_word_at ts i ≡ true
word-kind ts i w e = told (λ t. word_of t.kind t.place) (λ k. k == 75) w (λ t h. word_is t.kind t.place w h) (slice_get ts i) e

pub name-kind : (ts : List Token) (i : ℕ) (w : Word) → name_at ts i ≡ Some w → is_name_at ts i ≡ true
name-kind ts i w e = told (λ t. name_of t.kind t.place) (λ k. (k == 75) || (k == 76)) w (λ t h. name_is t.kind t.place w h) (slice_get ts i) e

pub number-kind : (ts : List Token) (i : ℕ) (z : ℤ) → number_at ts i ≡ Some z → is_number_at ts i ≡ true
number-kind ts i z e = told (λ t. number_of t.kind) (λ k. k == 77) z (λ t h. number_is t.kind z h) (slice_get ts i) e

-- a plain word is a name
pub word-name : (ts : List Token) (i : ℕ) (w : Word) → word_at ts i ≡ Some w → name_at ts i ≡ Some w
word-name ts i w e = by_token (slice_get ts i) e where
  by_token : (o : Option Token) → option_map_or (λ (t : Token). word_of t.kind t.place) o None ≡ Some w → option_map_or (λ (t : Token). name_of t.kind t.place) o None ≡ Some w
  by_token None e = e
  by_token (Some t) e = word_named t.kind t.place w e

-- no other kind stands where a word, a name or a number is read
pub word-other : (ts : List Token) (i n : ℕ) (w : Word) → word_at ts i ≡ Some w → (75 == n) ≡ false → (kind_at ts i == n) ≡ false
word-other ts i n w e d = kinds-apart ts i 75 n (word-kind ts i w e) d

pub number-other : (ts : List Token) (i n : ℕ) (z : ℤ) → number_at ts i ≡ Some z → (77 == n) ≡ false → (kind_at ts i == n) ≡ false
number-other ts i n z e d = kinds-apart ts i 77 n (number-kind ts i z e) d

pub name-other : (ts : List Token) (i n : ℕ) (w : Word) → name_at ts i ≡ Some w → (75 == n) ≡ false → (76 == n) ≡ false → (kind_at ts i == n) ≡ false
name-other ts i n w e d f = by_kind (kind_at ts i == 75) refl (name-kind ts i w e) where
  by_kind : (b : Bool) → (kind_at ts i == 75) ≡ b → (b || (kind_at ts i == 76)) ≡ true → (kind_at ts i == n) ≡ false
  by_kind true h any = kinds-apart ts i 75 n h d
  by_kind false h any = kinds-apart ts i 76 n any f

-- no name stands where another kind does
pub kind-no_name : (ts : List Token) (i m : ℕ) → (kind_at ts i == m) ≡ true → (m == 75) ≡ false → (m == 76) ≡ false → is_name_at ts i ≡ false
kind-no_name ts i m e d f = ap (λ b. b || (kind_at ts i == 76)) (kinds-apart ts i m 75 e d) ∙ kinds-apart ts i m 76 e f

-- no number is read where another kind stands
pub kind-no_number : (ts : List Token) (i m : ℕ) → (kind_at ts i == m) ≡ true → (m == 77) ≡ false → number_at ts i ≡ None
kind-no_number ts i m e d = by_number (number_at ts i) refl where
  by_number : (o : Option ℤ) → number_at ts i ≡ o → o ≡ None
  by_number None h = refl
  by_number (Some z) h = absurd (false≢true (sym (kinds-apart ts i m 77 e d) ∙ number-kind ts i z h))
