-- Which kinds of tokens stand from a place on, and what that says of the token there.
use Rattle.std.proofs.Common.{◌≡◌, ℕ, zero, suc, ◌+◌, true, ◌==◌, List, [], ◌∷◌, map, length, drop, get_or, slice_get, Some, None, refl, ap, sym, ◌∙◌, arith, eq-eqb, drop-drop, pos}
use Rattle.std.specs.Option.{option_map_or}
use Rattle.std.proofs.lemmas.List.{length-drop, length-map}
use Rattle.jh_lex.specs.lexer.Numbers.{kind_number}
use Rattle.jh_lex.specs.declared.lexer.symbol.Symbol.{Symbol}
use Rattle.jh_lex.specs.declared.lexer.token.Token.{Token}
use Rattle.jh_lex.specs.declared.lexer.token.TokenKind.{TokenKind}
use Rattle.jh_lex.specs.declared.lexer.token.TokenKind.TheVariants as kind
use Rattle.jh_operators.specs.lookahead.Standing.{Is, kind_at, is_spec_open_at, is_spec_close_at, is_quote_open_at, is_quote_close_at, is_end_at, place_at, word_of, name_of, number_of, word_at, name_at, number_at}
use Rattle.jh_gen_laws.specs.tokens.Laws.{kind_of}
use Rattle.jh_gen_laws.specs.typing.Trees as trees

-- from place i on the tokens are of these kinds
pub record At (ts : List Token) (i : ℕ) (ks : List TokenKind) : Type 0 where
  pub rest : drop i (map kind_of ts) ≡ ks

-- the kind of a word
abbrev pub spelled : List ℕ → TokenKind
spelled t = kind.Word (record { text = t; turn = 0 })

token-there : (ts : List Token) (i : ℕ) (k : TokenKind) (ks : List TokenKind) → drop i (map kind_of ts) ≡ k ∷ ks → slice_get ts i ≡ Some (record { kind = k; place = place_at ts i })
token-there [] zero k ks e = absurd (omega (arith, ap length e))
token-there [] (suc i) k ks e = absurd (omega (arith, ap length e))
token-there (t ∷ ts) zero k ks e = λ j. Some (record { kind = get_or (e j) 0 k; place = t.place })
token-there (t ∷ ts) (suc i) k ks e = token-there ts i k ks e

module _ {ts : List Token} where
  pub token-at : {i : ℕ} {k : TokenKind} {ks : List TokenKind} → At ts i (k ∷ ks) → slice_get ts i ≡ Some (record { kind = k; place = place_at ts i })
  token-at {i} {k} {ks} a = token-there ts i k ks a.rest

  pub next : {i : ℕ} {k : TokenKind} {ks : List TokenKind} → At ts i (k ∷ ks) → At ts (i + 1) ks
  next {i} a = record { rest = sym (drop-drop 1 i (map kind_of ts)) ∙ ap (drop 1) a.rest }

  pub next2 : {i : ℕ} {k l : TokenKind} {ks : List TokenKind} → At ts i (k ∷ l ∷ ks) → At ts (i + 2) ks
  next2 {i} a = record { rest = sym (drop-drop 2 i (map kind_of ts)) ∙ ap (drop 2) a.rest }

  pub kind-at : {i : ℕ} {k : TokenKind} {ks : List TokenKind} → At ts i (k ∷ ks) → kind_at ts i ≡ kind_number k
  kind-at a = ap (λ o. option_map_or (λ (t : Token). kind_number t.kind) o 83) (token-at a)

  is-kind : {i : ℕ} {k : TokenKind} {ks : List TokenKind} → At ts i (k ∷ ks) → (kind_at ts i == kind_number k) ≡ true
  is-kind {k = k} a = ap (λ n. n == kind_number k) (kind-at a) ∙ eq-eqb (kind_number k) (kind_number k) refl

  pub is : {i : ℕ} {s : Symbol} {ks : List TokenKind} → At ts i (kind.Symbol s ∷ ks) → Is ts i s
  is a = is-kind a

  pub spec-open : {i : ℕ} {ks : List TokenKind} → At ts i (kind.SpecOpen ∷ ks) → is_spec_open_at ts i ≡ true
  spec-open a = is-kind a

  pub spec-close : {i : ℕ} {ks : List TokenKind} → At ts i (kind.SpecClose ∷ ks) → is_spec_close_at ts i ≡ true
  spec-close a = is-kind a

  pub quote-open : {i : ℕ} {ks : List TokenKind} → At ts i (kind.QuoteOpen ∷ ks) → is_quote_open_at ts i ≡ true
  quote-open a = is-kind a

  pub quote-close : {i : ℕ} {ks : List TokenKind} → At ts i (kind.QuoteClose ∷ ks) → is_quote_close_at ts i ≡ true
  quote-close a = is-kind a

  pub end : {i : ℕ} {ks : List TokenKind} → At ts i (kind.End ∷ ks) → is_end_at ts i ≡ true
  end a = is-kind a

  pub word-is : {i : ℕ} {t : List ℕ} {ks : List TokenKind} → At ts i (kind.Word (record { text = t; turn = 0 }) ∷ ks) → word_at ts i ≡ Some (trees.word_at (place_at ts i) t)
  word-is a = ap (λ o. option_map_or (λ (t : Token). word_of t.kind t.place) o None) (token-at a)

  pub name-is : {i : ℕ} {t : List ℕ} {ks : List TokenKind} → At ts i (kind.Word (record { text = t; turn = 0 }) ∷ ks) → name_at ts i ≡ Some (trees.word_at (place_at ts i) t)
  name-is a = ap (λ o. option_map_or (λ (t : Token). name_of t.kind t.place) o None) (token-at a)

  pub pair-is : {i : ℕ} {t : List ℕ} {ks : List TokenKind} → At ts i (kind.Qualified (record { text = t; turn = 0 }) ∷ ks) → name_at ts i ≡ Some (trees.word_at (place_at ts i) t)
  pair-is a = ap (λ o. option_map_or (λ (t : Token). name_of t.kind t.place) o None) (token-at a)

  pub number-is : {i n : ℕ} {ks : List TokenKind} → At ts i (kind.Number (pos n) ∷ ks) → number_at ts i ≡ Some (pos n)
  number-is a = ap (λ o. option_map_or (λ (t : Token). number_of t.kind) o None) (token-at a)

  -- the last token
  pub last : {i : ℕ} {k : TokenKind} → At ts i (k ∷ []) → length ts ≡ i + 1
  last {i} a = omega (arith, ap length a.rest, length-drop i (map kind_of ts), length-map ts kind_of)
