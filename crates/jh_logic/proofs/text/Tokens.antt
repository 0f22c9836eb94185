-- What one token of a source is, and how the mode goes on behind it.
use Rattle.std.proofs.Common.{◌≡◌, ◌≢◌, refl, sym, ap, subst, ◌∙◌, ℕ, zero, suc, ◌+◌, ◌<◌, ◌≤◌, Bool, true, false, ◌||◌, ◌&&◌, not, List, [], ◌∷◌, length, take, Option, Some, None, slice_get, codes, arith}
use Rattle.std.specs.Prelude.{ℤ, ◌==◌}
use Rattle.std.specs.List.{list_any, list_all, AllPass}
use Rattle.std.specs.Option.{option_map_or}
use Rattle.std.proofs.lemmas.Bool.{false≢true, eqb-true}
use Rattle.std.proofs.lemmas.List.Sums.{list_all-from_AllPass}
use Rattle.jh_name.specs.declared.place.Place.{Place}
use Rattle.jh_lex.specs.lexer.Numbers.{symbol_number, kind_number}
use Rattle.jh_lex.specs.lexer.Modes.{mode_after, mode_after_all, mode_at}
use Rattle.jh_lex.specs.lexer.Shapes.{is_inside_word, IsWordText, KindFits, HasShape}
use Rattle.jh_lex.specs.declared.lexer.mode.Mode.{Mode}
use Rattle.jh_lex.specs.declared.lexer.mode.Mode.TheVariants as mode
use Rattle.jh_lex.specs.declared.lexer.symbol.Symbol.{Symbol}
use Rattle.jh_lex.specs.declared.lexer.token.Token.{Token}
use Rattle.jh_lex.specs.declared.lexer.token.TokenKind.{TokenKind}
use Rattle.jh_lex.specs.declared.lexer.token.TokenKind.TheVariants as kind
use Rattle.jh_ast.specs.declared.word.Word.{Word}
use Rattle.jh_rules.specs.Words.{same_text, text_of}
use Rattle.jh_rules.specs.Shape.{is_empty, is_forbidden, may_be_declared, is_not_negative}
use Rattle.jh_operators.specs.lookahead.Standing.{Is, kind_at, is_spec_open_at, is_spec_close_at, is_quote_open_at, is_quote_close_at, is_plain_word_at, word_of, name_of, number_of, word_at, name_at, number_at}
use Rattle.jh_operators.proofs.lookahead.Facts.{word-name}
use Rattle.jh_operators.proofs.lookahead.Symbols.{other_kind}
use Rattle.jh_logic.proofs.source.Lists.{some-same, no-none, and-left, and-right}
use Rattle.jh_logic.proofs.source.Texts.{differ}

-- code and specifications are no formulas
is-formula : Mode → Bool
is-formula mode.Code = false
is-formula mode.Specification = false
is-formula mode.Formula = true

pub code-plain : mode.Code ≢ mode.Formula
unfolding is-formula
code-plain e = false≢true (ap is-formula e)

pub specification-plain : mode.Specification ≢ mode.Formula
unfolding is-formula
specification-plain e = false≢true (ap is-formula e)

-- the mode behind a token
next-from : (m : Mode) (ts : List Token) (i : ℕ) (t : Token) → slice_get ts i ≡ Some t → mode_after_all m (take (suc i) ts) ≡ mode_after (mode_after_all m (take i ts)) t.kind
next-from m [] i t e = absurd (no-none t e)
next-from m (u ∷ us) zero t e = ap (λ (v : Token). mode_after m v.kind) (some-same u t e)
next-from m (u ∷ us) (suc i) t e = next-from (mode_after m u.kind) us i t e

-- a word as a token says it
word-from : (k : TokenKind) (p : Place) (w : Word) → word_of k p ≡ Some w → (k ≡ kind.Word w.text) × (w.place ≡ p)
word-from (kind.Word n) p w e = (ap (λ (v : Word). kind.Word v.text) (some-same (record { text = n; place = p }) w e), ap (λ (v : Word). v.place) (sym (some-same (record { text = n; place = p }) w e)))
word-from (kind.Symbol v) p w e = absurd (no-none w e)
word-from (kind.Qualified n) p w e = absurd (no-none w e)
word-from (kind.Number z) p w e = absurd (no-none w e)
word-from kind.SpecOpen p w e = absurd (no-none w e)
word-from kind.SpecClose p w e = absurd (no-none w e)
word-from kind.QuoteOpen p w e = absurd (no-none w e)
word-from kind.QuoteClose p w e = absurd (no-none w e)
word-from kind.End p w e = absurd (no-none w e)

number-from : (k : TokenKind) (z : ℤ) → number_of k ≡ Some z → k ≡ kind.Number z
number-from (kind.Number y) z e = ap kind.Number (some-same y z e)
number-from (kind.Word n) z e = absurd (no-none z e)
number-from (kind.Symbol v) z e = absurd (no-none z e)
number-from (kind.Qualified n) z e = absurd (no-none z e)
number-from kind.SpecOpen z e = absurd (no-none z e)
number-from kind.SpecClose z e = absurd (no-none z e)
number-from kind.QuoteOpen z e = absurd (no-none z e)
number-from kind.QuoteClose z e = absurd (no-none z e)
number-from kind.End z e = absurd (no-none z e)

-- the symbols leave the mode as it is
symbol-keeps : (m : Mode) (k : TokenKind) (s : Symbol) → (kind_number k == symbol_number s) ≡ true → mode_after m k ≡ m
symbol-keeps m (kind.Symbol x) s e = refl
symbol-keeps m (kind.Word x) s e = refl
symbol-keeps m (kind.Qualified x) s e = refl
symbol-keeps m (kind.Number z) s e = refl
symbol-keeps m kind.SpecOpen s e = absurd (false≢true (sym (other_kind 78 s (omega arith)) ∙ e))
symbol-keeps m kind.SpecClose s e = absurd (false≢true (sym (other_kind 79 s (omega arith)) ∙ e))
symbol-keeps m kind.QuoteOpen s e = absurd (false≢true (sym (other_kind 80 s (omega arith)) ∙ e))
symbol-keeps m kind.QuoteClose s e = absurd (false≢true (sym (other_kind 81 s (omega arith)) ∙ e))
symbol-keeps m kind.End s e = refl

-- so do plain words
word-keeps : (m : Mode) (k : TokenKind) → (kind_number k == 75) ≡ true → mode_after m k ≡ m
word-keeps m (kind.Symbol x) e = refl
word-keeps m (kind.Word x) e = refl
word-keeps m (kind.Qualified x) e = refl
word-keeps m (kind.Number z) e = refl
word-keeps m kind.SpecOpen e = absurd (false≢true e)
word-keeps m kind.SpecClose e = absurd (false≢true e)
word-keeps m kind.QuoteOpen e = absurd (false≢true e)
word-keeps m kind.QuoteClose e = absurd (false≢true e)
word-keeps m kind.End e = refl

-- and names, which have turn 0
name-keeps : (m : Mode) (k : TokenKind) (p : Place) (w : Word) → name_of k p ≡ Some w → KindFits m k → (mode_after m k ≡ m) × (w.text.turn ≡ 0)
name-keeps m (kind.Word n) p w e fits = (refl, ap (λ (v : Word). v.text.turn) (sym (some-same (record { text = n; place = p }) w e)) ∙ fits.0.turn)
name-keeps m (kind.Qualified n) p w e fits = (refl, ap (λ (v : Word). v.text.turn) (sym (some-same (record { text = n; place = p }) w e)) ∙ fits.0.turn)
name-keeps m (kind.Symbol v) p w e fits = absurd (no-none w e)
name-keeps m (kind.Number z) p w e fits = absurd (no-none w e)
name-keeps m kind.SpecOpen p w e fits = absurd (no-none w e)
name-keeps m kind.SpecClose p w e fits = absurd (no-none w e)
name-keeps m kind.QuoteOpen p w e fits = absurd (no-none w e)
name-keeps m kind.QuoteClose p w e fits = absurd (no-none w e)
name-keeps m kind.End p w e fits = absurd (no-none w e)

-- no symbol has the number of another kind of token
not-symbol : (n : ℕ) (x : Symbol) → 75 ≤ n → (n == n) ≡ true → (symbol_number x == n) ≡ true → ⊥
not-symbol n x far same e = false≢true (sym (other_kind n x far) ∙ ap (λ k. n == k) (eqb-true (symbol_number x) n e) ∙ same)

-- the tokens that open and close
spec-open-is : (k : TokenKind) → (kind_number k == 78) ≡ true → k ≡ kind.SpecOpen
spec-open-is kind.SpecOpen e = refl
spec-open-is (kind.Symbol x) e = absurd (not-symbol 78 x (omega arith) refl e)
spec-open-is (kind.Word x) e = absurd (false≢true e)
spec-open-is (kind.Qualified x) e = absurd (false≢true e)
spec-open-is (kind.Number z) e = absurd (false≢true e)
spec-open-is kind.SpecClose e = absurd (false≢true e)
spec-open-is kind.QuoteOpen e = absurd (false≢true e)
spec-open-is kind.QuoteClose e = absurd (false≢true e)
spec-open-is kind.End e = absurd (false≢true e)

spec-close-is : (k : TokenKind) → (kind_number k == 79) ≡ true → k ≡ kind.SpecClose
spec-close-is kind.SpecClose e = refl
spec-close-is (kind.Symbol x) e = absurd (not-symbol 79 x (omega arith) refl e)
spec-close-is (kind.Word x) e = absurd (false≢true e)
spec-close-is (kind.Qualified x) e = absurd (false≢true e)
spec-close-is (kind.Number z) e = absurd (false≢true e)
spec-close-is kind.SpecOpen e = absurd (false≢true e)
spec-close-is kind.QuoteOpen e = absurd (false≢true e)
spec-close-is kind.QuoteClose e = absurd (false≢true e)
spec-close-is kind.End e = absurd (false≢true e)

quote-open-is : (k : TokenKind) → (kind_number k == 80) ≡ true → k ≡ kind.QuoteOpen
quote-open-is kind.QuoteOpen e = refl
quote-open-is (kind.Symbol x) e = absurd (not-symbol 80 x (omega arith) refl e)
quote-open-is (kind.Word x) e = absurd (false≢true e)
quote-open-is (kind.Qualified x) e = absurd (false≢true e)
quote-open-is (kind.Number z) e = absurd (false≢true e)
quote-open-is kind.SpecOpen e = absurd (false≢true e)
quote-open-is kind.SpecClose e = absurd (false≢true e)
quote-open-is kind.QuoteClose e = absurd (false≢true e)
quote-open-is kind.End e = absurd (false≢true e)

quote-close-is : (k : TokenKind) → (kind_number k == 81) ≡ true → k ≡ kind.QuoteClose
quote-close-is kind.QuoteClose e = refl
quote-close-is (kind.Symbol x) e = absurd (not-symbol 81 x (omega arith) refl e)
quote-close-is (kind.Word x) e = absurd (false≢true e)
quote-close-is (kind.Qualified x) e = absurd (false≢true e)
quote-close-is (kind.Number z) e = absurd (false≢true e)
quote-close-is kind.SpecOpen e = absurd (false≢true e)
quote-close-is kind.SpecClose e = absurd (false≢true e)
quote-close-is kind.QuoteOpen e = absurd (false≢true e)
quote-close-is kind.End e = absurd (false≢true e)

-- of a text that is a word none is empty, and no character in it is forbidden
not-empty : (x : List ℕ) → 0 < length x → is_empty x ≡ false
not-empty [] h = absurd (omega arith)
not-empty (c ∷ cs) h = refl

inside-fine : (c : ℕ) → is_inside_word c ≡ true → is_forbidden c ≡ false
inside-fine c e = by (c == 32) (c == 10) (c == 46) e
  where
    by : (a b d : Bool) → (not a && (not b && not d)) ≡ true → (a || (b || d)) ≡ false
    by false false false h = refl
    by false false true h = absurd (false≢true h)
    by false true d h = absurd (false≢true h)
    by true b d h = absurd (false≢true h)

none-forbidden : (x : List ℕ) → AllPass is_inside_word x → list_any is_forbidden x ≡ false
none-forbidden x h = by x (list_all-from_AllPass is_inside_word x h)
  where
    by : (x : List ℕ) → list_all is_inside_word x ≡ true → list_any is_forbidden x ≡ false
    by [] e = refl
    by (c ∷ cs) e = (λ i. inside-fine c (and-left (is_inside_word c) (list_all is_inside_word cs) e) i || by cs (and-right (is_inside_word c) (list_all is_inside_word cs) e) i)

may-be : (x : List ℕ) → IsWordText x → x ≢ codes "this" → may_be_declared x ≡ true
may-be x word other = λ i. not (not-empty x word.some i || (none-forbidden x word.plain i || this i))
  where
    this : same_text x (codes "this") ≡ false
    this = differ x (codes "this") other

module _ (ts : List Token) where
  mode-next : (i : ℕ) (t : Token) → slice_get ts i ≡ Some t → mode_at ts (i + 1) ≡ mode_after (mode_at ts i) t.kind
  mode-next i t e = ap (λ k. mode_after_all mode.Code (take k ts)) (one-more i) ∙ next-from mode.Code ts i t e
    where
      one-more : (n : ℕ) → n + 1 ≡ suc n
      one-more n = omega arith

  -- the token of a kind
  token-of : (n i : ℕ) → (83 == n) ≡ false → (kind_at ts i == n) ≡ true → (t : Token) × (slice_get ts i ≡ Some t) × ((kind_number t.kind == n) ≡ true)
  token-of n i apart e = by (slice_get ts i) refl e
    where
      by : (o : Option Token) → slice_get ts i ≡ o → (option_map_or (λ (t : Token). kind_number t.kind) o 83 == n) ≡ true → (t : Token) × (slice_get ts i ≡ Some t) × ((kind_number t.kind == n) ≡ true)
      by None g h = absurd (false≢true (sym apart ∙ h))
      by (Some t) g h = (t, g, h)

  pub symbol-mode : (i : ℕ) (s : Symbol) → Is ts i s → mode_at ts (i + 1) ≡ mode_at ts i
  symbol-mode i s e = let t = token-of (symbol_number s) i (other_kind 83 s (omega arith)) e in mode-next i t.0 t.1 ∙ symbol-keeps (mode_at ts i) t.0.kind s t.2

  pub plain-mode : (i : ℕ) → is_plain_word_at ts i ≡ true → mode_at ts (i + 1) ≡ mode_at ts i
  plain-mode i e = let t = token-of 75 i refl e in mode-next i t.0 t.1 ∙ word-keeps (mode_at ts i) t.0.kind t.2

  -- a word and its token
  pub record WordAt (i : ℕ) (w : Word) : Type 0 where
    pub token : Token
    pub stands : slice_get ts i ≡ Some token
    pub kind : token.kind ≡ kind.Word w.text
    pub place : w.place ≡ token.place

  pub word-token : (i : ℕ) (w : Word) → word_at ts i ≡ Some w → WordAt i w
  word-token i w e = by (slice_get ts i) refl e
    where
      by : (o : Option Token) → slice_get ts i ≡ o → option_map_or (λ (t : Token). word_of t.kind t.place) o None ≡ Some w → WordAt i w
      by None g h = absurd (no-none w h)
      by (Some t) g h = let r = word-from t.kind t.place w h in record { token = t; stands = g; kind = r.0; place = r.1 }

  module _ (shape : HasShape ts) where
    pub name-mode : (i : ℕ) (w : Word) → name_at ts i ≡ Some w → (mode_at ts (i + 1) ≡ mode_at ts i) × (w.text.turn ≡ 0)
    name-mode i w e = by (slice_get ts i) refl e
      where
        by : (o : Option Token) → slice_get ts i ≡ o → option_map_or (λ (t : Token). name_of t.kind t.place) o None ≡ Some w → (mode_at ts (i + 1) ≡ mode_at ts i) × (w.text.turn ≡ 0)
        by None g h = absurd (no-none w h)
        by (Some t) g h = let r = name-keeps (mode_at ts i) t.kind t.place w h (shape i t g) in (mode-next i t g ∙ r.0, r.1)

    pub word-mode : (i : ℕ) (w : Word) → word_at ts i ≡ Some w → (mode_at ts (i + 1) ≡ mode_at ts i) × (w.text.turn ≡ 0)
    word-mode i w e = name-mode i w (word-name ts i w e)

    pub word-fine : (i : ℕ) (w : Word) → word_at ts i ≡ Some w → mode_at ts i ≢ mode.Formula → may_be_declared (text_of w) ≡ true
    word-fine i w e plain =
        let t = word-token i w e in
        let fits : KindFits (mode_at ts i) (kind.Word w.text) = subst (KindFits (mode_at ts i)) t.kind (shape i t.token t.stands) in
        may-be (text_of w) fits.0.word (fits.1 plain)

    pub number-mode : (i : ℕ) (z : ℤ) → number_at ts i ≡ Some z → (mode_at ts (i + 1) ≡ mode_at ts i) × (is_not_negative z ≡ true)
    number-mode i z e = by (slice_get ts i) refl e
      where
        by : (o : Option Token) → slice_get ts i ≡ o → option_map_or (λ (t : Token). number_of t.kind) o None ≡ Some z → (mode_at ts (i + 1) ≡ mode_at ts i) × (is_not_negative z ≡ true)
        by None g h = absurd (no-none z h)
        by (Some t) g h =
            let is : t.kind ≡ kind.Number z = number-from t.kind z h in
            let fits : KindFits (mode_at ts i) (kind.Number z) = subst (KindFits (mode_at ts i)) is (shape i t g) in
            (mode-next i t g ∙ ap (mode_after (mode_at ts i)) is, ap is_not_negative fits.1)

    pub spec-opens : (i : ℕ) → is_spec_open_at ts i ≡ true → (mode_at ts i ≡ mode.Code) × (mode_at ts (i + 1) ≡ mode.Specification)
    spec-opens i e =
        let t = token-of 78 i refl e in
        let is : t.0.kind ≡ kind.SpecOpen = spec-open-is t.0.kind t.2 in
        (subst (KindFits (mode_at ts i)) is (shape i t.0 t.1), mode-next i t.0 t.1 ∙ ap (mode_after (mode_at ts i)) is)

    pub spec-closes : (i : ℕ) → is_spec_close_at ts i ≡ true → mode_at ts (i + 1) ≡ mode.Code
    spec-closes i e =
        let t = token-of 79 i refl e in
        mode-next i t.0 t.1 ∙ ap (mode_after (mode_at ts i)) (spec-close-is t.0.kind t.2)

    pub quote-opens : (i : ℕ) → is_quote_open_at ts i ≡ true → (mode_at ts i ≡ mode.Specification) × (mode_at ts (i + 1) ≡ mode.Formula)
    quote-opens i e =
        let t = token-of 80 i refl e in
        let is : t.0.kind ≡ kind.QuoteOpen = quote-open-is t.0.kind t.2 in
        (subst (KindFits (mode_at ts i)) is (shape i t.0 t.1), mode-next i t.0 t.1 ∙ ap (mode_after (mode_at ts i)) is)

    pub quote-closes : (i : ℕ) → is_quote_close_at ts i ≡ true → mode_at ts (i + 1) ≡ mode.Specification
    quote-closes i e =
        let t = token-of 81 i refl e in
        mode-next i t.0 t.1 ∙ ap (mode_after (mode_at ts i)) (quote-close-is t.0.kind t.2)
