-- The words of a source are UTF-8.
use Rattle.std.proofs.Common.{◌≡◌, refl, sym, subst, ℕ, zero, suc, ◌+◌, ◌-◌, ◌^◌, true, eqb, ltb, List, [], ◌∷◌, ◌++◌, take, drop, get_or, slice_range, Option, Some, None}
use Rattle.std.specs.Prelude.{pos, slice_get}
use Rattle.std.specs.Char.{is_ascii_digit}
use Rattle.std.specs.List.{list_any}
use Rattle.std.specs.Option.{IfSome, option_map, unwrap_or}
use Rattle.std.specs.Str.{all_scalars, encode_utf8_all, is_utf8}
use Rattle.std.proofs.lemmas.Bool.{cond_both, and_parts, and_from}
use Rattle.std.proofs.lemmas.Str.{is_utf8-from_IsUtf8}
use Rattle.jh_name.specs.declared.place.Place.{Place}
use Rattle.jh_lex.specs.lexer.Characters.{starts_word, first, is_space}
use Rattle.jh_lex.specs.lexer.Ends.{close_at, quote_at, line_length}
use Rattle.jh_lex.specs.lexer.Lexemes.{name_of, word_kind, number_kind, value, kind_of}
use Rattle.jh_lex.specs.lexer.Lexes.{Lexes}
use Rattle.jh_lex.specs.lexer.Places.{start, after}
use Rattle.jh_lex.specs.lexer.Symbols.{signs, reserved, find_text}
use Rattle.jh_lex.specs.lexer.Texts.{Step, Outcome, moves, cut, fault, with_front, Run, ended, moved, stopped, token, LexemeStep, lexeme_step, longest, none, enclosed, FormulaStep, QuoteStep, SpecificationStep, CommentStep, SlashStep, CodeStep}
use Rattle.jh_lex.specs.declared.lexer.mode.Mode.{Mode}
use Rattle.jh_lex.specs.declared.lexer.mode.Mode.TheVariants.{Code, Specification, Formula}
use Rattle.jh_lex.specs.declared.lexer.symbol.Symbol.{Symbol}
use Rattle.jh_lex.specs.declared.lexer.token.Token.{Token}
use Rattle.jh_lex.specs.declared.lexer.token.TokenKind.{TokenKind}
use Rattle.jh_lex.specs.declared.lexer.token.TokenKind.TheVariants as kind
use Rattle.jh_lex.proofs.lexer.Shaped.{moves_tokens, moves_stops, none_some, some_same, either, either_option}

-- a token that is a word is one in UTF-8
abbrev pub IsText : TokenKind → Type 0
IsText (kind.Word x) = is_utf8 x.text ≡ true
IsText _ = Unit {0}

abbrev AreTexts : List Token → Type 0
AreTexts [] = Unit {0}
AreTexts (t ∷ ts) = IsText t.kind × AreTexts ts

append-texts : (ts us : List Token) → AreTexts ts → AreTexts us → AreTexts (ts ++ us)
append-texts [] us a b = b
append-texts (t ∷ ts) us a b = (a.0, append-texts ts us a.1 b)

abbrev OutcomeTexts : Outcome → Type 0
OutcomeTexts (cut ts) = AreTexts ts
OutcomeTexts (fault e) = Unit {0}

front-texts : (ts : List Token) (o : Outcome) → AreTexts ts → OutcomeTexts o → OutcomeTexts (with_front ts o)
front-texts ts (cut us) a b = append-texts ts us a b
front-texts ts (fault e) a b = tt

-- ---- characters, and parts of a list of them
take-scalars : (n : ℕ) (cs : List ℕ) → all_scalars cs ≡ true → all_scalars (take n cs) ≡ true
take-scalars zero cs h = refl
take-scalars (suc n) [] h = refl
take-scalars (suc n) (c ∷ cs) h = let parts = and_parts _ (all_scalars cs) h in and_from _ (all_scalars (take n cs)) parts.0 (take-scalars n cs parts.1)

drop-scalars : (n : ℕ) (cs : List ℕ) → all_scalars cs ≡ true → all_scalars (drop n cs) ≡ true
drop-scalars zero cs h = h
drop-scalars (suc n) [] h = refl
drop-scalars (suc n) (c ∷ cs) h = drop-scalars n cs (and_parts _ (all_scalars cs) h).1

name-utf8 : (cs : List ℕ) → all_scalars cs ≡ true → is_utf8 (encode_utf8_all cs) ≡ true
name-utf8 cs h = is_utf8-from_IsUtf8 (encode_utf8_all cs) (cs, (h, refl))

module _ (S : Place → List ℕ → Step → Type 0) (texts : (p : Place) (cs : List ℕ) (ts : List Token) (n : ℕ) → all_scalars cs ≡ true → S p cs (moves ts n) → AreTexts ts) where
  run-texts : {p : Place} {cs : List ℕ} {o : Outcome} → all_scalars cs ≡ true → Run S p cs o → OutcomeTexts o
  run-texts h ended = tt
  run-texts h (moved {p} {cs} {ts} {n} {o} s r) = front-texts ts o (texts p cs ts n h s) (run-texts (drop-scalars n cs h) r)
  run-texts h (stopped s) = tt

-- ---- one token
word-text : (cs : List ℕ) (o : Option Symbol) → all_scalars cs ≡ true → IsText (unwrap_or (option_map kind.Symbol o) (kind.Word (name_of cs)))
word-text cs (Some x) h = tt
word-text cs None h = name-utf8 cs h

sign-text : (o : Option Symbol) → IfSome (option_map kind.Symbol o) IsText
sign-text None = tt
sign-text (Some x) = tt

number-text : (cs : List ℕ) → IfSome (number_kind cs) IsText
number-text cs = cond_both (ltb (value cs) (2 ^ 63)) (Some (value cs)) None (λ o. IfSome (option_map (λ n. kind.Number (pos n)) o) IsText) (λ _. tt) (λ _. tt)

kind-text : (m : Mode) (cs : List ℕ) → all_scalars cs ≡ true → IfSome (kind_of m cs) IsText
kind-text m cs h =
    cond_both (starts_word (first cs)) _ _ (λ o. IfSome o IsText)
    (λ _. cond_both (list_any (λ c. eqb c 46) cs) (kind.Qualified (name_of cs)) (word_kind m cs) IsText (λ _. tt) (λ _. word-text cs (find_text (reserved m) cs) h))
    (λ _. cond_both (is_ascii_digit (first cs)) (number_kind cs) (option_map kind.Symbol (find_text (signs m) cs)) (λ o. IfSome o IsText) (λ _. number-text cs) (λ _. sign-text (find_text (signs m) cs)))

-- ---- steps
read-texts : (p : Place) (k n : ℕ) (ts : List Token) (o : Option TokenKind) → IfSome o IsText → moves ts n ≡ lexeme_step p k o → AreTexts ts
read-texts p k n ts None h e = absurd (moves_stops e)
read-texts p k n ts (Some x) h e = subst AreTexts (sym (moves_tokens e)) (h, tt)

lexeme-texts : (m : Mode) (p : Place) (cs : List ℕ) (ts : List Token) (n : ℕ) → all_scalars cs ≡ true → LexemeStep m p cs (moves ts n) → AreTexts ts
lexeme-texts m p cs ts n h (longest k x e) = read-texts p k n ts (kind_of m (take k cs)) (kind-text m (take k cs) (take-scalars k cs h)) e
lexeme-texts m p cs ts n h (none f e) = absurd (moves_stops e)

space-texts : (ts : List Token) (n k : ℕ) → moves ts n ≡ moves [] k → AreTexts ts
space-texts ts n k e = subst AreTexts (sym (moves_tokens e)) tt

enclosed-texts : (opening closing : TokenKind) (p q : Place) (n k : ℕ) (ts : List Token) (o : Outcome) → IsText opening → IsText closing → OutcomeTexts o → moves ts n ≡ enclosed opening closing p q k o → AreTexts ts
enclosed-texts opening closing p q n k ts (cut us) a b inside e = subst AreTexts (sym (moves_tokens e)) (a, append-texts us (token closing q ∷ []) inside (b, tt))
enclosed-texts opening closing p q n k ts (fault f) a b inside e = absurd (moves_stops e)

formula-texts : (p : Place) (cs : List ℕ) (ts : List Token) (n : ℕ) → all_scalars cs ≡ true → FormulaStep p cs (moves ts n) → AreTexts ts
formula-texts p cs ts n h x = either (is_space (first cs)) (space-texts ts n 1) (lexeme-texts Formula p cs ts n h) x.1

quote-inside : (p r q : Place) (ds : List ℕ) (ts : List Token) (n k : ℕ) → all_scalars ds ≡ true → (o : Outcome) × Run FormulaStep r ds o × (moves ts n ≡ enclosed kind.QuoteOpen kind.QuoteClose p q k o) → AreTexts ts
quote-inside p r q ds ts n k h (o, run, e) = enclosed-texts kind.QuoteOpen kind.QuoteClose p q n k ts o tt tt (run-texts FormulaStep formula-texts h run) e

quote-texts : (p : Place) (cs : List ℕ) (ts : List Token) (n : ℕ) → all_scalars cs ≡ true → QuoteStep p cs (moves ts n) → AreTexts ts
quote-texts p cs ts n h x =
    either_option (quote_at (drop 1 cs)) (λ e. absurd (moves_stops e))
    (λ k. quote-inside p (after p (take 1 cs)) (after p (take (k + 1) cs)) (take k (drop 1 cs)) ts n (k + 2) (take-scalars k (drop 1 cs) (drop-scalars 1 cs h))) x

specification-texts : (p : Place) (cs : List ℕ) (ts : List Token) (n : ℕ) → all_scalars cs ≡ true → SpecificationStep p cs (moves ts n) → AreTexts ts
specification-texts p cs ts n h x =
    either (is_space (first cs)) (space-texts ts n 1)
    (either (eqb (first cs) 34) (quote-texts p cs ts n h) (lexeme-texts Specification p cs ts n h))
    x.1

comment-inside : (p r q : Place) (ds : List ℕ) (ts : List Token) (n k : ℕ) → all_scalars ds ≡ true → (o : Outcome) × Run SpecificationStep r ds o × (moves ts n ≡ enclosed kind.SpecOpen kind.SpecClose p q k o) → AreTexts ts
comment-inside p r q ds ts n k h (o, run, e) = enclosed-texts kind.SpecOpen kind.SpecClose p q n k ts o tt tt (run-texts SpecificationStep specification-texts h run) e

range-scalars : (m k : ℕ) (cs : List ℕ) → all_scalars cs ≡ true → all_scalars (slice_range cs m k) ≡ true
range-scalars m k cs h = take-scalars (k - m) (drop m cs) (drop-scalars m cs h)

comment-texts : (m width : ℕ) (p : Place) (cs : List ℕ) (ts : List Token) (n : ℕ) → all_scalars cs ≡ true → CommentStep m width p cs (moves ts n) → AreTexts ts
comment-texts m width p cs ts n h x = either (eqb (get_or cs 2 0) 58) (comment-inside p (after p (take 3 cs)) (after p (take m cs)) (slice_range cs 3 m) ts n (m + width) (range-scalars 3 m cs h)) (space-texts ts n (m + width)) x

slash-texts : (p : Place) (cs : List ℕ) (ts : List Token) (n : ℕ) → all_scalars cs ≡ true → SlashStep p cs (moves ts n) → AreTexts ts
slash-texts p cs ts n h x =
    either (eqb (get_or cs 1 0) 42)
    (either_option (close_at (drop 2 cs)) (λ e. absurd (moves_stops e)) (λ k. comment-texts (k + 2) 2 p cs ts n h))
    (either (eqb (get_or cs 1 0) 47) (comment-texts (line_length cs) 0 p cs ts n h) (λ e. absurd (moves_stops e)))
    x

code-texts : (p : Place) (cs : List ℕ) (ts : List Token) (n : ℕ) → all_scalars cs ≡ true → CodeStep p cs (moves ts n) → AreTexts ts
code-texts p cs ts n h x =
    either (is_space (first cs)) (space-texts ts n 1)
    (either (eqb (first cs) 47) (slash-texts p cs ts n h) (lexeme-texts Code p cs ts n h))
    x.1

-- ---- sources
text-at : (ts : List Token) (i : ℕ) (t : Token) → AreTexts ts → slice_get ts i ≡ Some t → IsText t.kind
text-at [] i t a there = absurd (none_some there)
text-at (u ∷ us) zero t a there = subst (λ (x : Token). IsText x.kind) (some_same there) a.0
text-at (u ∷ us) (suc i) t a there = text-at us i t a.1 there

pub words-are-utf8 : (bytes : List ℕ) (all : List Token) → Lexes bytes all → (i : ℕ) (t : Token) → slice_get all i ≡ Some t → IsText t.kind
words-are-utf8 bytes all x i t there =
    let inside = run-texts CodeStep code-texts x.are_scalars x.run in
    let end = token kind.End (after start x.characters) in
    text-at all i t (subst AreTexts (sym x.all) (append-texts x.before_end (end ∷ []) inside (tt, tt))) there
