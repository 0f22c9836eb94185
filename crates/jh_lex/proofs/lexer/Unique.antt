-- A text gives at most one outcome in each mode, and bytes have at most one list of tokens or first fault.
use Rattle.std.proofs.Common.{◌≡◌, ℕ, ◌+◌, Bool, true, false, List, [], ◌∷◌, ◌++◌, length, take, drop, slice_range, Option, Some, None, MatchOption, MatchBool, sym, refl, ap, ◌∙◌, subst, arith}
use Rattle.std.specs.Str.{IsUtf8, IsValidUpTo, chars}
use Rattle.std.proofs.lemmas.Str.{encodes_same, utf8_valid_len-IsValidUpTo}
use Rattle.std.proofs.lemmas.List.{take_all}
use Rattle.jh_name.specs.declared.place.Place.{Place}
use Rattle.jh_lex.specs.lexer.Ends.{close_at, quote_at, line_length}
use Rattle.jh_lex.specs.lexer.Lexemes.{kind_of}
use Rattle.jh_lex.specs.lexer.Lexes.{Lexes, IsFirstFault, not_utf8, in_text}
use Rattle.jh_lex.specs.lexer.Places.{start, after}
use Rattle.jh_lex.specs.lexer.Texts.{Step, Outcome, moves, stops, cut, fault, with_front, Run, ended, moved, stopped, token, LexemeStep, lexeme_step, longest, none, enclosed, FormulaStep, QuoteStep, SpecificationStep, CommentStep, SlashStep, CodeStep}
use Rattle.jh_lex.specs.declared.lexer.error.LexError.{LexError}
use Rattle.jh_lex.specs.declared.lexer.error.LexError.TheVariants.{NotUtf8}
use Rattle.jh_lex.specs.declared.lexer.mode.Mode.{Mode}
use Rattle.jh_lex.specs.declared.lexer.token.Token.{Token}
use Rattle.jh_lex.specs.declared.lexer.token.TokenKind.TheVariants as kind

-- two facts by the same test
both : {P Q T U R : Type 0} (b : Bool) → (P → T → R) → (Q → U → R) → MatchBool b P Q → MatchBool b T U → R
both true f g x y = f x y
both false f g x y = g x y

both_options : {A P T R : Type 0} {Q U : A → Type 0} (o : Option A) → (P → T → R) → ((n : A) → Q n → U n → R) → MatchOption o P Q → MatchOption o T U → R
both_options None f g x y = f x y
both_options (Some n) f g x y = g n x y

moves_tokens : {ts us : List Token} {n k : ℕ} → moves ts n ≡ moves us k → ts ≡ us
moves_tokens e = cc

moves_count : {ts us : List Token} {n k : ℕ} → moves ts n ≡ moves us k → n ≡ k
moves_count e = cc

moves_stops : {ts : List Token} {n : ℕ} {e : LexError} → moves ts n ≡ stops e → ⊥
moves_stops e = cc

stops_error : {e d : LexError} → stops e ≡ stops d → e ≡ d
stops_error e = cc

cut_tokens : {ts us : List Token} → cut ts ≡ cut us → ts ≡ us
cut_tokens e = cc

fault_error : {e d : LexError} → fault e ≡ fault d → e ≡ d
fault_error e = cc

fault_cut : {e : LexError} {ts : List Token} → fault e ≡ cut ts → ⊥
fault_cut e = cc

-- a step that is determined, of a text that isn't empty, makes runs that are
module _ (S : Place → List ℕ → Step → Type 0) (unique : (p : Place) (cs : List ℕ) (s t : Step) → S p cs s → S p cs t → s ≡ t) (some : (p : Place) (s : Step) → S p [] s → ⊥) where
  run_unique : {p : Place} {cs : List ℕ} {o u : Outcome} → Run S p cs o → Run S p cs u → o ≡ u
  run_unique ended ended = refl
  run_unique ended (moved s r) = absurd (some _ _ s)
  run_unique ended (stopped s) = absurd (some _ _ s)
  run_unique (moved s r) ended = absurd (some _ _ s)
  run_unique (moved {p} {cs} {ts} {n} {o} s r) (moved {ts = us} {n = k} {o = u} t q) =
      let e : moves ts n ≡ moves us k = unique p cs _ _ s t in
      let q' = subst (λ i. Run S (after p (take i cs)) (drop i cs) u) (sym (moves_count e)) q in
      λ i. with_front (moves_tokens e i) (run_unique r q' i)
  run_unique (moved s r) (stopped t) = absurd (moves_stops (unique _ _ _ _ s t))
  run_unique (stopped s) ended = absurd (some _ _ s)
  run_unique (stopped s) (moved t q) = absurd (moves_stops (sym (unique _ _ _ _ s t)))
  run_unique (stopped s) (stopped t) = ap fault (stops_error (unique _ _ _ _ s t))

lexeme_unique : (m : Mode) (p : Place) (cs : List ℕ) (s t : Step) → LexemeStep m p cs s → LexemeStep m p cs t → s ≡ t
lexeme_unique m p cs s t (longest n x e) (longest k y d) =
    let at_most = x.longest k y.within y.lexeme in
    let at_least = y.longest n x.within x.lexeme in
    let same : n ≡ k = omega (arith, at_most, at_least) in
    e ∙ ap (λ i. lexeme_step p i (kind_of m (take i cs))) same ∙ sym d
lexeme_unique m p cs s t (longest n x e) (none f d) = absurd (f n x.lexeme)
lexeme_unique m p cs s t (none f e) (longest n y d) = absurd (f n y.lexeme)
lexeme_unique m p cs s t (none f e) (none g d) = e ∙ sym d

joined : {s t u : Step} → s ≡ u → t ≡ u → s ≡ t
joined e d = e ∙ sym d

formula_unique : (p : Place) (cs : List ℕ) (s t : Step) → FormulaStep p cs s → FormulaStep p cs t → s ≡ t
formula_unique p cs s t x y = both _ joined (lexeme_unique _ p cs s t) x.1 y.1

formula_some : (p : Place) (s : Step) → FormulaStep p [] s → ⊥
formula_some p s x = omega (arith, x.0)

formula_runs : {p : Place} {cs : List ℕ} {o u : Outcome} → Run FormulaStep p cs o → Run FormulaStep p cs u → o ≡ u
formula_runs r q = run_unique FormulaStep formula_unique formula_some r q

quote_unique : (p : Place) (cs : List ℕ) (s t : Step) → QuoteStep p cs s → QuoteStep p cs t → s ≡ t
quote_unique p cs s t x y =
    both_options (quote_at (drop 1 cs)) joined
    (λ n a b. a.2 ∙ ap (enclosed kind.QuoteOpen kind.QuoteClose p (after p (take (n + 1) cs)) (n + 2)) (formula_runs a.1 b.1) ∙ sym b.2)
    x y

specification_unique : (p : Place) (cs : List ℕ) (s t : Step) → SpecificationStep p cs s → SpecificationStep p cs t → s ≡ t
specification_unique p cs s t x y = both _ joined (both _ (quote_unique p cs s t) (lexeme_unique _ p cs s t)) x.1 y.1

specification_some : (p : Place) (s : Step) → SpecificationStep p [] s → ⊥
specification_some p s x = omega (arith, x.0)

specification_runs : {p : Place} {cs : List ℕ} {o u : Outcome} → Run SpecificationStep p cs o → Run SpecificationStep p cs u → o ≡ u
specification_runs r q = run_unique SpecificationStep specification_unique specification_some r q

specification_inside : (p q r : Place) (n : ℕ) (cs : List ℕ) (s t : Step) → (o : Outcome) × Run SpecificationStep r cs o × (s ≡ enclosed kind.SpecOpen kind.SpecClose p q n o) → (o : Outcome) × Run SpecificationStep r cs o × (t ≡ enclosed kind.SpecOpen kind.SpecClose p q n o) → s ≡ t
specification_inside p q r n cs s t (o, a, e) (u, b, d) = e ∙ ap (enclosed kind.SpecOpen kind.SpecClose p q n) (specification_runs a b) ∙ sym d

comment_unique : (n width : ℕ) (p : Place) (cs : List ℕ) (s t : Step) → CommentStep n width p cs s → CommentStep n width p cs t → s ≡ t
comment_unique n width p cs s t x y = both _ (specification_inside p (after p (take n cs)) (after p (take 3 cs)) (n + width) (slice_range cs 3 n) s t) joined x y

slash_unique : (p : Place) (cs : List ℕ) (s t : Step) → SlashStep p cs s → SlashStep p cs t → s ≡ t
slash_unique p cs s t x y =
    both _
    (both_options (close_at (drop 2 cs)) joined (λ n. comment_unique (n + 2) 2 p cs s t))
    (both _ (comment_unique (line_length cs) 0 p cs s t) joined)
    x y

code_unique : (p : Place) (cs : List ℕ) (s t : Step) → CodeStep p cs s → CodeStep p cs t → s ≡ t
code_unique p cs s t x y = both _ joined (both _ (slash_unique p cs s t) (lexeme_unique _ p cs s t)) x.1 y.1

code_some : (p : Place) (s : Step) → CodeStep p [] s → ⊥
code_some p s x = omega (arith, x.0)

code_runs : {p : Place} {cs ds : List ℕ} {o u : Outcome} → cs ≡ ds → Run CodeStep p cs o → Run CodeStep p ds u → o ≡ u
code_runs {p} {cs} {ds} {o} {u} e r q = run_unique CodeStep code_unique code_some r (subst (λ x. Run CodeStep p x u) (sym e) q)

pub one_list : (bytes : List ℕ) (one other : List Token) → Lexes bytes one → Lexes bytes other → one ≡ other
one_list bytes one other x y =
    let same : x.characters ≡ y.characters = encodes_same _ _ (x.encoded ∙ sym y.encoded) in
    let tokens : x.before_end ≡ y.before_end = cut_tokens (code_runs same x.run y.run) in
    x.all ∙ (λ i. tokens i ++ token kind.End (after start (same i)) ∷ []) ∙ sym y.all

valid_not_utf8 : (bytes : List ℕ) (n : ℕ) → IsValidUpTo bytes n → IsUtf8 bytes → ⊥
valid_not_utf8 bytes n valid utf8 = valid.longest (length bytes) valid.short (subst IsUtf8 (sym (take_all (length bytes) bytes (omega arith))) utf8)

pub one_fault : (bytes : List ℕ) (one other : LexError) → IsFirstFault bytes one → IsFirstFault bytes other → one ≡ other
one_fault bytes one other (not_utf8 n v e) (not_utf8 k w d) =
    let same : n ≡ k = sym (utf8_valid_len-IsValidUpTo bytes n v) ∙ utf8_valid_len-IsValidUpTo bytes k w in
    e ∙ ap (λ i. NotUtf8 (after start (chars (take i bytes)))) same ∙ sym d
one_fault bytes one other (not_utf8 n v e) (in_text cs scalars encoded r) = absurd (valid_not_utf8 bytes n v (cs, (scalars, encoded)))
one_fault bytes one other (in_text cs scalars encoded r) (not_utf8 k w d) = absurd (valid_not_utf8 bytes k w (cs, (scalars, encoded)))
one_fault bytes one other (in_text cs scalars encoded r) (in_text ds scalars' encoded' q) = fault_error (code_runs (encodes_same _ _ (encoded ∙ sym encoded')) r q)

pub fault_or_list : (bytes : List ℕ) (e : LexError) (all : List Token) → IsFirstFault bytes e → Lexes bytes all → ⊥
fault_or_list bytes e all (not_utf8 n v d) x = valid_not_utf8 bytes n v (x.characters, (x.are_scalars, x.encoded))
fault_or_list bytes e all (in_text cs scalars encoded r) x = fault_cut (code_runs (encodes_same _ _ (encoded ∙ sym x.encoded)) r x.run)
