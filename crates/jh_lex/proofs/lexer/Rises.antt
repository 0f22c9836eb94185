-- The places of the tokens of a source rise.
use Rattle.std.proofs.Common.{◌≡◌, ℕ, zero, suc, ◌+◌, ◌-◌, ◌<◌, ◌≤◌, Bool, true, false, cond, eqb, List, [], ◌∷◌, ◌++◌, length, take, drop, get_or, slice_range, Option, Some, None, MatchOption, MatchBool, ◌⊎◌, inl, inr, ◌&&◌, sym, refl, ap, ◌∙◌, subst, arith, append_assoc, length-drop}
use Rattle.std.specs.Char.{len_utf8}
use Rattle.std.specs.List.{position}
use Rattle.std.specs.Option.{option_map, unwrap_or}
use Rattle.std.specs.Prelude.{slice_get}
use Rattle.std.proofs.Math.Seq.{take-add}
use Rattle.std.proofs.lemmas.Bool.{both_ways, and_parts, eqb-true}
use Rattle.std.proofs.lemmas.List.{take-append-drop, drop_all, get_or-drop}
use Rattle.std.proofs.lemmas.List.Quantifiers.{position-Some}
use Rattle.std.proofs.lemmas.Str.{len_utf8_bounds}
use Rattle.jh_name.specs.declared.place.Place.{Place}
use Rattle.jh_lex.specs.lexer.Characters.{first, is_space}
use Rattle.jh_lex.specs.lexer.Ends.{close_at, quote_at, line_length}
use Rattle.jh_lex.specs.lexer.Lexemes.{IsLexeme, kind_of}
use Rattle.jh_lex.specs.lexer.Lexes.{Lexes}
use Rattle.jh_lex.specs.lexer.Places.{start, after, after_character}
use Rattle.jh_lex.specs.lexer.Rising.{IsBefore, EndTogether, Rises}
use Rattle.jh_lex.specs.lexer.Texts.{Step, Outcome, moves, cut, fault, with_front, Run, ended, moved, stopped, token, LexemeStep, lexeme_step, longest, none, enclosed, FormulaStep, QuoteStep, SpecificationStep, CommentStep, SlashStep, CodeStep}
use Rattle.jh_lex.specs.declared.lexer.mode.Mode.{Mode}
use Rattle.jh_lex.specs.declared.lexer.mode.Mode.TheVariants.{Code, Specification, Formula}
use Rattle.jh_lex.specs.declared.lexer.token.Token.{Token}
use Rattle.jh_lex.specs.declared.lexer.token.TokenKind.{TokenKind}
use Rattle.jh_lex.specs.declared.lexer.token.TokenKind.TheVariants as kind
use Rattle.jh_lex.proofs.lexer.Behind.{after-append}
use Rattle.jh_lex.proofs.lexer.Longest.{nothing}
use Rattle.jh_lex.proofs.lexer.Shaped.{moves_tokens, moves_stops, either, none_some, some_same}

-- ---- places
before_trans : (p q r : Place) → IsBefore p q → IsBefore q r → IsBefore p r
before_trans p q r (inl a) (inl b) = inl (omega (arith, a, b))
before_trans p q r (inl a) (inr b) = inl (omega (arith, a, b.0))
before_trans p q r (inr a) (inl b) = inl (omega (arith, a.0, b))
before_trans p q r (inr a) (inr b) = inr (a.0 ∙ b.0, omega (arith, a.1, b.1))

-- a place is another or stands before it
abbrev UpTo : Place → Place → Type 0
UpTo p q = (p ≡ q) ⊎ IsBefore p q

up_then : (p q r : Place) → UpTo p q → IsBefore q r → IsBefore p r
up_then p q r (inl same) b = subst (λ x. IsBefore x r) (sym same) b
up_then p q r (inr a) b = before_trans p q r a b

then_up : (p q r : Place) → IsBefore p q → UpTo q r → IsBefore p r
then_up p q r a (inl same) = subst (λ x. IsBefore p x) same a
then_up p q r a (inr b) = before_trans p q r a b

up_trans : (p q r : Place) → UpTo p q → UpTo q r → UpTo p r
up_trans p q r (inl same) b = subst (λ x. UpTo x r) (sym same) b
up_trans p q r (inr a) b = inr (then_up p q r a b)

character_before : (b : Bool) (p : Place) (c : ℕ) → IsBefore p (cond b (record { line = p.line + 1; column = 1 }) (record { line = p.line; column = p.column + len_utf8 c }))
character_before true p c = inl (omega arith)
character_before false p c = inr (refl, omega (arith, (len_utf8_bounds c).0))

up_after : (p : Place) (cs : List ℕ) → UpTo p (after p cs)
up_after p [] = inl refl
up_after p (c ∷ cs) = inr (then_up p (after_character p c) (after p (c ∷ cs)) (character_before (eqb c 10) p c) (up_after (after_character p c) cs))

before_after : (p : Place) (cs : List ℕ) → 0 < length cs → IsBefore p (after p cs)
before_after p [] h = absurd (omega arith)
before_after p (c ∷ cs) h = then_up p (after_character p c) (after p (c ∷ cs)) (character_before (eqb c 10) p c) (up_after (after_character p c) cs)

-- a place after some characters, and after the rest of them
after_rest : (p : Place) (n : ℕ) (cs : List ℕ) → after (after p (take n cs)) (drop n cs) ≡ after p cs
after_rest p n cs = sym (after-append p (take n cs) (drop n cs)) ∙ ap (after p) (take-append-drop n cs)

-- a longer front ends later
front_before : (p : Place) (m n : ℕ) (cs : List ℕ) → m < n → n ≤ length cs → IsBefore (after p (take m cs)) (after p (take n cs))
front_before p m zero cs h k = absurd (omega arith)
front_before p m (suc n) [] h k = absurd (omega arith)
front_before p zero (suc n) (c ∷ cs) h k = before_after p (c ∷ take n cs) (omega arith)
front_before p (suc m) (suc n) (c ∷ cs) h k = front_before (after_character p c) m n cs (omega arith) (omega arith)

-- ---- tokens from one place up to another
-- The tokens stand from p on, each before the next, and the last before q.
abbrev Spread : Place → List Token → Place → Type 0
Spread p [] q = UpTo p q
Spread p (t ∷ ts) q = UpTo p t.place × (r : Place) × IsBefore t.place r × Spread r ts q

-- The same, but the last may be the end of a specification at q.
abbrev Loose : Place → List Token → Place → Type 0
Loose p [] q = UpTo p q
Loose p (t ∷ ts) q = UpTo p t.place × (((r : Place) × IsBefore t.place r × Loose r ts q) ⊎ ((ts ≡ []) × (t.kind ≡ kind.SpecClose) × (t.place ≡ q)))

spread_up : (p q r : Place) (ts : List Token) → UpTo p q → Spread q ts r → Spread p ts r
spread_up p q r [] u s = up_trans p q r u s
spread_up p q r (t ∷ ts) u s = (up_trans p q t.place u s.0, s.1, s.2, s.3)

loose_up : (p q r : Place) (ts : List Token) → UpTo p q → Loose q ts r → Loose p ts r
loose_up p q r [] u s = up_trans p q r u s
loose_up p q r (t ∷ ts) u s = (up_trans p q t.place u s.0, s.1)

spread_append : (p q r : Place) (ts us : List Token) → Spread p ts q → Spread q us r → Spread p (ts ++ us) r
spread_append p q r [] us a b = spread_up p q r us a b
spread_append p q r (t ∷ ts) us a b = (a.0, a.1, a.2, spread_append a.1 q r ts us a.3 b)

loose_append : (p q r : Place) (ts us : List Token) → Spread p ts q → Loose q us r → Loose p (ts ++ us) r
loose_append p q r [] us a b = loose_up p q r us a b
loose_append p q r (t ∷ ts) us a b = (a.0, inl (a.1, a.2, loose_append a.1 q r ts us a.3 b))

-- ---- one token, and what is enclosed
abbrev OutcomeSpread : Place → Place → Outcome → Type 0
OutcomeSpread p q (cut ts) = Spread p ts q
OutcomeSpread p q (fault e) = Unit {0}

moves_count : {ts us : List Token} {n k : ℕ} → moves ts n ≡ moves us k → n ≡ k
moves_count e = cc

moved_as : (p : Place) (cs : List ℕ) (ts us : List Token) (n k : ℕ) → moves ts n ≡ moves us k → Spread p us (after p (take k cs)) → Spread p ts (after p (take n cs))
moved_as p cs ts us n k e s = subst (λ xs. Spread p xs (after p (take n cs))) (sym (moves_tokens e)) (subst (λ j. Spread p us (after p (take j cs))) (sym (moves_count e)) s)

one_spread : (p q : Place) (k : TokenKind) → IsBefore p q → Spread p (token k p ∷ []) q
one_spread p q k b = (inl refl, q, b, inl refl)

some_of : (m : Mode) (cs : List ℕ) → IsLexeme m cs → 0 < length cs
some_of m [] x = absurd (nothing m x)
some_of m (c ∷ cs) x = omega arith

read_spread : (p : Place) (k n : ℕ) (cs : List ℕ) (ts : List Token) (o : Option TokenKind) → IsBefore p (after p (take k cs)) → moves ts n ≡ lexeme_step p k o → Spread p ts (after p (take n cs))
read_spread p k n cs ts None b e = absurd (moves_stops e)
read_spread p k n cs ts (Some x) b e = moved_as p cs ts (token x p ∷ []) n k e (one_spread p (after p (take k cs)) x b)

lexeme_spread : (m : Mode) (p : Place) (cs : List ℕ) (ts : List Token) (n : ℕ) → LexemeStep m p cs (moves ts n) → Spread p ts (after p (take n cs))
lexeme_spread m p cs ts n (longest k x e) = read_spread p k n cs ts (kind_of m (take k cs)) (before_after p (take k cs) (some_of m (take k cs) x.lexeme)) e
lexeme_spread m p cs ts n (none f e) = absurd (moves_stops e)

space_spread : (p : Place) (cs : List ℕ) (ts : List Token) (n k : ℕ) → moves ts n ≡ moves [] k → Spread p ts (after p (take n cs))
space_spread p cs ts n k e = moved_as p cs ts [] n k e (up_after p (take k cs))

between_spread : (opening closing : TokenKind) (p r q e : Place) (us : List Token) → IsBefore p r → Spread r us q → IsBefore q e → Spread p (token opening p ∷ (us ++ token closing q ∷ [])) e
between_spread opening closing p r q e us b inside c = (inl refl, r, b, spread_append r q e us (token closing q ∷ []) inside (one_spread q e closing c))

enclosed_spread : (opening closing : TokenKind) (p r q : Place) (cs : List ℕ) (ts : List Token) (n k : ℕ) (o : Outcome) → IsBefore p r → OutcomeSpread r q o → IsBefore q (after p (take k cs)) → moves ts n ≡ enclosed opening closing p q k o → Spread p ts (after p (take n cs))
enclosed_spread opening closing p r q cs ts n k (cut us) b inside c e = moved_as p cs ts (token opening p ∷ (us ++ token closing q ∷ [])) n k e (between_spread opening closing p r q (after p (take k cs)) us b inside c)
enclosed_spread opening closing p r q cs ts n k (fault f) b inside c e = absurd (moves_stops e)

-- ---- runs in which each token is before the end of its text
with_spread : (p : Place) (cs : List ℕ) (n : ℕ) (ts : List Token) (o : Outcome) → Spread p ts (after p (take n cs)) → OutcomeSpread (after p (take n cs)) (after (after p (take n cs)) (drop n cs)) o → OutcomeSpread p (after p cs) (with_front ts o)
with_spread p cs n ts (cut us) a b = subst (λ q. Spread p (ts ++ us) q) (after_rest p n cs) (spread_append p (after p (take n cs)) (after (after p (take n cs)) (drop n cs)) ts us a b)
with_spread p cs n ts (fault e) a b = tt

module _ (S : Place → List ℕ → Step → Type 0) (steps : (p : Place) (cs : List ℕ) (ts : List Token) (n : ℕ) → S p cs (moves ts n) → Spread p ts (after p (take n cs))) where
  run_spread : {p : Place} {cs : List ℕ} {o : Outcome} → Run S p cs o → OutcomeSpread p (after p cs) o
  run_spread ended = inl refl
  run_spread (moved {p} {cs} {ts} {n} {o} s r) = with_spread p cs n ts o (steps p cs ts n s) (run_spread r)
  run_spread (stopped s) = tt

by_bool : {P Q R : Type 0} (b : Bool) → (b ≡ true → P → R) → (b ≡ false → Q → R) → MatchBool b P Q → R
by_bool true f g x = f refl x
by_bool false f g x = g refl x

by_option : {A P R : Type 0} {Q : A → Type 0} (o : Option A) → (o ≡ None → P → R) → ((n : A) → o ≡ Some n → Q n → R) → MatchOption o P Q → R
by_option None f g x = f refl x
by_option (Some n) f g x = g n refl x

-- a place after characters inside a text
inside_after : (p : Place) (i k m : ℕ) (cs : List ℕ) → i + k ≡ m → after (after p (take i cs)) (take k (drop i cs)) ≡ after p (take m cs)
inside_after p i k m cs e = sym (after-append p (take i cs) (take k (drop i cs))) ∙ ap (after p) (sym (take-add i k cs) ∙ ap (λ j. take j cs) e)

formula_spread : (p : Place) (cs : List ℕ) (ts : List Token) (n : ℕ) → FormulaStep p cs (moves ts n) → Spread p ts (after p (take n cs))
formula_spread p cs ts n x = either (is_space (first cs)) (space_spread p cs ts n 1) (lexeme_spread Formula p cs ts n) x.1

quote_inside : (p : Place) (cs : List ℕ) (ts : List Token) (n k : ℕ) → 0 < length cs → quote_at (drop 1 cs) ≡ Some k
    → (o : Outcome) × Run FormulaStep (after p (take 1 cs)) (take k (drop 1 cs)) o × (moves ts n ≡ enclosed kind.QuoteOpen kind.QuoteClose p (after p (take (k + 1) cs)) (k + 2) o) → Spread p ts (after p (take n cs))
quote_inside p cs ts n k some at (o, run, e) =
    let there = position-Some (λ c. eqb c 34) (drop 1 cs) k 0 at in
    let within : k + 2 ≤ length cs = omega (arith, there.0, length-drop 1 cs) in
    let inside = subst (λ q. OutcomeSpread (after p (take 1 cs)) q o) (inside_after p 1 k (k + 1) cs (omega arith)) (run_spread FormulaStep formula_spread run) in
    enclosed_spread kind.QuoteOpen kind.QuoteClose p (after p (take 1 cs)) (after p (take (k + 1) cs)) cs ts n (k + 2) o
    (front_before p 0 1 cs (omega arith) (omega arith)) inside (front_before p (k + 1) (k + 2) cs (omega arith) within) e

quote_spread : (p : Place) (cs : List ℕ) (ts : List Token) (n : ℕ) → 0 < length cs → QuoteStep p cs (moves ts n) → Spread p ts (after p (take n cs))
quote_spread p cs ts n some x = by_option (quote_at (drop 1 cs)) (λ _ e. absurd (moves_stops e)) (λ k at. quote_inside p cs ts n k some at) x

specification_spread : (p : Place) (cs : List ℕ) (ts : List Token) (n : ℕ) → SpecificationStep p cs (moves ts n) → Spread p ts (after p (take n cs))
specification_spread p cs ts n x =
    either (is_space (first cs)) (space_spread p cs ts n 1)
    (either (eqb (first cs) 34) (quote_spread p cs ts n x.0) (lexeme_spread Specification p cs ts n))
    x.1

-- ---- where comments end
close_within : (cs : List ℕ) (k : ℕ) → close_at cs ≡ Some k → k + 2 ≤ length cs
close_within [] k e = absurd (none_some e)
close_within (c ∷ cs) k e = here (eqb c 42 && eqb (first cs) 47) (λ j is. close_within cs j is) refl e where
  first_some : (ds : List ℕ) → first ds ≡ 47 → 0 < length ds
  first_some [] f = absurd (omega (arith, f))
  first_some (d ∷ ds) f = omega arith

  later : (o : Option ℕ) → ((j : ℕ) → close_at cs ≡ Some j → j + 2 ≤ length cs) → close_at cs ≡ o → option_map suc o ≡ Some k → k + 2 ≤ length (c ∷ cs)
  later None rest is f = absurd (none_some f)
  later (Some j) rest is f = omega (arith, some_same f, rest j is)

  here : (b : Bool) → ((j : ℕ) → close_at cs ≡ Some j → j + 2 ≤ length cs) → (eqb c 42 && eqb (first cs) 47) ≡ b → (cond b (Some 0) (option_map suc (close_at cs))) ≡ Some k → k + 2 ≤ length (c ∷ cs)
  here true rest is f = omega (arith, some_same f, first_some cs (eqb-true (first cs) 47 (and_parts (eqb c 42) (eqb (first cs) 47) is).1))
  here false rest is f = later (close_at cs) rest refl f

close_first : (cs : List ℕ) → close_at cs ≡ Some 0 → first cs ≡ 42
close_first [] e = absurd (none_some e)
close_first (c ∷ cs) e = here (eqb c 42 && eqb (first cs) 47) refl e where
  later : (o : Option ℕ) → option_map suc o ≡ Some 0 → c ≡ 42
  later None f = absurd (none_some f)
  later (Some j) f = absurd (omega (arith, some_same f))

  here : (b : Bool) → (eqb c 42 && eqb (first cs) 47) ≡ b → (cond b (Some 0) (option_map suc (close_at cs))) ≡ Some 0 → c ≡ 42
  here true is f = eqb-true c 42 (and_parts (eqb c 42) (eqb (first cs) 47) is).0
  here false is f = later (close_at cs) f

-- a text at the end of a line: nothing, or a line feed first
abbrev LineEnd : List ℕ → Type 0
LineEnd [] = Unit {0}
LineEnd (c ∷ cs) = c ≡ 10

drop_line : (i : ℕ) (cs : List ℕ) → i < length cs → get_or cs i 0 ≡ 10 → LineEnd (drop i cs)
drop_line zero [] h e = absurd (omega arith)
drop_line zero (c ∷ cs) h e = e
drop_line (suc i) [] h e = absurd (omega arith)
drop_line (suc i) (c ∷ cs) h e = drop_line i cs (omega arith) e

-- a line is no longer than its text, ends in front of a line feed or at the end, and a specification's has its three signs
record IsLineLength (cs : List ℕ) (n : ℕ) : Type 0 where
  within : n ≤ length cs
  end : LineEnd (drop n cs)
  signs : first cs ≡ 47 → get_or cs 1 0 ≡ 47 → get_or cs 2 0 ≡ 58 → 3 ≤ n

third_some : (cs : List ℕ) → get_or cs 2 0 ≡ 58 → 3 ≤ length cs
third_some [] e = absurd (omega (arith, e))
third_some (a ∷ []) e = absurd (omega (arith, e))
third_some (a ∷ b ∷ []) e = absurd (omega (arith, e))
third_some (a ∷ b ∷ c ∷ cs) e = omega arith

no_feed : (cs : List ℕ) (i : ℕ) → get_or cs i 0 ≡ 10 → first cs ≡ 47 → get_or cs 1 0 ≡ 47 → get_or cs 2 0 ≡ 58 → 3 ≤ i
no_feed cs zero e a b c = absurd (omega (arith, e, a))
no_feed cs (suc zero) e a b c = absurd (omega (arith, e, b))
no_feed cs (suc (suc zero)) e a b c = absurd (omega (arith, e, c))
no_feed cs (suc (suc (suc i))) e a b c = omega arith

line_at : (cs : List ℕ) (o : Option ℕ) → position (λ c. eqb c 10) cs ≡ o → IsLineLength cs (unwrap_or o (length cs))
line_at cs None at = record { within = omega arith; end = subst LineEnd (sym (drop_all (length cs) cs (omega arith))) tt; signs = λ a b c. third_some cs c }
line_at cs (Some i) at =
    let there = position-Some (λ c. eqb c 10) cs i 0 at in
    let feed = eqb-true (get_or cs i 0) 10 there.1 in
    record { within = omega (arith, there.0); end = drop_line i cs there.0 feed; signs = no_feed cs i feed }

line_is : (cs : List ℕ) → IsLineLength cs (line_length cs)
line_is cs = line_at cs (position (λ c. eqb c 10) cs) refl

-- ---- code
-- a specification that goes up to the end of its line, where it closes
record IsLine (p : Place) (cs : List ℕ) (ts : List Token) (n : ℕ) : Type 0 where
  inside : List Token
  all : ts ≡ inside ++ token kind.SpecClose (after p (take n cs)) ∷ []
  spread : Spread p inside (after p (take n cs))
  end : LineEnd (drop n cs)

abbrev CodeGives : Place → List ℕ → List Token → ℕ → Type 0
CodeGives p cs ts n = Spread p ts (after p (take n cs)) ⊎ IsLine p cs ts n

-- the inside of a specification, from its three signs to its end
comment_run : (p : Place) (cs : List ℕ) (m : ℕ) (o : Outcome) → 3 ≤ m → Run SpecificationStep (after p (take 3 cs)) (slice_range cs 3 m) o → OutcomeSpread (after p (take 3 cs)) (after p (take m cs)) o
comment_run p cs m o h run = subst (λ q. OutcomeSpread (after p (take 3 cs)) q o) (inside_after p 3 (m - 3) m cs (omega arith)) (run_spread SpecificationStep specification_spread run)

block_spread : (p : Place) (cs : List ℕ) (ts : List Token) (n m : ℕ) → m + 2 ≤ length cs → (get_or cs 2 0 ≡ 58 → 3 ≤ m) → CommentStep m 2 p cs (moves ts n) → Spread p ts (after p (take n cs))
block_spread p cs ts n m within colon x =
    by_bool (eqb (get_or cs 2 0) 58)
    (λ is inside. block_inside (colon (eqb-true (get_or cs 2 0) 58 is)) inside)
    (λ _ e. space_spread p cs ts n (m + 2) e)
    x where
      block_inside : 3 ≤ m → (o : Outcome) × Run SpecificationStep (after p (take 3 cs)) (slice_range cs 3 m) o × (moves ts n ≡ enclosed kind.SpecOpen kind.SpecClose p (after p (take m cs)) (m + 2) o) → Spread p ts (after p (take n cs))
      block_inside h (o, run, e) =
          enclosed_spread kind.SpecOpen kind.SpecClose p (after p (take 3 cs)) (after p (take m cs)) cs ts n (m + 2) o
          (front_before p 0 3 cs (omega arith) (omega arith)) (comment_run p cs m o h run) (front_before p m (m + 2) cs (omega arith) within) e

line_gives : (p : Place) (cs : List ℕ) (ts : List Token) (n m : ℕ) → IsLineLength cs m → (get_or cs 2 0 ≡ 58 → 3 ≤ m) → CommentStep m 0 p cs (moves ts n) → CodeGives p cs ts n
line_gives p cs ts n m line colon x =
    by_bool (eqb (get_or cs 2 0) 58)
    (λ is inside. line_inside (colon (eqb-true (get_or cs 2 0) 58 is)) inside)
    (λ _ e. inl (space_spread p cs ts n (m + 0) e))
    x where
      made : (o : Outcome) → 3 ≤ m → OutcomeSpread (after p (take 3 cs)) (after p (take m cs)) o → moves ts n ≡ enclosed kind.SpecOpen kind.SpecClose p (after p (take m cs)) (m + 0) o → CodeGives p cs ts n
      made (fault f) h inside e = absurd (moves_stops e)
      made (cut us) h inside e =
          let count : n ≡ m = omega (arith, moves_count e) in
          let opened : Spread p (token kind.SpecOpen p ∷ us) (after p (take m cs)) = (inl refl, after p (take 3 cs), front_before p 0 3 cs (omega arith) (omega (arith, line.within)), inside) in
          inr (record {
            inside = token kind.SpecOpen p ∷ us;
            all = moves_tokens e ∙ ap (λ j. token kind.SpecOpen p ∷ (us ++ token kind.SpecClose (after p (take j cs)) ∷ [])) (sym count);
            spread = subst (λ j. Spread p (token kind.SpecOpen p ∷ us) (after p (take j cs))) (sym count) opened;
            end = subst (λ j. LineEnd (drop j cs)) (sym count) line.end;
          })

      line_inside : 3 ≤ m → (o : Outcome) × Run SpecificationStep (after p (take 3 cs)) (slice_range cs 3 m) o × (moves ts n ≡ enclosed kind.SpecOpen kind.SpecClose p (after p (take m cs)) (m + 0) o) → CodeGives p cs ts n
      line_inside h (o, run, e) = made o h (comment_run p cs m o h run) e

block_gives : (p : Place) (cs : List ℕ) (ts : List Token) (n k : ℕ) → close_at (drop 2 cs) ≡ Some k → CommentStep (k + 2) 2 p cs (moves ts n) → CodeGives p cs ts n
block_gives p cs ts n k at x = inl (block_spread p cs ts n (k + 2) (omega (arith, close_within (drop 2 cs) k at, length-drop 2 cs)) (colon k at) x) where
  colon : (j : ℕ) → close_at (drop 2 cs) ≡ Some j → get_or cs 2 0 ≡ 58 → 3 ≤ j + 2
  colon zero is c = absurd (omega (arith, close_first (drop 2 cs) is, c, get_or-drop 2 cs 0 0))
  colon (suc j) is c = omega arith

slash_gives : (p : Place) (cs : List ℕ) (ts : List Token) (n : ℕ) → first cs ≡ 47 → SlashStep p cs (moves ts n) → CodeGives p cs ts n
slash_gives p cs ts n slash x =
    either (eqb (get_or cs 1 0) 42)
    (by_option (close_at (drop 2 cs)) (λ _ e. absurd (moves_stops e)) (λ k at. block_gives p cs ts n k at))
    (by_bool (eqb (get_or cs 1 0) 47) (λ is. line_gives p cs ts n (line_length cs) (line_is cs) ((line_is cs).signs slash (eqb-true (get_or cs 1 0) 47 is))) (λ _ e. absurd (moves_stops e)))
    x

code_gives : (p : Place) (cs : List ℕ) (ts : List Token) (n : ℕ) → CodeStep p cs (moves ts n) → CodeGives p cs ts n
code_gives p cs ts n x =
    either (is_space (first cs)) (λ e. inl (space_spread p cs ts n 1 e))
    (by_bool (eqb (first cs) 47) (λ is. slash_gives p cs ts n (eqb-true (first cs) 47 is)) (λ _ l. inl (lexeme_spread Code p cs ts n l)))
    x.1

-- What a run of code gives. At the end of a line the first token stands after the place, or nothing is left.
record IsLoose (p : Place) (cs : List ℕ) (us : List Token) : Type 0 where
  loose : Loose p us (after p cs)
  at_line : LineEnd cs → ((us ≡ []) × (p ≡ after p cs)) ⊎ ((r : Place) × IsBefore p r × Loose r us (after p cs))

abbrev OutcomeLoose : Place → List ℕ → Outcome → Type 0
OutcomeLoose p cs (cut us) = IsLoose p cs us
OutcomeLoose p cs (fault e) = Unit {0}

-- a specification's end, and then the rest of the source after its line
closed_loose : (q e : Place) (us : List Token) → ((us ≡ []) × (q ≡ e)) ⊎ ((r : Place) × IsBefore q r × Loose r us e) → Loose q (token kind.SpecClose q ∷ us) e
closed_loose q e us (inl (nothing_left, same)) = (inl refl, inr (nothing_left, refl, same))
closed_loose q e us (inr (r, b, l)) = (inl refl, inl (r, b, l))

step_loose : (p : Place) (cs : List ℕ) (n : ℕ) (ts us : List Token) → CodeGives p cs ts n → IsLoose (after p (take n cs)) (drop n cs) us → Loose p (ts ++ us) (after p cs)
step_loose p cs n ts us (inl spread) rest = subst (λ q. Loose p (ts ++ us) q) (after_rest p n cs) (loose_append p (after p (take n cs)) (after (after p (take n cs)) (drop n cs)) ts us spread rest.loose)
step_loose p cs n ts us (inr line) rest =
    let q = after p (take n cs) in
    let e = after q (drop n cs) in
    let tail : Loose q (token kind.SpecClose q ∷ us) e = closed_loose q e us (rest.at_line line.end) in
    let all : Loose p (line.inside ++ token kind.SpecClose q ∷ us) e = loose_append p q e line.inside (token kind.SpecClose q ∷ us) line.spread tail in
    let joined : ts ++ us ≡ line.inside ++ token kind.SpecClose q ∷ us = ap (λ xs. xs ++ us) line.all ∙ append_assoc line.inside (token kind.SpecClose q ∷ []) us in
    subst (λ x. Loose p (ts ++ us) x) (after_rest p n cs) (subst (λ xs. Loose p xs e) (sym joined) all)

line_start : (p : Place) (cs : List ℕ) (n : ℕ) (ts us : List Token) → LineEnd cs → CodeStep p cs (moves ts n) → IsLoose (after p (take n cs)) (drop n cs) us → (r : Place) × IsBefore p r × Loose r (ts ++ us) (after p cs)
line_start p [] n ts us line s rest = absurd (omega (arith, s.0))
line_start p (c ∷ cs) n ts us line s rest =
    let space : is_space c ≡ true = ap is_space line in
    let e : moves ts n ≡ moves [] 1 = by_bool (is_space c) (λ _ x. x) (λ no _. absurd (both_ways (is_space c) no space)) s.1 in
    let one : 1 ≡ n = sym (moves_count e) in
    let q = after p (take n (c ∷ cs)) in
    let before : IsBefore p q = subst (λ j. IsBefore p (after p (take j (c ∷ cs)))) one (before_after p (c ∷ []) (omega arith)) in
    let all : Loose q us (after p (c ∷ cs)) = subst (λ x. Loose q us x) (after_rest p n (c ∷ cs)) rest.loose in
    (q, before, subst (λ xs. Loose q (xs ++ us) (after p (c ∷ cs))) (sym (moves_tokens e)) all)

with_loose : (p : Place) (cs : List ℕ) (n : ℕ) (ts : List Token) (o : Outcome) → CodeStep p cs (moves ts n) → OutcomeLoose (after p (take n cs)) (drop n cs) o → OutcomeLoose p cs (with_front ts o)
with_loose p cs n ts (cut us) s rest = record { loose = step_loose p cs n ts us (code_gives p cs ts n s) rest; at_line = λ line. inr (line_start p cs n ts us line s rest) }
with_loose p cs n ts (fault e) s rest = tt

run_loose : {p : Place} {cs : List ℕ} {o : Outcome} → Run CodeStep p cs o → OutcomeLoose p cs o
run_loose ended = record { loose = inl refl; at_line = λ _. inl (refl, refl) }
run_loose (moved {p} {cs} {ts} {n} {o} s r) = with_loose p cs n ts o s (run_loose r)
run_loose (stopped s) = tt

-- ---- sources
-- the one token after the last
only_end : (e : Place) (j : ℕ) (u : Token) → slice_get (token kind.End e ∷ []) j ≡ Some u → token kind.End e ≡ u
only_end e zero u there = some_same there
only_end e (suc j) u there = absurd (none_some there)

up_to_end : {p e : Place} {u : Token} → token kind.End e ≡ u → p ≡ e → UpTo p u.place
up_to_end end same = inl (same ∙ ap (λ (y : Token). y.place) end)

all_from : (r e : Place) (ts : List Token) (j : ℕ) (u : Token) → Loose r ts e → slice_get (ts ++ token kind.End e ∷ []) j ≡ Some u → UpTo r u.place
all_from r e [] zero u l there = subst (λ (x : Token). UpTo r x.place) (some_same there) l
all_from r e [] (suc j) u l there = absurd (none_some there)
all_from r e (t ∷ ts) zero u l there = subst (λ (x : Token). UpTo r x.place) (some_same there) l.0
all_from r e (t ∷ ts) (suc j) u l there = next (λ q rest. all_from q e ts j u rest there) l.1 where
  next : ((q : Place) → Loose q ts e → UpTo q u.place) → ((q : Place) × IsBefore t.place q × Loose q ts e) ⊎ ((ts ≡ []) × (t.kind ≡ kind.SpecClose) × (t.place ≡ e)) → UpTo r u.place
  next later (inl (q, b, rest)) = up_trans r t.place u.place l.0 (inr (then_up t.place q u.place b (later q rest)))
  next later (inr (nothing_left, closes, same)) = up_trans r t.place u.place l.0 (up_to_end (only_end e j u (ap (λ (xs : List Token). slice_get (xs ++ token kind.End e ∷ []) j) (sym nothing_left) ∙ there)) same)

rises_from : (p e : Place) (ts : List Token) → Loose p ts e → Rises (ts ++ token kind.End e ∷ [])
rises_from p e [] l i zero t u h ti uj = absurd (omega arith)
rises_from p e [] l i (suc j) t u h ti uj = absurd (none_some uj)
rises_from p e (x ∷ xs) l i zero t u h ti uj = absurd (omega arith)
rises_from p e (x ∷ xs) l zero (suc j) t u h ti uj = subst (λ (y : Token). IsBefore y.place u.place ⊎ EndTogether y u) (some_same ti) (next l.1) where
  next : ((q : Place) × IsBefore x.place q × Loose q xs e) ⊎ ((xs ≡ []) × (x.kind ≡ kind.SpecClose) × (x.place ≡ e)) → IsBefore x.place u.place ⊎ EndTogether x u
  next (inl (q, b, rest)) = inl (then_up x.place q u.place b (all_from q e xs j u rest uj))
  next (inr (nothing_left, closes, same)) =
      let end : token kind.End e ≡ u = only_end e j u (ap (λ (ys : List Token). slice_get (ys ++ token kind.End e ∷ []) j) (sym nothing_left) ∙ uj) in
      inr (record { closes = closes; ends = ap (λ (y : Token). y.kind) (sym end); same = ap (λ (y : Token). y.place) (sym end) ∙ sym same })
rises_from p e (x ∷ xs) l (suc i) (suc j) t u h ti uj = next (λ q rest. rises_from q e xs rest i j t u (omega arith) ti uj) l.1 where
  next : ((q : Place) → Loose q xs e → IsBefore t.place u.place ⊎ EndTogether t u) → ((q : Place) × IsBefore x.place q × Loose q xs e) ⊎ ((xs ≡ []) × (x.kind ≡ kind.SpecClose) × (x.place ≡ e)) → IsBefore t.place u.place ⊎ EndTogether t u
  next later (inl (q, b, rest)) = later q rest
  next later (inr (nothing_left, closes, same)) = none_after j (omega arith) (ap (λ (ys : List Token). slice_get (ys ++ token kind.End e ∷ []) j) (sym nothing_left) ∙ uj) where
    none_after : (k : ℕ) → 0 < k → slice_get (token kind.End e ∷ []) k ≡ Some u → IsBefore t.place u.place ⊎ EndTogether t u
    none_after zero h there = absurd (omega arith)
    none_after (suc k) h there = absurd (none_some there)

pub source_rises : (bytes : List ℕ) (all : List Token) → Lexes bytes all → Rises all
source_rises bytes all x = subst Rises (sym x.all) (rises_from start (after start x.characters) x.before_end (run_loose x.run).loose)
