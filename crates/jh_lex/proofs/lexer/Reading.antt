-- What the functions that read steps and texts answer.
use Rattle.std.proofs.Common.{◌≡◌, ℕ, ◌<◌, true, false, List, [], ◌∷◌, ◌++◌, length, take, drop, Option, Some, None, Result, Ok, Err, MatchBool, eqb, sym, refl, ap, ◌∙◌, subst, append_assoc, append-nil, arith}
use Rattle.jh_name.specs.declared.place.Place.{Place}
use Rattle.jh_lex.specs.lexer.Characters.{is_space, first}
use Rattle.jh_lex.specs.lexer.Lexemes.{IsLongest, kind_of}
use Rattle.jh_lex.specs.lexer.Places.{after}
use Rattle.jh_lex.specs.lexer.Reports.{UnlessMemory, ReadsStep, ReadsText}
use Rattle.jh_lex.specs.lexer.Texts.{Step, moves, stops, cut, fault, Run, ended, moved, stopped, token, LexemeStep, lexeme_step, longest, FormulaStep, QuoteStep, SpecificationStep, SlashStep, CodeStep}
use Rattle.jh_lex.specs.declared.lexer.error.LexError.{LexError}
use Rattle.jh_lex.specs.declared.lexer.error.LexError.TheVariants.{NotUtf8, BadChar, OpenComment, OpenQuote, TooWide, Memory}
use Rattle.jh_lex.specs.declared.lexer.mode.Mode.{Mode}
use Rattle.jh_lex.specs.declared.lexer.mode.Mode.TheVariants as mode
use Rattle.jh_lex.specs.declared.lexer.token.Token.{Token}
use Rattle.jh_lex.specs.declared.lexer.token.TokenKind.{TokenKind}

pub unless_weaker : {P Q : Type 0} (e : LexError) → (P → Q) → UnlessMemory e P → UnlessMemory e Q
unless_weaker Memory f x = tt
unless_weaker (NotUtf8 p) f x = f x
unless_weaker (BadChar p) f x = f x
unless_weaker (OpenComment p) f x = f x
unless_weaker (OpenQuote p) f x = f x
unless_weaker (TooWide p) f x = f x

-- a step of one kind is a step of another
pub step_weaker : (S T : Place → List ℕ → Step → Type 0) (p : Place) (cs : List ℕ) (old new : List Token) (r : Result ℕ LexError) → ((s : Step) → S p cs s → T p cs s) → ReadsStep S p cs old new r → ReadsStep T p cs old new r
step_weaker S T p cs old new (Ok n) f (ts, e, x) = (ts, e, f (moves ts n) x)
step_weaker S T p cs old new (Err e) f x = unless_weaker e (f (stops e)) x

-- a token is read
pub lexeme_read : (m : Mode) (p : Place) (cs : List ℕ) (n : ℕ) (o : Option TokenKind) (k : TokenKind) (old new : List Token) → IsLongest m n cs → o ≡ kind_of m (take n cs) → o ≡ Some k → new ≡ old ++ token k p ∷ [] → ReadsStep (LexemeStep m) p cs old new (Ok n)
lexeme_read m p cs n o k old new x is some e = (token k p ∷ [], e, longest n x (ap (lexeme_step p n) (sym some ∙ is)))

pub lexeme_too_wide : (m : Mode) (p : Place) (cs : List ℕ) (n : ℕ) (o : Option TokenKind) → IsLongest m n cs → o ≡ kind_of m (take n cs) → o ≡ None → LexemeStep m p cs (stops (TooWide p))
lexeme_too_wide m p cs n o x is wide = longest n x (ap (lexeme_step p n) (sym wide ∙ is))

pub formula_lexeme : (p : Place) (cs : List ℕ) (s : Step) → 0 < length cs → is_space (first cs) ≡ false → LexemeStep mode.Formula p cs s → FormulaStep p cs s
formula_lexeme p cs s h other x = (h, subst (λ b. MatchBool b (s ≡ moves [] 1) (LexemeStep mode.Formula p cs s)) (sym other) x)

-- Once a step is read, what reads the rest of a text reads the text.
pub reads_more : {A : Type 0} (S : Place → List ℕ → Step → Type 0) (p q : Place) (cs ds : List ℕ) (n : ℕ) (old middle new : List Token) (r : Result A LexError) → q ≡ after p (take n cs) → ds ≡ drop n cs → ReadsStep S p cs old middle (Ok n) → ReadsText S q ds middle new r → ReadsText S p cs old new r
reads_more S p q cs ds n old middle new (Ok x) place rest (ts, e, step) (us, d, run) =
    let run' = subst (λ xs. Run S (after p (take n cs)) xs (cut us)) rest (subst (λ x. Run S x ds (cut us)) place run) in
    (ts ++ us, d ∙ ap (λ xs. xs ++ us) e ∙ append_assoc old ts us, moved step run')
reads_more S p q cs ds n old middle new (Err f) place rest (ts, e, step) run =
    unless_weaker f (λ r. moved step (subst (λ xs. Run S (after p (take n cs)) xs (fault f)) rest (subst (λ x. Run S x ds (fault f)) place r))) run

pub reads_fault : (A : Type 0) (S : Place → List ℕ → Step → Type 0) (p : Place) (cs : List ℕ) (old middle new : List Token) (e : LexError) → ReadsStep S p cs old middle (Err e) → ReadsText {A = A} S p cs old new (Err e)
reads_fault A S p cs old middle new e x = unless_weaker e stopped x

is_empty : (cs : List ℕ) → length cs ≡ 0 → cs ≡ []
is_empty [] e = refl
is_empty (c ∷ cs) e = absurd (omega (arith, e))

pub reads_end : {A : Type 0} (S : Place → List ℕ → Step → Type 0) (p : Place) (cs : List ℕ) (old : List Token) (x : A) → length cs ≡ 0 → ReadsText S p cs old old (Ok x)
reads_end S p cs old x e = ([], sym (append-nil old), subst (λ ds. Run S p ds (cut [])) (sym (is_empty cs e)) ended)

pub specification_quote : (p : Place) (cs : List ℕ) (s : Step) → 0 < length cs → is_space (first cs) ≡ false → eqb (first cs) 34 ≡ true → QuoteStep p cs s → SpecificationStep p cs s
specification_quote p cs s h other quote x =
    let inner = subst (λ b. MatchBool b (QuoteStep p cs s) (LexemeStep mode.Specification p cs s)) (sym quote) x in
    (h, subst (λ b. MatchBool b (s ≡ moves [] 1) (MatchBool (eqb (first cs) 34) (QuoteStep p cs s) (LexemeStep mode.Specification p cs s))) (sym other) inner)

pub specification_lexeme : (p : Place) (cs : List ℕ) (s : Step) → 0 < length cs → is_space (first cs) ≡ false → eqb (first cs) 34 ≡ false → LexemeStep mode.Specification p cs s → SpecificationStep p cs s
specification_lexeme p cs s h other quote x =
    let inner = subst (λ b. MatchBool b (QuoteStep p cs s) (LexemeStep mode.Specification p cs s)) (sym quote) x in
    (h, subst (λ b. MatchBool b (s ≡ moves [] 1) (MatchBool (eqb (first cs) 34) (QuoteStep p cs s) (LexemeStep mode.Specification p cs s))) (sym other) inner)

pub code_slash : (p : Place) (cs : List ℕ) (s : Step) → 0 < length cs → is_space (first cs) ≡ false → eqb (first cs) 47 ≡ true → SlashStep p cs s → CodeStep p cs s
code_slash p cs s h other slash x =
    let inner = subst (λ b. MatchBool b (SlashStep p cs s) (LexemeStep mode.Code p cs s)) (sym slash) x in
    (h, subst (λ b. MatchBool b (s ≡ moves [] 1) (MatchBool (eqb (first cs) 47) (SlashStep p cs s) (LexemeStep mode.Code p cs s))) (sym other) inner)

pub code_lexeme : (p : Place) (cs : List ℕ) (s : Step) → 0 < length cs → is_space (first cs) ≡ false → eqb (first cs) 47 ≡ false → LexemeStep mode.Code p cs s → CodeStep p cs s
code_lexeme p cs s h other slash x =
    let inner = subst (λ b. MatchBool b (SlashStep p cs s) (LexemeStep mode.Code p cs s)) (sym slash) x in
    (h, subst (λ b. MatchBool b (s ≡ moves [] 1) (MatchBool (eqb (first cs) 47) (SlashStep p cs s) (LexemeStep mode.Code p cs s))) (sym other) inner)
