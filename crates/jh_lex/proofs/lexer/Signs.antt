-- Signs at the front of a text: how long the longest is, and that none begins as a word or a number does.
use Rattle.std.proofs.Common.{◌≡◌, ℕ, zero, suc, ◌<◌, ◌≤◌, Bool, true, false, cond, not, ◌&&◌, eqb, ltb, max, List, [], ◌∷◌, length, take, Option, Some, refl, ap, ◌∙◌, subst, arith, ⊎_elim, length-take-le, get_or-take}
use Rattle.std.specs.List.{list_all}
use Rattle.std.specs.Option.{is_some}
use Rattle.std.specs.Char.{is_ascii_digit, is_ascii_alphabetic}
use Rattle.std.proofs.lemmas.Bool.{false≢true, cond_both, cond-true, and_parts, and_from, eqb-true, eq-eqb, cases_lt, not-true, or_from, ltb-true}
use Rattle.unicode_ident.proofs.IdentLemmas.{is_xid_start-ascii}
use Rattle.jh_lex.specs.lexer.Characters.{starts_word, first}
use Rattle.jh_lex.specs.lexer.Lengths.{symbol_length, sign_length}
use Rattle.jh_lex.specs.lexer.Symbols.{text_of, signs, begins_with, is_text, find_text}
use Rattle.jh_lex.specs.declared.lexer.mode.Mode.{Mode}
use Rattle.jh_lex.specs.declared.lexer.mode.Mode.TheVariants.{Code, Specification, Formula}
use Rattle.jh_lex.specs.declared.lexer.symbol.Symbol.{Symbol}

begins_whole : (t cs : List ℕ) (k : ℕ) → begins_with t (take k cs) ≡ true → begins_with t cs ≡ true
begins_whole [] cs k e = refl
begins_whole (d ∷ t) cs zero e = absurd (false≢true e)
begins_whole (d ∷ t) [] (suc k) e = absurd (false≢true e)
begins_whole (d ∷ t) (c ∷ cs) (suc k) e =
    let parts = and_parts (eqb d c) (begins_with t (take k cs)) e in
    and_from (eqb d c) (begins_with t cs) parts.0 (begins_whole t cs k parts.1)

begins_front : (t cs : List ℕ) → begins_with t cs ≡ true → begins_with t (take (length t) cs) ≡ true
begins_front [] cs e = refl
begins_front (d ∷ t) [] e = absurd (false≢true e)
begins_front (d ∷ t) (c ∷ cs) e =
    let parts = and_parts (eqb d c) (begins_with t cs) e in
    and_from (eqb d c) (begins_with t (take (length t) cs)) parts.0 (begins_front t cs parts.1)

begins_within : (t cs : List ℕ) → begins_with t cs ≡ true → length t ≤ length cs
begins_within [] cs e = omega arith
begins_within (d ∷ t) [] e = absurd (false≢true e)
begins_within (d ∷ t) (c ∷ cs) e = let parts = and_parts (eqb d c) (begins_with t cs) e in omega (arith, begins_within t cs parts.1)

front_is_text : (t cs : List ℕ) → begins_with t cs ≡ true → is_text t (take (length t) cs) ≡ true
front_is_text t cs e =
    let count : length t ≡ length (take (length t) cs) = omega (arith, length-take-le (length t) cs (begins_within t cs e)) in
    and_from (begins_with t (take (length t) cs)) (eqb (length t) (length (take (length t) cs))) (begins_front t cs e) (eq-eqb (length t) (length (take (length t) cs)) count)

symbol_is_text : (x : Symbol) (cs : List ℕ) → 0 < symbol_length x cs → is_text (text_of x) (take (symbol_length x cs) cs) ≡ true
symbol_is_text x cs h =
    cond_both (begins_with (text_of x) cs) (length (text_of x)) 0 (λ n. 0 < n → is_text (text_of x) (take n cs) ≡ true)
    (λ e _. front_is_text (text_of x) cs e)
    (λ _ none. absurd (omega (arith, none)))
    h

symbol_within : (x : Symbol) (cs : List ℕ) → symbol_length x cs ≤ length cs
symbol_within x cs = cond_both (begins_with (text_of x) cs) (length (text_of x)) 0 (λ n. n ≤ length cs) (begins_within (text_of x) cs) (λ _. omega arith)

sign_found : (b : Bool) (x : Symbol) (r : Option Symbol) → is_some r ≡ true → is_some (cond b (Some x) r) ≡ true
sign_found true x r e = refl
sign_found false x r e = e

pub table_longest : (xs : List Symbol) (cs : List ℕ) (k : ℕ) → k ≤ length cs → is_some (find_text xs (take k cs)) ≡ true → k ≤ sign_length xs cs
unfolding sign_length
table_longest [] cs k h e = absurd (false≢true e)
table_longest (x ∷ xs) cs k h e =
    cond_both (is_text (text_of x) (take k cs)) (Some x) (find_text xs (take k cs)) (λ o. is_some o ≡ true → k ≤ max (symbol_length x cs) (sign_length xs cs))
    (λ t _.
    let parts = and_parts (begins_with (text_of x) (take k cs)) (eqb (length (text_of x)) (length (take k cs))) t in
    let count = eqb-true (length (text_of x)) (length (take k cs)) parts.1 in
    let is = cond-true (begins_with (text_of x) cs) (length (text_of x)) 0 (begins_whole (text_of x) cs k parts.0) in
    omega (arith, count, length-take-le k cs h, is))
    (λ _ found. omega (arith, table_longest xs cs k h found))
    e

pub table_passes : (xs : List Symbol) (cs : List ℕ) → 0 < sign_length xs cs → is_some (find_text xs (take (sign_length xs cs) cs)) ≡ true
unfolding sign_length
table_passes [] cs h = absurd (omega arith)
table_passes (x ∷ xs) cs h =
    let a = symbol_length x cs in
    let b = sign_length xs cs in
    ⊎_elim
    (λ less.
    let longer : b ≡ max a b = omega (arith, less) in
    let found = table_passes xs cs (omega (arith, less)) in
    subst (λ n. is_some (find_text (x ∷ xs) (take n cs)) ≡ true) longer (sign_found (is_text (text_of x) (take b cs)) x (find_text xs (take b cs)) found))
    (λ least.
    let longer : a ≡ max a b = omega (arith, least) in
    let text = symbol_is_text x cs (omega (arith, least, h)) in
    subst (λ n. is_some (find_text (x ∷ xs) (take n cs)) ≡ true) longer (ap is_some (cond-true (is_text (text_of x) (take a cs)) (Some x) (find_text xs (take a cs)) text)))
    (cases_lt a b)

pub table_within : (xs : List Symbol) (cs : List ℕ) → sign_length xs cs ≤ length cs
unfolding sign_length
table_within [] cs = omega arith
table_within (x ∷ xs) cs = omega (arith, symbol_within x cs, table_within xs cs)

-- an ASCII character that begins neither a word nor a number
abbrev is_plain : ℕ → Bool
is_plain c = ltb c 128 && (not (is_ascii_alphabetic c) && (not (eqb c 95) && not (is_ascii_digit c)))

plain_signs : (m : Mode) → list_all (λ x. is_plain (first (text_of x))) (signs m) ≡ true
plain_signs Code = refl
plain_signs Specification = refl
plain_signs Formula = refl

text_first : (t cs : List ℕ) → 0 < length cs → is_text t cs ≡ true → first t ≡ first cs
text_first t [] h e = absurd (omega arith)
text_first [] (c ∷ cs) h e = absurd (omega (arith, eqb-true 0 (length (c ∷ cs)) e))
text_first (d ∷ t) (c ∷ cs) h e = eqb-true d c (and_parts (eqb d c) (begins_with t cs) (and_parts (begins_with (d ∷ t) (c ∷ cs)) (eqb (length (d ∷ t)) (length (c ∷ cs))) e).0).0

table_first : (xs : List Symbol) (cs : List ℕ) → list_all (λ x. is_plain (first (text_of x))) xs ≡ true → 0 < length cs → is_some (find_text xs cs) ≡ true → is_plain (first cs) ≡ true
table_first [] cs plain h e = absurd (false≢true e)
table_first (x ∷ xs) cs plain h e =
    let parts = and_parts (is_plain (first (text_of x))) (list_all (λ y. is_plain (first (text_of y))) xs) plain in
    cond_both (is_text (text_of x) cs) (Some x) (find_text xs cs) (λ o. is_some o ≡ true → is_plain (first cs) ≡ true)
    (λ t _. subst (λ c. is_plain c ≡ true) (text_first (text_of x) cs h t) parts.0)
    (λ _ found. table_first xs cs parts.1 h found)
    e

-- where a sign is at the front, the first character begins neither a word nor a number
pub record IsPlain (c : ℕ) : Type 0 where
  pub no_word : starts_word c ≡ false
  pub no_digit : is_ascii_digit c ≡ false

plain_parts : (c : ℕ) → is_plain c ≡ true → IsPlain c
plain_parts c e =
    let outer = and_parts (ltb c 128) (not (is_ascii_alphabetic c) && (not (eqb c 95) && not (is_ascii_digit c))) e in
    let middle = and_parts (not (is_ascii_alphabetic c)) (not (eqb c 95) && not (is_ascii_digit c)) outer.1 in
    let inner = and_parts (not (eqb c 95)) (not (is_ascii_digit c)) middle.1 in
    record {
      no_word = or_from _ _ (is_xid_start-ascii c (ltb-true c 128 outer.0) ∙ not-true (is_ascii_alphabetic c) middle.0) (not-true (eqb c 95) inner.0);
      no_digit = not-true (is_ascii_digit c) inner.1;
    }

pub sign_starts_plain : (m : Mode) (cs : List ℕ) → 0 < length cs → is_some (find_text (signs m) cs) ≡ true → IsPlain (first cs)
sign_starts_plain m cs h e = plain_parts (first cs) (table_first (signs m) cs (plain_signs m) h e)

pub sign_is_plain : (m : Mode) (cs : List ℕ) → 0 < sign_length (signs m) cs → IsPlain (first cs)
sign_is_plain m cs h =
    let n = sign_length (signs m) cs in
    let count = length-take-le n cs (table_within (signs m) cs) in
    let plain = table_first (signs m) (take n cs) (plain_signs m) (omega (arith, h, count)) (table_passes (signs m) cs h) in
    plain_parts (first cs) (subst (λ c. is_plain c ≡ true) (get_or-take n cs 0 0 h) plain)
