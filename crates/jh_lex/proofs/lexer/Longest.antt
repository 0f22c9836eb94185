-- The length that the code finds is that of the longest token at the front.
use Rattle.std.proofs.Common.{◌≡◌, ℕ, ◌<◌, ◌≤◌, min, true, false, cond, ltb, leb, List, [], ◌∷◌, length, take, sym, ap, ◌∙◌, subst, arith, ⊎_elim, length-append}
use Rattle.std.specs.List.{prefix_len}
use Rattle.std.specs.Char.{is_ascii_digit, is_ascii_alphabetic}
use Rattle.std.proofs.lemmas.Bool.{false≢true, both_ways, cond-true, cond-false, lt-ltb, le-ltb, cases_lt, or_from, and_left, and_parts, leb-true, lt-leb, ne_eqb}
use Rattle.std.proofs.lemmas.List.{take_min}
use Rattle.std.proofs.lemmas.List.Sums.{prefix_len-le-length, prefix_len_passes}
use Rattle.unicode_ident.proofs.IdentLemmas.{is_xid_start-ascii}
use Rattle.jh_lex.specs.lexer.Characters.{starts_word, first}
use Rattle.jh_lex.specs.lexer.Lengths.{word_length, right_length, qualified_length, sign_length, lexeme_length}
use Rattle.jh_lex.specs.lexer.Lexemes.{is_sign, IsLexeme, IsLongest, word, qualified, number, sign}
use Rattle.jh_lex.specs.lexer.Symbols.{signs}
use Rattle.jh_lex.specs.declared.lexer.mode.Mode.{Mode}
use Rattle.jh_lex.specs.declared.lexer.mode.Mode.TheVariants.{Code, Specification, Formula}
use Rattle.jh_lex.proofs.lexer.Fronts.{word_longest, word_passes, word_starts, number_longest, number_passes, qualified_longest, qualified_passes, qualified_within, has_right}
use Rattle.jh_lex.proofs.lexer.Signs.{table_longest, table_passes, table_within, sign_is_plain}

no_sign : (m : Mode) → is_sign m [] ≡ true → ⊥
no_sign Code e = false≢true e
no_sign Specification e = false≢true e
no_sign Formula e = false≢true e

-- no token is empty
pub nothing : (m : Mode) → IsLexeme m [] → ⊥
nothing m (word e) = false≢true e
nothing m (qualified _ q) = omega (arith, ap length q.parts, length-append q.left (46 ∷ q.right))
nothing m (number e) = false≢true e
nothing m (sign e) = no_sign m e

-- the choice between two lengths
choose : (P : ℕ → Type 0) (n x y : ℕ) → (0 < n → P x) → (n ≡ 0 → P y) → P (cond (ltb 0 n) x y)
choose P n x y f g =
    ⊎_elim
    (λ h. subst P (sym (cond-true (ltb 0 n) x y (lt-ltb 0 n h))) (f h))
    (λ h. subst P (sym (cond-false (ltb 0 n) x y (le-ltb 0 n h))) (g (omega arith)))
    (cases_lt 0 n)

-- a digit begins no word
pub digit_no_word : (c : ℕ) → is_ascii_digit c ≡ true → starts_word c ≡ false
digit_no_word c e =
    let parts = and_parts (leb 48 c) (leb c 57) e in
    let low = leb-true 48 c parts.0 in
    let high = leb-true c 57 parts.1 in
    let letter : is_ascii_alphabetic c ≡ false = or_from _ _ (and_left (leb 65 c) (leb c 90) (lt-leb 65 c (omega arith))) (and_left (leb 97 c) (leb c 122) (lt-leb 97 c (omega arith))) in
    or_from _ _ (is_xid_start-ascii c (omega arith) ∙ letter) (ne_eqb c 95 (λ same. omega arith))

digits_start : (cs : List ℕ) → 0 < prefix_len is_ascii_digit cs → is_ascii_digit (first cs) ≡ true
digits_start cs h = prefix_len_passes is_ascii_digit cs 0 0 h

-- of a word, a number and a sign at most one stands at the front
zero_from : (n : ℕ) → (0 < n → ⊥) → n ≡ 0
zero_from n f = ⊎_elim (λ h. absurd (f h)) (λ h. omega arith) (cases_lt 0 n)

no_number_at_word : (cs : List ℕ) → 0 < word_length cs → prefix_len is_ascii_digit cs ≡ 0
no_number_at_word cs h = zero_from _ (λ d. both_ways (starts_word (first cs)) (digit_no_word (first cs) (digits_start cs d)) (word_starts cs h))

no_sign_at_word : (m : Mode) (cs : List ℕ) → 0 < word_length cs → sign_length (signs m) cs ≡ 0
no_sign_at_word m cs h = zero_from _ (λ s. both_ways (starts_word (first cs)) (sign_is_plain m cs s).no_word (word_starts cs h))

no_sign_at_number : (m : Mode) (cs : List ℕ) → 0 < prefix_len is_ascii_digit cs → sign_length (signs m) cs ≡ 0
no_sign_at_number m cs h = zero_from _ (λ s. both_ways (is_ascii_digit (first cs)) (sign_is_plain m cs s).no_digit (digits_start cs h))

word_le_qualified : (m : Mode) (cs : List ℕ) → word_length cs ≤ qualified_length m (word_length cs) cs
word_le_qualified m cs = choose (λ n. word_length cs ≤ n) (right_length m (word_length cs) cs) _ _ (λ _. omega arith) (λ _. omega arith)

at_most : (m : Mode) (cs : List ℕ) (k : ℕ) → (0 < word_length cs → k ≤ qualified_length m (word_length cs) cs) → (word_length cs ≡ 0 → 0 < prefix_len is_ascii_digit cs → k ≤ prefix_len is_ascii_digit cs) → (word_length cs ≡ 0 → prefix_len is_ascii_digit cs ≡ 0 → k ≤ sign_length (signs m) cs) → k ≤ lexeme_length m cs
at_most m cs k f g h = choose (λ n. k ≤ n) (word_length cs) _ _ f (λ none. choose (λ n. k ≤ n) (prefix_len is_ascii_digit cs) _ _ (g none) (h none))

lexeme_longest : (m : Mode) (cs : List ℕ) (k : ℕ) → k ≤ length cs → IsLexeme m (take k cs) → k ≤ lexeme_length m cs
lexeme_longest m cs k h (word e) =
    let bound = word_longest cs k h e in
    at_most m cs k (λ _. omega (arith, bound, word_le_qualified m cs)) (λ none _. omega (arith, bound, none)) (λ none _. omega (arith, bound, none))
lexeme_longest m cs k h (qualified has q) =
    let bound = qualified_longest m cs k has h q in
    at_most m cs k (λ _. bound.longest) (λ none _. absurd (omega (arith, bound.word, none))) (λ none _. absurd (omega (arith, bound.word, none)))
lexeme_longest m cs k h (number e) =
    let bound = number_longest cs k h e in
    at_most m cs k (λ some. omega (arith, bound, no_number_at_word cs some)) (λ _ _. bound) (λ _ none. omega (arith, bound, none))
lexeme_longest m cs k h (sign e) =
    let bound = table_longest (signs m) cs k h e in
    at_most m cs k (λ some. omega (arith, bound, no_sign_at_word m cs some)) (λ _ some. omega (arith, bound, no_sign_at_number m cs some)) (λ _ _. bound)

lexeme_passes : (m : Mode) (cs : List ℕ) → 0 < lexeme_length m cs → IsLexeme m (take (lexeme_length m cs) cs)
lexeme_passes m cs h =
    choose (λ n. 0 < n → IsLexeme m (take n cs)) (word_length cs) _ _
    (λ some _. choose (λ n. IsLexeme m (take n cs)) (right_length m (word_length cs) cs) _ _
    (λ right. qualified (has_right m (word_length cs) cs right).qualified (qualified_passes m cs some right))
    (λ _. word (word_passes cs some)))
    (λ _. choose (λ n. 0 < n → IsLexeme m (take n cs)) (prefix_len is_ascii_digit cs) _ _ (λ some _. number (number_passes cs some)) (λ _ some. sign (table_passes (signs m) cs some)))
    h

lexeme_within : (m : Mode) (cs : List ℕ) → lexeme_length m cs ≤ length cs
lexeme_within m cs =
    choose (λ n. n ≤ length cs) (word_length cs) _ _ (λ _. qualified_within m cs)
    (λ _. choose (λ n. n ≤ length cs) (prefix_len is_ascii_digit cs) _ _ (λ _. prefix_len-le-length is_ascii_digit cs) (λ _. table_within (signs m) cs))

pub lexeme_is_longest : (m : Mode) (n : ℕ) (cs : List ℕ) → n ≡ lexeme_length m cs → 0 < n → IsLongest m n cs
lexeme_is_longest m n cs e h =
    subst (λ k. IsLongest m k cs) (sym e)
    (record { within = lexeme_within m cs; lexeme = lexeme_passes m cs (omega (arith, e, h)); longest = lexeme_longest m cs })

pub no_lexeme : (m : Mode) (n : ℕ) (cs : List ℕ) → n ≡ lexeme_length m cs → n ≡ 0 → (k : ℕ) → IsLexeme m (take k cs) → ⊥
no_lexeme m n cs e none k lexeme =
    let short = subst (IsLexeme m) (sym (take_min k cs)) lexeme in
    let empty : min k (length cs) ≡ 0 = omega (arith, e, none, lexeme_longest m cs (min k (length cs)) (omega arith) short) in
    nothing m (subst (λ i. IsLexeme m (take i cs)) empty short)
