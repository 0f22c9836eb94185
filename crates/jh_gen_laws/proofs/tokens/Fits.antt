-- When a piece is the longest token at the front of a text, and which token it is.
use Rattle.std.proofs.Common.{◌≡◌, ℕ, zero, suc, ◌+◌, ◌^◌, ◌<◌, ◌≤◌, Bool, true, false, cond, not, ◌&&◌, ◌||◌, ◌==◌, nat_lt, leb, ltb, ⊎_elim, List, [], ◌∷◌, ◌++◌, length, drop, get_or, Option, Some, None, refl, ap, sym, subst, ◌∙◌, arith, lt-ltb, append_assoc, length-append, pos, unwrap_or, option_map}
use Rattle.std.specs.List.{list_all, list_any, prefix_len}
use Rattle.std.specs.Option.{is_some, option_map_or}
use Rattle.std.specs.Char.{is_ascii_digit, is_ascii_alphabetic, is_ascii_alphanumeric}
use Rattle.std.specs.Int.{is_in_range}
use Rattle.std.specs.Str.{IsAscii}
use Rattle.std.proofs.lemmas.Bool.{false≢true, and_from, and_parts, or_left, or_right, or_from, or_cases, ne_eqb, eqb-true, le-leb, leb-true, ltb-true, cond-true, cond-false, cond_both, not-true}
use Rattle.std.proofs.lemmas.Str.{encodes-IsAscii}
use Rattle.std.proofs.lemmas.Fmt.{decimal_digit}
use Rattle.unicode_ident.proofs.IdentLemmas.{is_xid_start-ascii, is_xid_continue-ascii}
use Rattle.jh_lex.specs.lexer.Characters.{starts_word, continues_word, is_space, first}
use Rattle.jh_lex.specs.lexer.Lengths.{word_length, right_length, qualified_length, sign_length, lexeme_length}
use Rattle.jh_lex.specs.lexer.Lexemes as lexemes
use Rattle.jh_lex.specs.lexer.Lexemes.{has_qualified, kind_of, number_kind, value}
use Rattle.jh_lex.specs.lexer.Symbols.{signs, reserved, find_text}
use Rattle.jh_lex.specs.declared.lexer.mode.Mode.{Mode}
use Rattle.jh_lex.specs.declared.lexer.symbol.Symbol.{Symbol}
use Rattle.jh_lex.specs.declared.lexer.token.TokenKind.{TokenKind}
use Rattle.jh_lex.specs.declared.lexer.token.TokenKind.TheVariants as kind
use Rattle.jh_lex.proofs.lexer.Longest.{digit_no_word}
use Rattle.jh_lex.proofs.lexer.Signs.{sign_starts_plain}
use Rattle.jh_gen_laws.specs.tokens.Pieces.{Piece, space, word, pair, digit, sign, text_of, kinds_of, word_kind}

-- ---- tests

-- a letter, and then letters and digits
abbrev pub is_plain_word : List ℕ → Bool
is_plain_word [] = false
is_plain_word (c ∷ cs) = is_ascii_alphabetic c && list_all is_ascii_alphanumeric cs

-- the text begins with an ASCII character that continues no word
abbrev pub is_ended : List ℕ → Bool
is_ended [] = true
is_ended (d ∷ ds) = nat_lt d 128 && not (is_ascii_alphanumeric d || (d == 95))

-- or that begins none
abbrev pub begins_no_word : List ℕ → Bool
begins_no_word [] = true
begins_no_word (d ∷ ds) = nat_lt d 128 && not (is_ascii_alphabetic d || (d == 95))

-- no dot with a word behind it
abbrev pub has_no_half : List ℕ → Bool
has_no_half [] = true
has_no_half (d ∷ ds) = not (d == 46) || begins_no_word ds

abbrev pub begins_no_digit : List ℕ → Bool
begins_no_digit [] = true
begins_no_digit (d ∷ ds) = not (is_ascii_digit d)

-- a text is no white space, and begins neither a specification nor a formula
abbrev pub is_apart : List ℕ → Bool
is_apart t = not (is_space (first t)) && (not (first t == 47) && not (first t == 34))

-- the piece is the longest token in front of the rest
abbrev pub fits : Mode → Piece → List ℕ → Bool
fits m (space c) rest = is_space c
fits m (word t) rest = is_plain_word t && (is_apart t && (is_ended rest && (not (has_qualified m) || has_no_half rest)))
fits m (pair a b) rest = has_qualified m && (is_plain_word a && (is_plain_word b && (is_apart a && is_ended rest)))
fits m (digit k) rest = nat_lt k 10 && begins_no_digit rest
fits m (sign t) rest = is_some (find_text (signs m) t) && (nat_lt 0 (length t) && (is_apart t && (sign_length (signs m) (t ++ rest) == length t)))

-- ---- characters

letter_range : (c : ℕ) → is_ascii_alphabetic c ≡ true → (65 ≤ c) × (c ≤ 122)
letter_range c e =
    ⊎_elim
    (λ low. let r = and_parts (leb 65 c) (leb c 90) low in (leb-true 65 c r.0, omega (arith, leb-true c 90 r.1)))
    (λ high. let r = and_parts (leb 97 c) (leb c 122) high in (omega (arith, leb-true 97 c r.0), leb-true c 122 r.1))
    (or_cases _ _ e)

alphanumeric_range : (c : ℕ) → is_ascii_alphanumeric c ≡ true → (48 ≤ c) × (c ≤ 122)
alphanumeric_range c e =
    ⊎_elim
    (λ lower. ⊎_elim
    (λ number. let r = and_parts (leb 48 c) (leb c 57) number in (leb-true 48 c r.0, omega (arith, leb-true c 57 r.1)))
    (λ low. let r = and_parts (leb 65 c) (leb c 90) low in (omega (arith, leb-true 65 c r.0), omega (arith, leb-true c 90 r.1)))
    (or_cases _ _ lower))
    (λ high. let r = and_parts (leb 97 c) (leb c 122) high in (omega (arith, leb-true 97 c r.0), leb-true c 122 r.1))
    (or_cases _ _ e)

letter_alphanumeric : (c : ℕ) → is_ascii_alphabetic c ≡ true → is_ascii_alphanumeric c ≡ true
letter_alphanumeric c e =
    let digit = is_ascii_digit c in
    let upper = is_in_range 65 90 c in
    let lower = is_in_range 97 122 c in
    ⊎_elim (λ low. or_left (digit || upper) lower (or_right digit upper low)) (λ high. or_right (digit || upper) lower high) (or_cases upper lower e)

letter_starts : (c : ℕ) → is_ascii_alphabetic c ≡ true → starts_word c ≡ true
letter_starts c e = or_left _ _ (is_xid_start-ascii c (omega (arith, letter_range c e)) ∙ e)

alphanumeric_continues : (c : ℕ) → is_ascii_alphanumeric c ≡ true → continues_word c ≡ true
alphanumeric_continues c e = is_xid_continue-ascii c (omega (arith, alphanumeric_range c e)) ∙ or_left _ _ e

all_continue : (cs : List ℕ) → list_all is_ascii_alphanumeric cs ≡ true → list_all continues_word cs ≡ true
all_continue [] e = refl
all_continue (c ∷ cs) e = let r = and_parts _ _ e in and_from _ _ (alphanumeric_continues c r.0) (all_continue cs r.1)

plain_alphanumeric : (t : List ℕ) → is_plain_word t ≡ true → list_all is_ascii_alphanumeric t ≡ true
plain_alphanumeric [] e = refl
plain_alphanumeric (c ∷ cs) e = let r = and_parts _ _ e in and_from _ _ (letter_alphanumeric c r.0) r.1

all_ascii : (t : List ℕ) → list_all is_ascii_alphanumeric t ≡ true → IsAscii t
all_ascii [] e i = omega arith
all_ascii (c ∷ cs) e zero = omega (arith, alphanumeric_range c (and_parts _ _ e).0)
all_ascii (c ∷ cs) e (suc i) = all_ascii cs (and_parts _ _ e).1 i

no_dot : (t : List ℕ) → list_all is_ascii_alphanumeric t ≡ true → list_any (λ c. c == 46) t ≡ false
no_dot [] e = refl
no_dot (c ∷ cs) e = let r = and_parts (is_ascii_alphanumeric c) (list_all is_ascii_alphanumeric cs) e in or_from _ _ (ne_eqb c 46 (λ same. omega (arith, same, alphanumeric_range c r.0))) (no_dot cs r.1)

-- ---- lengths

front_exact : (p : ℕ → Bool) (a rest : List ℕ) → list_all p a ≡ true → prefix_len p rest ≡ 0 → prefix_len p (a ++ rest) ≡ length a
front_exact p [] rest e stops = stops
front_exact p (c ∷ a) rest e stops =
    let r = and_parts (p c) (list_all p a) e in
    omega (arith, cond-true (p c) (1 + prefix_len p (a ++ rest)) 0 r.0, front_exact p a rest r.1 stops)

ended_stops : (rest : List ℕ) → is_ended rest ≡ true → prefix_len continues_word rest ≡ 0
ended_stops [] e = refl
ended_stops (d ∷ ds) e =
    let r = and_parts _ _ e in
    cond-false (continues_word d) _ _ (is_xid_continue-ascii d (ltb-true d 128 r.0) ∙ not-true _ r.1)

no_word_length : (rest : List ℕ) → begins_no_word rest ≡ true → word_length rest ≡ 0
unfolding word_length
no_word_length [] e = refl
no_word_length (d ∷ ds) e =
    let r = and_parts _ _ e in
    cond-false (starts_word d) _ _ (ap (λ b. b || (d == 95)) (is_xid_start-ascii d (ltb-true d 128 r.0)) ∙ not-true _ r.1)

plain_length : (t rest : List ℕ) → is_plain_word t ≡ true → is_ended rest ≡ true → word_length (t ++ rest) ≡ length t
unfolding word_length
plain_length [] rest e h = absurd (false≢true e)
plain_length (c ∷ cs) rest e h =
    let r = and_parts _ _ e in
    cond-true (starts_word c) _ _ (letter_starts c r.0) ∙ omega (arith, front_exact continues_word cs rest (all_continue cs r.1) (ended_stops rest h))

plain_some : (t : List ℕ) → is_plain_word t ≡ true → 0 < length t
plain_some [] e = absurd (false≢true e)
plain_some (c ∷ cs) e = omega arith

at_seam : (t rest : List ℕ) → get_or (t ++ rest) (length t) 0 ≡ get_or rest 0 0
at_seam [] rest = refl
at_seam (c ∷ t) rest = at_seam t rest

behind_seam : (t : List ℕ) (d : ℕ) (rest : List ℕ) → drop (length t + 1) (t ++ d ∷ rest) ≡ rest
behind_seam [] d rest = refl
behind_seam (c ∷ t) d rest = ap (λ n. drop n (c ∷ (t ++ d ∷ rest))) {x = length (c ∷ t) + 1} {y = suc (length t + 1)} (omega arith) ∙ behind_seam t d rest

no_half : (q : Bool) (t rest : List ℕ) → (not q || has_no_half rest) ≡ true → cond (q && (get_or (t ++ rest) (length t) 0 == 46)) (word_length (drop (length t + 1) (t ++ rest))) 0 ≡ 0
no_half false t rest e = refl
no_half true t [] e = ap (λ c. cond (c == 46) (word_length (drop (length t + 1) (t ++ []))) 0) (at_seam t [])
no_half true t (d ∷ ds) e =
    ap (λ c. cond (c == 46) (word_length (drop (length t + 1) (t ++ d ∷ ds))) 0) (at_seam t (d ∷ ds))
    ∙ ap (λ xs. cond (d == 46) (word_length xs) 0) (behind_seam t d ds)
    ∙ cond_both (d == 46) (word_length ds) 0 (λ n. n ≡ 0)
    (λ dot. no_word_length ds (subst (λ b. (not b || begins_no_word ds) ≡ true) dot e))
    (λ _. refl)

-- a word of this length is the token, where no other half follows
word_lexeme : (m : Mode) (cs : List ℕ) (n r k : ℕ) → word_length cs ≡ n → 0 < n → right_length m n cs ≡ r → cond (ltb 0 r) (n + 1 + r) n ≡ k → lexeme_length m cs ≡ k
word_lexeme m cs n r k is some right whole =
    ap (λ j. cond (ltb 0 j) (qualified_length m j cs) (cond (ltb 0 (prefix_len is_ascii_digit cs)) (prefix_len is_ascii_digit cs) (sign_length (signs m) cs))) is
    ∙ cond-true (ltb 0 n) _ _ (lt-ltb 0 n some)
    ∙ ap (λ j. cond (ltb 0 j) (n + 1 + j) n) right
    ∙ whole

-- no word is the token
other_lexeme : (m : Mode) (cs : List ℕ) (k : ℕ) → starts_word (first cs) ≡ false → cond (ltb 0 (prefix_len is_ascii_digit cs)) (prefix_len is_ascii_digit cs) (sign_length (signs m) cs) ≡ k → lexeme_length m cs ≡ k
unfolding word_length
other_lexeme m [] k e h = h
other_lexeme m (c ∷ cs) k e h =
    ap (λ j. cond (ltb 0 j) (qualified_length m j (c ∷ cs)) (cond (ltb 0 (prefix_len is_ascii_digit (c ∷ cs))) (prefix_len is_ascii_digit (c ∷ cs)) (sign_length (signs m) (c ∷ cs)))) (cond-false (starts_word c) (1 + prefix_len continues_word cs) 0 e) ∙ h

first-append : (t rest : List ℕ) → 0 < length t → first (t ++ rest) ≡ first t
first-append [] rest h = absurd (omega arith)
first-append (c ∷ t) rest h = refl

-- ---- what a piece is as a token
pub record IsToken (m : Mode) (x : Piece) (rest : List ℕ) : Type 0 where
  pub token : TokenKind
  pub only : kinds_of m x ≡ token ∷ []
  pub some : 0 < length (text_of x)
  pub whole : lexeme_length m (text_of x ++ rest) ≡ length (text_of x)
  pub known : kind_of m (text_of x) ≡ Some token
  pub apart : is_apart (text_of x) ≡ true

word_known : (m : Mode) (t : List ℕ) → is_plain_word t ≡ true → kind_of m t ≡ Some (word_kind m t)
word_known m [] e = absurd (false≢true e)
word_known m (c ∷ cs) e =
    let all = plain_alphanumeric (c ∷ cs) e in
    let t = c ∷ cs in
    cond-true (starts_word c) _ _ (letter_starts c (and_parts _ _ e).0)
    ∙ ap (λ b. Some (cond b (kind.Qualified (lexemes.name_of t)) (lexemes.word_kind m t))) (no_dot t all)
    ∙ ap (λ x. Some (unwrap_or (option_map kind.Symbol (find_text (reserved m) t)) (kind.Word (record { text = x; turn = 0 })))) (encodes-IsAscii t (all_ascii t all))

pub word_token : (m : Mode) (t rest : List ℕ) → fits m (word t) rest ≡ true → IsToken m (word t) rest
word_token m t rest e =
    let r = and_parts _ _ e in
    let s = and_parts _ _ r.1 in
    let u = and_parts _ _ s.1 in
    record {
      token = word_kind m t;
      only = refl;
      some = plain_some t r.0;
      whole = word_lexeme m (t ++ rest) (length t) 0 (length t) (plain_length t rest r.0 u.0) (plain_some t r.0) (no_half (has_qualified m) t rest u.1) refl;
      known = word_known m t r.0;
      apart = s.0;
    }

dotted : (a b : List ℕ) → list_any (λ c. c == 46) (a ++ 46 ∷ b) ≡ true
dotted [] b = refl
dotted (c ∷ a) b = or_right _ _ (dotted a b)

ascii-append : (a b : List ℕ) → IsAscii a → IsAscii b → IsAscii (a ++ 46 ∷ b)
ascii-append [] b x y zero = omega arith
ascii-append [] b x y (suc i) = y i
ascii-append (c ∷ a) b x y zero = x 0
ascii-append (c ∷ a) b x y (suc i) = ascii-append a b (λ j. x (suc j)) y i

pair_known : (m : Mode) (a b : List ℕ) → is_plain_word a ≡ true → is_plain_word b ≡ true → kind_of m (a ++ 46 ∷ b) ≡ Some (kind.Qualified (record { text = a ++ 46 ∷ b; turn = 0 }))
pair_known m [] b e h = absurd (false≢true e)
pair_known m (c ∷ cs) b e h =
    let t = (c ∷ cs) ++ 46 ∷ b in
    cond-true (starts_word c) _ _ (letter_starts c (and_parts _ _ e).0)
    ∙ ap (λ x. Some (cond x (kind.Qualified (lexemes.name_of t)) (lexemes.word_kind m t))) (dotted (c ∷ cs) b)
    ∙ ap (λ x. Some (kind.Qualified (record { text = x; turn = 0 }))) (encodes-IsAscii t (ascii-append (c ∷ cs) b (all_ascii (c ∷ cs) (plain_alphanumeric (c ∷ cs) e)) (all_ascii b (plain_alphanumeric b h))))

pair_right : (m : Mode) (a b rest : List ℕ) → has_qualified m ≡ true → is_plain_word b ≡ true → is_ended rest ≡ true → right_length m (length a) ((a ++ 46 ∷ b) ++ rest) ≡ length b
pair_right m a b rest q h e =
    ap (λ xs. right_length m (length a) xs) (append_assoc a (46 ∷ b) rest)
    ∙ ap (λ c. cond (has_qualified m && (c == 46)) (word_length (drop (length a + 1) (a ++ 46 ∷ (b ++ rest)))) 0) (at_seam a (46 ∷ (b ++ rest)))
    ∙ ap (λ c. cond (c && true) (word_length (drop (length a + 1) (a ++ 46 ∷ (b ++ rest)))) 0) q
    ∙ ap word_length (behind_seam a 46 (b ++ rest))
    ∙ plain_length b rest h e

pub pair_token : (m : Mode) (a b rest : List ℕ) → fits m (pair a b) rest ≡ true → IsToken m (pair a b) rest
pair_token m a b rest e =
    let r = and_parts _ _ e in
    let s = and_parts _ _ r.1 in
    let u = and_parts _ _ s.1 in
    let v = and_parts _ _ u.1 in
    let left : word_length ((a ++ 46 ∷ b) ++ rest) ≡ length a = ap word_length (append_assoc a (46 ∷ b) rest) ∙ plain_length a (46 ∷ (b ++ rest)) s.0 refl in
    let longer : cond (ltb 0 (length b)) (length a + 1 + length b) (length a) ≡ length (a ++ 46 ∷ b) = cond-true (ltb 0 (length b)) _ _ (lt-ltb 0 (length b) (plain_some b u.0)) ∙ omega (arith, length-append a (46 ∷ b)) in
    record {
      token = kind.Qualified (record { text = a ++ 46 ∷ b; turn = 0 });
      only = refl;
      some = omega (arith, length-append a (46 ∷ b));
      whole = word_lexeme m ((a ++ 46 ∷ b) ++ rest) (length a) (length b) _ left (plain_some a s.0) (pair_right m a b rest r.0 u.0 v.1) longer;
      known = pair_known m a b s.0 u.0;
      apart = subst (λ c. (not (is_space c) && (not (c == 47) && not (c == 34))) ≡ true) (sym (first-append a (46 ∷ b) (plain_some a s.0))) v.0;
    }

digit_is : (k : ℕ) → k < 10 → is_ascii_digit (48 + k) ≡ true
digit_is k h = and_from _ _ (le-leb 48 (48 + k) (omega arith)) (le-leb (48 + k) 57 (omega arith))

digit_known : (m : Mode) (k : ℕ) → k < 10 → kind_of m ((48 + k) ∷ []) ≡ Some (kind.Number (pos k))
digit_known m k h =
    let same : value ((48 + k) ∷ []) ≡ k = omega arith in
    cond-false (starts_word (48 + k)) _ _ (digit_no_word (48 + k) (digit_is k h))
    ∙ cond-true (is_ascii_digit (48 + k)) _ _ (digit_is k h)
    ∙ ap (λ n. option_map (λ z. kind.Number (pos z)) (cond (ltb n (2 ^ 63)) (Some n) None)) same
    ∙ ap (option_map (λ z. kind.Number (pos z))) (cond-true (ltb k (2 ^ 63)) _ _ (lt-ltb k (2 ^ 63) (omega arith)))

digit_stops : (rest : List ℕ) → begins_no_digit rest ≡ true → prefix_len is_ascii_digit rest ≡ 0
digit_stops [] e = refl
digit_stops (d ∷ ds) e = cond-false (is_ascii_digit d) _ _ (not-true _ e)

digit_whole : (m : Mode) (k : ℕ) (rest : List ℕ) → k < 10 → begins_no_digit rest ≡ true → lexeme_length m ((48 + k) ∷ rest) ≡ 1
digit_whole m k rest h e =
    let one : prefix_len is_ascii_digit ((48 + k) ∷ rest) ≡ 1 = cond-true (is_ascii_digit (48 + k)) _ _ (digit_is k h) ∙ ap (λ n. 1 + n) (digit_stops rest e) in
    other_lexeme m ((48 + k) ∷ rest) 1 (digit_no_word (48 + k) (digit_is k h))
    (ap (λ n. cond (ltb 0 n) n (sign_length (signs m) ((48 + k) ∷ rest))) one)

digit_apart : (k : ℕ) → k < 10 → is_apart ((48 + k) ∷ []) ≡ true
digit_apart k h =
    let other : (c : ℕ) → c < 48 → ((48 + k) == c) ≡ false = λ c l. ne_eqb (48 + k) c (λ e. omega (arith, e, l)) in
    λ i. not (other 32 (omega arith) i || other 9 (omega arith) i || other 10 (omega arith) i || other 13 (omega arith) i || other 12 (omega arith) i) && (not (other 47 (omega arith) i) && not (other 34 (omega arith) i))

pub digit_token : (m : Mode) (k : ℕ) (rest : List ℕ) → fits m (digit k) rest ≡ true → IsToken m (digit k) rest
digit_token m k rest e =
    let r = and_parts (nat_lt k 10) (begins_no_digit rest) e in
    let h = ltb-true k 10 r.0 in
    let d = decimal_digit k h in
    record {
      token = kind.Number (pos k);
      only = refl;
      some = subst (λ t. 0 < length t) (sym d) (omega arith);
      whole = subst (λ t. lexeme_length m (t ++ rest) ≡ length t) (sym d) (digit_whole m k rest h r.1);
      known = subst (λ t. kind_of m t ≡ Some (kind.Number (pos k))) (sym d) (digit_known m k h);
      apart = subst (λ t. is_apart t ≡ true) (sym d) (digit_apart k h);
    }

no_number : (c : ℕ) (cs : List ℕ) → is_ascii_digit c ≡ false → prefix_len is_ascii_digit (c ∷ cs) ≡ 0
no_number c cs e = cond-false (is_ascii_digit c) _ _ e

sign_found : (o : Option Symbol) → is_some o ≡ true → (s : Symbol) × (o ≡ Some s)
sign_found None e = absurd (false≢true e)
sign_found (Some s) e = (s, refl)

sign_known : (m : Mode) (t : List ℕ) (s : Symbol) → starts_word (first t) ≡ false → is_ascii_digit (first t) ≡ false → find_text (signs m) t ≡ Some s → kind_of m t ≡ Some (kind.Symbol s)
sign_known m t s letter numeral found = cond-false (starts_word (first t)) _ _ letter ∙ cond-false (is_ascii_digit (first t)) _ _ numeral ∙ ap (option_map kind.Symbol) found

sign_whole : (m : Mode) (t rest : List ℕ) (n : ℕ) → 0 < length t → starts_word (first t) ≡ false → is_ascii_digit (first t) ≡ false → sign_length (signs m) (t ++ rest) ≡ n → lexeme_length m (t ++ rest) ≡ n
sign_whole m [] rest n h letter numeral long = absurd (omega arith)
sign_whole m (c ∷ t) rest n h letter numeral long =
    other_lexeme m ((c ∷ t) ++ rest) n letter
    (ap (λ k. cond (ltb 0 k) k (sign_length (signs m) ((c ∷ t) ++ rest))) (no_number c (t ++ rest) numeral) ∙ long)

pub sign_token : (m : Mode) (t rest : List ℕ) → fits m (sign t) rest ≡ true → IsToken m (sign t) rest
sign_token m t rest e =
    let r = and_parts _ _ e in
    let s = and_parts _ _ r.1 in
    let u = and_parts _ _ s.1 in
    let found = sign_found (find_text (signs m) t) r.0 in
    let some = ltb-true 0 (length t) s.0 in
    let plain = sign_starts_plain m t some r.0 in
    record {
      token = kind.Symbol found.0;
      only = ap (λ o. option_map_or (λ x. kind.Symbol x ∷ []) o []) found.1;
      some = some;
      whole = sign_whole m t rest (length t) some plain.no_word plain.no_digit (eqb-true (sign_length (signs m) (t ++ rest)) (length t) u.1);
      known = sign_known m t found.0 plain.no_word plain.no_digit found.1;
      apart = u.0;
    }
