-- Words, numbers and qualified words at the front of a text: how long the longest is.
use Rattle.std.proofs.Common.{◌≡◌, ℕ, zero, suc, ◌+◌, ◌<◌, ◌≤◌, Bool, true, false, ◌&&◌, eqb, ltb, List, [], ◌∷◌, ◌++◌, length, take, drop, get_or, sym, refl, ap, ◌∙◌, subst, arith, ⊎_elim, append_assoc, length-append, length-take-le, length-drop, take-append-drop}
use Rattle.std.specs.List.{prefix_len, list_all}
use Rattle.std.specs.Char.{is_ascii_digit}
use Rattle.std.proofs.Math.Seq.{get_or-append_seam}
use Rattle.std.proofs.lemmas.Bool.{false≢true, cond_both, cond-true, cond-false, and_parts, and_from, eqb-true, eq-eqb, lt-ltb, le-ltb, cases_lt}
use Rattle.std.proofs.lemmas.List.{take_at, drop_at, drop-drop, get_or_past}
use Rattle.std.proofs.lemmas.List.Sums.{prefix_len-le-length}
use Rattle.unicode_ident.proofs.IdentLemmas.{is_xid_continue-ascii}
use Rattle.jh_lex.specs.lexer.Characters.{starts_word, continues_word}
use Rattle.jh_lex.specs.lexer.Lengths.{word_length, right_length, qualified_length}
use Rattle.jh_lex.specs.lexer.Lexemes.{is_word, is_number, has_qualified, IsQualified}
use Rattle.jh_lex.specs.declared.lexer.mode.Mode.{Mode}

take_one_more : (n c : ℕ) (cs : List ℕ) → take (1 + n) (c ∷ cs) ≡ c ∷ take n cs
take_one_more n c cs = let same : 1 + n ≡ suc n = omega arith in ap (λ k. take k (c ∷ cs)) same

-- the longest front whose characters all pass a test
front_passes : (p : ℕ → Bool) (cs : List ℕ) → list_all p (take (prefix_len p cs) cs) ≡ true
front_passes p [] = refl
front_passes p (c ∷ cs) =
    cond_both (p c) (1 + prefix_len p cs) 0 (λ n. list_all p (take n (c ∷ cs)) ≡ true)
    (λ e. ap (list_all p) (take_one_more (prefix_len p cs) c cs) ∙ and_from (p c) (list_all p (take (prefix_len p cs) cs)) e (front_passes p cs))
    (λ _. refl)

front_longest : (p : ℕ → Bool) (cs : List ℕ) (k : ℕ) → k ≤ length cs → list_all p (take k cs) ≡ true → k ≤ prefix_len p cs
front_longest p cs zero h e = omega arith
front_longest p [] (suc k) h e = absurd (omega arith)
front_longest p (c ∷ cs) (suc k) h e =
    let parts = and_parts (p c) (list_all p (take k cs)) e in
    omega (arith, cond-true (p c) (1 + prefix_len p cs) 0 parts.0, front_longest p cs k (omega arith) parts.1)

front_exact : (p : ℕ → Bool) (a : List ℕ) (d : ℕ) (r : List ℕ) → list_all p a ≡ true → p d ≡ false → prefix_len p (a ++ d ∷ r) ≡ length a
front_exact p [] d r e stops = cond-false (p d) (1 + prefix_len p r) 0 stops
front_exact p (c ∷ a) d r e stops =
    let parts = and_parts (p c) (list_all p a) e in
    omega (arith, cond-true (p c) (1 + prefix_len p (a ++ d ∷ r)) 0 parts.0, front_exact p a d r parts.1 stops)

-- words
pub word_longest : (cs : List ℕ) (k : ℕ) → k ≤ length cs → is_word (take k cs) ≡ true → k ≤ word_length cs
unfolding word_length
word_longest cs zero h e = omega arith
word_longest [] (suc k) h e = absurd (omega arith)
word_longest (c ∷ cs) (suc k) h e =
    let parts = and_parts (starts_word c) (list_all continues_word (take k cs)) e in
    omega (arith, cond-true (starts_word c) (1 + prefix_len continues_word cs) 0 parts.0, front_longest continues_word cs k (omega arith) parts.1)

pub word_passes : (cs : List ℕ) → 0 < word_length cs → is_word (take (word_length cs) cs) ≡ true
unfolding word_length
word_passes [] h = absurd (omega arith)
word_passes (c ∷ cs) h =
    let n = prefix_len continues_word cs in
    cond_both (starts_word c) (1 + n) 0 (λ k. 0 < k → is_word (take k (c ∷ cs)) ≡ true)
    (λ e _. ap is_word (take_one_more n c cs) ∙ and_from (starts_word c) (list_all continues_word (take n cs)) e (front_passes continues_word cs))
    (λ _ none. absurd (omega (arith, none)))
    h

pub word_within : (cs : List ℕ) → word_length cs ≤ length cs
unfolding word_length
word_within [] = omega arith
word_within (c ∷ cs) = cond_both (starts_word c) (1 + prefix_len continues_word cs) 0 (λ k. k ≤ length (c ∷ cs)) (λ _. omega (arith, prefix_len-le-length continues_word cs)) (λ _. omega arith)

pub word_starts : (cs : List ℕ) → 0 < word_length cs → starts_word (get_or cs 0 0) ≡ true
unfolding word_length
word_starts [] h = absurd (omega arith)
word_starts (c ∷ cs) h = cond_both (starts_word c) (1 + prefix_len continues_word cs) 0 (λ k. 0 < k → starts_word c ≡ true) (λ e _. e) (λ _ none. absurd (omega (arith, none))) h

pub word_some : (cs : List ℕ) → is_word cs ≡ true → 0 < length cs
word_some [] e = absurd (false≢true e)
word_some (c ∷ cs) e = omega arith

-- numbers
pub number_longest : (cs : List ℕ) (k : ℕ) → k ≤ length cs → is_number (take k cs) ≡ true → k ≤ prefix_len is_ascii_digit cs
number_longest cs zero h e = omega arith
number_longest [] (suc k) h e = absurd (omega arith)
number_longest (c ∷ cs) (suc k) h e = front_longest is_ascii_digit (c ∷ cs) (suc k) h e

some_digits : (cs : List ℕ) → 0 < length cs → list_all is_ascii_digit cs ≡ true → is_number cs ≡ true
some_digits [] h e = absurd (omega arith)
some_digits (c ∷ cs) h e = e

pub number_passes : (cs : List ℕ) → 0 < prefix_len is_ascii_digit cs → is_number (take (prefix_len is_ascii_digit cs) cs) ≡ true
number_passes cs h =
    let n = prefix_len is_ascii_digit cs in
    some_digits (take n cs) (omega (arith, h, length-take-le n cs (prefix_len-le-length is_ascii_digit cs))) (front_passes is_ascii_digit cs)

-- qualified words
pub dot_stops : continues_word 46 ≡ false
dot_stops = is_xid_continue-ascii 46 (omega arith)

left_length : (a r : List ℕ) → is_word a ≡ true → word_length (a ++ 46 ∷ r) ≡ length a
unfolding word_length
left_length [] r e = absurd (false≢true e)
left_length (c ∷ a) r e =
    let parts = and_parts (starts_word c) (list_all continues_word a) e in
    omega (arith, cond-true (starts_word c) (1 + prefix_len continues_word (a ++ 46 ∷ r)) 0 parts.0, front_exact continues_word a 46 r parts.1 dot_stops)

right_exact : (m : Mode) (a r : List ℕ) → has_qualified m ≡ true → right_length m (length a) (a ++ 46 ∷ r) ≡ word_length r
right_exact m a r qualified =
    let cs = a ++ 46 ∷ r in
    let dot = eq-eqb (get_or cs (length a) 0) 46 (get_or-append_seam a 46 r 0) in
    let behind : drop (length a + 1) cs ≡ r = sym (drop-drop 1 (length a) cs) ∙ ap (drop 1) (drop_at a (46 ∷ r) (length a) refl) in
    cond-true (has_qualified m && eqb (get_or cs (length a) 0) 46) (word_length (drop (length a + 1) cs)) 0 (and_from (has_qualified m) (eqb (get_or cs (length a) 0) 46) qualified dot) ∙ ap word_length behind

-- a text with a qualified word of n characters at its front
pub record HasQualified (m : Mode) (n : ℕ) (cs : List ℕ) : Type 0 where
  pub word : 0 < word_length cs
  pub longest : n ≤ qualified_length m (word_length cs) cs

has_parts : (m : Mode) (a b rest : List ℕ) → has_qualified m ≡ true → is_word a ≡ true → is_word b ≡ true → HasQualified m (length a + 1 + length b) (a ++ 46 ∷ (b ++ rest))
has_parts m a b rest qualified left right =
    let r = b ++ rest in
    let cs = a ++ 46 ∷ r in
    let left_is = left_length a r left in
    let right_is = ap (λ n. right_length m n cs) left_is ∙ right_exact m a r qualified in
    let b_is = subst (λ x. is_word x ≡ true) (sym (take_at b rest (length b) refl)) right in
    let at_least = word_longest r (length b) (omega (arith, length-append b rest)) b_is in
    let whole = cond-true (ltb 0 (right_length m (word_length cs) cs)) (word_length cs + 1 + right_length m (word_length cs) cs) (word_length cs) (lt-ltb 0 (right_length m (word_length cs) cs) (omega (arith, right_is, at_least, word_some b right))) in
    record { word = omega (arith, left_is, word_some a left); longest = omega (arith, whole, left_is, right_is, at_least) }

pub qualified_longest : (m : Mode) (cs : List ℕ) (k : ℕ) → has_qualified m ≡ true → k ≤ length cs → IsQualified (take k cs) → HasQualified m k cs
qualified_longest m cs k qualified h q =
    let split : cs ≡ q.left ++ 46 ∷ (q.right ++ drop k cs) = sym (take-append-drop k cs) ∙ ap (λ x. x ++ drop k cs) q.parts ∙ append_assoc q.left (46 ∷ q.right) (drop k cs) in
    let count : k ≡ length q.left + 1 + length q.right = omega (arith, length-take-le k cs h, ap length q.parts, length-append q.left (46 ∷ q.right)) in
    subst (HasQualified m k) (sym split) (subst (λ n. HasQualified m n (q.left ++ 46 ∷ (q.right ++ drop k cs))) (sym count) (has_parts m q.left q.right (drop k cs) qualified q.left_word q.right_word))

take_through : (cs : List ℕ) (w r : ℕ) → w < length cs → take (w + 1 + r) cs ≡ take w cs ++ get_or cs w 0 ∷ take r (drop (w + 1) cs)
take_through [] w r h = absurd (omega arith)
take_through (c ∷ cs) zero r h = let same : 0 + 1 + r ≡ suc r = omega arith in ap (λ k. take k (c ∷ cs)) same
take_through (c ∷ cs) (suc w) r h =
    let longer : suc w + 1 + r ≡ suc (w + 1 + r) = omega arith in
    let behind : suc w + 1 ≡ suc (w + 1) = omega arith in
    ap (λ k. take k (c ∷ cs)) longer ∙ ap (λ xs. c ∷ xs) (take_through cs w r (omega arith)) ∙ ap (λ k. c ∷ (take w cs ++ get_or cs w 0 ∷ take r (drop k (c ∷ cs)))) (sym behind)

-- what a right half of a length above 0 says
pub record HasRight (m : Mode) (w n : ℕ) (cs : List ℕ) : Type 0 where
  pub qualified : has_qualified m ≡ true
  pub dot : get_or cs w 0 ≡ 46
  pub inside : w < length cs
  pub right : n ≡ word_length (drop (w + 1) cs)

dot_inside : (cs : List ℕ) (w : ℕ) → get_or cs w 0 ≡ 46 → w < length cs
dot_inside cs w e = ⊎_elim (λ h. h) (λ h. absurd (omega (arith, e, get_or_past cs w 0 h))) (cases_lt w (length cs))

pub has_right : (m : Mode) (w : ℕ) (cs : List ℕ) → 0 < right_length m w cs → HasRight m w (right_length m w cs) cs
has_right m w cs h =
    let test = has_qualified m && eqb (get_or cs w 0) 46 in
    cond_both test (word_length (drop (w + 1) cs)) 0 (λ n. 0 < n → HasRight m w n cs)
    (λ e _.
    let parts = and_parts (has_qualified m) (eqb (get_or cs w 0) 46) e in
    let dot = eqb-true (get_or cs w 0) 46 parts.1 in
    record { qualified = parts.0; dot = dot; inside = dot_inside cs w dot; right = refl })
    (λ _ none. absurd (omega (arith, none)))
    h

pub qualified_passes : (m : Mode) (cs : List ℕ) → 0 < word_length cs → 0 < right_length m (word_length cs) cs → IsQualified (take (word_length cs + 1 + right_length m (word_length cs) cs) cs)
qualified_passes m cs some h =
    let w = word_length cs in
    let r = right_length m w cs in
    let found = has_right m w cs h in
    record {
      left = take w cs;
      right = take r (drop (w + 1) cs);
      left_word = word_passes cs some;
      right_word = subst (λ n. is_word (take n (drop (w + 1) cs)) ≡ true) (sym found.right) (word_passes (drop (w + 1) cs) (omega (arith, h, found.right)));
      parts = take_through cs w r found.inside ∙ ap (λ d. take w cs ++ d ∷ take r (drop (w + 1) cs)) found.dot;
    }

pub qualified_within : (m : Mode) (cs : List ℕ) → qualified_length m (word_length cs) cs ≤ length cs
qualified_within m cs =
    let w = word_length cs in
    let r = right_length m w cs in
    ⊎_elim
    (λ h.
    let found = has_right m w cs h in
    omega (arith, cond-true (ltb 0 r) (w + 1 + r) w (lt-ltb 0 r h), found.right, found.inside, word_within (drop (w + 1) cs), length-drop (w + 1) cs))
    (λ h. omega (arith, cond-false (ltb 0 r) (w + 1 + r) w (le-ltb 0 r h), word_within cs))
    (cases_lt 0 r)
