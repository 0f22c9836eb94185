-- The lines of a made source, and the whole of it.
use Rattle.std.proofs.Common.{◌≡◌, ℕ, zero, suc, ◌+◌, ◌%◌, ◌<◌, ◌≤◌, Bool, true, false, cond, not, ◌==◌, nat_lt, List, [], ◌∷◌, ◌++◌, map, decimal, refl, ap, sym, subst, ◌∙◌, arith, append_assoc, append-nil, lt-ltb, IsAscii, codes}
use Rattle.std.specs.List.{list_all}
use Rattle.std.specs.Str.{all_scalars}
use Rattle.std.specs.Char.{is_ascii_alphanumeric}
use Rattle.std.proofs.lemmas.Bool.{and_from, and_parts, ltb-true}
use Rattle.std.proofs.lemmas.Str.{encodes-IsAscii, chars-IsAscii, scalars-chars, IsUtf8-from_ascii}
use Rattle.std.proofs.lemmas.List.Concat.{flat_map-append}
use Rattle.std.proofs.lemmas.List.Folds.{list_all-append}
use Rattle.std.proofs.lemmas.List.{map-append}
use Rattle.std.proofs.lemmas.Fmt.{IsAscii-decimal, decimal_digit}
use Rattle.jh_lex.specs.lexer.Lengths.{sign_length}
use Rattle.jh_lex.specs.lexer.Places.{start, after}
use Rattle.jh_lex.specs.lexer.Texts.{CodeStep, token}
use Rattle.jh_lex.specs.declared.lexer.token.TokenKind.TheVariants as kind
use Rattle.jh_gen.specs.Generated.{number_of, swap_line, sum_line, cells_line, method_line, method_lines, ended, text_of, source}
use Rattle.jh_gen_laws.specs.tokens.Pieces.{items_before, items_kinds, swap_items, sum_items, cells_items, method_items, first_items, last_items, methods_kinds, source_kinds}
use Rattle.jh_gen_laws.specs.tokens.Laws.{MadeIsCut, kind_of}
use Rattle.jh_gen_laws.proofs.tokens.Digits.{decimal_alphanumeric, digit_other}
use Rattle.jh_gen_laws.proofs.tokens.Shallow.{all-shallow}
use Rattle.jh_gen_laws.proofs.tokens.Passing.{Passes, passes-nothing, passes-more, run-of, items_fit, items-passes}

-- ---- each line

zero-is : decimal 0 ≡ 48 ∷ []
zero-is = decimal_digit 0 (omega arith)

two-is : decimal 2 ≡ 50 ∷ []
two-is = decimal_digit 2 (omega arith)

swap-fits : (i : ℕ) (rest : List ℕ) → list_all is_ascii_alphanumeric (decimal i) ≡ true → items_fit (swap_items i) rest ≡ true
unfolding sign_length
swap-fits i rest e = rw e refl

sum-fits : (i k : ℕ) (rest : List ℕ) → list_all is_ascii_alphanumeric (decimal i) ≡ true → nat_lt k 10 ≡ true → list_all (λ d. not (d == 34)) (decimal k) ≡ true → list_all (λ d. not (d == 42)) (decimal k) ≡ true → items_fit (sum_items i k) rest ≡ true
unfolding sign_length
sum-fits i k rest e h a b = rw (zero-is, e, h, a, b) refl

cells-fits : (i k : ℕ) (rest : List ℕ) → list_all is_ascii_alphanumeric (decimal i) ≡ true → nat_lt k 10 ≡ true → list_all (λ d. not (d == 34)) (decimal k) ≡ true → list_all (λ d. not (d == 42)) (decimal k) ≡ true → items_fit (cells_items i k) rest ≡ true
unfolding sign_length
cells-fits i k rest e h a b = rw (two-is, e, h, a, b) refl

first-fits : (rest : List ℕ) → items_fit first_items rest ≡ true
unfolding sign_length
first-fits rest = refl

last-fits : (rest : List ℕ) → items_fit last_items rest ≡ true
unfolding sign_length
last-fits rest = refl

swap-text : (i : ℕ) (rest : List ℕ) → items_before (swap_items i) rest ≡ ended (swap_line i) ++ rest
unfolding swap_line
swap-text i rest = simp append_assoc

sum-text : (i k : ℕ) (rest : List ℕ) → items_before (sum_items i k) rest ≡ ended (sum_line i k) ++ rest
unfolding sum_line
sum-text i k rest = simp (append_assoc, zero-is)

cells-text : (i k : ℕ) (rest : List ℕ) → items_before (cells_items i k) rest ≡ ended (cells_line i k) ++ rest
unfolding cells_line
cells-text i k rest = simp (append_assoc, two-is)

-- ---- the methods

module _ (i k : ℕ) (rest : List ℕ) (small : i ≤ 200) (digit : k < 10) where
  swap-passes : Passes CodeStep (ended (swap_line i) ++ rest) rest (items_kinds (swap_items i))
  swap-passes = subst (λ cs. Passes CodeStep cs rest (items_kinds (swap_items i))) (swap-text i rest) (items-passes (swap_items i) rest (swap-fits i rest (decimal_alphanumeric i small)))

  sum-passes : Passes CodeStep (ended (sum_line i k) ++ rest) rest (items_kinds (sum_items i k))
  sum-passes = subst (λ cs. Passes CodeStep cs rest (items_kinds (sum_items i k))) (sum-text i k rest)
      (items-passes (sum_items i k) rest (sum-fits i k rest (decimal_alphanumeric i small) (lt-ltb k 10 digit) (digit_other k 34 digit (omega arith)) (digit_other k 42 digit (omega arith))))

  cells-passes : Passes CodeStep (ended (cells_line i k) ++ rest) rest (items_kinds (cells_items i k))
  cells-passes = subst (λ cs. Passes CodeStep cs rest (items_kinds (cells_items i k))) (cells-text i k rest)
      (items-passes (cells_items i k) rest (cells-fits i k rest (decimal_alphanumeric i small) (lt-ltb k 10 digit) (digit_other k 34 digit (omega arith)) (digit_other k 42 digit (omega arith))))

  by-kind : (a b : Bool) → Passes CodeStep (ended (cond a (swap_line i) (cond b (sum_line i k) (cells_line i k))) ++ rest) rest (items_kinds (cond a (swap_items i) (cond b (sum_items i k) (cells_items i k))))
  by-kind true b = swap-passes
  by-kind false true = sum-passes
  by-kind false false = cells-passes

method-passes : (seed i : ℕ) (rest : List ℕ) → i ≤ 200 → Passes CodeStep (ended (method_line seed i) ++ rest) rest (items_kinds (method_items seed i))
method-passes seed i rest small = by-kind i (number_of seed i) rest small (omega arith) ((seed + i) % 3 == 0) ((seed + i) % 3 == 1)

snoc-text : (ls : List (List ℕ)) (line rest : List ℕ) → text_of (ls ++ line ∷ []) ++ rest ≡ text_of ls ++ (ended line ++ rest)
snoc-text ls line rest = ap (λ cs. cs ++ rest) (flat_map-append ended ls (line ∷ []) ∙ ap (λ cs. text_of ls ++ cs) (append-nil (ended line))) ∙ append_assoc (text_of ls) (ended line) rest

methods-passes : (seed n : ℕ) (rest : List ℕ) → n ≤ 200 → Passes CodeStep (text_of (method_lines seed n) ++ rest) rest (methods_kinds seed n)
methods-passes seed zero rest small = passes-nothing CodeStep rest
methods-passes seed (suc n) rest small =
    subst (λ cs. Passes CodeStep cs rest (methods_kinds seed (suc n))) (sym (snoc-text (method_lines seed n) (method_line seed (suc n)) rest))
    (passes-more CodeStep _ (ended (method_line seed (suc n)) ++ rest) rest _ _ (methods-passes seed n (ended (method_line seed (suc n)) ++ rest) (omega arith)) (method-passes seed (suc n) rest small))

-- ---- the whole text

source-is : (seed methods : ℕ) → items_before first_items (text_of (method_lines seed methods) ++ items_before last_items []) ≡ source seed methods
unfolding source
source-is seed methods = ap (items_before first_items) (sym (flat_map-append ended (method_lines seed methods) (codes "}" ∷ [])))

source-passes : (seed methods : ℕ) → methods ≤ 200 → Passes CodeStep (source seed methods) [] (source_kinds seed methods)
source-passes seed methods small =
    subst (λ cs. Passes CodeStep cs [] (source_kinds seed methods)) (source-is seed methods)
    (passes-more CodeStep _ (text_of (method_lines seed methods) ++ items_before last_items []) [] _ _
    (items-passes first_items (text_of (method_lines seed methods) ++ items_before last_items []) (first-fits _))
    (passes-more CodeStep _ (items_before last_items []) [] _ _ (methods-passes seed methods (items_before last_items []) small) (items-passes last_items [] (last-fits []))))

-- ---- its characters

abbrev is_low : List ℕ → Bool
is_low cs = list_all (λ c. nat_lt c 128) cs

low-append : (a b : List ℕ) → is_low a ≡ true → is_low b ≡ true → is_low (a ++ b) ≡ true
low-append a b x y = list_all-append (λ c. nat_lt c 128) a b ∙ and_from _ _ x y

low-ascii : (cs : List ℕ) → is_low cs ≡ true → IsAscii cs
low-ascii [] e i = omega arith
low-ascii (c ∷ cs) e zero = ltb-true c 128 (and_parts _ _ e).0
low-ascii (c ∷ cs) e (suc i) = low-ascii cs (and_parts _ _ e).1 i

ascii-low : (cs : List ℕ) → IsAscii cs → is_low cs ≡ true
ascii-low [] h = refl
ascii-low (c ∷ cs) h = and_from _ _ (lt-ltb c 128 (h 0)) (ascii-low cs (λ i. h (suc i)))

low-decimal : (i : ℕ) → i ≤ 200 → is_low (decimal i) ≡ true
low-decimal i small = ascii-low (decimal i) (IsAscii-decimal i (omega arith))

swap-low : (i : ℕ) → i ≤ 200 → is_low (swap_line i) ≡ true
unfolding swap_line
swap-low i small = low-append (decimal i) _ (low-decimal i small) refl

sum-low : (i k : ℕ) → i ≤ 200 → k < 10 → is_low (sum_line i k) ≡ true
unfolding sum_line
sum-low i k small digit = low-append (decimal i) _ (low-decimal i small) (low-append (decimal k) _ (low-decimal k (omega arith)) (low-append (decimal k) _ (low-decimal k (omega arith)) refl))

cells-low : (i k : ℕ) → i ≤ 200 → k < 10 → is_low (cells_line i k) ≡ true
unfolding cells_line
cells-low i k small digit = low-append (decimal i) _ (low-decimal i small) (low-append (decimal k) _ (low-decimal k (omega arith)) (low-append (decimal k) _ (low-decimal k (omega arith)) refl))

low-kind : (i k : ℕ) → i ≤ 200 → k < 10 → (a b : Bool) → is_low (cond a (swap_line i) (cond b (sum_line i k) (cells_line i k))) ≡ true
low-kind i k small digit true b = swap-low i small
low-kind i k small digit false true = sum-low i k small digit
low-kind i k small digit false false = cells-low i k small digit

method-low : (seed i : ℕ) → i ≤ 200 → is_low (method_line seed i) ≡ true
method-low seed i small = low-kind i (number_of seed i) small (omega arith) ((seed + i) % 3 == 0) ((seed + i) % 3 == 1)

methods-low : (seed n : ℕ) (rest : List ℕ) → n ≤ 200 → is_low rest ≡ true → is_low (text_of (method_lines seed n) ++ rest) ≡ true
methods-low seed zero rest small e = e
methods-low seed (suc n) rest small e =
    subst (λ cs. is_low cs ≡ true) (sym (snoc-text (method_lines seed n) (method_line seed (suc n)) rest))
    (methods-low seed n _ (omega arith) (low-append (ended (method_line seed (suc n))) rest (low-append (method_line seed (suc n)) (10 ∷ []) (method-low seed (suc n) small) refl) e))

source-low : (seed methods : ℕ) → methods ≤ 200 → is_low (source seed methods) ≡ true
source-low seed methods small = subst (λ cs. is_low cs ≡ true) (source-is seed methods) (methods-low seed methods (items_before last_items []) small refl)

scalars-low : (cs : List ℕ) → is_low cs ≡ true → all_scalars cs ≡ true
scalars-low cs e = let h = low-ascii cs e in subst (λ x. all_scalars x ≡ true) (chars-IsAscii cs h) (scalars-chars cs (IsUtf8-from_ascii cs h))

pub made-is-cut : MadeIsCut
made-is-cut seed methods small =
    let cs = source seed methods in
    let r = run-of CodeStep cs (source_kinds seed methods) (source-passes seed methods small) start in
    let low = source-low seed methods small in
    let all = r.0 ++ token kind.End (after start cs) ∷ [] in
    let are : map kind_of all ≡ source_kinds seed methods ++ kind.End ∷ [] = map-append kind_of r.0 (token kind.End (after start cs) ∷ []) ∙ ap (λ ks. ks ++ kind.End ∷ []) r.1 in
    record {
      tokens = all;
      lexes = record {
        characters = cs;
        before_end = r.0;
        are_scalars = scalars-low cs low;
        encoded = encodes-IsAscii cs (low-ascii cs low);
        run = r.2;
        all = refl;
      };
      kinds = are;
      shallow = all-shallow seed methods all are;
    }
