-- The names of the members of a made program differ.
use Rattle.std.proofs.Common.{◌≡◌, ◌⊎◌, inl, inr, ⊎_elim, ℕ, suc, ◌+◌, ◌<◌, ◌≤◌, Bool, true, false, cond, ◌&&◌, nat_eq, List, [], ◌∷◌, map, length, Some, None, decimal, refl, ap, ◌∙◌, arith, le-ltb, eqb-true}
use Rattle.std.specs.List.{list_any}
use Rattle.std.specs.Option.{option_map_or}
use Rattle.std.proofs.lemmas.Bool.{false≢true, and_parts, and_left, and_right, or_from, false_from_ne_true}
use Rattle.std.proofs.lemmas.Fmt.{decimal_injective}
use Rattle.jh_name.specs.declared.place.Place.{Place}
use Rattle.jh_ast.specs.declared.word.Word.{Word}
use Rattle.jh_ast.specs.Programs.{MethodPart}
use Rattle.jh_rules.specs.Words.{same_text, is_before, text_of}
use Rattle.jh_rules.specs.Names.{method, member_word, first_named}
use Rattle.jh_gen_laws.specs.typing.Trees.{name_of, IsMethod, swaps, sums, cells, AreMethods, none, more}

pub same-is : (x y : List ℕ) → same_text x y ≡ true → x ≡ y
same-is [] [] e = refl
same-is [] (y ∷ ys) e = absurd (false≢true e)
same-is (x ∷ xs) [] e = absurd (false≢true e)
same-is (x ∷ xs) (y ∷ ys) e = let r = and_parts (nat_eq x y) (same_text xs ys) e in λ i. eqb-true x y r.0 i ∷ same-is xs ys r.1 i

pub not-before : (q : Place) → is_before q q ≡ false
not-before q = or_from _ _ (le-ltb q.line q.line (omega arith)) (and_right _ _ (le-ltb q.column q.column (omega arith)))

pub name-is : (i : ℕ) (m : MethodPart) → IsMethod i m → text_of m.name ≡ name_of i
name-is i _ (swaps n q a b c q1 q2 q3 q4 q5 q6 r1 r2 r3 r4 r5 r6 r7 end) = refl
name-is i _ (sums n m k q a b q1 q2 c q3 q4 r1 r2 r3 end) = refl
name-is i _ (cells n m k q p1 p2 p3 p4 a q1 q2 q3 q4 q5 q6 b c s1 s2 s3 s4 s5 s6 r1 r2 r3 r4 r5 r6 end) = refl

names-differ : (i k : ℕ) → i ≤ 300 → k ≤ 300 → (i ≡ k → ⊥) → same_text (name_of i) (name_of k) ≡ false
names-differ i k small few other = false_from_ne_true _ (λ e. other (decimal_injective i k (omega arith) (omega arith) (same-is (decimal i) (decimal k) e)))

-- a member of this name stands before
abbrev pub stands_before : Word → Word → Bool
stands_before w v = same_text (text_of v) (text_of w) && is_before v.place w.place

pub itself : (w : Word) → stands_before w w ≡ false
itself w = and_right _ _ (not-before w.place)

-- the methods from a on have other names than a word
abbrev pub words : List MethodPart → List Word
words ms = map member_word (map method ms)

pub no-such-name : (w : Word) (a : ℕ) (ms : List MethodPart) → ((k : ℕ) → same_text (name_of k) (text_of w) ≡ false) → AreMethods a ms → list_any (stands_before w) (words ms) ≡ false
no-such-name w a [] other none = refl
no-such-name w a (m ∷ ms) other (more is rest) =
    or_from _ _ (and_left _ _ (ap (λ t. same_text t (text_of w)) (name-is a m is) ∙ other a)) (no-such-name w (suc a) ms other rest)

pub no-such-number : (w : Word) (i a : ℕ) (ms : List MethodPart) → text_of w ≡ name_of i → i ≤ 300 → a + length ms ≤ 300 → (i < a) ⊎ (a + length ms ≤ i) → AreMethods a ms → list_any (stands_before w) (words ms) ≡ false
no-such-number w i a [] named small few far none = refl
no-such-number w i a (m ∷ ms) named small few far (more is rest) =
    or_from _ _
    (and_left _ _ ((λ j. same_text (name-is a m is j) (named j)) ∙ names-differ a i (omega arith) small (λ e. ⊎_elim (λ low. omega (arith, low, e)) (λ high. omega (arith, high, e)) far)))
    (no-such-number w i (suc a) ms named small (omega arith) (⊎_elim (λ low. inl (omega arith)) (λ high. inr (omega (arith, high))) far) rest)

-- no method has a name that is no method's
pub no-method : (x : List ℕ) (a : ℕ) (ms : List MethodPart) → ((k : ℕ) → same_text (name_of k) x ≡ false) → AreMethods a ms → first_named x (map method ms) ≡ None
unfolding first_named
no-method x a [] other none = refl
no-method x a (m ∷ ms) other (more is rest) =
    ap (λ b. cond b (Some (option_map_or (λ n. cond (is_before (member_word n).place m.name.place) n (method m)) (first_named x (map method ms)) (method m))) (first_named x (map method ms))) (ap (λ t. same_text t x) (name-is a m is) ∙ other a)
    ∙ no-method x (suc a) ms other rest
