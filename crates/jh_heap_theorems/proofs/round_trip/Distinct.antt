-- Texts that stand once, and members of lists.
use Rattle.std.proofs.Common.{◌≡◌, refl, sym, ap, subst, ◌∙◌, ◌⊎◌, inl, inr, arith, ℕ, zero, suc, ◌<◌, ◌==◌, ◌||◌, not, Bool, true, false, true≢false, if◌then◌else◌, cond, List, [], ◌∷◌, length, map, get_or, filter, Some, slice_get, eqb-true, eq-eqb}
use Rattle.std.specs.List.{Contains, list_any, list_all}
use Rattle.std.specs.Cmp.Lexicographic.{bytes_decides}
use Rattle.std.proofs.lemmas.Bool.{and_parts, and_from, or_from, or_left, or_right, false_from_ne_true}
use Rattle.jh_semantics.specs.Code.{Text}
use Rattle.jh_semantics.specs.Program.{Member}
use Rattle.jh_semantics.specs.Typed.{AreApart}
use Rattle.jh_semantics.specs.Heaps.{is_in}
use Rattle.jh_heap.specs.lines.Bytes.{same_bytes}
use Rattle.jh_heap.specs.text.Drafts.{place_of, texts_of}
use Rattle.jh_heap.specs.text.Outlines.{member_holder}
use Rattle.jh_heap_theorems.specs.round_trip.Names.{are_distinct}
use Rattle.jh_heap_theorems.proofs.round_trip.Shown.{contains-here, contains-behind, texts}

-- numbers in a list
in-step : (test : ℕ → Bool) (b : ℕ) (xs : List ℕ) (a : ℕ) (t : Bool) → (b == a) ≡ t → test b ≡ true → (is_in a xs ≡ true → test a ≡ true) → is_in a (b ∷ xs) ≡ true → test a ≡ true
in-step test b xs a true e p more i = subst (λ c. test c ≡ true) (eqb-true b a e) p
in-step test b xs a false e p more i = more (sym (ap (λ t. t || is_in a xs) e) ∙ i)

pub in-all : (test : ℕ → Bool) (xs : List ℕ) (a : ℕ) → list_all test xs ≡ true → is_in a xs ≡ true → test a ≡ true
in-all test [] a h i = absurd (true≢false (sym i))
in-all test (b ∷ xs) a h i = let parts = and_parts (test b) (list_all test xs) h in in-step test b xs a (b == a) refl parts.0 (λ j. in-all test xs a parts.1 j) i

pub none-of : (test : ℕ → Bool) (xs : List ℕ) → ((a : ℕ) → is_in a xs ≡ true → test a ≡ false) → list_any test xs ≡ false
none-of test [] h = refl
none-of test (b ∷ xs) h = or_from (test b) (list_any test xs) (h b (or_left (b == b) (is_in b xs) (eq-eqb b b refl))) (none-of test xs (λ a i. h a (or_right (b == a) (is_in a xs) i)))

-- texts
none-same : (x : Text) (xs : List Text) → ((y : Text) → Contains xs y → x ≡ y → ⊥) → list_any (same_bytes x) xs ≡ false
none-same x [] h = refl
none-same x (y ∷ xs) h =
    or_from (same_bytes x y) (list_any (same_bytes x) xs) (false_from_ne_true (same_bytes x y) (λ e. h y (contains-here y xs) ((bytes_decides x y).0 e)))
    (none-same x xs (λ z i. h z (contains-behind y xs z i)))

pub distinct-of : (xs : List Text) → AreApart xs → are_distinct xs ≡ true
distinct-of [] h = refl
distinct-of (x ∷ xs) h = and_from (not (list_any (same_bytes x) xs)) (are_distinct xs) (ap not (none-same x xs h.0)) (distinct-of xs h.1)

pub holder-texts : (xs : List Member) → texts_of (map member_holder xs) ≡ texts xs
holder-texts [] = refl
holder-texts (x ∷ xs) = ap (λ z. x.text ∷ z) (holder-texts xs)

pub contains-cases : {X : Type 0} (z : X) (zs : List X) (y : X) → Contains (z ∷ zs) y → (z ≡ y) ⊎ Contains zs y
contains-cases {X} z zs y i = by i.0 i.1 i.2
  where
    by : (k : ℕ) → k < length (z ∷ zs) → get_or (z ∷ zs) k y ≡ y → (z ≡ y) ⊎ Contains zs y
    by zero lt e = inl e
    by (suc k) lt e = inr (k, omega (arith, lt), e)

-- members that pass a test
kept-step : (test : Member → Bool) (z : Member) (zs : List Member) (x : Member) (t : Bool) → test z ≡ t → (Contains zs x → test x ≡ true) → Contains (cond t (z ∷ zs) zs) x → test x ≡ true
kept-step test z zs x false e more i = more i
kept-step test z zs x true e more i = by (contains-cases z zs x i)
  where
    by : (z ≡ x) ⊎ Contains zs x → test x ≡ true
    by (inl same) = ap test (sym same) ∙ e
    by (inr j) = more j

pub kept-passes : (test : Member → Bool) (xs : List Member) (x : Member) → Contains (filter test xs) x → test x ≡ true
kept-passes test [] x i = let lt = i.1 in absurd (omega (arith, lt))
kept-passes test (z ∷ xs) x i = kept-step test z (filter test xs) x (test z) refl (λ j. kept-passes test xs x j) i

in-step-kept : (test : Member → Bool) (z : Member) (zs : List Member) (x : Member) (t : Bool) → test z ≡ t → test x ≡ true → (z ≡ x) ⊎ Contains zs x → Contains (cond t (z ∷ zs) zs) x
in-step-kept test z zs x true e p (inl same) = (0, omega arith, same)
in-step-kept test z zs x true e p (inr j) = contains-behind z zs x j
in-step-kept test z zs x false e p (inl same) = absurd (true≢false (sym p ∙ ap test (sym same) ∙ e))
in-step-kept test z zs x false e p (inr j) = j

-- a member that passes the test is kept
pub in-kept : (test : Member → Bool) (xs : List Member) (x : Member) → Contains xs x → test x ≡ true → Contains (filter test xs) x
in-kept test [] x i p = i
in-kept test (z ∷ xs) x i p = in-step-kept test z (filter test xs) x (test z) refl p (by (contains-cases z xs x i) (λ j. in-kept test xs x j p))
  where
    by : (z ≡ x) ⊎ Contains xs x → (Contains xs x → Contains (filter test xs) x) → (z ≡ x) ⊎ Contains (filter test xs) x
    by (inl same) more = inl same
    by (inr j) more = inr (more j)

there-step : (z : Member) (zs xs : List Member) (x : Member) (t : Bool) → (Contains zs x → Contains xs x) → Contains (cond t (z ∷ zs) zs) x → Contains (z ∷ xs) x
there-step z zs xs x false more i = contains-behind z xs x (more i)
there-step z zs xs x true more i = by (contains-cases z zs x i)
  where
    by : (z ≡ x) ⊎ Contains zs x → Contains (z ∷ xs) x
    by (inl same) = (0, omega arith, same)
    by (inr j) = contains-behind z xs x (more j)

pub kept-there : (test : Member → Bool) (xs : List Member) (x : Member) → Contains (filter test xs) x → Contains xs x
kept-there test [] x i = i
kept-there test (z ∷ xs) x i = there-step z (filter test xs) xs x (test z) (λ j. kept-there test xs x j) i

text-step : (z : Member) (zs xs : List Member) (y : Text) (t : Bool) → (Contains (texts zs) y → Contains (texts xs) y) → Contains (texts (cond t (z ∷ zs) zs)) y → Contains (texts (z ∷ xs)) y
text-step z zs xs y false more i = contains-behind z.text (texts xs) y (more i)
text-step z zs xs y true more i = by (contains-cases z.text (texts zs) y i)
  where
    by : (z.text ≡ y) ⊎ Contains (texts zs) y → Contains (texts (z ∷ xs)) y
    by (inl same) = (0, omega arith, same)
    by (inr j) = contains-behind z.text (texts xs) y (more j)

text-there : (test : Member → Bool) (xs : List Member) (y : Text) → Contains (texts (filter test xs)) y → Contains (texts xs) y
text-there test [] y i = i
text-there test (z ∷ xs) y i = text-step z (filter test xs) xs y (test z) (λ j. text-there test xs y j) i

apart-step : (z : Member) (zs : List Member) (t : Bool) → ((y : Text) → Contains (texts zs) y → z.text ≡ y → ⊥) → AreApart (texts zs) → AreApart (texts (cond t (z ∷ zs) zs))
apart-step z zs true h more = (h, more)
apart-step z zs false h more = more

pub kept-apart : (test : Member → Bool) (xs : List Member) → AreApart (texts xs) → AreApart (texts (filter test xs))
kept-apart test [] h = tt
kept-apart test (z ∷ xs) h = apart-step z (filter test xs) (test z) (λ y i e. h.0 y (text-there test xs y i) e) (kept-apart test xs h.1)

-- a text stands at its place
place-step : (y c : Text) (ys : List Text) (t : Bool) → same_bytes y c ≡ t → Contains (y ∷ ys) c → (Contains ys c → slice_get ys (place_of ys c) ≡ Some c) → slice_get (y ∷ ys) (if t then 0 else suc (place_of ys c)) ≡ Some c
place-step y c ys true e i more = ap (λ z. Some z) ((bytes_decides y c).0 e)
place-step y c ys false e i more = by (contains-cases y ys c i)
  where
    by : (y ≡ c) ⊎ Contains ys c → slice_get ys (place_of ys c) ≡ Some c
    by (inl same) = absurd (true≢false (sym ((bytes_decides y c).1 same) ∙ e))
    by (inr j) = more j

pub place-there : (cs : List Text) (c : Text) → Contains cs c → slice_get cs (place_of cs c) ≡ Some c
place-there [] c i = let lt = i.1 in absurd (omega (arith, lt))
place-there (y ∷ ys) c i = place-step y c ys (same_bytes y c) refl i (λ j. place-there ys c j)
