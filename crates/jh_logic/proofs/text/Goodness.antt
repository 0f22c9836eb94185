-- What is so of each part of a source: of its words and literals, of what it declares and assigns, and of the numbers of its formulas.
use Rattle.std.proofs.Common.{◌≡◌, refl, sym, ap, subst, ◌∙◌, ◌⊎◌, inl, inr, ⊎_elim, ℕ, zero, suc, ◌+◌, ◌<◌, ◌≤◌, Bool, true, false, not, ◌&&◌, ◌||◌, if◌then◌else◌, List, [], ◌∷◌, ◌++◌, Some, None, arith}
use Rattle.std.specs.Prelude.{ℤ, ◌==◌}
use Rattle.std.specs.List.{Contains, list_any}
use Rattle.std.proofs.lemmas.Bool.{true≢false, eqb-true, eq-eqb}
use Rattle.std.proofs.lemmas.List.Elements.{Contains-append_left, Contains-append_right, Contains-append_cases}
use Rattle.jh_ast.specs.declared.word.Word.{Word}
use Rattle.jh_ast.specs.declared.word.JType.{JType}
use Rattle.jh_ast.specs.Exprs.{ExprTree}
use Rattle.jh_rules.specs.Words.{text_of}
use Rattle.jh_rules.specs.Shape.{Parts, nothing, ◌and◌, of_words, of_literal, of_number, of_target, of_declared, of_type, type_words, all_parts, some_parts, may_be_declared, is_not_negative, is_not_void, may_be_assigned, are_different}
use Rattle.jh_logic.proofs.source.Lists.{has-none, has-first, has-later, has-cases}

-- how often a number stands in a list
unfoldable pub times : ℕ → List ℕ → ℕ
times k [] = 0
times k (x ∷ xs) = (if x == k then 1 else 0) + times k xs

pub times-append : (k : ℕ) (xs ys : List ℕ) → times k (xs ++ ys) ≡ times k xs + times k ys
unfolding times
times-append k [] ys = from-none (times k ys)
  where
    from-none : (a : ℕ) → a ≡ 0 + a
    from-none a = omega arith
times-append k (x ∷ xs) ys = ap (λ n. (if x == k then 1 else 0) + n) (times-append k xs ys) ∙ three (if x == k then 1 else 0) (times k xs) (times k ys)
  where
    three : (a b c : ℕ) → a + (b + c) ≡ a + b + c
    three a b c = omega arith

-- Counted by f, no number stands twice, and each is one of those from n on and below m.
pub record Once (n m : ℕ) (f : ℕ → ℕ) : Type 0 where
  pub rises : n ≤ m
  pub before : (k : ℕ) → k < n → f k ≡ 0
  pub behind : (k : ℕ) → m ≤ k → f k ≡ 0
  pub once : (k : ℕ) → f k ≤ 1

pub once-none : (n : ℕ) → Once n n (λ k. 0)
once-none n = record { rises = omega arith; before = λ k lt. refl; behind = λ k le. refl; once = λ k. omega arith }

pub once-same : {n m : ℕ} (f g : ℕ → ℕ) → ((k : ℕ) → f k ≡ g k) → Once n m f → Once n m g
once-same f g same h = record {
  rises = h.rises;
  before = λ k lt. sym (same k) ∙ h.before k lt;
  behind = λ k le. sym (same k) ∙ h.behind k le;
  once = λ k. subst (λ n. n ≤ 1) (same k) (h.once k);
}

below-or : (a b : ℕ) → (a < b) ⊎ (b ≤ a)
below-or zero zero = inr (omega arith)
below-or zero (suc b) = inl (omega arith)
below-or (suc a) zero = inr (omega arith)
below-or (suc a) (suc b) = next (below-or a b)
  where
    next : (a < b) ⊎ (b ≤ a) → (suc a < suc b) ⊎ (suc b ≤ suc a)
    next (inl l) = inl (omega arith)
    next (inr l) = inr (omega arith)

no-both : (a b : ℕ) → a ≡ 0 → b ≡ 0 → a + b ≡ 0
no-both a b e h = omega arith

one-left : (a b : ℕ) → a ≤ 1 → b ≡ 0 → a + b ≤ 1
one-left a b e h = omega arith

one-right : (a b : ℕ) → a ≡ 0 → b ≤ 1 → a + b ≤ 1
one-right a b e h = omega arith

up-to : (a b c : ℕ) → a ≤ b → b ≤ c → a ≤ c
up-to a b c h k = omega arith

sooner : (a b c : ℕ) → a < b → b ≤ c → a < c
sooner a b c h k = omega arith

pub once-and : {n k m : ℕ} (f g : ℕ → ℕ) → Once n k f → Once k m g → Once n m (λ j. f j + g j)
once-and {n = n} {k = k} {m = m} f g x y = record {
  rises = up-to n k m x.rises y.rises;
  before = λ j lt. no-both (f j) (g j) (x.before j lt) (y.before j (sooner j n k lt x.rises));
  behind = λ j le. no-both (f j) (g j) (x.behind j (up-to k m j y.rises le)) (y.behind j le);
  once = λ j. ⊎_elim (λ l. one-left (f j) (g j) (x.once j) (y.before j l)) (λ l. one-right (f j) (g j) (x.behind j l) (y.once j)) (below-or j k);
}

same-number : (n : ℕ) → (n == n) ≡ true
same-number n = eq-eqb n n refl

other-number : (n k : ℕ) → (n ≡ k → ⊥) → (if n == k then 1 else 0) + 0 ≡ 0
other-number n k h = by (n == k) refl
  where
    by : (b : Bool) → (n == k) ≡ b → (if b then 1 else 0) + 0 ≡ 0
    by true e = absurd (h (eqb-true n k e))
    by false e = refl

at-most : (b : Bool) → (if b then 1 else 0) + 0 ≤ 1
at-most true = omega arith
at-most false = omega arith

pub once-one : (n : ℕ) → Once n (n + 1) (λ k. times k (n ∷ []))
unfolding times
once-one n = record {
  rises = omega arith;
  before = λ k lt. other-number n k (λ e. omega (lt, e, arith));
  behind = λ k le. other-number n k (λ e. omega (le, e, arith));
  once = λ k. at-most (n == k);
}

no-less : (a : ℕ) → 1 ≤ a → 1 ≤ 0 + a
no-less a l = omega (l, arith)

-- numbers that stand once each are different
two-at-least : (k : ℕ) (ns : List ℕ) → list_any (λ m. m == k) ns ≡ true → 1 ≤ times k ns
unfolding times
two-at-least k [] h = absurd (true≢false (sym h))
two-at-least k (n ∷ ns) h = by (n == k) h (two-at-least k ns)
  where
    by : (b : Bool) → (b || list_any (λ m. m == k) ns) ≡ true → (list_any (λ m. m == k) ns ≡ true → 1 ≤ times k ns) → 1 ≤ (if b then 1 else 0) + times k ns
    by true e rest = omega arith
    by false e rest = no-less (times k ns) (rest e)

pub different : (ns : List ℕ) → ((k : ℕ) → times k ns ≤ 1) → are_different ns ≡ true
unfolding are_different times
different [] h = refl
different (n ∷ ns) h = λ i. not (none (list_any (λ m. m == n) ns) refl i) && different ns (λ k. fewer (if n == k then 1 else 0) (times k ns) (h k)) i
  where
    fewer : (a b : ℕ) → a + b ≤ 1 → b ≤ 1
    fewer a b l = omega arith

    none : (b : Bool) → list_any (λ m. m == n) ns ≡ b → list_any (λ m. m == n) ns ≡ false
    none false e = e
    none true e = absurd (too-many (two-at-least n ns e) (subst (λ (b : Bool). (if b then 1 else 0) + times n ns ≤ 1) (same-number n) (h n)))
      where
        too-many : 1 ≤ times n ns → 1 + times n ns ≤ 1 → ⊥
        too-many a b = omega (a, b, arith)

-- Names have turn 0, no literal is below 0, what is declared may be, no type is void, and what is assigned to may be.
pub record Good (x : Parts) : Type 0 where
  pub words : (w : Word) → Contains x.words w → w.text.turn ≡ 0
  pub literals : (z : ℤ) → Contains x.literals z → is_not_negative z ≡ true
  pub declared : (w : Word) → Contains x.declared w → may_be_declared (text_of w) ≡ true
  pub types : (t : JType) → Contains x.types t → is_not_void t ≡ true
  pub targets : (a : ExprTree) → Contains x.targets a → may_be_assigned a ≡ true

each : {X : Type 0} (P : X → Type 0) (xs ys : List X) → ((x : X) → Contains xs x → P x) → ((x : X) → Contains ys x → P x) → (x : X) → Contains (xs ++ ys) x → P x
each P xs ys f g x i = ⊎_elim (f x) (g x) (Contains-append_cases xs ys x i)

one : {X : Type 0} (P : X → Type 0) (x : X) → P x → (y : X) → Contains (x ∷ []) y → P y
one P x h y i = ⊎_elim (λ e. subst P e h) (λ k. absurd (has-none y k)) (has-cases x [] y i)

pub good-none : Good nothing
good-none = record {
  words = λ w i. absurd (has-none w i);
  literals = λ z i. absurd (has-none z i);
  declared = λ w i. absurd (has-none w i);
  types = λ t i. absurd (has-none t i);
  targets = λ a i. absurd (has-none a i);
}

pub good-and : (x y : Parts) → Good x → Good y → Good (x and y)
good-and x y g h = record {
  words = each (λ w. w.text.turn ≡ 0) x.words y.words g.words h.words;
  literals = each (λ z. is_not_negative z ≡ true) x.literals y.literals g.literals h.literals;
  declared = each (λ w. may_be_declared (text_of w) ≡ true) x.declared y.declared g.declared h.declared;
  types = each (λ t. is_not_void t ≡ true) x.types y.types g.types h.types;
  targets = each (λ a. may_be_assigned a ≡ true) x.targets y.targets g.targets h.targets;
}

pub good-words : (ws : List Word) → ((w : Word) → Contains ws w → w.text.turn ≡ 0) → Good (of_words ws)
good-words ws h = record {
  words = h;
  literals = λ z i. absurd (has-none z i);
  declared = λ w i. absurd (has-none w i);
  types = λ t i. absurd (has-none t i);
  targets = λ a i. absurd (has-none a i);
}

pub good-word : (w : Word) → w.text.turn ≡ 0 → Good (of_words (w ∷ []))
good-word w h = good-words (w ∷ []) (one (λ v. v.text.turn ≡ 0) w h)

pub good-literal : (z : ℤ) → is_not_negative z ≡ true → Good (of_literal z)
good-literal z h = record {
  words = λ w i. absurd (has-none w i);
  literals = one (λ y. is_not_negative y ≡ true) z h;
  declared = λ w i. absurd (has-none w i);
  types = λ t i. absurd (has-none t i);
  targets = λ a i. absurd (has-none a i);
}

pub good-number : (n : ℕ) → Good (of_number n)
good-number n = record {
  words = λ w i. absurd (has-none w i);
  literals = λ z i. absurd (has-none z i);
  declared = λ w i. absurd (has-none w i);
  types = λ t i. absurd (has-none t i);
  targets = λ a i. absurd (has-none a i);
}

pub good-target : (a : ExprTree) → may_be_assigned a ≡ true → Good (of_target a)
good-target a h = record {
  words = λ w i. absurd (has-none w i);
  literals = λ z i. absurd (has-none z i);
  declared = λ w i. absurd (has-none w i);
  types = λ t i. absurd (has-none t i);
  targets = one (λ b. may_be_assigned b ≡ true) a h;
}

pub good-declared : (w : Word) → w.text.turn ≡ 0 → may_be_declared (text_of w) ≡ true → Good (of_declared w)
good-declared w turn h = record {
  words = one (λ v. v.text.turn ≡ 0) w turn;
  literals = λ z i. absurd (has-none z i);
  declared = one (λ v. may_be_declared (text_of v) ≡ true) w h;
  types = λ t i. absurd (has-none t i);
  targets = λ a i. absurd (has-none a i);
}

pub good-type : (t : JType) → is_not_void t ≡ true → ((w : Word) → Contains (type_words t) w → w.text.turn ≡ 0) → Good (of_type t)
good-type t h words = record {
  words = words;
  literals = λ z i. absurd (has-none z i);
  declared = λ w i. absurd (has-none w i);
  types = one (λ u. is_not_void u ≡ true) t h;
  targets = λ a i. absurd (has-none a i);
}

-- of several things each of which is good
pub good-all : {A : Type 0} (g : A → Parts) (xs : List A) → ((x : A) → Contains xs x → Good (g x)) → Good (all_parts g xs)
unfolding all_parts
good-all g [] h = good-none
good-all g (x ∷ xs) h = good-and (g x) (all_parts g xs) (h x (has-first x xs)) (good-all g xs (λ y i. h y (has-later x xs y i)))

pub good-each : {A : Type 0} (g : A → Parts) (x : A) (xs : List A) → Good (g x) → Good (all_parts g xs) → Good (all_parts g (x ∷ xs))
unfolding all_parts
good-each g x xs h k = good-and (g x) (all_parts g xs) h k

pub good-left : (x y : Parts) → Good (x and y) → Good x
good-left x y h = record {
  words = λ w i. h.words w (Contains-append_left x.words y.words w i);
  literals = λ z i. h.literals z (Contains-append_left x.literals y.literals z i);
  declared = λ w i. h.declared w (Contains-append_left x.declared y.declared w i);
  types = λ t i. h.types t (Contains-append_left x.types y.types t i);
  targets = λ a i. h.targets a (Contains-append_left x.targets y.targets a i);
}

pub good-right : (x y : Parts) → Good (x and y) → Good y
good-right x y h = record {
  words = λ w i. h.words w (Contains-append_right x.words y.words w i);
  literals = λ z i. h.literals z (Contains-append_right x.literals y.literals z i);
  declared = λ w i. h.declared w (Contains-append_right x.declared y.declared w i);
  types = λ t i. h.types t (Contains-append_right x.types y.types t i);
  targets = λ a i. h.targets a (Contains-append_right x.targets y.targets a i);
}

pub good-several : {A : Type 0} (g : A → Parts) (xs ys : List A) → Good (all_parts g xs) → Good (all_parts g ys) → Good (all_parts g (xs ++ ys))
unfolding all_parts
good-several g [] ys h k = k
good-several g (x ∷ xs) ys h k = good-and (g x) (all_parts g (xs ++ ys)) (good-left (g x) (all_parts g xs) h) (good-several g xs ys (good-right (g x) (all_parts g xs) h) k)

-- parts without formulas
pub record Plain (x : Parts) : Type 0 where
  pub good : Good x
  pub numbers : x.numbers ≡ []

pub plain-none : Plain nothing
plain-none = record { good = good-none; numbers = refl }

pub plain-and : (x y : Parts) → Plain x → Plain y → Plain (x and y)
plain-and x y p q = record { good = good-and x y p.good q.good; numbers = λ i. p.numbers i ++ q.numbers i }

pub plain-word : (w : Word) → w.text.turn ≡ 0 → Plain (of_words (w ∷ []))
plain-word w h = record { good = good-word w h; numbers = refl }

pub plain-words : (ws : List Word) → ((w : Word) → Contains ws w → w.text.turn ≡ 0) → Plain (of_words ws)
plain-words ws h = record { good = good-words ws h; numbers = refl }

pub plain-literal : (z : ℤ) → is_not_negative z ≡ true → Plain (of_literal z)
plain-literal z h = record { good = good-literal z h; numbers = refl }

pub plain-declared : (w : Word) → w.text.turn ≡ 0 → may_be_declared (text_of w) ≡ true → Plain (of_declared w)
plain-declared w t h = record { good = good-declared w t h; numbers = refl }

pub plain-each : {A : Type 0} (g : A → Parts) (x : A) (xs : List A) → Plain (g x) → Plain (all_parts g xs) → Plain (all_parts g (x ∷ xs))
unfolding all_parts
plain-each g x xs p q = plain-and (g x) (all_parts g xs) p q

pub plain-no : {A : Type 0} (g : A → Parts) → Plain (all_parts g [])
unfolding all_parts
plain-no g = plain-none

-- parts whose formulas have the numbers from n on and below m
pub record Fine (n m : ℕ) (x : Parts) : Type 0 where
  pub good : Good x
  pub once : Once n m (λ k. times k x.numbers)

pub fine-plain : (n : ℕ) (x : Parts) → Plain x → Fine n n x
unfolding times
fine-plain n x p = record { good = p.good; once = once-same (λ k. 0) (λ k. times k x.numbers) (λ k. ap (times k) (sym p.numbers)) (once-none n) }

pub fine-and : {n k m : ℕ} (x y : Parts) → Fine n k x → Fine k m y → Fine n m (x and y)
fine-and x y f g = record {
  good = good-and x y f.good g.good;
  once = once-same (λ j. times j x.numbers + times j y.numbers) (λ j. times j (x.numbers ++ y.numbers)) (λ j. sym (times-append j x.numbers y.numbers)) (once-and (λ j. times j x.numbers) (λ j. times j y.numbers) f.once g.once);
}

pub fine-number : (n : ℕ) → Fine n (n + 1) (of_number n)
fine-number n = record { good = good-number n; once = once-one n }

-- likewise without numbers, behind or before such parts
pub fine-then : {n m : ℕ} (x y : Parts) → Fine n m x → Plain y → Fine n m (x and y)
fine-then {m = m} x y f p = fine-and x y f (fine-plain m y p)

pub then-fine : {n m : ℕ} (x y : Parts) → Plain x → Fine n m y → Fine n m (x and y)
then-fine {n = n} x y p f = fine-and x y (fine-plain n x p) f

-- of several things one after another
pub fine-each : {A : Type 0} {n k m : ℕ} (g : A → Parts) (x : A) (xs : List A) → Fine n k (g x) → Fine k m (all_parts g xs) → Fine n m (all_parts g (x ∷ xs))
unfolding all_parts
fine-each g x xs f h = fine-and (g x) (all_parts g xs) f h

pub fine-no : {A : Type 0} (n : ℕ) (g : A → Parts) → Fine n n (all_parts g [])
unfolding all_parts
fine-no n g = fine-plain n nothing plain-none

pub fine-some : {A : Type 0} {n m : ℕ} (g : A → Parts) (x : A) → Fine n m (g x) → Fine n m (some_parts g (Some x))
fine-some g x f = f

pub fine-none : {A : Type 0} (n : ℕ) (g : A → Parts) → Fine n n (some_parts g None)
fine-none n g = fine-plain n nothing plain-none
