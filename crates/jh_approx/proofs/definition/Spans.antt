-- Sizes that count the objects of a universe by their regions say of sets what the universe does.
use Rattle.std.proofs.Common.{◌≡◌, ◌≢◌, refl, sym, ap, ◌∙◌, ℕ, ◌+◌, ◌<◌, ◌==◌, Bool, true, false, not, ◌&&◌, ◌||◌, if◌then◌else◌, length}
use Rattle.std.proofs.lemmas.Bool.{eqb-true, eq-eqb, true≢false, false_from_ne_true, and_from}
use Rattle.jh_form.specs.Meaning.{all_below, any_below, count_below}
use Rattle.jh_query.specs.queries.Tree.{SetExprTree}
use Rattle.jh_query.specs.queries.Sizing.{Sizing}
use Rattle.jh_query.specs.queries.Truth.{sum_below, spot_of, rest_of, class_lies, rest_lies, classes_in, set_size, compares, is_first}
use Rattle.jh_approx.proofs.definition.Counts.{count-same, count-split, count-by, count-firsts, any-some, all-at, at-all, count-some, some-count, sum-same, first, second, not-true, both-ways}

-- the object of element i
abbrev pub class_of : Sizing → ℕ → ℕ
class_of z i = (spot_of z.spots i).class

-- an object is one of the elements
abbrev pub is_element : Sizing → ℕ → Bool
is_element z x = any_below (length z.spots) (λ i. class_of z i == x)

-- Sizes that count the objects below n, of which each has a region.
pub record Counts (n : ℕ) (region : ℕ → ℕ) (z : Sizing) : Type 0 where
  pub regions : (x : ℕ) → x < n → region x < length z.rest
  pub rest : (r : ℕ) → r < length z.rest → rest_of z r ≡ count_below n (λ x. not (is_element z x) && region x == r)
  pub classes : (i : ℕ) → i < length z.spots → class_of z i < n
  pub placed : (i : ℕ) → i < length z.spots → (spot_of z.spots i).region ≡ region (class_of z i)

-- A set of a query has these members: each class inside it is one, and each rest of the objects.
pub record Spans (n : ℕ) (region : ℕ → ℕ) (z : Sizing) (s : SetExprTree) (p : ℕ → Bool) : Type 0 where
  pub class : (i : ℕ) → i < length z.spots → class_lies z.spots i s ≡ p (class_of z i)
  pub rest : (x : ℕ) → x < n → is_element z x ≡ false → rest_lies (region x) s ≡ p x

off : (e a b : Bool) → (e ≡ false → a ≡ b) → (not e && a) ≡ (not e && b)
off true a b h = refl
off false a b h = h refl

module _ (n : ℕ) (region : ℕ → ℕ) (z : Sizing) (counts : Counts n region z) where
  rest_size : (s : SetExprTree) → sum_below (length z.rest) (λ r. if rest_lies r s then rest_of z r else 0) ≡ count_below n (λ x. not (is_element z x) && rest_lies (region x) s)
  rest_size s =
      sum-same (length z.rest) (λ r. if rest_lies r s then rest_of z r else 0) (λ r. if rest_lies r s then count_below n (λ x. not (is_element z x) && region x == r) else 0) (λ r lt. ap (λ c. if rest_lies r s then c else 0) (counts.rest r lt))
      ∙ sym (count-by n (length z.rest) region (λ x. not (is_element z x)) (λ r. rest_lies r s) counts.regions)

  class_size : (s : SetExprTree) (p : ℕ → Bool) → Spans n region z s p → classes_in z.spots s ≡ count_below n (λ x. is_element z x && p x)
  class_size s p spans =
      count-same (length z.spots) (λ i. is_first z.spots i && class_lies z.spots i s) (λ i. is_first z.spots i && p (class_of z i)) (λ i lt. ap (λ b. is_first z.spots i && b) (spans.class i lt))
      ∙ count-firsts (length z.spots) n (class_of z) p counts.classes

  pub size-is : (s : SetExprTree) (p : ℕ → Bool) → Spans n region z s p → set_size z s ≡ count_below n p
  size-is s p spans =
      let rest = rest_size s ∙ count-same n (λ x. not (is_element z x) && rest_lies (region x) s) (λ x. not (is_element z x) && p x) (λ x lt. off (is_element z x) (rest_lies (region x) s) (p x) (spans.rest x lt)) in
      (λ i. rest i + class_size s p spans i) ∙ sym (count-split n (is_element z) p)

  module _ (test : Bool → Bool → Bool) (a b : SetExprTree) (p q : ℕ → Bool) (left : Spans n region z a p) (right : Spans n region z b q) where
    abbrev classes_pass : Bool
    classes_pass = all_below (length z.spots) (λ i. test (class_lies z.spots i a) (class_lies z.spots i b))

    abbrev rests_pass : Bool
    rests_pass = all_below (length z.rest) (λ r. rest_of z r == 0 || test (rest_lies r a) (rest_lies r b))

    abbrev members_pass : Bool
    members_pass = all_below n (λ x. test (p x) (q x))

    rest_passes : members_pass ≡ true → (r : ℕ) → r < length z.rest → (e : Bool) → (rest_of z r == 0) ≡ e → (e || test (rest_lies r a) (rest_lies r b)) ≡ true
    rest_passes h r lt true e = refl
    rest_passes h r lt false e =
        let some : count_below n (λ x. not (is_element z x) && region x == r) ≢ 0 = λ u. true≢false (sym (eq-eqb (rest_of z r) 0 (counts.rest r lt ∙ u)) ∙ e) in
        let found = count-some n (λ x. not (is_element z x) && region x == r) some in
        let away : is_element z found.0 ≡ false = not-true (is_element z found.0) (first (not (is_element z found.0)) (region found.0 == r) found.2) in
        let here : region found.0 ≡ r = eqb-true (region found.0) r (second (not (is_element z found.0)) (region found.0 == r) found.2) in
        ap (λ k. test (rest_lies k a) (rest_lies k b)) (sym here)
        ∙ (λ i. test (left.rest found.0 found.1 away i) (right.rest found.0 found.1 away i))
        ∙ all-at n found.0 (λ x. test (p x) (q x)) h found.1

    to_compares : members_pass ≡ true → (classes_pass && rests_pass) ≡ true
    to_compares h = and_from classes_pass rests_pass
        (at-all (length z.spots) (λ i. test (class_lies z.spots i a) (class_lies z.spots i b)) (λ i lt. (λ j. test (left.class i lt j) (right.class i lt j)) ∙ all-at n (class_of z i) (λ x. test (p x) (q x)) h (counts.classes i lt)))
        (at-all (length z.rest) (λ r. rest_of z r == 0 || test (rest_lies r a) (rest_lies r b)) (λ r lt. rest_passes h r lt (rest_of z r == 0) refl))

    member_passes : classes_pass ≡ true → rests_pass ≡ true → (x : ℕ) → x < n → (e : Bool) → is_element z x ≡ e → test (p x) (q x) ≡ true
    member_passes h k x lt true e =
        let found = any-some (length z.spots) (λ i. class_of z i == x) e in
        let here : class_of z found.0 ≡ x = eqb-true (class_of z found.0) x found.2 in
        ap (λ y. test (p y) (q y)) (sym here)
        ∙ sym (λ j. test (left.class found.0 found.1 j) (right.class found.0 found.1 j))
        ∙ all-at (length z.spots) found.0 (λ i. test (class_lies z.spots i a) (class_lies z.spots i b)) h found.1
    member_passes h k x lt false e =
        let inside = counts.regions x lt in
        let counted : (not (is_element z x) && region x == region x) ≡ true = and_from (not (is_element z x)) (region x == region x) (ap not e) (eq-eqb (region x) (region x) refl) in
        let some : (rest_of z (region x) == 0) ≡ false = false_from_ne_true (rest_of z (region x) == 0) (λ u. some-count n (λ y. not (is_element z y) && region y == region x) x lt counted (sym (counts.rest (region x) inside) ∙ eqb-true (rest_of z (region x)) 0 u)) in
        sym (λ j. test (left.rest x lt e j) (right.rest x lt e j))
        ∙ sym (λ j. some j || test (rest_lies (region x) a) (rest_lies (region x) b))
        ∙ all-at (length z.rest) (region x) (λ r. rest_of z r == 0 || test (rest_lies r a) (rest_lies r b)) k inside

    pub compares-is : compares z test a b ≡ members_pass
    compares-is = both-ways (compares z test a b) members_pass
        (λ h. at-all n (λ x. test (p x) (q x)) (λ x lt. member_passes (first classes_pass rests_pass h) (second classes_pass rests_pass h) x lt (is_element z x) refl))
        to_compares
