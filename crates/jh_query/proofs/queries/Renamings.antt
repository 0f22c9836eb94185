-- The numbers of classes don't matter.
use Rattle.std.proofs.Common.{◌≡◌, refl, ℕ, zero, suc, ◌+◌, ◌<◌, ◌==◌, nat_lt, Bool, true, not, ◌&&◌, ◌||◌, if◌then◌else◌, List, [], ◌∷◌, length, Some, pos, ◌+ℤ◌, ◌-ℤ◌, ◌*ℤ◌, neg_ℤ, int_lt, ap, sym, ◌∙◌, arith}
use Rattle.std.specs.List.{list_all}
use Rattle.std.specs.Ordering.{int_eq}
use Rattle.std.proofs.lemmas.Bool.{eqb-true, eq-eqb, ltb-true}
use Rattle.jh_form.specs.Meaning.{all_below, any_below, count_below, agree, divides_number}
use Rattle.jh_query.specs.declared.queries.sizes.Spot.{Spot}
use Rattle.jh_query.specs.queries.Tree.{SetExprTree, NumTree, CondTree, QueryTree}
use Rattle.jh_query.specs.queries.Tree as t
use Rattle.jh_query.specs.queries.Sizing.{Sizing}
use Rattle.jh_query.specs.queries.Truth.{lies, spot_of, is_of, class_lies, rest_lies, rest_of, is_first, classes_in, set_size, sum_below, compares, implied, number_value, holds, query_true, Fits}
use Rattle.jh_query.specs.queries.Named.{Room, set_named, num_named, cond_named, is_divisor, room_of, moved_to, IsRenamed, IsWellFormed}
use Rattle.jh_query.proofs.queries.Equalities.{first, second}

lies-same : (m : Room) (f g : ℕ → Bool) (r : ℕ) (s : SetExprTree) → set_named m s ≡ true → ((i : ℕ) → i < m.elements → f i ≡ g i) → lies f r s ≡ lies g r s
lies-same m f g r (t.var k) e h = refl
lies-same m f g r t.empty e h = refl
lies-same m f g r t.all e h = refl
lies-same m f g r (t.one i) e h = h i (ltb-true i m.elements e)
lies-same m f g r (t.union a b) e h = λ x. lies-same m f g r a (first (set_named m a) (set_named m b) e) h x || lies-same m f g r b (second (set_named m a) (set_named m b) e) h x
lies-same m f g r (t.inter a b) e h = λ x. lies-same m f g r a (first (set_named m a) (set_named m b) e) h x && lies-same m f g r b (second (set_named m a) (set_named m b) e) h x
lies-same m f g r (t.diff a b) e h = λ x. lies-same m f g r a (first (set_named m a) (set_named m b) e) h x && not (lies-same m f g r b (second (set_named m a) (set_named m b) e) h x)
lies-same m f g r (t.compl a) e h = λ x. not (lies-same m f g r a e h x)

all-same : (n : ℕ) (f g : ℕ → Bool) → ((i : ℕ) → i < n → f i ≡ g i) → all_below n f ≡ all_below n g
all-same zero f g h = refl
all-same (suc n) f g h = λ x. all-same n f g (λ i k. h i (omega arith)) x && h n (omega arith) x

any-same : (n : ℕ) (f g : ℕ → Bool) → ((i : ℕ) → i < n → f i ≡ g i) → any_below n f ≡ any_below n g
any-same zero f g h = refl
any-same (suc n) f g h = λ x. any-same n f g (λ i k. h i (omega arith)) x || h n (omega arith) x

count-same : (n : ℕ) (f g : ℕ → Bool) → ((i : ℕ) → i < n → f i ≡ g i) → count_below n f ≡ count_below n g
count-same zero f g h = refl
count-same (suc n) f g h = λ x. count-same n f g (λ i k. h i (omega arith)) x + (if h n (omega arith) x then 1 else 0)

module _ (m : Room) (s u : List Spot) (same : IsRenamed s u) (enough : m.elements ≡ length s) where
  class-same : (i : ℕ) (a : SetExprTree) → i < length s → set_named m a ≡ true → class_lies s i a ≡ class_lies u i a
  class-same i a h e =
      lies-same m (is_of s (Some (spot_of s i).class)) (is_of u (Some (spot_of u i).class)) (spot_of s i).region a e (λ j k. same.classes j i (omega (arith, enough)) h)
      ∙ ap (λ r. lies (is_of u (Some (spot_of u i).class)) r a) (same.regions i h)

  first-same : (i : ℕ) → i < length s → is_first s i ≡ is_first u i
  first-same i h = ap not (any-same i (λ j. (spot_of s j).class == (spot_of s i).class) (λ j. (spot_of u j).class == (spot_of u i).class) (λ j k. same.classes j i (omega arith) h))

  classes-same : (a : SetExprTree) → set_named m a ≡ true → classes_in s a ≡ classes_in u a
  classes-same a e =
      count-same (length s) (λ i. is_first s i && class_lies s i a) (λ i. is_first u i && class_lies u i a) (λ i h. λ x. first-same i h x && class-same i a h e x)
      ∙ ap (λ n. count_below n (λ i. is_first u i && class_lies u i a)) same.count

  pass-same : (test : Bool → Bool → Bool) (a b : SetExprTree) → set_named m a ≡ true → set_named m b ≡ true → all_below (length s) (λ i. test (class_lies s i a) (class_lies s i b)) ≡ all_below (length u) (λ i. test (class_lies u i a) (class_lies u i b))
  pass-same test a b e f =
      all-same (length s) (λ i. test (class_lies s i a) (class_lies s i b)) (λ i. test (class_lies u i a) (class_lies u i b)) (λ i h. λ x. test (class-same i a h e x) (class-same i b h f x))
      ∙ ap (λ n. all_below n (λ i. test (class_lies u i a) (class_lies u i b))) same.count

module _ (m : Room) (z : Sizing) (u : List Spot) (same : IsRenamed z.spots u) (enough : m.elements ≡ length z.spots) where
  size-same : (a : SetExprTree) → set_named m a ≡ true → set_size z a ≡ set_size (moved_to z u) a
  size-same a e = ap (λ n. sum_below (length z.rest) (λ r. if rest_lies r a then rest_of z r else 0) + n) (classes-same m z.spots u same enough a e)

  compares-same : (test : Bool → Bool → Bool) (a b : SetExprTree) → (set_named m a && set_named m b) ≡ true → compares z test a b ≡ compares (moved_to z u) test a b
  compares-same test a b e =
      let left = first (set_named m a) (set_named m b) e in
      let right = second (set_named m a) (set_named m b) e in
      ap (λ p. p && all_below (length z.rest) (λ r. rest_of z r == 0 || test (rest_lies r a) (rest_lies r b))) (pass-same m z.spots u same enough test a b left right)

  number-same : (a : NumTree) → num_named m a ≡ true → number_value z a ≡ number_value (moved_to z u) a
  number-same (t.const c) e = refl
  number-same (t.number l) e = refl
  number-same (t.add a b) e = λ x. number-same a (first (num_named m a) (num_named m b) e) x +ℤ number-same b (second (num_named m a) (num_named m b) e) x
  number-same (t.sub a b) e = λ x. number-same a (first (num_named m a) (num_named m b) e) x -ℤ number-same b (second (num_named m a) (num_named m b) e) x
  number-same (t.neg a) e = λ x. neg_ℤ (number-same a e x)
  number-same (t.scale k a) e = λ x. k *ℤ number-same a e x
  number-same (t.card s) e = ap pos (size-same s e)

  pub holds-same : (c : CondTree) → cond_named m c ≡ true → holds z c ≡ holds (moved_to z u) c
  holds-same t.yes e = refl
  holds-same t.no e = refl
  holds-same (t.flag f) e = refl
  holds-same (t.same_element i j) e =
      let left : i < length z.spots = omega (arith, enough, ltb-true i m.elements (first (nat_lt i m.elements) (nat_lt j m.elements) e)) in
      let right : j < length z.spots = omega (arith, enough, ltb-true j m.elements (second (nat_lt i m.elements) (nat_lt j m.elements) e)) in
      same.classes i j left right
  holds-same (t.member i s) e =
      let inside : i < length z.spots = omega (arith, enough, ltb-true i m.elements (first (nat_lt i m.elements) (set_named m s) e)) in
      class-same m z.spots u same enough i s inside (second (nat_lt i m.elements) (set_named m s) e)
  holds-same (t.equal_set a b) e = compares-same agree a b e
  holds-same (t.within a b) e = compares-same implied a b e
  holds-same (t.equal_num a b) e = λ x. int_eq (number-same a (first (num_named m a) (num_named m b) e) x) (number-same b (second (num_named m a) (num_named m b) e) x)
  holds-same (t.less_num a b) e = λ x. int_lt (number-same a (first (num_named m a) (num_named m b) e) x) (number-same b (second (num_named m a) (num_named m b) e) x)
  holds-same (t.divides k a) e = λ x. divides_number k (number-same a (second (is_divisor k) (num_named m a) e) x)
  holds-same (t.negation a) e = λ x. not (holds-same a e x)
  holds-same (t.and a b) e = λ x. holds-same a (first (cond_named m a) (cond_named m b) e) x && holds-same b (second (cond_named m a) (cond_named m b) e) x
  holds-same (t.or a b) e = λ x. holds-same a (first (cond_named m a) (cond_named m b) e) x || holds-same b (second (cond_named m a) (cond_named m b) e) x
  holds-same (t.implies a b) e = λ x. implied (holds-same a (first (cond_named m a) (cond_named m b) e) x) (holds-same b (second (cond_named m a) (cond_named m b) e) x)
  holds-same (t.iff a b) e = λ x. agree (holds-same a (first (cond_named m a) (cond_named m b) e) x) (holds-same b (second (cond_named m a) (cond_named m b) e) x)

  all-hold : (cs : List CondTree) → list_all (cond_named m) cs ≡ true → list_all (holds z) cs ≡ list_all (holds (moved_to z u)) cs
  all-hold [] e = refl
  all-hold (c ∷ cs) e = λ x. holds-same c (first (cond_named m c) (list_all (cond_named m) cs) e) x && all-hold cs (second (cond_named m c) (list_all (cond_named m) cs) e) x

pub true-same : (q : QueryTree) (z : Sizing) (u : List Spot) → IsWellFormed q → Fits q z → IsRenamed z.spots u → query_true q z ≡ query_true q (moved_to z u)
true-same q z u formed fits same =
    let hyps : list_all (holds z) q.hyps ≡ list_all (holds (moved_to z u)) q.hyps = all-hold (room_of q) z u same (sym fits.spots) q.hyps formed.hyps in
    let goal : holds z q.goal ≡ holds (moved_to z u) q.goal = holds-same (room_of q) z u same (sym fits.spots) q.goal formed.goal in
    λ x. not (hyps x) || goal x

pub fits-same : (q : QueryTree) (z : Sizing) (u : List Spot) → Fits q z → IsRenamed z.spots u → Fits q (moved_to z u)
fits-same q z u fits same = record {
  rest = fits.rest;
  spots = sym same.count ∙ fits.spots;
  numbers = fits.numbers;
  flags = fits.flags;
  regions = λ i h. let k : i < length z.spots = omega (arith, fits.spots) in omega (arith, same.regions i k, fits.regions i h);
  classes = λ i j h g e.
      let k : i < length z.spots = omega (arith, fits.spots) in
      let l : j < length z.spots = omega (arith, fits.spots) in
      let one : (spot_of z.spots i).class ≡ (spot_of z.spots j).class = eqb-true (spot_of z.spots i).class (spot_of z.spots j).class (same.classes i j k l ∙ eq-eqb (spot_of u i).class (spot_of u j).class e) in
      sym (same.regions i k) ∙ fits.classes i j h g one ∙ same.regions j l;
}
