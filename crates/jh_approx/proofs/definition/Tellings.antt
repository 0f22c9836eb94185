-- What a query says of a formula is true under the sizes of an interpretation where the formula is true in it.
use Rattle.std.proofs.Common.{◌≡◌, refl, sym, ap, ◌∙◌, ℕ, suc, ◌==◌, Bool, true, false, not, ◌&&◌, ◌||◌, [], ◌++◌, length, Some, ℤ, pos, negsuc, ◌+ℤ◌, ◌-ℤ◌, ◌*ℤ◌, neg_ℤ, int_lt, int_le, inl, inr}
use Rattle.std.specs.Ordering.{int_eq}
use Rattle.std.specs.Prelude.{nat_lt, nat_le}
use Rattle.std.proofs.lemmas.Bool.{eqb-true, eq-eqb, ltb-false, le-ltb, leb-true, le-leb}
use Rattle.jh_form.specs.Tree.{TermTree, IntTree, SetTree, FieldTree, ValueTree, FormulaTree, of_object, of_number, of_truth, of_set, of_field}
use Rattle.jh_form.specs.Tree as t
use Rattle.jh_form.specs.Meaning.{Interp, InUniverse, term_value, int_value, set_value, truth, all_below, agree, divides_number}
use Rattle.jh_query.specs.queries.Named.{is_divisor}
use Rattle.jh_query.specs.queries.Truth.{is_of, lies, compares, number_value, holds, implied}
use Rattle.jh_approx.specs.definition.Names.{NameLists, place_in, set_names, number_names, names}
use Rattle.jh_approx.specs.definition.Told.{told_set, told_number, told}
use Rattle.jh_approx.proofs.definition.Counts.{both-ways, any-none, not-true}
use Rattle.jh_approx.proofs.definition.Places.{IsPlaced, ArePlaced, left, right}
use Rattle.jh_approx.proofs.definition.Spans.{Spans, class_of, size-is, compares-is}
use Rattle.jh_approx.proofs.definition.Counted.{region_of, counted, counts, set-found, element-inside, element-found, number-found, flag-found}

-- a formula of which a query can say all parts, as `shown` leaves it
abbrev pub IsTold : FormulaTree → Type 0
IsTold (t.negation a) = IsTold a
IsTold (t.and a b) = IsTold a × IsTold b
IsTold (t.or a b) = IsTold a × IsTold b
IsTold (t.implies a b) = IsTold a × IsTold b
IsTold (t.iff a b) = IsTold a × IsTold b
IsTold (t.all a) = ⊥
IsTold (t.ex a) = ⊥
IsTold (t.reach fs a b) = ⊥
IsTold (t.tree fs) = ⊥
IsTold (t.mark k a) = ⊥
IsTold (t.divides z a) = is_divisor z ≡ true
IsTold _ = Unit {0}

turned : (a b : ℕ) → (a == b) ≡ (b == a)
turned a b = both-ways (a == b) (b == a) (λ h. eq-eqb b a (sym (eqb-true a b h))) (λ h. eq-eqb a b (sym (eqb-true b a h)))

at-most : (a b : ℕ) → not (nat_lt b a) ≡ nat_le a b
at-most a b = both-ways (not (nat_lt b a)) (nat_le a b) (λ h. le-leb a b (ltb-false b a (not-true (nat_lt b a) h))) (λ h. ap not (le-ltb b a (leb-true a b h)))

-- one number is at most another where the other isn't less
at-most-is : (y z : ℤ) → not (int_lt z y) ≡ int_le y z
at-most-is (pos a) (pos b) = at-most a b
at-most-is (pos a) (negsuc b) = refl
at-most-is (negsuc a) (pos b) = refl
at-most-is (negsuc a) (negsuc b) = at-most b a

module _ (m : Interp) (n : NameLists) (inside : InUniverse m) where
  lies-told : (one : ℕ → Bool) (x : ℕ) → ((b : TermTree) → IsPlaced n (of_object b) → one (place_in n.elements (of_object b)) ≡ (x == term_value b m [])) → (a : SetTree) → ArePlaced n (set_names a) → lies one (region_of m n x) (told_set n a) ≡ set_value a m [] x
  unfolding told_set set_names
  lies-told one x h (t.free_set y) k = set-found m n inside (t.free_set y) (k (of_set (t.free_set y)) (inl refl)) x
  lies-told one x h (t.read_set f b) k = set-found m n inside (t.read_set f b) (k (of_set (t.read_set f b)) (inl refl)) x
  lies-told one x h t.empty k = refl
  lies-told one x h t.univ k = refl
  lies-told one x h (t.single b) k = h b (k (of_object b) (inl refl))
  lies-told one x h (t.union a b) k = λ i. lies-told one x h a (left n (set_names a) (set_names b) k) i || lies-told one x h b (right n (set_names a) (set_names b) k) i
  lies-told one x h (t.inter a b) k = λ i. lies-told one x h a (left n (set_names a) (set_names b) k) i && lies-told one x h b (right n (set_names a) (set_names b) k) i
  lies-told one x h (t.diff a b) k = λ i. lies-told one x h a (left n (set_names a) (set_names b) k) i && not (lies-told one x h b (right n (set_names a) (set_names b) k) i)
  lies-told one x h (t.compl a) k = λ i. not (lies-told one x h a k i)
  lies-told one x h (t.compr a) k = set-found m n inside (t.compr a) (k (of_set (t.compr a)) (inl refl)) x

  spans : (a : SetTree) → ArePlaced n (set_names a) → Spans (suc m.last) (region_of m n) (counted m n) (told_set n a) (set_value a m [])
  spans a k = record {
    class = λ i lt.
        ap (λ r. lies (is_of (counted m n).spots (Some (class_of (counted m n) i))) r (told_set n a)) ((counts m n inside).placed i lt)
        ∙ lies-told (is_of (counted m n).spots (Some (class_of (counted m n) i))) (class_of (counted m n) i)
        (λ b p. turned (class_of (counted m n) (place_in n.elements (of_object b))) (class_of (counted m n) i) ∙ ap (λ y. class_of (counted m n) i == y) (element-found m n inside b p)) a k;
    rest = λ x lt e.
        lies-told (λ i. false) x
        (λ b p. sym (any-none (length (counted m n).spots) (place_in n.elements (of_object b)) (λ i. class_of (counted m n) i == x) e (element-inside m n inside b p))
        ∙ turned (class_of (counted m n) (place_in n.elements (of_object b))) x ∙ ap (λ y. x == y) (element-found m n inside b p)) a k;
  }

  number-told : (a : IntTree) → ArePlaced n (number_names a) → number_value (counted m n) (told_number n a) ≡ int_value a m []
  unfolding told_number number_names
  number-told (t.const z) k = refl
  number-told (t.free_number y) k = number-found m n inside (t.free_number y) (k (of_number (t.free_number y)) (inl refl))
  number-told (t.read_number f b) k = number-found m n inside (t.read_number f b) (k (of_number (t.read_number f b)) (inl refl))
  number-told (t.add a b) k = λ i. number-told a (left n (number_names a) (number_names b) k) i +ℤ number-told b (right n (number_names a) (number_names b) k) i
  number-told (t.sub a b) k = λ i. number-told a (left n (number_names a) (number_names b) k) i -ℤ number-told b (right n (number_names a) (number_names b) k) i
  number-told (t.neg a) k = λ i. neg_ℤ (number-told a k i)
  number-told (t.scale z a) k = λ i. z *ℤ number-told a k i
  number-told (t.card a) k = ap pos (size-is (suc m.last) (region_of m n) (counted m n) (counts m n inside) (told_set n a) (set_value a m []) (spans a k))

  compared : (test : Bool → Bool → Bool) (a b : SetTree) → ArePlaced n (set_names a ++ set_names b) → compares (counted m n) test (told_set n a) (told_set n b) ≡ all_below (suc m.last) (λ x. test (set_value a m [] x) (set_value b m [] x))
  compared test a b k =
      compares-is (suc m.last) (region_of m n) (counted m n) (counts m n inside) test (told_set n a) (told_set n b) (set_value a m []) (set_value b m [])
      (spans a (left n (set_names a) (set_names b) k)) (spans b (right n (set_names a) (set_names b) k))

  pub holds-told : (a : FormulaTree) → IsTold a → ArePlaced n (names a) → holds (counted m n) (told n a) ≡ truth a m []
  unfolding told names
  holds-told t.true_formula is k = refl
  holds-told t.false_formula is k = refl
  holds-told (t.free_truth x) is k = flag-found m n inside (t.free_truth x) (k (of_truth (t.free_truth x)) (inl refl))
  holds-told (t.read_truth f b) is k = flag-found m n inside (t.read_truth f b) (k (of_truth (t.read_truth f b)) (inl refl))
  holds-told (t.negation a) is k = λ i. not (holds-told a is k i)
  holds-told (t.and a b) is k = λ i. holds-told a is.0 (left n (names a) (names b) k) i && holds-told b is.1 (right n (names a) (names b) k) i
  holds-told (t.or a b) is k = λ i. holds-told a is.0 (left n (names a) (names b) k) i || holds-told b is.1 (right n (names a) (names b) k) i
  holds-told (t.implies a b) is k = λ i. implied (holds-told a is.0 (left n (names a) (names b) k) i) (holds-told b is.1 (right n (names a) (names b) k) i)
  holds-told (t.iff a b) is k = λ i. agree (holds-told a is.0 (left n (names a) (names b) k) i) (holds-told b is.1 (right n (names a) (names b) k) i)
  holds-told (t.eq_object a b) is k = λ i. element-found m n inside a (k (of_object a) (inl refl)) i == element-found m n inside b (k (of_object b) (inr (inl refl))) i
  holds-told (t.eq_number a b) is k = λ i. int_eq (number-told a (left n (number_names a) (number_names b) k) i) (number-told b (right n (number_names a) (number_names b) k) i)
  holds-told (t.eq_set a b) is k = compared agree a b k
  holds-told (t.less a b) is k = λ i. int_lt (number-told a (left n (number_names a) (number_names b) k) i) (number-told b (right n (number_names a) (number_names b) k) i)
  holds-told (t.less_equal a b) is k =
      at-most-is (number_value (counted m n) (told_number n a)) (number_value (counted m n) (told_number n b))
      ∙ (λ i. int_le (number-told a (left n (number_names a) (number_names b) k) i) (number-told b (right n (number_names a) (number_names b) k) i))
  holds-told (t.divides z a) is k = λ i. divides_number z (number-told a k i)
  holds-told (t.member a b) is k =
      (spans b (λ v h. k v (inr h))).class (place_in n.elements (of_object a)) (element-inside m n inside a (k (of_object a) (inl refl)))
      ∙ ap (set_value b m []) (element-found m n inside a (k (of_object a) (inl refl)))
  holds-told (t.subset a b) is k = compared implied a b k
  holds-told (t.all a) is k = absurd is
  holds-told (t.ex a) is k = absurd is
  holds-told (t.reach fs a b) is k = absurd is
  holds-told (t.tree fs) is k = absurd is
  holds-told (t.mark x a) is k = absurd is
