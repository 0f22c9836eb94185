-- The interpretation that sizes list has these sizes, but for the numbers of classes.
use Rattle.std.proofs.Common.{◌≡◌, ◌≢◌, refl, sym, ap, ◌∙◌, ℕ, suc, ◌+◌, ◌*◌, ◌/◌, ◌%◌, ◌^◌, ◌<◌, ◌==◌, nat_lt, Bool, true, false, not, ◌&&◌, if◌then◌else◌, List, [], ◌∷◌, map, length, get_or, pos, arith, inl, inr}
use Rattle.std.specs.Prelude.{filter}
use Rattle.std.specs.List.{list_all, range_with_len}
use Rattle.std.proofs.lemmas.Bool.{eqb-true, eqb-false, eq-eqb, lt-ltb, ltb-true, true≢false, false_from_ne_true, and_from}
use Rattle.std.proofs.lemmas.List.{length-map, length-append, get_or-map, get_or_append_left, get_or-append-add, ext_get_or}
use Rattle.std.proofs.lemmas.List.FromFn.{length-map-range_with_len, get_or-map-range_with_len}
use Rattle.jh_name.specs.declared.naming.Name.{Name}
use Rattle.jh_form.specs.Tree.{TermTree, IntTree, SetTree, ValueTree, FormulaTree, of_object, of_number, of_truth, of_set, of_field}
use Rattle.jh_form.specs.Tree as t
use Rattle.jh_form.specs.Meaning.{Interp, InUniverse, any_below, count_below}
use Rattle.jh_query.specs.declared.queries.sizes.Spot.{Spot}
use Rattle.jh_query.specs.queries.Tree.{QueryTree}
use Rattle.jh_query.specs.queries.Sizing.{Sizing, spelled}
use Rattle.jh_query.specs.queries.Named.{IsRenamed, moved_to}
use Rattle.jh_query.specs.queries.Truth.{Fits, nowhere, spot_of, is_in}
use Rattle.jh_approx.specs.definition.Names.{NameLists, without_repeats, place_in, is_set_name, is_element, is_number_name, is_flag, listed}
use Rattle.jh_approx.specs.definition.Plain.{is_plain_term}
use Rattle.jh_approx.specs.definition.Listed.{firsts, class_place, rests, object_regions, object_of, listed_over}
use Rattle.jh_approx.proofs.definition.Bits.{powers, one-more, doubled}
use Rattle.jh_approx.proofs.definition.Counts.{sure, any-some, any-none, count-same}
use Rattle.jh_approx.proofs.definition.Counted.{object_at, number_at, flag_at, lies_in, region_of, spot_at, spots, rest_at, counted}
use Rattle.jh_approx.proofs.definition.Filters.{all-get, filter-keeps, filter-passes}
use Rattle.jh_approx.proofs.definition.Objects.{within-at, at-within, firsts-within, object-first, object-below, object-some, objects-same}
use Rattle.jh_approx.proofs.definition.PlainNames.{is_plain_name, ArePlain, Apart, once-plain, once-apart, name-place}
use Rattle.jh_approx.proofs.definition.Rests.{count-sum, count-nothing, rests-within, rests-count}

-- ---- the digits of a region

parity : (r : ℕ) (d : Bool) → d ≡ is_in r 0 → (if d then 1 else 0) + 2 * (r / 2) ≡ r
parity r true h = let e : r / 1 % 2 ≡ 1 = eqb-true (r / 1 % 2) 1 (sym h) in omega (arith, e)
parity r false h = let e : r / 1 % 2 ≢ 1 = eqb-false (r / 1 % 2) 1 (sym h) in omega (arith, e)

halved : (r k : ℕ) → is_in r (suc k) ≡ is_in (r / 2) k
halved r k =
    let whole : r ≡ r % 2 + 2 * (r / 2) = omega arith in
    let e : r / 2 ^ suc k ≡ (r / 2) / 2 ^ k = ap (λ p. r / p) (doubled k) ∙ ap (λ n. n / (2 * 2 ^ k)) whole ∙ one-more (r % 2) (r / 2) (2 ^ k) (omega arith) (powers k) in
    ap (λ n. n % 2 == 1) e

-- a number is spelled by its bits
pub spelled-bits : (ds : List Bool) (r : ℕ) → r < 2 ^ length ds → ((k : ℕ) → k < length ds → get_or ds k false ≡ is_in r k) → spelled ds ≡ r
spelled-bits [] r lt h = omega (arith, lt)
spelled-bits (d ∷ ds) r lt h =
    let e : 2 ^ suc (length ds) ≡ 2 * 2 ^ length ds = doubled (length ds) in
    let rest : spelled ds ≡ r / 2 = spelled-bits ds (r / 2) (omega (arith, lt, e)) (λ k l. h (suc k) (omega (arith, l)) ∙ halved r k) in
    ap (λ n. (if d then 1 else 0) + 2 * n) rest ∙ parity r d (h 0 (omega arith))

-- ---- names of one sort

-- the names of a list are plain, of one kind, and each stands once
pub record IsGood (kind : ValueTree → Bool) (vs : List ValueTree) : Type 0 where
  pub plain : ArePlain vs
  pub of_kind : list_all kind vs ≡ true
  pub once_each : Apart vs

once-kind : (kind : ValueTree → Bool) (vs : List ValueTree) → list_all kind vs ≡ true → list_all kind (without_repeats vs) ≡ true
unfolding without_repeats
once-kind kind [] h = refl
once-kind kind (v ∷ vs) h = and-parts (kind v) (list_all kind vs) h (λ a b. and_from (kind v) _ a (filter-keeps _ kind (without_repeats vs) (once-kind kind vs b)))
  where
    and-parts : {P : Type 0} (a b : Bool) → (a && b) ≡ true → (a ≡ true → b ≡ true → P) → P
    and-parts true true h f = f refl refl
    and-parts true false h f = absurd (true≢false (sym h))
    and-parts false b h f = absurd (true≢false (sym h))

filter-good : (kind : ValueTree → Bool) (vs : List ValueTree) → ArePlain vs → IsGood kind (without_repeats (filter kind vs))
filter-good kind vs h = record {
  plain = once-plain (filter kind vs) (filter-keeps kind is_plain_name vs h);
  of_kind = once-kind kind (filter kind vs) (filter-passes kind vs);
  once_each = once-apart (filter kind vs);
}

pub record AreGood (n : NameLists) : Type 0 where
  pub sets : IsGood is_set_name n.sets
  pub elements : IsGood is_element n.elements
  pub numbers : IsGood is_number_name n.numbers
  pub flags : IsGood is_flag n.flags
  pub null : place_in n.elements (of_object t.null) ≡ 0
  pub some : 0 < length n.elements

pub listed-good : (vs : List ValueTree) → ArePlain vs → AreGood (listed vs)
unfolding listed without_repeats is_element is_plain_name is_plain_term place_in
listed-good vs h = record {
  sets = filter-good is_set_name vs h;
  elements = record {
    plain = once-plain (of_object t.null ∷ filter is_element vs) (filter-keeps is_element is_plain_name vs h);
    of_kind = once-kind is_element (of_object t.null ∷ filter is_element vs) (filter-passes is_element vs);
    once_each = once-apart (of_object t.null ∷ filter is_element vs);
  };
  numbers = filter-good is_number_name vs h;
  flags = filter-good is_flag vs h;
  null = name-place (without_repeats (of_object t.null ∷ filter is_element vs)) 0 (of_object t.null) (once-apart (of_object t.null ∷ filter is_element vs)) (omega arith);
  some = omega arith;
}

module _ (n : NameLists) (z : Sizing) (good : AreGood n) (q : QueryTree) (fits : Fits q z)
    (sets_is : q.sets ≡ length n.sets) (elements_is : q.elements ≡ length n.elements) (numbers_is : q.numbers ≡ length n.numbers) (flags_is : q.flags ≡ length n.flags) where
  abbrev m : Interp
  m = listed_over n z

  abbrev regions : List ℕ
  regions = object_regions z

  abbrev count : ℕ
  count = length (firsts z.spots)

  abbrev others : List ℕ
  others = rests 0 z.rest

  powers_is : 2 ^ q.sets ≡ 2 ^ length n.sets
  powers_is = ap (λ k. 2 ^ k) sets_is

  -- ---- numbers and flags

  number-value : (v : ValueTree) → is_number_name v ≡ true → is_plain_name v ≡ true → number_at m v ≡ get_or z.numbers (place_in n.numbers v) (pos 0)
  unfolding is_number_name is_plain_name
  number-value (of_number (t.free_number x)) h k = refl
  number-value (of_number (t.const c)) h k = cc
  number-value (of_number (t.read_number f b)) h k = cc
  number-value (of_number (t.add a b)) h k = cc
  number-value (of_number (t.sub a b)) h k = cc
  number-value (of_number (t.neg a)) h k = cc
  number-value (of_number (t.scale c a)) h k = cc
  number-value (of_number (t.card a)) h k = cc
  number-value (of_object a) h k = cc
  number-value (of_truth a) h k = cc
  number-value (of_set a) h k = cc
  number-value (of_field a) h k = cc

  numbers-same : map (number_at m) n.numbers ≡ z.numbers
  numbers-same =
      ext_get_or (pos 0) (map (number_at m) n.numbers) z.numbers (length-map n.numbers (number_at m) ∙ sym numbers_is ∙ sym fits.numbers) (λ k lt.
      let inside : k < length n.numbers = omega (arith, lt, length-map n.numbers (number_at m)) in
      let v : ValueTree = get_or n.numbers k (of_object t.null) in
      get_or-map (number_at m) n.numbers k (of_object t.null) (pos 0) inside
      ∙ number-value v (all-get is_number_name n.numbers k (of_object t.null) good.numbers.of_kind inside) (all-get is_plain_name n.numbers k (of_object t.null) good.numbers.plain inside)
      ∙ ap (λ i. get_or z.numbers i (pos 0)) (name-place n.numbers k (of_object t.null) good.numbers.once_each inside))

  flag-value : (v : ValueTree) → is_flag v ≡ true → is_plain_name v ≡ true → flag_at m v ≡ get_or z.flags (place_in n.flags v) false
  unfolding is_flag is_plain_name
  flag-value (of_truth (t.free_truth x)) h k = refl
  flag-value (of_truth t.true_formula) h k = cc
  flag-value (of_truth t.false_formula) h k = cc
  flag-value (of_truth (t.read_truth f b)) h k = cc
  flag-value (of_truth (t.negation a)) h k = cc
  flag-value (of_truth (t.and a b)) h k = cc
  flag-value (of_truth (t.or a b)) h k = cc
  flag-value (of_truth (t.implies a b)) h k = cc
  flag-value (of_truth (t.iff a b)) h k = cc
  flag-value (of_truth (t.all a)) h k = cc
  flag-value (of_truth (t.ex a)) h k = cc
  flag-value (of_truth (t.eq_object a b)) h k = cc
  flag-value (of_truth (t.eq_number a b)) h k = cc
  flag-value (of_truth (t.eq_set a b)) h k = cc
  flag-value (of_truth (t.less a b)) h k = cc
  flag-value (of_truth (t.less_equal a b)) h k = cc
  flag-value (of_truth (t.divides c a)) h k = cc
  flag-value (of_truth (t.member a b)) h k = cc
  flag-value (of_truth (t.subset a b)) h k = cc
  flag-value (of_truth (t.reach fs a b)) h k = cc
  flag-value (of_truth (t.tree fs)) h k = cc
  flag-value (of_truth (t.mark c a)) h k = cc
  flag-value (of_object a) h k = cc
  flag-value (of_number a) h k = cc
  flag-value (of_set a) h k = cc
  flag-value (of_field a) h k = cc

  flags-same : map (flag_at m) n.flags ≡ z.flags
  flags-same =
      ext_get_or false (map (flag_at m) n.flags) z.flags (length-map n.flags (flag_at m) ∙ sym flags_is ∙ sym fits.flags) (λ k lt.
      let inside : k < length n.flags = omega (arith, lt, length-map n.flags (flag_at m)) in
      let v : ValueTree = get_or n.flags k (of_object t.null) in
      get_or-map (flag_at m) n.flags k (of_object t.null) false inside
      ∙ flag-value v (all-get is_flag n.flags k (of_object t.null) good.flags.of_kind inside) (all-get is_plain_name n.flags k (of_object t.null) good.flags.plain inside)
      ∙ ap (λ i. get_or z.flags i false) (name-place n.flags k (of_object t.null) good.flags.once_each inside))

  -- ---- sets and regions

  set-value : (x : ℕ) (v : ValueTree) → is_set_name v ≡ true → is_plain_name v ≡ true → lies_in m x v ≡ (nat_lt (place_in n.sets v) (length n.sets) && is_in (get_or regions x 0) (place_in n.sets v))
  unfolding is_set_name is_plain_name
  set-value x (of_set (t.free_set y)) h k = refl
  set-value x (of_set (t.read_set f b)) h k = cc
  set-value x (of_set t.empty) h k = cc
  set-value x (of_set t.univ) h k = cc
  set-value x (of_set (t.single a)) h k = cc
  set-value x (of_set (t.union a b)) h k = cc
  set-value x (of_set (t.inter a b)) h k = cc
  set-value x (of_set (t.diff a b)) h k = cc
  set-value x (of_set (t.compl a)) h k = cc
  set-value x (of_set (t.compr a)) h k = cc
  set-value x (of_object a) h k = cc
  set-value x (of_number a) h k = cc
  set-value x (of_truth a) h k = cc
  set-value x (of_field a) h k = cc

  region-is : (x : ℕ) → get_or regions x 0 < 2 ^ length n.sets → region_of m n x ≡ get_or regions x 0
  region-is x lt =
      let long : length (map (lies_in m x) n.sets) ≡ length n.sets = length-map n.sets (lies_in m x) in
      let power : 2 ^ length (map (lies_in m x) n.sets) ≡ 2 ^ length n.sets = ap (λ k. 2 ^ k) long in
      spelled-bits (map (lies_in m x) n.sets) (get_or regions x 0) (omega (arith, lt, power)) (λ k l.
      let inside : k < length n.sets = omega (arith, l, long) in
      let v : ValueTree = get_or n.sets k (of_object t.null) in
      get_or-map (lies_in m x) n.sets k (of_object t.null) false inside
      ∙ set-value x v (all-get is_set_name n.sets k (of_object t.null) good.sets.of_kind inside) (all-get is_plain_name n.sets k (of_object t.null) good.sets.plain inside)
      ∙ ap (λ i. nat_lt i (length n.sets) && is_in (get_or regions x 0) i) (name-place n.sets k (of_object t.null) good.sets.once_each inside)
      ∙ ap (λ b. b && is_in (get_or regions x 0) k) (lt-ltb k (length n.sets) inside))

  -- the region of a first, and of another object
  first-region : (k : ℕ) → k < count → get_or regions k 0 ≡ (get_or (firsts z.spots) k nowhere).region
  first-region k lt =
      get_or_append_left (map (λ (s : Spot). s.region) (firsts z.spots)) others 0 k (omega (arith, lt, length-map (firsts z.spots) (λ (s : Spot). s.region)))
      ∙ get_or-map (λ (s : Spot). s.region) (firsts z.spots) k nowhere 0 lt

  other-region : (y : ℕ) → get_or regions (count + y) 0 ≡ get_or others y 0
  other-region y =
      let place : count + y ≡ length (map (λ (s : Spot). s.region) (firsts z.spots)) + y = omega (arith, length-map (firsts z.spots) (λ (s : Spot). s.region)) in
      ap (λ k. get_or regions k 0) place ∙ get_or-append-add (map (λ (s : Spot). s.region) (firsts z.spots)) others y 0

  regions_long : length regions ≡ count + length others
  regions_long = length-append (map (λ (s : Spot). s.region) (firsts z.spots)) others ∙ ap (λ k. k + length others) (length-map (firsts z.spots) (λ (s : Spot). s.region))

  spot-below : (i : ℕ) → i < length z.spots → (spot_of z.spots i).region < 2 ^ length n.sets
  spot-below i lt = let h = fits.regions i (omega (arith, lt, fits.spots)) in omega (arith, h, powers_is)

  first-below : (k : ℕ) → k < count → get_or regions k 0 < 2 ^ length n.sets
  first-below k lt =
      let found = within-at (get_or (firsts z.spots) k nowhere) z.spots (firsts-within (get_or (firsts z.spots) k nowhere) z.spots (at-within (firsts z.spots) k lt)) in
      let same : (spot_of z.spots found.0).region ≡ get_or regions k 0 = ap (λ (s : Spot). s.region) found.2 ∙ sym (first-region k lt) in
      let h = spot-below found.0 found.1 in
      omega (arith, same, h)

  other-below : (y : ℕ) → y < length others → get_or regions (count + y) 0 < 2 ^ length n.sets
  other-below y lt = let h = (rests-within 0 z.rest y lt).1 in omega (arith, h, other-region y, fits.rest, powers_is)

  -- ---- elements

  some_first : 0 < length z.spots → (k : ℕ) → k ≡ 0 → object_of z k ≡ 0
  some_first h k e = ap (object_of z) e ∙ by z.spots h
    where
      by : (ss : List Spot) → 0 < length ss → object_of (record { rest = z.rest; spots = ss; numbers = z.numbers; flags = z.flags }) 0 ≡ 0
      by [] h = absurd (omega (arith, h))
      by (s ∷ ss) h = ap (λ (b : Bool). if b then 0 else class_place (filter (λ (u : Spot). not (u.class == s.class)) (firsts ss)) s.class + 1) (eq-eqb s.class s.class refl)

  element-value : (k : ℕ) → k < length n.elements → (v : ValueTree) → is_element v ≡ true → is_plain_name v ≡ true → place_in n.elements v ≡ k → object_at m v ≡ object_of z k
  unfolding is_element is_plain_name is_plain_term
  element-value k lt (of_object (t.free_object x)) h p e =
      ap (λ i. if nat_lt i (length n.elements) then object_of z i else 0) e
      ∙ ap (λ (b : Bool). if b then object_of z k else 0) (lt-ltb k (length n.elements) lt)
  element-value k lt (of_object t.null) h p e = sym (some_first (omega (arith, lt, fits.spots, elements_is)) k (sym e ∙ good.null))
  element-value k lt (of_object (t.bound i)) h p e = cc
  element-value k lt (of_object (t.read_object f a)) h p e = cc
  element-value k lt (of_number a) h p e = cc
  element-value k lt (of_truth a) h p e = cc
  element-value k lt (of_set a) h p e = cc
  element-value k lt (of_field a) h p e = cc

  element-is : (k : ℕ) → k < length n.elements → object_at m (get_or n.elements k (of_object t.null)) ≡ object_of z k
  element-is k lt =
      element-value k lt (get_or n.elements k (of_object t.null)) (all-get is_element n.elements k (of_object t.null) good.elements.of_kind lt) (all-get is_plain_name n.elements k (of_object t.null) good.elements.plain lt)
      (name-place n.elements k (of_object t.null) good.elements.once_each lt)

  spots_long : length (spots m n) ≡ length z.spots
  spots_long = length-map n.elements (spot_at m n) ∙ sym elements_is ∙ sym fits.spots

  spot-is : (k : ℕ) → k < length z.spots → spot_of (spots m n) k ≡ record { class = object_of z k; region = region_of m n (object_of z k) }
  spot-is k lt =
      let inside : k < length n.elements = omega (arith, lt, fits.spots, elements_is) in
      get_or-map (spot_at m n) n.elements k (of_object t.null) nowhere inside
      ∙ ap (λ o. record { class = o; region = region_of m n o }) (element-is k inside)

  class-is : (k : ℕ) → k < length z.spots → (spot_of (spots m n) k).class ≡ object_of z k
  class-is k lt = ap (λ (s : Spot). s.class) (spot-is k lt)

  -- elements of one class are in one region
  object-region : (k : ℕ) → k < length z.spots → region_of m n (object_of z k) ≡ (spot_of z.spots k).region
  object-region k lt =
      let o = object-first z k lt in
      let found = within-at o.0 z.spots o.2 in
      let inside : object_of z k < count = object-below z k lt in
      region-is (object_of z k) (first-below (object_of z k) inside)
      ∙ first-region (object_of z k) inside
      ∙ ap (λ (s : Spot). s.region) (o.1.is nowhere ∙ sym found.2)
      ∙ fits.classes found.0 k (omega (arith, found.1, fits.spots)) (omega (arith, lt, fits.spots)) (ap (λ (s : Spot). s.class) found.2 ∙ o.3)

  same-test : (a b c d : ℕ) → (a ≡ b → c ≡ d) → (c ≡ d → a ≡ b) → (a == b) ≡ (c == d)
  same-test a b c d f g = by (c == d) refl
    where
      by : (e : Bool) → (c == d) ≡ e → (a == b) ≡ (c == d)
      by true e = eq-eqb a b (g (eqb-true c d e)) ∙ sym e
      by false e = false_from_ne_true (a == b) (λ h. true≢false (sym (eq-eqb c d (f (eqb-true a b h))) ∙ e)) ∙ sym e

  pub renamed : IsRenamed z.spots (spots m n)
  renamed = record {
    count = sym spots_long;
    regions = λ i lt. sym (ap (λ (s : Spot). s.region) (spot-is i lt) ∙ object-region i lt);
    classes = λ i j l k. same-test (spot_of z.spots i).class (spot_of z.spots j).class (spot_of (spots m n) i).class (spot_of (spots m n) j).class
        (λ e. class-is i l ∙ ap (λ c. class_place (firsts z.spots) c) e ∙ sym (class-is j k))
        (λ e. objects-same z i j l k (sym (class-is i l) ∙ e ∙ class-is j k));
  }

  -- ---- rests

  some_object : 0 < length regions
  some_object =
      let first : 0 < length z.spots = omega (arith, fits.spots, elements_is, good.some) in
      let below : object_of z 0 < count = object-below z 0 first in
      omega (arith, below, regions_long)

  abbrev is_named : ℕ → Bool
  is_named x = any_below (length (spots m n)) (λ i. (spot_of (spots m n) i).class == x)

  first-named : (x : ℕ) → x < count → is_named x ≡ true
  first-named x lt =
      let o = object-some z x lt in
      elim (sure (is_named x)) [
        | inl e ↦ e
        | inr e ↦ absurd (true≢false (sym (eq-eqb (spot_of (spots m n) o.0).class x (class-is o.0 o.1 ∙ o.2)) ∙ any-none (length (spots m n)) o.0 (λ i. (spot_of (spots m n) i).class == x) e (omega (arith, o.1, spots_long))))
      ]

  other-unnamed : (y : ℕ) → is_named (count + y) ≡ false
  other-unnamed y =
      elim (sure (is_named (count + y))) [
        | inl e ↦
            let found = any-some (length (spots m n)) (λ i. (spot_of (spots m n) i).class == count + y) e in
            let lt : found.0 < length z.spots = omega (arith, found.1, spots_long) in
            let same : (spot_of (spots m n) found.0).class ≡ count + y = eqb-true (spot_of (spots m n) found.0).class (count + y) found.2 in
            let below : object_of z found.0 < count = object-below z found.0 lt in
            absurd (omega (arith, same, class-is found.0 lt, below))
        | inr e ↦ e
      ]

  rest-is : (r : ℕ) → rest_at m n r ≡ get_or z.rest r 0
  rest-is r =
      let whole : suc m.last ≡ count + length others = omega (arith, some_object, regions_long) in
      ap (λ k. count_below k (λ x. not (is_named x) && region_of m n x == r)) whole
      ∙ count-sum count (length others) (λ x. not (is_named x) && region_of m n x == r)
      ∙ (λ i. none i + some i)
      ∙ (let h = rests-count 0 z.rest r in let e : 0 + r ≡ r = omega arith in omega arith)
    where
      none : count_below count (λ x. not (is_named x) && region_of m n x == r) ≡ 0
      none = count-same count _ (λ x. false) (λ x lt. ap (λ b. not b && region_of m n x == r) (first-named x lt)) ∙ count-nothing count

      some : count_below (length others) (λ y. not (is_named (count + y)) && region_of m n (count + y) == r) ≡ get_or z.rest r 0
      some =
          count-same (length others) _ (λ y. get_or others y 0 == 0 + r) (λ y lt.
          let e : r ≡ 0 + r = omega arith in
          ap (λ b. not b && region_of m n (count + y) == r) (other-unnamed y)
          ∙ (λ i. (region-is (count + y) (other-below y lt) ∙ other-region y) i == e i))
          ∙ rests-count 0 z.rest r

  rests-same : map (rest_at m n) (range_with_len 0 (2 ^ length n.sets)) ≡ z.rest
  rests-same =
      ext_get_or 0 (map (rest_at m n) (range_with_len 0 (2 ^ length n.sets))) z.rest (length-map-range_with_len (rest_at m n) 0 (2 ^ length n.sets) ∙ sym powers_is ∙ sym fits.rest) (λ r lt.
      get_or-map-range_with_len (rest_at m n) 0 (2 ^ length n.sets) r r 0 (omega (arith, lt, length-map-range_with_len (rest_at m n) 0 (2 ^ length n.sets))) (omega arith)
      ∙ rest-is r)

  -- what the interpretation counts is what was given, with other numbers for the classes
  pub counted-is : counted m n ≡ moved_to z (spots m n)
  counted-is = λ i. record { rest = rests-same i; spots = spots m n; numbers = numbers-same i; flags = flags-same i }

  object-inside : (x : Name) (i : ℕ) (b : Bool) → nat_lt i (length n.elements) ≡ b → (if b then object_of z i else 0) < suc m.last
  object-inside x i true e =
      let lt : i < length n.elements = ltb-true i (length n.elements) e in
      let below : object_of z i < count = object-below z i (omega (arith, lt, fits.spots, elements_is)) in
      omega (arith, below, regions_long, some_object)
  object-inside x i false e = omega arith

  pub listed-inside : InUniverse m
  listed-inside = record {
    object = λ x. let i = place_in n.elements (of_object (t.free_object x)) in object-inside x i (nat_lt i (length n.elements)) refl;
    field = λ x a lt. omega arith;
  }
