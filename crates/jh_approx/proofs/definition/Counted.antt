-- The sizes of an interpretation: its objects are counted by the sets of a query that they lie in.
use Rattle.std.proofs.Common.{◌≡◌, sym, ap, ◌∙◌, ℕ, suc, ◌<◌, ◌^◌, ◌==◌, Bool, false, not, ◌&&◌, List, [], length, get_or, map, ℤ, pos, slice_index, arith}
use Rattle.std.specs.List.{range_with_len}
use Rattle.std.proofs.lemmas.List.{length-map, get_or-map, get_or_past}
use Rattle.std.proofs.lemmas.List.FromFn.{length-map-range_with_len, get_or-map-range_with_len}
use Rattle.jh_form.specs.Tree.{TermTree, IntTree, SetTree, FieldTree, ValueTree, FormulaTree, of_object, of_number, of_truth, of_set, of_field}
use Rattle.jh_form.specs.Tree as t
use Rattle.jh_form.specs.Meaning.{Interp, InUniverse, any_below, count_below, term_value, int_value, set_value, truth}
use Rattle.jh_form.proofs.Universes.{term_inside}
use Rattle.jh_query.specs.declared.queries.sizes.Spot.{Spot}
use Rattle.jh_query.specs.queries.Tree.{QueryTree}
use Rattle.jh_query.specs.queries.Sizing.{Sizing, spelled}
use Rattle.jh_query.specs.queries.Truth.{spot_of, nowhere, is_in, Fits}
use Rattle.jh_approx.specs.definition.Names.{NameLists, place_in}
use Rattle.jh_approx.proofs.definition.Bits.{digit-is, spelled-below}
use Rattle.jh_approx.proofs.definition.Places.{IsPlaced}
use Rattle.jh_approx.proofs.definition.Spans.{Counts, class_of}

-- where no objects stand for bound variables, each that is taken is null
null-inside : (n k : ℕ) → slice_index [] k < suc n
null-inside n k = let e : slice_index [] k ≡ 0 = get_or_past [] k 0 (omega arith) in omega (arith, e)

module _ (m : Interp) where
  -- what a name of each sort is
  abbrev pub object_at : ValueTree → ℕ
  object_at (of_object a) = term_value a m []
  object_at (of_number a) = 0
  object_at (of_truth a) = 0
  object_at (of_set a) = 0
  object_at (of_field a) = 0

  abbrev pub number_at : ValueTree → ℤ
  number_at (of_number a) = int_value a m []
  number_at (of_object a) = pos 0
  number_at (of_truth a) = pos 0
  number_at (of_set a) = pos 0
  number_at (of_field a) = pos 0

  abbrev pub flag_at : ValueTree → Bool
  flag_at (of_truth a) = truth a m []
  flag_at (of_object a) = false
  flag_at (of_number a) = false
  flag_at (of_set a) = false
  flag_at (of_field a) = false

  abbrev pub lies_in : ℕ → ValueTree → Bool
  lies_in x (of_set a) = set_value a m [] x
  lies_in x (of_object a) = false
  lies_in x (of_number a) = false
  lies_in x (of_truth a) = false
  lies_in x (of_field a) = false

module _ (m : Interp) (n : NameLists) where
  -- the region of an object: the sets that it lies in
  abbrev pub region_of : ℕ → ℕ
  region_of x = spelled (map (lies_in m x) n.sets)

  -- an element stands at its object
  abbrev pub spot_at : ValueTree → Spot
  spot_at v = record { class = object_at m v; region = region_of (object_at m v) }

  abbrev pub spots : List Spot
  spots = map spot_at n.elements

  -- how many objects of a region are no element
  abbrev pub rest_at : ℕ → ℕ
  rest_at r = count_below (suc m.last) (λ x. not (any_below (length spots) (λ i. (spot_of spots i).class == x)) && region_of x == r)

  abbrev pub counted : Sizing
  counted = record { rest = map rest_at (range_with_len 0 (2 ^ length n.sets)); spots = spots; numbers = map (number_at m) n.numbers; flags = map (flag_at m) n.flags }

  module _ (inside : InUniverse m) where
    object-inside : (v : ValueTree) → object_at m v < suc m.last
    object-inside (of_object a) = term_inside m inside [] (null-inside m.last) a
    object-inside (of_number a) = omega arith
    object-inside (of_truth a) = omega arith
    object-inside (of_set a) = omega arith
    object-inside (of_field a) = omega arith

    spot-is : (i : ℕ) → i < length spots → spot_of spots i ≡ spot_at (get_or n.elements i (of_object t.null))
    spot-is i lt = get_or-map spot_at n.elements i (of_object t.null) nowhere (omega (arith, length-map n.elements spot_at))

    pub rest_length : length counted.rest ≡ 2 ^ length n.sets
    rest_length = length-map-range_with_len rest_at 0 (2 ^ length n.sets)

    region-below : (x : ℕ) → region_of x < 2 ^ length n.sets
    region-below x = let h = spelled-below (map (lies_in m x) n.sets) in let e : 2 ^ length (map (lies_in m x) n.sets) ≡ 2 ^ length n.sets = ap (λ k. 2 ^ k) (length-map n.sets (lies_in m x)) in omega (arith, h, e)

    pub counts : Counts (suc m.last) region_of counted
    counts = record {
      regions = λ x lt. let h = region-below x in omega (arith, h, rest_length);
      rest = λ r lt. get_or-map-range_with_len rest_at 0 (2 ^ length n.sets) r r 0 (omega (arith, rest_length)) (omega arith);
      classes = λ i lt. let e : class_of counted i ≡ object_at m (get_or n.elements i (of_object t.null)) = ap (λ s. s.class) (spot-is i lt) in let h = object-inside (get_or n.elements i (of_object t.null)) in omega (arith, e, h);
      placed = λ i lt. ap (λ s. s.region) (spot-is i lt) ∙ ap region_of (sym (ap (λ s. s.class) (spot-is i lt)));
    }

    -- Where names are placed, the sizes have what they are.
    pub set-found : (a : SetTree) → IsPlaced n (of_set a) → (x : ℕ) → is_in (region_of x) (place_in n.sets (of_set a)) ≡ set_value a m [] x
    set-found a h x =
        digit-is (map (lies_in m x) n.sets) (place_in n.sets (of_set a)) (omega (arith, h.inside, length-map n.sets (lies_in m x)))
        ∙ get_or-map (lies_in m x) n.sets (place_in n.sets (of_set a)) (of_set a) false h.inside
        ∙ ap (lies_in m x) (h.name (of_set a))

    pub element-inside : (a : TermTree) → IsPlaced n (of_object a) → place_in n.elements (of_object a) < length spots
    element-inside a h = omega (arith, h.inside, length-map n.elements spot_at)

    pub element-found : (a : TermTree) → IsPlaced n (of_object a) → class_of counted (place_in n.elements (of_object a)) ≡ term_value a m []
    element-found a h = ap (λ s. s.class) (get_or-map spot_at n.elements (place_in n.elements (of_object a)) (of_object a) nowhere h.inside) ∙ ap (object_at m) (h.name (of_object a))

    pub number-found : (a : IntTree) → IsPlaced n (of_number a) → get_or counted.numbers (place_in n.numbers (of_number a)) (pos 0) ≡ int_value a m []
    number-found a h = get_or-map (number_at m) n.numbers (place_in n.numbers (of_number a)) (of_number a) (pos 0) h.inside ∙ ap (number_at m) (h.name (of_number a))

    pub flag-found : (a : FormulaTree) → IsPlaced n (of_truth a) → get_or counted.flags (place_in n.flags (of_truth a)) false ≡ truth a m []
    flag-found a h = get_or-map (flag_at m) n.flags (place_in n.flags (of_truth a)) (of_truth a) false h.inside ∙ ap (flag_at m) (h.name (of_truth a))

    pub fits : (q : QueryTree) → q.sets ≡ length n.sets → q.elements ≡ length n.elements → q.numbers ≡ length n.numbers → q.flags ≡ length n.flags → Fits q counted
    fits q e f g h = record {
      rest = rest_length ∙ ap (λ k. 2 ^ k) (sym e);
      spots = length-map n.elements spot_at ∙ sym f;
      numbers = length-map n.numbers (number_at m) ∙ sym g;
      flags = length-map n.flags (flag_at m) ∙ sym h;
      regions = λ i lt.
          let here : (spot_of spots i).region ≡ region_of (class_of counted i) = counts.placed i (omega (arith, f, length-map n.elements spot_at)) in
          let below = region-below (class_of counted i) in
          let whole : 2 ^ q.sets ≡ 2 ^ length n.sets = ap (λ k. 2 ^ k) e in
          omega (arith, here, below, whole);
      classes = λ i j l k same.
          counts.placed i (omega (arith, f, length-map n.elements spot_at)) ∙ ap region_of same ∙ sym (counts.placed j (omega (arith, f, length-map n.elements spot_at)));
    }
