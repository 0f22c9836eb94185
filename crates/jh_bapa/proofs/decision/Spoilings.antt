-- A hypothesis that the places of the first elements make false is false under all sizes with these places.
use Rattle.std.proofs.Common.{◌≡◌, refl, ℕ, zero, suc, ◌<◌, ◌≤◌, ◌==◌, Bool, true, false, not, ◌&&◌, ◌||◌, List, [], ◌∷◌, ◌++◌, length, map, Some, ap, sym, ◌∙◌, arith, ◌⊎◌, inl, inr}
use Rattle.std.specs.List.{list_all, list_any}
use Rattle.std.proofs.lemmas.Bool.{ltb-true, or_cases, true≢false}
use Rattle.jh_form.specs.Meaning.{agree, any_below}
use Rattle.jh_query.specs.declared.queries.sizes.Spot.{Spot}
use Rattle.jh_query.specs.queries.Tree.{CondTree, QueryTree, SetExprTree}
use Rattle.jh_query.specs.queries.Tree as t
use Rattle.jh_query.specs.queries.Sizing.{Sizing}
use Rattle.jh_query.specs.queries.Truth.{Fits, class_lies, compares, holds, implied, is_of, lies, query_true, spot_of}
use Rattle.jh_query.specs.declared.partial_truth.casing.Atom.{Atom}
use Rattle.jh_query.specs.partial_truth.Judged.{names_below}
use Rattle.jh_bapa.specs.decision.Cases.{class_differs, classes_differ}
use Rattle.jh_bapa.specs.decision.Searching.{IsLeft, NoneLeft}
use Rattle.jh_bapa.specs.decision.Spoiled.{is_spoiled}
use Rattle.jh_bapa.proofs.decision.Belows.{any-some, class_fails, first, second, set-class-false, some-any}

lies-below : (n : ℕ) (f g : ℕ → Bool) (r : ℕ) (a : SetExprTree) → names_below n a ≡ true → ((i : ℕ) → i < n → f i ≡ g i) → lies f r a ≡ lies g r a
lies-below n f g r (t.var k) e h = refl
lies-below n f g r t.empty e h = refl
lies-below n f g r t.all e h = refl
lies-below n f g r (t.one i) e h = h i (ltb-true i n e)
lies-below n f g r (t.union a b) e h = λ x. lies-below n f g r a (first (names_below n a) (names_below n b) e) h x || lies-below n f g r b (second (names_below n a) (names_below n b) e) h x
lies-below n f g r (t.inter a b) e h = λ x. lies-below n f g r a (first (names_below n a) (names_below n b) e) h x && lies-below n f g r b (second (names_below n a) (names_below n b) e) h x
lies-below n f g r (t.diff a b) e h = λ x. lies-below n f g r a (first (names_below n a) (names_below n b) e) h x && not (lies-below n f g r b (second (names_below n a) (names_below n b) e) h x)
lies-below n f g r (t.compl a) e h = λ x. not (lies-below n f g r a e h x)

-- sizes in which the first elements stand at these places
module _ (s : List Spot) (z : Sizing) (placed : (i : ℕ) → i < length s → spot_of z.spots i ≡ spot_of s i) (within : length s ≤ length z.spots) where
  class-same : (i : ℕ) (a : SetExprTree) → i < length s → names_below (length s) a ≡ true → class_lies z.spots i a ≡ class_lies s i a
  class-same i a h e =
      ap (λ (p : Spot). lies (is_of z.spots (Some p.class)) p.region a) (placed i h)
      ∙ lies-below (length s) (is_of z.spots (Some (spot_of s i).class)) (is_of s (Some (spot_of s i).class)) (spot_of s i).region a e (λ j k. ap (λ (p : Spot). p.class == (spot_of s i).class) (placed j k))

  differs : (test : Bool → Bool → Bool) (a b : SetExprTree) → (names_below (length s) a && names_below (length s) b) ≡ true → any_below (length s) (λ i. not (test (class_lies s i a) (class_lies s i b))) ≡ true → compares z test a b ≡ false
  differs test a b e f =
      let at = any-some (length s) (λ i. not (test (class_lies s i a) (class_lies s i b))) f in
      let one = class-same at.0 a at.1 (first (names_below (length s) a) (names_below (length s) b) e) in
      let two = class-same at.0 b at.1 (second (names_below (length s) a) (names_below (length s) b) e) in
      let same : not (test (class_lies z.spots at.0 a) (class_lies z.spots at.0 b)) ≡ not (test (class_lies s at.0 a) (class_lies s at.0 b)) = λ x. not (test (one x) (two x)) in
      let inside : at.0 < length z.spots = omega (arith, at.1, within) in
      set-class-false z test a b (some-any (length z.spots) at.0 (class_fails z test a b) inside (same ∙ at.2))

  and-left : (p q : Bool) → p ≡ false → (p && q) ≡ false
  and-left p q e = rw e refl

  and-right : (p q : Bool) → q ≡ false → (p && q) ≡ false
  and-right true q e = e
  and-right false q e = refl

  spoiled-false : (c : CondTree) → is_spoiled s c ≡ true → holds z c ≡ false
  spoiled-false (t.equal_set a b) e = differs agree a b (first (names_below (length s) a && names_below (length s) b) (classes_differ s (t.equal_set a b)) e) (second (names_below (length s) a && names_below (length s) b) (classes_differ s (t.equal_set a b)) e)
  spoiled-false (t.within a b) e = differs implied a b (first (names_below (length s) a && names_below (length s) b) (classes_differ s (t.within a b)) e) (second (names_below (length s) a && names_below (length s) b) (classes_differ s (t.within a b)) e)
  spoiled-false (t.and a b) e = elim (or_cases (is_spoiled s a) (is_spoiled s b) e) [
    | inl f ↦ and-left (holds z a) (holds z b) (spoiled-false a f)
    | inr f ↦ and-right (holds z a) (holds z b) (spoiled-false b f)
  ]
  spoiled-false t.yes e = absurd (true≢false (sym e))
  spoiled-false t.no e = absurd (true≢false (sym e))
  spoiled-false (t.flag f) e = absurd (true≢false (sym e))
  spoiled-false (t.same_element i j) e = absurd (true≢false (sym e))
  spoiled-false (t.member i a) e = absurd (true≢false (sym e))
  spoiled-false (t.equal_num a b) e = absurd (true≢false (sym e))
  spoiled-false (t.less_num a b) e = absurd (true≢false (sym e))
  spoiled-false (t.divides k a) e = absurd (true≢false (sym e))
  spoiled-false (t.negation a) e = absurd (true≢false (sym e))
  spoiled-false (t.or a b) e = absurd (true≢false (sym e))
  spoiled-false (t.implies a b) e = absurd (true≢false (sym e))
  spoiled-false (t.iff a b) e = absurd (true≢false (sym e))

  all-false : (cs : List CondTree) → list_any (is_spoiled s) cs ≡ true → list_all (holds z) cs ≡ false
  all-false [] e = absurd (true≢false (sym e))
  all-false (c ∷ cs) e = elim (or_cases (is_spoiled s c) (list_any (is_spoiled s) cs) e) [
    | inl f ↦ and-left (holds z c) (list_all (holds z) cs) (spoiled-false c f)
    | inr f ↦ and-right (holds z c) (list_all (holds z) cs) (all-false cs f)
  ]

premise : (p g : Bool) → p ≡ false → (not p || g) ≡ true
premise p g e = rw e refl

-- where one of the hypotheses is false, nothing refutes the query
pub spoiled-none : (q : QueryTree) (s u : List Spot) (atoms : List Atom) → u ≡ s → length s ≤ q.elements → list_any (is_spoiled u) q.hyps ≡ true → NoneLeft q s atoms
spoiled-none q s u atoms e room f z left =
    let g : list_any (is_spoiled s) q.hyps ≡ true = rw e at f in
    premise (list_all (holds z) q.hyps) (holds z q.goal) (all-false s z left.placed (omega (arith, room, left.fits.spots)) q.hyps g)
