-- The nine axioms of a list are true.
use Rattle.std.proofs.Common.{◌≡◌, refl, ℕ, zero, suc, ◌<◌, true, List, [], ◌∷◌, ◌++◌, map, slice_get, Some, length, inl, inr, arith}
use Rattle.std.specs.Prelude.{◌⊎◌}
use Rattle.std.proofs.lemmas.Bool.{cases_eq}
use Rattle.jh_form.specs.Tree.{TermTree, FieldTree, FormulaTree, FieldTrees}
use Rattle.jh_form.specs.Tree as t
use Rattle.jh_form.specs.Meaning.{Fields, Interp, InUniverse, edge, term_value, field_value, truth}
use Rattle.jh_arena.specs.makers.Joined.{joined}
use Rattle.jh_reach.specs.Axioms.{disjoined, child, differ, way, forest, end_at_null, reach_itself, reaches_child, reach_children, child_reaches, first_step, leads_there, last_step, ways_join, ways_on, ways_up, ways_compare, null_reaches_null, leads_not_back, no_way_back, has_one_parent, share_no_child, pairs_share_no_child, one_parent}
use Rattle.jh_reach.specs.Truths.{AreClosed}
use Rattle.jh_reach.proofs.Paths.{Path, Reaches, reach-self, reach-edge, reach-joined, path-last, path-inside, path-null}
use Rattle.jh_reach.proofs.Forests.{Forest, forest-of, reaches-up, reaches-on}
use Rattle.jh_reach.proofs.Logic.{negated, all-true, ex-true, implies-true, and-left, and-right, and-true, or-first, or-second, AllTrue, joined-true, all-appended, each-true, some-true}
use Rattle.jh_reach.proofs.Along.{values, field-at, place-of, same-true, true-same, true-differ, values-stay, child-is, edge-inside, way-true, true-way, true-forest, true-ends}

module _ (m : Interp) (inside : InUniverse m) (fs : List FieldTree) (closed : AreClosed fs) where
  -- what a node at a binder's own variable says
  reaches_true : (a b : TermTree) (e : List ℕ) (x y : ℕ) → term_value a m e ≡ x → term_value b m e ≡ y → x < suc m.last → y < suc m.last → Reaches (values m fs) x y → truth (way fs a b) m e ≡ true
  reaches_true = way-true m inside fs closed

  true_reaches : (a b : TermTree) (e : List ℕ) → truth (way fs a b) m e ≡ true → Reaches (values m fs) (term_value a m e) (term_value b m e)
  true_reaches a b e h = true-way m inside fs closed a b e (term_value a m e) (term_value b m e) refl refl h

  a_forest : (e : List ℕ) → truth (forest fs) m e ≡ true → Forest m.last (values m fs)
  a_forest e h = forest-of m.last (values m fs) (values-stay m inside fs) (true-forest m inside fs closed e h)

  pub reach_itself-true : (e : List ℕ) → truth (reach_itself fs) m e ≡ true
  reach_itself-true e =
      all-true m (way fs (t.bound 0) (t.bound 0)) e λ x lx.
      reaches_true (t.bound 0) (t.bound 0) (x ∷ e) x x refl refl lx lx (reach-self (values m fs) x)

  pub reach_children-true : (e : List ℕ) → truth (reach_children fs) m e ≡ true
  reach_children-true e =
      all-true m (joined (map (reaches_child fs) fs)) e λ x lx.
      joined-true m (map (reaches_child fs) fs) (x ∷ e) (each-true m fs (reaches_child fs) (x ∷ e) λ i f at.
      reaches_true (t.bound 0) (child f (t.bound 0)) (x ∷ e) x (edge (values m fs) i x) refl (child-is m inside fs closed i f (t.bound 0) (x ∷ e) x at refl) lx (edge-inside m inside fs closed i f x at lx) (reach-edge (values m fs) i x (place-of m fs i f at)))

  -- from x to y in so many steps
  begins : (k x y : ℕ) (e : List ℕ) → x < suc m.last → y < suc m.last → Path (values m fs) k x y →
      truth (t.or (t.eq_object (t.bound 1) (t.bound 0)) (disjoined (map (child_reaches fs) fs))) m (y ∷ x ∷ e) ≡ true
  begins zero x y e lx ly p =
      or-first m (t.eq_object (t.bound 1) (t.bound 0)) (disjoined (map (child_reaches fs) fs)) (y ∷ x ∷ e)
      (same-true m (t.bound 1) (t.bound 0) (y ∷ x ∷ e) x y refl refl p)
  begins (suc k) x y e lx ly p =
      let f = field-at m fs p.0 p.1 in
      or-second m (t.eq_object (t.bound 1) (t.bound 0)) (disjoined (map (child_reaches fs) fs)) (y ∷ x ∷ e)
      (some-true m fs (child_reaches fs) (y ∷ x ∷ e) p.0 f.0 f.1
      (reaches_true (child f.0 (t.bound 1)) (t.bound 0) (y ∷ x ∷ e) (edge (values m fs) p.0 x) y (child-is m inside fs closed p.0 f.0 (t.bound 1) (y ∷ x ∷ e) x f.1 refl) refl (values-stay m inside fs p.0 x p.1 lx) ly (k, p.2)))

  pub first_step-true : (e : List ℕ) → truth (first_step fs) m e ≡ true
  first_step-true e =
      let end = t.or (t.eq_object (t.bound 1) (t.bound 0)) (disjoined (map (child_reaches fs) fs)) in
      all-true m (t.all (t.implies (way fs (t.bound 1) (t.bound 0)) end)) e λ x lx.
      all-true m (t.implies (way fs (t.bound 1) (t.bound 0)) end) (x ∷ e) λ y ly.
      implies-true m (way fs (t.bound 1) (t.bound 0)) end (y ∷ x ∷ e) λ h.
      let r = true_reaches (t.bound 1) (t.bound 0) (y ∷ x ∷ e) h in
      begins r.0 x y e lx ly r.1

  ends : (k x y : ℕ) (e : List ℕ) → x < suc m.last → y < suc m.last → Path (values m fs) k x y →
      truth (t.or (t.eq_object (t.bound 1) (t.bound 0)) (t.ex (t.and (way fs (t.bound 2) (t.bound 0)) (disjoined (map leads_there fs))))) m (y ∷ x ∷ e) ≡ true
  ends zero x y e lx ly p =
      or-first m (t.eq_object (t.bound 1) (t.bound 0)) (t.ex (t.and (way fs (t.bound 2) (t.bound 0)) (disjoined (map leads_there fs)))) (y ∷ x ∷ e)
      (same-true m (t.bound 1) (t.bound 0) (y ∷ x ∷ e) x y refl refl p)
  ends (suc k) x y e lx ly p =
      let r = path-last (values m fs) k x y p in
      let f = field-at m fs r.1 r.2 in
      let lw = path-inside (values m fs) m.last k x r.0 (values-stay m inside fs) lx r.3 in
      or-second m (t.eq_object (t.bound 1) (t.bound 0)) (t.ex (t.and (way fs (t.bound 2) (t.bound 0)) (disjoined (map leads_there fs)))) (y ∷ x ∷ e)
      (ex-true m (t.and (way fs (t.bound 2) (t.bound 0)) (disjoined (map leads_there fs))) (y ∷ x ∷ e) r.0 lw
      (and-true m (way fs (t.bound 2) (t.bound 0)) (disjoined (map leads_there fs)) (r.0 ∷ y ∷ x ∷ e)
      (reaches_true (t.bound 2) (t.bound 0) (r.0 ∷ y ∷ x ∷ e) x r.0 refl refl lx lw (k, r.3))
      (some-true m fs leads_there (r.0 ∷ y ∷ x ∷ e) r.1 f.0 f.1
      (same-true m (child f.0 (t.bound 0)) (t.bound 1) (r.0 ∷ y ∷ x ∷ e) (edge (values m fs) r.1 r.0) y (child-is m inside fs closed r.1 f.0 (t.bound 0) (r.0 ∷ y ∷ x ∷ e) r.0 f.1 refl) refl r.4))))

  pub last_step-true : (e : List ℕ) → truth (last_step fs) m e ≡ true
  last_step-true e =
      let end = t.or (t.eq_object (t.bound 1) (t.bound 0)) (t.ex (t.and (way fs (t.bound 2) (t.bound 0)) (disjoined (map leads_there fs)))) in
      all-true m (t.all (t.implies (way fs (t.bound 1) (t.bound 0)) end)) e λ x lx.
      all-true m (t.implies (way fs (t.bound 1) (t.bound 0)) end) (x ∷ e) λ y ly.
      implies-true m (way fs (t.bound 1) (t.bound 0)) end (y ∷ x ∷ e) λ h.
      let r = true_reaches (t.bound 1) (t.bound 0) (y ∷ x ∷ e) h in
      ends r.0 x y e lx ly r.1

  pub ways_join-true : (e : List ℕ) → truth (ways_join fs) m e ≡ true
  ways_join-true e =
      let both = t.and (way fs (t.bound 2) (t.bound 1)) (way fs (t.bound 1) (t.bound 0)) in
      let body = t.implies both (way fs (t.bound 2) (t.bound 0)) in
      all-true m (t.all (t.all body)) e λ x lx.
      all-true m (t.all body) (x ∷ e) λ y ly.
      all-true m body (y ∷ x ∷ e) λ z lz.
      implies-true m both (way fs (t.bound 2) (t.bound 0)) (z ∷ y ∷ x ∷ e) λ h.
      reaches_true (t.bound 2) (t.bound 0) (z ∷ y ∷ x ∷ e) x z refl refl lx lz
      (reach-joined (values m fs) x y z
      (true_reaches (t.bound 2) (t.bound 1) (z ∷ y ∷ x ∷ e) (and-left m (way fs (t.bound 2) (t.bound 1)) (way fs (t.bound 1) (t.bound 0)) (z ∷ y ∷ x ∷ e) h))
      (true_reaches (t.bound 1) (t.bound 0) (z ∷ y ∷ x ∷ e) (and-right m (way fs (t.bound 2) (t.bound 1)) (way fs (t.bound 1) (t.bound 0)) (z ∷ y ∷ x ∷ e) h)))

  -- one of two is behind the other
  either_way : (i j x y : ℕ) (e : List ℕ) → term_value (t.bound i) m e ≡ x → term_value (t.bound j) m e ≡ y → x < suc m.last → y < suc m.last →
      Reaches (values m fs) x y ⊎ Reaches (values m fs) y x → truth (t.or (way fs (t.bound i) (t.bound j)) (way fs (t.bound j) (t.bound i))) m e ≡ true
  either_way i j x y e is_x is_y lx ly r =
      elim r [
        | inl p ↦ or-first m (way fs (t.bound i) (t.bound j)) (way fs (t.bound j) (t.bound i)) e (reaches_true (t.bound i) (t.bound j) e x y is_x is_y lx ly p)
        | inr p ↦ or-second m (way fs (t.bound i) (t.bound j)) (way fs (t.bound j) (t.bound i)) e (reaches_true (t.bound j) (t.bound i) e y x is_y is_x ly lx p)
      ]

  ways_on-true : ((i j a : ℕ) → i < length (values m fs) → j < length (values m fs) → edge (values m fs) i a ≡ edge (values m fs) j a) → (e : List ℕ) → truth (ways_on fs) m e ≡ true
  ways_on-true one e =
      let both = t.and (way fs (t.bound 2) (t.bound 1)) (way fs (t.bound 2) (t.bound 0)) in
      let end = t.or (way fs (t.bound 1) (t.bound 0)) (way fs (t.bound 0) (t.bound 1)) in
      all-true m (t.all (t.all (t.implies both end))) e λ x lx.
      all-true m (t.all (t.implies both end)) (x ∷ e) λ y ly.
      all-true m (t.implies both end) (y ∷ x ∷ e) λ z lz.
      implies-true m both end (z ∷ y ∷ x ∷ e) λ h.
      either_way 1 0 y z (z ∷ y ∷ x ∷ e) refl refl ly lz
      (reaches-on (values m fs) one x y z
      (true_reaches (t.bound 2) (t.bound 1) (z ∷ y ∷ x ∷ e) (and-left m (way fs (t.bound 2) (t.bound 1)) (way fs (t.bound 2) (t.bound 0)) (z ∷ y ∷ x ∷ e) h))
      (true_reaches (t.bound 2) (t.bound 0) (z ∷ y ∷ x ∷ e) (and-right m (way fs (t.bound 2) (t.bound 1)) (way fs (t.bound 2) (t.bound 0)) (z ∷ y ∷ x ∷ e) h)))

  ways_up-true : (e : List ℕ) → truth (ways_up fs) m e ≡ true
  ways_up-true e =
      let rest = t.and (way fs (t.bound 1) (t.bound 0)) (differ (t.bound 0) t.null) in
      let both = t.and (way fs (t.bound 2) (t.bound 0)) rest in
      let end = t.or (way fs (t.bound 2) (t.bound 1)) (way fs (t.bound 1) (t.bound 2)) in
      implies-true m (t.and (forest fs) (end_at_null fs)) (t.all (t.all (t.all (t.implies both end)))) e λ g.
      all-true m (t.all (t.all (t.implies both end))) e λ x lx.
      all-true m (t.all (t.implies both end)) (x ∷ e) λ y ly.
      all-true m (t.implies both end) (y ∷ x ∷ e) λ z lz.
      implies-true m both end (z ∷ y ∷ x ∷ e) λ h.
      let more = and-right m (way fs (t.bound 2) (t.bound 0)) rest (z ∷ y ∷ x ∷ e) h in
      either_way 2 1 x y (z ∷ y ∷ x ∷ e) refl refl lx ly
      (reaches-up m.last (values m fs) (values-stay m inside fs)
      (true-ends m inside fs closed e (and-right m (forest fs) (end_at_null fs) e g))
      (a_forest e (and-left m (forest fs) (end_at_null fs) e g))
      x y z lx ly
      (true_reaches (t.bound 2) (t.bound 0) (z ∷ y ∷ x ∷ e) (and-left m (way fs (t.bound 2) (t.bound 0)) rest (z ∷ y ∷ x ∷ e) h))
      (true_reaches (t.bound 1) (t.bound 0) (z ∷ y ∷ x ∷ e) (and-left m (way fs (t.bound 1) (t.bound 0)) (differ (t.bound 0) t.null) (z ∷ y ∷ x ∷ e) more))
      (true-differ m (t.bound 0) t.null (z ∷ y ∷ x ∷ e) z 0 refl refl (and-right m (way fs (t.bound 1) (t.bound 0)) (differ (t.bound 0) t.null) (z ∷ y ∷ x ∷ e) more)))

  pub null_reaches_null-true : (e : List ℕ) → truth (null_reaches_null fs) m e ≡ true
  null_reaches_null-true e =
      let body = t.implies (way fs t.null (t.bound 0)) (t.eq_object (t.bound 0) t.null) in
      implies-true m (end_at_null fs) (t.all body) e λ g.
      all-true m body e λ y ly.
      implies-true m (way fs t.null (t.bound 0)) (t.eq_object (t.bound 0) t.null) (y ∷ e) λ h.
      let r = true_reaches t.null (t.bound 0) (y ∷ e) h in
      same-true m (t.bound 0) t.null (y ∷ e) y 0 refl refl (path-null (values m fs) r.0 y (true-ends m inside fs closed e g) r.1)

  pub no_way_back-true : (e : List ℕ) → truth (no_way_back fs) m e ≡ true
  no_way_back-true e =
      let each = joined (map (leads_not_back fs) fs) in
      implies-true m (forest fs) (t.all (t.implies (differ (t.bound 0) t.null) each)) e λ g.
      all-true m (t.implies (differ (t.bound 0) t.null) each) e λ x lx.
      implies-true m (differ (t.bound 0) t.null) each (x ∷ e) λ h.
      joined-true m (map (leads_not_back fs) fs) (x ∷ e) (each-true m fs (leads_not_back fs) (x ∷ e) λ i f at.
      negated (truth (way fs (child f (t.bound 0)) (t.bound 0)) m (x ∷ e)) λ back.
      (a_forest e g).acyclic i x (place-of m fs i f at) lx (true-differ m (t.bound 0) t.null (x ∷ e) x 0 refl refl h)
      (true-way m inside fs closed (child f (t.bound 0)) (t.bound 0) (x ∷ e) (edge (values m fs) i x) x (child-is m inside fs closed i f (t.bound 0) (x ∷ e) x at refl) refl back))

  module _ (trees : Forest m.last (values m fs)) (e : List ℕ) (x y : ℕ) (lx : x < suc m.last) (ly : y < suc m.last) where
    parents_true : AllTrue m (map has_one_parent fs) (y ∷ x ∷ e)
    parents_true =
        each-true m fs has_one_parent (y ∷ x ∷ e) λ i f at.
        let same = t.eq_object (child f (t.bound 1)) (child f (t.bound 0)) in
        let other = differ (child f (t.bound 1)) t.null in
        implies-true m (t.and same other) (t.eq_object (t.bound 1) (t.bound 0)) (y ∷ x ∷ e) λ h.
        let at_x = child-is m inside fs closed i f (t.bound 1) (y ∷ x ∷ e) x at refl in
        let at_y = child-is m inside fs closed i f (t.bound 0) (y ∷ x ∷ e) y at refl in
        let lt = place-of m fs i f at in
        same-true m (t.bound 1) (t.bound 0) (y ∷ x ∷ e) x y refl refl
        (trees.unshared i i x y lt lt lx ly
        (true-same m (child f (t.bound 1)) (child f (t.bound 0)) (y ∷ x ∷ e) (edge (values m fs) i x) (edge (values m fs) i y) at_x at_y (and-left m same other (y ∷ x ∷ e) h))
        (true-differ m (child f (t.bound 1)) t.null (y ∷ x ∷ e) (edge (values m fs) i x) 0 at_x refl (and-right m same other (y ∷ x ∷ e) h))).0

    pair_true : (i j : ℕ) (f g : FieldTree) → slice_get fs i ≡ Some f → slice_get fs j ≡ Some g → (i ≡ j → ⊥) → truth (share_no_child f g) m (y ∷ x ∷ e) ≡ true
    pair_true i j f g at_f at_g ne =
        implies-true m (t.eq_object (child f (t.bound 1)) (child g (t.bound 0))) (t.eq_object (child f (t.bound 1)) t.null) (y ∷ x ∷ e) λ h.
        let at_x = child-is m inside fs closed i f (t.bound 1) (y ∷ x ∷ e) x at_f refl in
        let at_y = child-is m inside fs closed j g (t.bound 0) (y ∷ x ∷ e) y at_g refl in
        let meet = true-same m (child f (t.bound 1)) (child g (t.bound 0)) (y ∷ x ∷ e) (edge (values m fs) i x) (edge (values m fs) j y) at_x at_y h in
        same-true m (child f (t.bound 1)) t.null (y ∷ x ∷ e) (edge (values m fs) i x) 0 at_x refl
        (elim (cases_eq (edge (values m fs) i x) 0) [
          | inl is ↦ is
          | inr other ↦ absurd (ne (trees.unshared i j x y (place-of m fs i f at_f) (place-of m fs j g at_g) lx ly meet other).1)
        ])

    -- the fields of a part of the list, each at its place in the whole
    pairs_true : (gs : List FieldTree) (place : ℕ → ℕ) → ((i j : ℕ) → place i ≡ place j → i ≡ j) → ((i : ℕ) (f : FieldTree) → slice_get gs i ≡ Some f → slice_get fs (place i) ≡ Some f) →
        AllTrue m (pairs_share_no_child gs) (y ∷ x ∷ e)
    unfolding AllTrue
    pairs_true [] place apart at = tt
    pairs_true (f ∷ gs) place apart at =
        all-appended m (map (share_no_child f) gs) (pairs_share_no_child gs) (y ∷ x ∷ e)
        (each-true m gs (share_no_child f) (y ∷ x ∷ e) λ j g here. pair_true (place 0) (place (suc j)) f g (at 0 f refl) (at (suc j) g here) λ same. (let no = apart 0 (suc j) same in omega arith))
        (pairs_true gs (λ i. place (suc i)) (λ i j same. (let next = apart (suc i) (suc j) same in omega arith)) (λ i g here. at (suc i) g here))

  pub one_parent-true : (e : List ℕ) → truth (one_parent fs) m e ≡ true
  one_parent-true e =
      let each = joined (map has_one_parent fs ++ pairs_share_no_child fs) in
      implies-true m (forest fs) (t.all (t.all each)) e λ g.
      all-true m (t.all each) e λ x lx.
      all-true m each (x ∷ e) λ y ly.
      joined-true m (map has_one_parent fs ++ pairs_share_no_child fs) (y ∷ x ∷ e)
      (all-appended m (map has_one_parent fs) (pairs_share_no_child fs) (y ∷ x ∷ e)
      (parents_true (a_forest e g) e x y lx ly)
      (pairs_true (a_forest e g) e x y lx ly fs (λ i. i) (λ i j same. same) (λ i f at. at)))

one_edge : (v : Fields) (i j a : ℕ) → i < 1 → j < 1 → edge (v ∷ []) i a ≡ edge (v ∷ []) j a
one_edge v zero zero a li lj = refl
one_edge v zero (suc j) a li lj = absurd (omega arith)
one_edge v (suc i) j a li lj = absurd (omega arith)

pub ways_compare-true : (m : Interp) → InUniverse m → (fs : List FieldTree) → AreClosed fs → (e : List ℕ) → truth (ways_compare fs) m e ≡ true
ways_compare-true m inside [] closed e = ways_up-true m inside [] closed e
ways_compare-true m inside (f ∷ []) closed e = ways_on-true m inside (f ∷ []) closed (one_edge (field_value f m [])) e
ways_compare-true m inside (f ∷ g ∷ fs) closed e = ways_up-true m inside (f ∷ g ∷ fs) closed e
