-- The axiom of an update is true.
use Rattle.std.proofs.Common.{◌≡◌, refl, sym, ap, ◌∙◌, subst, ℕ, zero, suc, ◌<◌, ◌≢◌, ◌==◌, true, if◌then◌else◌, List, [], ◌∷◌, slice_get, Some, length, inl, inr, arith}
use Rattle.std.specs.Prelude.{slice_set}
use Rattle.std.proofs.lemmas.Bool.{cases_eq, or_cases, eq-eqb, ne_eqb}
use Rattle.jh_form.specs.Tree.{TermTree, FieldTree, FormulaTree, of_object}
use Rattle.jh_form.specs.Tree as t
use Rattle.jh_form.specs.Closed.{is_closed_term, is_closed_field}
use Rattle.jh_form.specs.Meaning.{Interp, InUniverse, edge, term_value, field_value, truth}
use Rattle.jh_reach.specs.Axioms.{child, differ, way, forest, end_at_null, BaseTree, before, stops_at, leaves_out, changed_one, changed_several, changed_ways, axiom_of_update}
use Rattle.jh_reach.specs.Truths.{AreClosed, IsBase, IsThatUpdate}
use Rattle.jh_reach.proofs.Paths.{Reaches, StayInside, EndAtNull}
use Rattle.jh_reach.proofs.Forests.{Forest, forest-of}
use Rattle.jh_reach.proofs.Changes.{Changed, one-from, one-to, several-from, several-to}
use Rattle.jh_reach.proofs.Logic.{implied, negated, not-both, equivalence, all-true, implies-true, and-left, and-right, and-true, or-first, or-second}
use Rattle.jh_reach.proofs.Along.{values, field-same, term-same, edge-at, differ-true, true-differ, value-inside, values-stay, way-true, true-way, true-forest, true-ends}

-- a list with another member at a place
module _ (m : Interp) where
  set-length : (fs : List FieldTree) (p : ℕ) (f : FieldTree) → length (values m fs) ≡ length (values m (slice_set fs p f))
  set-length [] p f = refl
  set-length (g ∷ fs) zero f = refl
  set-length (g ∷ fs) (suc p) f = ap suc (set-length fs p f)

  set-other : (fs : List FieldTree) (p : ℕ) (f : FieldTree) (i x : ℕ) → (i ≡ p → ⊥) → edge (values m fs) i x ≡ edge (values m (slice_set fs p f)) i x
  set-other [] p f i x ne = refl
  set-other (g ∷ fs) zero f zero x ne = absurd (ne refl)
  set-other (g ∷ fs) zero f (suc i) x ne = refl
  set-other (g ∷ fs) (suc p) f zero x ne = refl
  set-other (g ∷ fs) (suc p) f (suc i) x ne = set-other fs p f i x (λ e. ne (ap suc e))

  set-there : (fs : List FieldTree) (p : ℕ) (f : FieldTree) (x : ℕ) → p < length fs → edge (values m (slice_set fs p f)) p x ≡ (field_value f m []).objects x
  set-there [] p f x lt = absurd (omega arith)
  set-there (g ∷ fs) zero f x lt = refl
  set-there (g ∷ fs) (suc p) f x lt = set-there fs p f x (omega arith)

  values-length : (fs : List FieldTree) → length (values m fs) ≡ length fs
  values-length [] = refl
  values-length (f ∷ fs) = ap suc (values-length fs)

set-closed : (fs : List FieldTree) (p : ℕ) (f : FieldTree) → AreClosed fs → is_closed_field f 0 ≡ true → AreClosed (slice_set fs p f)
set-closed [] p f closed h i g at = absurd (cc)
set-closed (k ∷ fs) zero f closed h zero g at = let same : f ≡ g = cc in ap (λ z. is_closed_field z 0) (sym same) ∙ h
set-closed (k ∷ fs) zero f closed h (suc i) g at = closed (suc i) g at
set-closed (k ∷ fs) (suc p) f closed h zero g at = closed 0 g at
set-closed (k ∷ fs) (suc p) f closed h (suc i) g at = set-closed fs p f (λ j z here. closed (suc j) z here) h i g at

place-there : (fs : List FieldTree) (p : ℕ) → p < length fs → (g : FieldTree) × (slice_get fs p ≡ Some g)
place-there [] p lt = absurd (omega arith)
place-there (f ∷ fs) zero lt = (f, refl)
place-there (f ∷ fs) (suc p) lt = place-there fs p (omega arith)

choose-same : (a v w : ℕ) → (if a == a then v else w) ≡ v
choose-same a v w = ap (λ b. if b then v else w) (eq-eqb a a refl)

choose-other : (x a v w : ℕ) → (x ≡ a → ⊥) → (if x == a then v else w) ≡ w
choose-other x a v w ne = ap (λ b. if b then v else w) (ne_eqb x a ne)

-- in such an interpretation one object's value at one field changed
is-changed : (m : Interp) (fs : List FieldTree) (u : BaseTree) → IsBase fs u → IsThatUpdate m fs u → term_value u.at m [] < suc m.last →
    Changed m.last (values m (before fs u)) (values m fs) u.place (term_value u.at m []) (term_value u.value m [])
is-changed m fs u base update in_a =
    let old = before fs u in
    let a = term_value u.at m [] in
    let v = term_value u.value m [] in
    let g = place-there fs u.place base.place in
    let new_at : (x : ℕ) → x < suc m.last → edge (values m fs) u.place x ≡ (if x == a then v else (field_value u.field m []).objects x) =
    λ x lx. edge-at m fs u.place g.0 x g.1 ∙ update g.0 g.1 x lx in
    record {
      lengths = set-length m fs u.place u.field;
      place = (let same = set-length m fs u.place u.field in let long = values-length m fs in let lt = base.place in omega arith);
      at = new_at a in_a ∙ choose-same a v ((field_value u.field m []).objects a);
      others = λ i x lt lx ne. elim (cases_eq i u.place) [
        | inl e ↦
            subst (λ (j : ℕ). edge (values m fs) j x ≡ edge (values m old) j x) (sym e)
            (new_at x lx ∙ choose-other x a v ((field_value u.field m []).objects x) (ne e) ∙ sym (set-there m fs u.place u.field x base.place))
        | inr other ↦ set-other m fs u.place u.field i x other
      ];
    }

module _ (m : Interp) (inside : InUniverse m) (old : List FieldTree) (closed_old : AreClosed old) (u : BaseTree) (closed_at : is_closed_term u.at 0 ≡ true) (closed_field : is_closed_field u.field 0 ≡ true) where
  -- a way that doesn't go on from the object that changed
  abbrev Stops : ℕ → ℕ → Type 0
  Stops x y = Reaches (values m old) x y × (Reaches (values m old) x (term_value u.at m []) → Reaches (values m old) y (term_value u.at m []))

  -- ways between terms whose values are known
  old_true : (a b : TermTree) (e : List ℕ) (x y : ℕ) → term_value a m e ≡ x → term_value b m e ≡ y → x < suc m.last → y < suc m.last → Reaches (values m old) x y → truth (way old a b) m e ≡ true
  old_true = way-true m inside old closed_old

  true_old : (a b : TermTree) (e : List ℕ) (x y : ℕ) → term_value a m e ≡ x → term_value b m e ≡ y → truth (way old a b) m e ≡ true → Reaches (values m old) x y
  true_old = true-way m inside old closed_old

  module _ (a b : TermTree) (e : List ℕ) (x y : ℕ) (is_x : term_value a m e ≡ x) (is_y : term_value b m e ≡ y) (lx : x < suc m.last) (ly : y < suc m.last) where
    stops-true : Stops x y → truth (stops_at old u.at a b) m e ≡ true
    stops-true h =
        and-true m (way old a b) (t.implies (way old a u.at) (way old b u.at)) e
        (old_true a b e x y is_x is_y lx ly h.0)
        (implies-true m (way old a u.at) (way old b u.at) e λ k.
        old_true b u.at e y (term_value u.at m []) is_y (term-same m u.at e closed_at) ly (value-inside m inside u.at) (h.1 (true_old a u.at e x (term_value u.at m []) is_x (term-same m u.at e closed_at) k)))

    true-stops : truth (stops_at old u.at a b) m e ≡ true → Stops x y
    true-stops h =
        let second = and-right m (way old a b) (t.implies (way old a u.at) (way old b u.at)) e h in (
          true_old a b e x y is_x is_y (and-left m (way old a b) (t.implies (way old a u.at) (way old b u.at)) e h),
          λ r. true_old b u.at e y (term_value u.at m []) is_y (term-same m u.at e closed_at)
              (implied (truth (way old a u.at) m e) (truth (way old b u.at) m e) second (old_true a u.at e x (term_value u.at m []) is_x (term-same m u.at e closed_at) lx (value-inside m inside u.at) r)),
        )

    -- by the value of the child at the place of the change
    module _ (p : ℕ) (child_at : edge (values m old) p (term_value u.at m []) ≡ (field_value u.field m []).objects (term_value u.at m [])) (in_child : edge (values m old) p (term_value u.at m []) < suc m.last) where
      abbrev LeftOut : Type 0
      LeftOut = Reaches (values m old) x y × (edge (values m old) p (term_value u.at m []) ≢ 0 → Reaches (values m old) x (term_value u.at m []) → Reaches (values m old) (edge (values m old) p (term_value u.at m [])) y → ⊥)

      the_child : term_value (child u.field u.at) m e ≡ edge (values m old) p (term_value u.at m [])
      the_child = (λ j. (field-same m u.field e closed_field j).objects (term-same m u.at e closed_at j)) ∙ sym child_at

      left_out-true : LeftOut → truth (leaves_out old u.field u.at a b) m e ≡ true
      left_out-true h =
          let other = differ (child u.field u.at) t.null in
          let to = way old a u.at in
          let on = way old (child u.field u.at) b in
          and-true m (way old a b) (t.negation (t.and other (t.and to on))) e
          (old_true a b e x y is_x is_y lx ly h.0)
          (negated (truth (t.and other (t.and to on)) m e) λ k.
          let rest = and-right m other (t.and to on) e k in
          h.1 (true-differ m (child u.field u.at) t.null e (edge (values m old) p (term_value u.at m [])) 0 the_child refl (and-left m other (t.and to on) e k))
          (true_old a u.at e x (term_value u.at m []) is_x (term-same m u.at e closed_at) (and-left m to on e rest))
          (true_old (child u.field u.at) b e (edge (values m old) p (term_value u.at m [])) y the_child is_y (and-right m to on e rest)))

      true-left_out : truth (leaves_out old u.field u.at a b) m e ≡ true → LeftOut
      true-left_out h =
          let other = differ (child u.field u.at) t.null in
          let to = way old a u.at in
          let on = way old (child u.field u.at) b in
          let second = and-right m (way old a b) (t.negation (t.and other (t.and to on))) e h in (
            true_old a b e x y is_x is_y (and-left m (way old a b) (t.negation (t.and other (t.and to on))) e h),
            λ ne r s. not-both (truth (t.and other (t.and to on)) m e) second
                (and-true m other (t.and to on) e
                (differ-true m (child u.field u.at) t.null e (edge (values m old) p (term_value u.at m [])) 0 the_child refl ne)
                (and-true m to on e
                (old_true a u.at e x (term_value u.at m []) is_x (term-same m u.at e closed_at) lx (value-inside m inside u.at) r)
                (old_true (child u.field u.at) b e (edge (values m old) p (term_value u.at m [])) y the_child is_y in_child ly s))),
          )

-- what is known where the axiom's premise is true
module _ (m : Interp) (inside : InUniverse m) (new old : List FieldTree) (closed_new : AreClosed new) (closed_old : AreClosed old) (u : BaseTree) (closed_at : is_closed_term u.at 0 ≡ true) (closed_value : is_closed_term u.value 0 ≡ true) (closed_field : is_closed_field u.field 0 ≡ true)
    (change : Changed m.last (values m old) (values m new) u.place (term_value u.at m []) (term_value u.value m []))
    (child_at : edge (values m old) u.place (term_value u.at m []) ≡ (field_value u.field m []).objects (term_value u.at m []))
    (null : EndAtNull (values m old)) (trees : Forest m.last (values m old)) (not_null : term_value u.at m [] ≢ 0) where
  stay : StayInside m.last (values m old)
  stay = values-stay m inside old

  changed_one-true : ((i : ℕ) → i < length (values m old) → i ≡ u.place) → (e : List ℕ) → truth (changed_one new old u.at u.value) m e ≡ true
  changed_one-true single e =
      let a = term_value u.at m [] in
      let v = term_value u.value m [] in
      let in_a = value-inside m inside u.at in
      let in_v = value-inside m inside u.value in
      let ways = way new (t.bound 1) (t.bound 0) in
      let first = stops_at old u.at (t.bound 1) (t.bound 0) in
      let to = way old (t.bound 1) u.at in
      let on = stops_at old u.at u.value (t.bound 0) in
      let back = trees.acyclic u.place a change.place in_a not_null in
      all-true m (t.all (t.iff ways (t.or first (t.and to on)))) e λ x lx.
      all-true m (t.iff ways (t.or first (t.and to on))) (x ∷ e) λ y ly.
      equivalence (truth ways m (y ∷ x ∷ e)) (truth (t.or first (t.and to on)) m (y ∷ x ∷ e))
      (λ h. elim (one-to m.last (values m old) (values m new) u.place a v stay change in_a in_v single back x y lx (true-way m inside new closed_new (t.bound 1) (t.bound 0) (y ∷ x ∷ e) x y refl refl h)) [
        | inl r ↦ or-first m first (t.and to on) (y ∷ x ∷ e) (stops-true m inside old closed_old u closed_at closed_field (t.bound 1) (t.bound 0) (y ∷ x ∷ e) x y refl refl lx ly r)
        | inr r ↦
            or-second m first (t.and to on) (y ∷ x ∷ e)
            (and-true m to on (y ∷ x ∷ e)
            (way-true m inside old closed_old (t.bound 1) u.at (y ∷ x ∷ e) x a refl (term-same m u.at (y ∷ x ∷ e) closed_at) lx in_a r.0)
            (stops-true m inside old closed_old u closed_at closed_field u.value (t.bound 0) (y ∷ x ∷ e) v y (term-same m u.value (y ∷ x ∷ e) closed_value) refl in_v ly r.1))
      ])
      (λ h. way-true m inside new closed_new (t.bound 1) (t.bound 0) (y ∷ x ∷ e) x y refl refl lx ly
      (one-from m.last (values m old) (values m new) u.place a v stay change in_a in_v single back x y lx
      (elim (or_cases (truth first m (y ∷ x ∷ e)) (truth (t.and to on) m (y ∷ x ∷ e)) h) [
        | inl r ↦ inl (true-stops m inside old closed_old u closed_at closed_field (t.bound 1) (t.bound 0) (y ∷ x ∷ e) x y refl refl lx ly r)
        | inr r ↦
            inr (
              true-way m inside old closed_old (t.bound 1) u.at (y ∷ x ∷ e) x a refl (term-same m u.at (y ∷ x ∷ e) closed_at) (and-left m to on (y ∷ x ∷ e) r),
              true-stops m inside old closed_old u closed_at closed_field u.value (t.bound 0) (y ∷ x ∷ e) v y (term-same m u.value (y ∷ x ∷ e) closed_value) refl in_v ly (and-right m to on (y ∷ x ∷ e) r),
            )
      ])))

  changed_several-true : (e : List ℕ) → truth (changed_several new old u.field u.at u.value) m e ≡ true
  changed_several-true e =
      let a = term_value u.at m [] in
      let v = term_value u.value m [] in
      let in_a = value-inside m inside u.at in
      let in_v = value-inside m inside u.value in
      let in_child = stay u.place a change.place in_a in
      let ways = way new (t.bound 1) (t.bound 0) in
      let first = leaves_out old u.field u.at (t.bound 1) (t.bound 0) in
      let to = way old (t.bound 1) u.at in
      let other = differ u.value t.null in
      let on = leaves_out old u.field u.at u.value (t.bound 0) in
      let second = t.and to (t.and other on) in
      let body = t.implies (differ (t.bound 0) t.null) (t.iff ways (t.or first second)) in
      all-true m (t.all body) e λ x lx.
      all-true m body (x ∷ e) λ y ly.
      implies-true m (differ (t.bound 0) t.null) (t.iff ways (t.or first second)) (y ∷ x ∷ e) λ g.
      let ne = true-differ m (t.bound 0) t.null (y ∷ x ∷ e) y 0 refl refl g in
      equivalence (truth ways m (y ∷ x ∷ e)) (truth (t.or first second) m (y ∷ x ∷ e))
      (λ h. elim (several-to m.last (values m old) (values m new) u.place a v stay change in_a in_v null trees not_null x y lx ne (true-way m inside new closed_new (t.bound 1) (t.bound 0) (y ∷ x ∷ e) x y refl refl h)) [
        | inl r ↦ or-first m first second (y ∷ x ∷ e) (left_out-true m inside old closed_old u closed_at closed_field (t.bound 1) (t.bound 0) (y ∷ x ∷ e) x y refl refl lx ly u.place child_at in_child r)
        | inr r ↦
            or-second m first second (y ∷ x ∷ e)
            (and-true m to (t.and other on) (y ∷ x ∷ e)
            (way-true m inside old closed_old (t.bound 1) u.at (y ∷ x ∷ e) x a refl (term-same m u.at (y ∷ x ∷ e) closed_at) lx in_a r.0)
            (and-true m other on (y ∷ x ∷ e)
            (differ-true m u.value t.null (y ∷ x ∷ e) v 0 (term-same m u.value (y ∷ x ∷ e) closed_value) refl r.1)
            (left_out-true m inside old closed_old u closed_at closed_field u.value (t.bound 0) (y ∷ x ∷ e) v y (term-same m u.value (y ∷ x ∷ e) closed_value) refl in_v ly u.place child_at in_child r.2)))
      ])
      (λ h. way-true m inside new closed_new (t.bound 1) (t.bound 0) (y ∷ x ∷ e) x y refl refl lx ly
      (several-from m.last (values m old) (values m new) u.place a v stay change in_a in_v null trees not_null x y lx ne
      (elim (or_cases (truth first m (y ∷ x ∷ e)) (truth second m (y ∷ x ∷ e)) h) [
        | inl r ↦ inl (true-left_out m inside old closed_old u closed_at closed_field (t.bound 1) (t.bound 0) (y ∷ x ∷ e) x y refl refl lx ly u.place child_at in_child r)
        | inr r ↦
            let rest = and-right m to (t.and other on) (y ∷ x ∷ e) r in
            inr (
              true-way m inside old closed_old (t.bound 1) u.at (y ∷ x ∷ e) x a refl (term-same m u.at (y ∷ x ∷ e) closed_at) (and-left m to (t.and other on) (y ∷ x ∷ e) r),
              true-differ m u.value t.null (y ∷ x ∷ e) v 0 (term-same m u.value (y ∷ x ∷ e) closed_value) refl (and-left m other on (y ∷ x ∷ e) rest),
              true-left_out m inside old closed_old u closed_at closed_field u.value (t.bound 0) (y ∷ x ∷ e) v y (term-same m u.value (y ∷ x ∷ e) closed_value) refl in_v ly u.place child_at in_child (and-right m other on (y ∷ x ∷ e) rest),
            )
      ])))

only-place : (p i : ℕ) → p < 1 → i < 1 → i ≡ p
only-place p i lp li = omega arith

changed_ways-true : (m : Interp) (inside : InUniverse m) (new old : List FieldTree) (closed_new : AreClosed new) (closed_old : AreClosed old) (u : BaseTree) (closed_at : is_closed_term u.at 0 ≡ true) (closed_value : is_closed_term u.value 0 ≡ true) (closed_field : is_closed_field u.field 0 ≡ true)
    (change : Changed m.last (values m old) (values m new) u.place (term_value u.at m []) (term_value u.value m []))
    (child_at : edge (values m old) u.place (term_value u.at m []) ≡ (field_value u.field m []).objects (term_value u.at m []))
    (null : EndAtNull (values m old)) (trees : Forest m.last (values m old)) (not_null : term_value u.at m [] ≢ 0) (e : List ℕ) → truth (changed_ways new old u.field u.at u.value) m e ≡ true
changed_ways-true m inside new [] closed_new closed_old u at value field change child_at null trees ne e = changed_several-true m inside new [] closed_new closed_old u at value field change child_at null trees ne e
changed_ways-true m inside new (f ∷ []) closed_new closed_old u at value field change child_at null trees ne e =
    changed_one-true m inside new (f ∷ []) closed_new closed_old u at value field change child_at null trees ne (λ i lt. only-place u.place i change.place lt) e
changed_ways-true m inside new (f ∷ g ∷ fs) closed_new closed_old u at value field change child_at null trees ne e =
    changed_several-true m inside new (f ∷ g ∷ fs) closed_new closed_old u at value field change child_at null trees ne e

pub axiom_of_update-true : (m : Interp) → InUniverse m → (fs : List FieldTree) → AreClosed fs → (u : BaseTree) → IsBase fs u → IsThatUpdate m fs u → (e : List ℕ) → truth (axiom_of_update fs u) m e ≡ true
axiom_of_update-true m inside fs closed u base update e =
    let old = before fs u in
    let closed_old = set-closed fs u.place u.field closed base.field in
    let ends = t.and (end_at_null old) (differ u.at t.null) in
    implies-true m (t.and (forest old) ends) (changed_ways fs old u.field u.at u.value) e λ h.
    let rest = and-right m (forest old) ends e h in
    changed_ways-true m inside fs old closed closed_old u base.at base.value base.field
    (is-changed m fs u base update (value-inside m inside u.at))
    (set-there m fs u.place u.field (term_value u.at m []) base.place)
    (true-ends m inside old closed_old e (and-left m (end_at_null old) (differ u.at t.null) e rest))
    (forest-of m.last (values m old) (values-stay m inside old) (true-forest m inside old closed_old e (and-left m (forest old) ends e h)))
    (true-differ m u.at t.null e (term_value u.at m []) 0 (term-same m u.at e base.at) refl (and-right m (end_at_null old) (differ u.at t.null) e rest))
    e
