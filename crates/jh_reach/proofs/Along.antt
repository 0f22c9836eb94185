-- Formulas about a list of fields without loose bound variables, as facts about the values of the fields.
use Rattle.std.proofs.Common.{◌≡◌, refl, sym, ap, ◌∙◌, ℕ, zero, suc, ◌<◌, ◌≢◌, true, List, [], ◌∷◌, map, slice_get, slice_index, Some, length, arith}
use Rattle.std.proofs.lemmas.Bool.{eqb-true, eq-eqb}
use Rattle.jh_form.specs.Tree.{TermTree, FieldTree, FormulaTree, FieldTrees, of_object}
use Rattle.jh_form.specs.Tree as t
use Rattle.jh_form.specs.Closed.{is_closed_term, is_closed_field}
use Rattle.jh_form.specs.Meaning.{Fields, Interp, InUniverse, reaches, is_forest, edge, term_value, field_value, fields_value, truth}
use Rattle.jh_form.proofs.ClosedLemmas.{term_value-closed, field_value-closed}
use Rattle.jh_form.proofs.Universes.{term_inside, field_inside}
use Rattle.jh_reach.specs.Axioms.{listed, child, differ, way, forest, ends_at_null, end_at_null}
use Rattle.jh_reach.specs.Truths.{AreClosed}
use Rattle.jh_reach.proofs.Paths.{Reaches, StayInside, EndAtNull}
use Rattle.jh_reach.proofs.Shortening.{reach-true, true-reach}
use Rattle.jh_reach.proofs.Logic.{negated, not-both, true-joined, true-each}

module _ (m : Interp) where
  -- what the fields of a list are
  abbrev pub values : List FieldTree → List Fields
  values fs = map (λ f. field_value f m []) fs

  -- terms and fields without loose bound variables mean the same everywhere
  pub field-same : (f : FieldTree) (e : List ℕ) → is_closed_field f 0 ≡ true → field_value f m e ≡ field_value f m []
  field-same f e h = field_value-closed f m 0 e [] (λ k lt. absurd (omega arith)) h

  pub term-same : (a : TermTree) (e : List ℕ) → is_closed_term a 0 ≡ true → term_value a m e ≡ term_value a m []
  term-same a e h = term_value-closed a m 0 e [] (λ k lt. absurd (omega arith)) h

  fields-same : (fs : List FieldTree) (e : List ℕ) → AreClosed fs → fields_value (listed fs) m e ≡ values fs
  fields-same [] e h = refl
  fields-same (f ∷ fs) e h = λ i. field-same f e (h 0 f refl) i ∷ fields-same fs e (λ k g at. h (suc k) g at) i

  pub edge-at : (fs : List FieldTree) (i : ℕ) (f : FieldTree) (x : ℕ) → slice_get fs i ≡ Some f → edge (values fs) i x ≡ (field_value f m []).objects x
  edge-at [] i f x at = absurd (cc)
  edge-at (g ∷ fs) zero f x at = let same : g ≡ f = cc in ap (λ z. (field_value z m []).objects x) same
  edge-at (g ∷ fs) (suc i) f x at = edge-at fs i f x at

  -- the field at a place
  pub field-at : (fs : List FieldTree) (i : ℕ) → i < length (values fs) → (f : FieldTree) × (slice_get fs i ≡ Some f)
  field-at [] i lt = absurd (omega arith)
  field-at (f ∷ fs) zero lt = (f, refl)
  field-at (f ∷ fs) (suc i) lt = field-at fs i (omega arith)

  pub place-of : (fs : List FieldTree) (i : ℕ) (f : FieldTree) → slice_get fs i ≡ Some f → i < length (values fs)
  place-of [] i f at = absurd (cc)
  place-of (g ∷ fs) zero f at = omega arith
  place-of (g ∷ fs) (suc i) f at = let lt = place-of fs i f at in omega arith

  -- equations
  pub same-true : (a b : TermTree) (e : List ℕ) (x y : ℕ) → term_value a m e ≡ x → term_value b m e ≡ y → x ≡ y → truth (t.eq_object a b) m e ≡ true
  same-true a b e x y is_a is_b h = eq-eqb (term_value a m e) (term_value b m e) (is_a ∙ h ∙ sym is_b)

  pub true-same : (a b : TermTree) (e : List ℕ) (x y : ℕ) → term_value a m e ≡ x → term_value b m e ≡ y → truth (t.eq_object a b) m e ≡ true → x ≡ y
  true-same a b e x y is_a is_b h = sym is_a ∙ eqb-true (term_value a m e) (term_value b m e) h ∙ is_b

  pub differ-true : (a b : TermTree) (e : List ℕ) (x y : ℕ) → term_value a m e ≡ x → term_value b m e ≡ y → x ≢ y → truth (differ a b) m e ≡ true
  differ-true a b e x y is_a is_b ne = negated (truth (t.eq_object a b) m e) (λ h. ne (true-same a b e x y is_a is_b h))

  pub true-differ : (a b : TermTree) (e : List ℕ) (x y : ℕ) → term_value a m e ≡ x → term_value b m e ≡ y → truth (differ a b) m e ≡ true → x ≢ y
  true-differ a b e x y is_a is_b h same = not-both (truth (t.eq_object a b) m e) h (same-true a b e x y is_a is_b same)

  module _ (inside : InUniverse m) where
    none_outside : (k : ℕ) → slice_index [] k < suc m.last
    none_outside k = omega arith

    pub value-inside : (a : TermTree) → term_value a m [] < suc m.last
    value-inside a = term_inside m inside [] none_outside a

    pub values-stay : (fs : List FieldTree) → StayInside m.last (values fs)
    values-stay [] i x lt lx = absurd (omega arith)
    values-stay (f ∷ fs) zero x lt lx = field_inside m inside [] none_outside f x lx
    values-stay (f ∷ fs) (suc i) x lt lx = values-stay fs i x (omega arith) lx

    module _ (fs : List FieldTree) (closed : AreClosed fs) where
      -- where a field leads
      pub child-is : (i : ℕ) (f : FieldTree) (a : TermTree) (e : List ℕ) (x : ℕ) → slice_get fs i ≡ Some f → term_value a m e ≡ x → term_value (child f a) m e ≡ edge (values fs) i x
      child-is i f a e x at is = (λ j. (field-same f e (closed i f at) j).objects (is j)) ∙ sym (edge-at fs i f x at)

      pub edge-inside : (i : ℕ) (f : FieldTree) (x : ℕ) → slice_get fs i ≡ Some f → x < suc m.last → edge (values fs) i x < suc m.last
      edge-inside i f x at lx = values-stay fs i x (place-of fs i f at) lx

      -- ways
      pub way-true : (a b : TermTree) (e : List ℕ) (x y : ℕ) → term_value a m e ≡ x → term_value b m e ≡ y → x < suc m.last → y < suc m.last → Reaches (values fs) x y → truth (way fs a b) m e ≡ true
      way-true a b e x y is_a is_b lx ly r = (λ i. reaches m.last (fields-same fs e closed i) (is_a i) (is_b i)) ∙ reach-true m.last (values fs) x y (values-stay fs) lx ly r

      pub true-way : (a b : TermTree) (e : List ℕ) (x y : ℕ) → term_value a m e ≡ x → term_value b m e ≡ y → truth (way fs a b) m e ≡ true → Reaches (values fs) x y
      true-way a b e x y is_a is_b h = true-reach m.last (values fs) x y (sym (λ i. reaches m.last (fields-same fs e closed i) (is_a i) (is_b i)) ∙ h)

      pub true-forest : (e : List ℕ) → truth (forest fs) m e ≡ true → is_forest m.last (values fs) ≡ true
      true-forest e h = sym (ap (is_forest m.last) (fields-same fs e closed)) ∙ h

      pub true-ends : (e : List ℕ) → truth (end_at_null fs) m e ≡ true → EndAtNull (values fs)
      true-ends e h i lt =
          let f = field-at fs i lt in
          sym (child-is i f.0 t.null e 0 f.1 refl) ∙ true-same (child f.0 t.null) t.null e (term_value (child f.0 t.null) m e) 0 refl refl (true-each m fs ends_at_null e i f.0 (true-joined m (map ends_at_null fs) e h) f.1)
