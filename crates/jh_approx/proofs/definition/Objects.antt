-- The objects of elements: one for each class.
use Rattle.std.proofs.Common.{◌≡◌, refl, sym, ap, ◌∙◌, subst, ℕ, zero, suc, ◌+◌, ◌<◌, ◌==◌, Bool, true, false, not, if◌then◌else◌, List, [], ◌∷◌, length, get_or, arith, add-one, ◌⊎◌, inl, inr}
use Rattle.std.specs.Prelude.{filter}
use Rattle.std.specs.List.{list_all}
use Rattle.std.proofs.lemmas.Bool.{eqb-true, eq-eqb, true≢false, false_from_ne_true}
use Rattle.jh_query.specs.declared.queries.sizes.Spot.{Spot}
use Rattle.jh_query.specs.queries.Sizing.{Sizing}
use Rattle.jh_query.specs.queries.Truth.{nowhere, spot_of}
use Rattle.jh_approx.specs.definition.Listed.{firsts, class_place, object_of}
use Rattle.jh_approx.proofs.definition.Counts.{sure, first, second, not-true}
use Rattle.jh_approx.proofs.definition.Filters.{filter-passes, filter-keeps}

-- a spot is one of a list
abbrev pub Within : Spot → List Spot → Type 0
Within s [] = ⊥
Within s (t ∷ ts) = (t ≡ s) ⊎ Within s ts

-- no class stands twice
abbrev pub Differ : List Spot → Type 0
Differ [] = Unit {0}
Differ (s ∷ spots) = (list_all (λ (u : Spot). not (u.class == s.class)) spots ≡ true) × Differ spots

module _ (p : Spot → Bool) where
  chosen-differ : (b : Bool) (s : Spot) (spots : List Spot) → list_all (λ (u : Spot). not (u.class == s.class)) spots ≡ true → Differ spots → Differ (if b then s ∷ spots else spots)
  chosen-differ true s spots h k = (h, k)
  chosen-differ false s spots h k = k

  filter-differ : (spots : List Spot) → Differ spots → Differ (filter p spots)
  filter-differ [] h = tt
  filter-differ (s ∷ spots) h = chosen-differ (p s) s (filter p spots) (filter-keeps p (λ (u : Spot). not (u.class == s.class)) spots h.0) (filter-differ spots h.1)

  chosen-within : (b : Bool) (s t : Spot) (spots : List Spot) → Within t (if b then s ∷ spots else spots) → (s ≡ t) ⊎ Within t spots
  chosen-within true s t spots h = h
  chosen-within false s t spots h = inr h

  filter-within : (t : Spot) (spots : List Spot) → Within t (filter p spots) → Within t spots
  filter-within t [] h = h
  filter-within t (s ∷ spots) h = elim (chosen-within (p s) s t (filter p spots) h) [ inl e ↦ inl e | inr k ↦ inr (filter-within t spots k) ]

  chosen-here : (b : Bool) (s t : Spot) (spots : List Spot) → b ≡ true → s ≡ t → Within t (if b then s ∷ spots else spots)
  chosen-here true s t spots h e = inl e
  chosen-here false s t spots h e = absurd (true≢false (sym h))

  chosen-later : (b : Bool) (s t : Spot) (spots : List Spot) → Within t spots → Within t (if b then s ∷ spots else spots)
  chosen-later true s t spots h = inr h
  chosen-later false s t spots h = h

  within-filter : (t : Spot) (spots : List Spot) → p t ≡ true → Within t spots → Within t (filter p spots)
  within-filter t [] e h = h
  within-filter t (s ∷ spots) e (inl k) = chosen-here (p s) s t (filter p spots) (ap p k ∙ e) k
  within-filter t (s ∷ spots) e (inr k) = chosen-later (p s) s t (filter p spots) (within-filter t spots e k)

pub firsts-differ : (spots : List Spot) → Differ (firsts spots)
firsts-differ [] = tt
firsts-differ (s ∷ spots) = (filter-passes (λ (u : Spot). not (u.class == s.class)) (firsts spots), filter-differ (λ (u : Spot). not (u.class == s.class)) (firsts spots) (firsts-differ spots))

-- the firsts are spots, and each class has one
pub firsts-within : (t : Spot) (spots : List Spot) → Within t (firsts spots) → Within t spots
firsts-within t [] h = h
firsts-within t (s ∷ spots) (inl e) = inl e
firsts-within t (s ∷ spots) (inr k) = inr (firsts-within t spots (filter-within (λ (u : Spot). not (u.class == s.class)) t (firsts spots) k))

pub class-first : (t : Spot) (spots : List Spot) → Within t spots → (u : Spot) × Within u (firsts spots) × (u.class ≡ t.class)
class-first t [] h = absurd h
class-first t (s ∷ spots) (inl e) = (s, inl refl, ap (λ (v : Spot). v.class) e)
class-first t (s ∷ spots) (inr k) =
    let found = class-first t spots k in
    elim (sure (found.0.class == s.class)) [
      | inl same ↦ (s, inl refl, sym (eqb-true found.0.class s.class same) ∙ found.2)
      | inr other ↦ (found.0, inr (within-filter (λ (u : Spot). not (u.class == s.class)) found.0 (firsts spots) (ap not other) found.1), found.2)
    ]

-- the place of a spot of a list without two of one class
pub record Stands (spots : List Spot) (u : Spot) (k : ℕ) : Type 0 where
  pub inside : k < length spots
  pub is : (d : Spot) → get_or spots k d ≡ u

far : (s u : Spot) (spots : List Spot) → list_all (λ (v : Spot). not (v.class == s.class)) spots ≡ true → Within u spots → (u.class == s.class) ≡ false
far s u [] h k = absurd k
far s u (t ∷ spots) h (inl e) = ap (λ (v : Spot). v.class == s.class) (sym e) ∙ not-true (t.class == s.class) (first (not (t.class == s.class)) (list_all (λ (v : Spot). not (v.class == s.class)) spots) h)
far s u (t ∷ spots) h (inr k) = far s u spots (second (not (t.class == s.class)) (list_all (λ (v : Spot). not (v.class == s.class)) spots) h) k

turned : (a b : ℕ) → (a == b) ≡ false → (b == a) ≡ false
turned a b h = false_from_ne_true (b == a) (λ e. true≢false (sym (eq-eqb a b (sym (eqb-true b a e))) ∙ h))

later : (s u : Spot) (spots : List Spot) (k : ℕ) (b : Bool) → b ≡ false → Stands spots u k → Stands (s ∷ spots) u (if b then 0 else k + 1)
later s u spots k true e h = absurd (true≢false e)
later s u spots k false e h = record { inside = let lt = h.inside in omega (arith, lt); is = λ d. ap (λ n. get_or (s ∷ spots) n d) (add-one k) ∙ h.is d }

here : (s u : Spot) (spots : List Spot) (k : ℕ) (b : Bool) → b ≡ true → s ≡ u → Stands (s ∷ spots) u (if b then 0 else k + 1)
here s u spots k true e same = record { inside = omega arith; is = λ d. same }
here s u spots k false e same = absurd (true≢false (sym e))

pub place-stands : (u : Spot) (spots : List Spot) → Differ spots → Within u spots → Stands spots u (class_place spots u.class)
place-stands u [] h k = absurd k
place-stands u (s ∷ spots) h (inl e) = here s u spots (class_place spots u.class) (s.class == u.class) (eq-eqb s.class u.class (ap (λ (v : Spot). v.class) e)) e
place-stands u (s ∷ spots) h (inr k) = later s u spots (class_place spots u.class) (s.class == u.class) (turned u.class s.class (far s u spots h.0 k)) (place-stands u spots h.1 k)

pub at-within : (spots : List Spot) (k : ℕ) → k < length spots → Within (get_or spots k nowhere) spots
at-within [] k lt = absurd (omega (arith, lt))
at-within (s ∷ spots) zero lt = inl refl
at-within (s ∷ spots) (suc k) lt = inr (at-within spots k (omega (arith, lt)))

-- where a spot stands, there is its place
pub place-is : (spots : List Spot) (k : ℕ) → Differ spots → k < length spots → class_place spots (get_or spots k nowhere).class ≡ k
place-is [] k h lt = absurd (omega (arith, lt))
place-is (s ∷ spots) zero h lt = ap (λ (b : Bool). if b then 0 else class_place spots s.class + 1) (eq-eqb s.class s.class refl)
place-is (s ∷ spots) (suc k) h lt =
    ap (λ (b : Bool). if b then 0 else class_place spots (get_or spots k nowhere).class + 1) (turned (get_or spots k nowhere).class s.class (far s (get_or spots k nowhere) spots h.0 (at-within spots k (omega (arith, lt)))))
    ∙ (let rest : class_place spots (get_or spots k nowhere).class ≡ k = place-is spots k h.1 (omega (arith, lt)) in omega (arith, rest))

pub within-at : (t : Spot) (spots : List Spot) → Within t spots → (k : ℕ) × (k < length spots) × (get_or spots k nowhere ≡ t)
within-at t [] h = absurd h
within-at t (s ∷ spots) (inl e) = (0, omega arith, e)
within-at t (s ∷ spots) (inr h) = let found = within-at t spots h in (suc found.0, omega (arith, found.1), found.2)

module _ (z : Sizing) where
  -- what an element is, among the firsts
  pub object-first : (i : ℕ) → i < length z.spots → (u : Spot) × Stands (firsts z.spots) u (object_of z i) × Within u z.spots × (u.class ≡ (spot_of z.spots i).class)
  object-first i lt =
      let found = class-first (spot_of z.spots i) z.spots (at-within z.spots i lt) in
      let stands : Stands (firsts z.spots) found.0 (class_place (firsts z.spots) found.0.class) = place-stands found.0 (firsts z.spots) (firsts-differ z.spots) found.1 in
      (found.0, subst (λ (c : ℕ). Stands (firsts z.spots) found.0 (class_place (firsts z.spots) c)) found.2 stands, firsts-within found.0 z.spots found.1, found.2)

  pub object-below : (i : ℕ) → i < length z.spots → object_of z i < length (firsts z.spots)
  object-below i lt = (object-first i lt).1.inside

  -- each of the firsts is the object of an element
  pub object-some : (k : ℕ) → k < length (firsts z.spots) → (i : ℕ) × (i < length z.spots) × (object_of z i ≡ k)
  object-some k lt =
      let found = within-at (get_or (firsts z.spots) k nowhere) z.spots (firsts-within (get_or (firsts z.spots) k nowhere) z.spots (at-within (firsts z.spots) k lt)) in
      (found.0, found.1, ap (λ (t : Spot). class_place (firsts z.spots) t.class) found.2 ∙ place-is (firsts z.spots) k (firsts-differ z.spots) lt)

  -- elements are one object exactly where they have one class
  pub objects-same : (i j : ℕ) → i < length z.spots → j < length z.spots → object_of z i ≡ object_of z j → (spot_of z.spots i).class ≡ (spot_of z.spots j).class
  objects-same i j l k same =
      let a = object-first i l in
      let b = object-first j k in
      sym a.3 ∙ ap (λ (t : Spot). t.class) (sym (a.1.is nowhere) ∙ ap (λ n. get_or (firsts z.spots) n nowhere) same ∙ b.1.is nowhere) ∙ b.3
