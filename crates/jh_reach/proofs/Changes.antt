-- Paths before and after one object's value at one field changed.
use Rattle.std.proofs.Common.{◌≡◌, sym, ◌∙◌, subst, ℕ, zero, suc, ◌<◌, ◌≢◌, List, length, inl, inr, arith}
use Rattle.std.specs.Prelude.{◌⊎◌}
use Rattle.std.proofs.lemmas.Bool.{cases_eq}
use Rattle.jh_form.specs.Meaning.{Fields, edge}
use Rattle.jh_reach.proofs.Paths.{Path, Reaches, StayInside, EndAtNull, reach-step, reach-joined, reach-same, not-null}
use Rattle.jh_reach.proofs.Forests.{Forest, one-edge}

-- The fields at p lead from a to v in the new list; all other edges are those of the old one.
pub record Changed (last : ℕ) (old new : List Fields) (p a v : ℕ) : Type 0 where
  pub lengths : length new ≡ length old
  pub place : p < length old
  pub at : edge new p a ≡ v
  pub others : (i x : ℕ) → i < length old → x < suc last → (i ≡ p → x ≡ a → ⊥) → edge new i x ≡ edge old i x

-- an edge is the one that changed, or another
is_it : (i p x a : ℕ) → ((i ≡ p) × (x ≡ a)) ⊎ (i ≡ p → x ≡ a → ⊥)
is_it i p x a =
    elim (cases_eq i p) [
      | inl e ↦ elim (cases_eq x a) [ inl h ↦ inl (e, h) | inr h ↦ inr (λ _ k. h k) ]
      | inr e ↦ inr (λ k _. e k)
    ]

module _ (last : ℕ) (old new : List Fields) (p a v : ℕ) (stay : StayInside last old) (change : Changed last old new p a v) (in_a : a < suc last) (in_v : v < suc last) where
  old_place : (i : ℕ) → i < length new → i < length old
  old_place i lt = let same = change.lengths in omega arith

  new_place : (i : ℕ) → i < length old → i < length new
  new_place i lt = let same = change.lengths in omega arith

  -- to the object that changed, the old way is a new one
  to_changed : (k x : ℕ) → x < suc last → Path old k x a → Reaches new x a
  to_changed zero x lx q = reach-same new x a q
  to_changed (suc k) x lx q =
      elim (is_it q.0 p x a) [
        | inl it ↦ reach-same new x a it.1
        | inr other ↦
            reach-step new q.0 x a (new_place q.0 q.1)
            (subst (λ (z : ℕ). Reaches new z a) (sym (change.others q.0 x q.1 lx other)) (to_changed k (edge old q.0 x) (stay q.0 x q.1 lx) q.2))
      ]

  -- by the changed edge to its new end, and on
  through : (x y : ℕ) → x < suc last → Reaches old x a → Reaches new v y → Reaches new x y
  through x y lx r s =
      reach-joined new x a y (to_changed r.0 x lx r.1)
      (reach-step new p a y (new_place p change.place) (subst (λ (z : ℕ). Reaches new z y) (sym change.at) s))

  -- Along one field
  module _ (single : (i : ℕ) → i < length old → i ≡ p) (acyclic : Reaches old (edge old p a) a → ⊥) where
    -- an old way that doesn't pass the place of the change
    abbrev pub Before : ℕ → ℕ → Type 0
    Before x y = Reaches old x y × (Reaches old x a → Reaches old y a)

    kept_one : (k x y : ℕ) → x < suc last → Path old k x y → (Reaches old x a → Reaches old y a) → Reaches new x y
    kept_one zero x y lx q h = reach-same new x y q
    kept_one (suc k) x y lx q h =
        elim (cases_eq x a) [
          | inl e ↦
              let from_a : Reaches old (edge old q.0 x) a = reach-joined old (edge old q.0 x) y a (k, q.2) (h (reach-same old x a e)) in
              absurd (acyclic (subst (λ (z : ℕ). Reaches old z a) ((λ i. edge old (single q.0 q.1 i) (e i))) from_a))
          | inr e ↦
              reach-step new q.0 x y (new_place q.0 q.1)
              (subst (λ (z : ℕ). Reaches new z y) (sym (change.others q.0 x q.1 lx (λ _ same. e same)))
              (kept_one k (edge old q.0 x) y (stay q.0 x q.1 lx) q.2 (λ r. h (reach-step old q.0 x a q.1 r))))
        ]

    pub one-from : (x y : ℕ) → x < suc last → Before x y ⊎ (Reaches old x a × Before v y) → Reaches new x y
    one-from x y lx ways =
        elim ways [
          | inl b ↦ kept_one b.0.0 x y lx b.0.1 b.1
          | inr b ↦ through x y lx b.0 (kept_one b.1.0.0 v y in_v b.1.0.1 b.1.1)
        ]

    -- what is reached from another object than the goal is reached from its child
    beyond : (k x i : ℕ) → i < length old → Path old k x a → (x ≡ a → ⊥) → Reaches old (edge old i x) a
    beyond zero x i lt q ne = absurd (ne q)
    beyond (suc k) x i lt q ne = (k, subst (λ (j : ℕ). Path old k (edge old j x) a) (single q.0 q.1 ∙ sym (single i lt)) q.2)

    one_to : (k x y : ℕ) → x < suc last → Path new k x y → Before x y ⊎ (Reaches old x a × Before v y)
    one_to zero x y lx q = inl (reach-same old x y q, λ r. subst (λ (z : ℕ). Reaches old z a) q r)
    one_to (suc k) x y lx q =
        elim (cases_eq x a) [
          | inl e ↦
              let at_v : edge new q.0 x ≡ v = (λ i. edge new (single q.0 (old_place q.0 q.1) i) (e i)) ∙ change.at in
              inr (reach-same old x a e, elim (one_to k v y in_v (subst (λ (z : ℕ). Path new k z y) at_v q.2)) as (λ _. Before v y) [ inl b ↦ b | inr b ↦ b.1 ])
          | inr e ↦
              let lt = old_place q.0 q.1 in
              let same : edge new q.0 x ≡ edge old q.0 x = change.others q.0 x lt lx (λ _ is. e is) in
              elim (one_to k (edge old q.0 x) y (stay q.0 x lt lx) (subst (λ (z : ℕ). Path new k z y) same q.2)) [
                | inl b ↦ inl (reach-step old q.0 x y lt b.0, λ r. b.1 (beyond r.0 x q.0 lt r.1 e))
                | inr b ↦ inr (reach-step old q.0 x a lt b.0, b.1)
              ]
        ]

    pub one-to : (x y : ℕ) → x < suc last → Reaches new x y → Before x y ⊎ (Reaches old x a × Before v y)
    one-to x y lx r = one_to r.0 x y lx r.1

  -- Along several fields
  module _ (null : EndAtNull old) (forest : Forest last old) (not_null : a ≢ 0) where
    -- an old way that doesn't use the edge that changed
    abbrev pub Without : ℕ → ℕ → Type 0
    Without x y = Reaches old x y × (edge old p a ≢ 0 → Reaches old x a → Reaches old (edge old p a) y → ⊥)

    kept_some : (k x y : ℕ) → x < suc last → y ≢ 0 → Path old k x y → (edge old p a ≢ 0 → Reaches old x a → Reaches old (edge old p a) y → ⊥) → Reaches new x y
    kept_some zero x y lx ne q h = reach-same new x y q
    kept_some (suc k) x y lx ne q h =
        elim (is_it q.0 p x a) [
          | inl it ↦
              let from : Reaches old (edge old p a) y = (k, subst (λ (z : ℕ). Path old k z y) (λ i. edge old (it.0 i) (it.1 i)) q.2) in
              absurd (h (not-null old (edge old p a) y null ne from) (reach-same old x a it.1) from)
          | inr other ↦
              reach-step new q.0 x y (new_place q.0 q.1)
              (subst (λ (z : ℕ). Reaches new z y) (sym (change.others q.0 x q.1 lx other))
              (kept_some k (edge old q.0 x) y (stay q.0 x q.1 lx) ne q.2 (λ e r s. h e (reach-step old q.0 x a q.1 r) s)))
        ]

    pub several-from : (x y : ℕ) → x < suc last → y ≢ 0 → Without x y ⊎ (Reaches old x a × (v ≢ 0) × Without v y) → Reaches new x y
    several-from x y lx ne ways =
        elim ways [
          | inl b ↦ kept_some b.0.0 x y lx ne b.0.1 b.1
          | inr b ↦ through x y lx b.0 (kept_some b.2.0.0 v y in_v ne b.2.0.1 b.2.1)
        ]

    -- Where another edge of x leads to y, the changed edge isn't on a way from x to y, unless it is on the one from there.
    apart : (k x y i : ℕ) → x < suc last → y ≢ 0 → i < length old → (i ≡ p → x ≡ a → ⊥) → Reaches old (edge old i x) y →
        (edge old p a ≢ 0 → Reaches old (edge old i x) a → Reaches old (edge old p a) y → ⊥) →
        edge old p a ≢ 0 → Path old k x a → Reaches old (edge old p a) y → ⊥
    apart zero x y i lx ne lt other way h child r s =
        other (one-edge last old stay null forest i p x y lt change.place lx ne way (subst (λ (z : ℕ). Reaches old (edge old p z) y) (sym r) s)) r
    apart (suc k) x y i lx ne lt other way h child r s =
        let down : Reaches old (edge old r.0 x) y = reach-joined old (edge old r.0 x) a y (k, r.2) (reach-step old p a y change.place s) in
        let same : r.0 ≡ i = one-edge last old stay null forest r.0 i x y r.1 lt lx ne down way in
        h child (k, subst (λ (j : ℕ). Path old k (edge old j x) a) same r.2) s

    several_to : (k x y : ℕ) → x < suc last → y ≢ 0 → Path new k x y → Without x y ⊎ (Reaches old x a × (v ≢ 0) × Without v y)
    several_to zero x y lx ne q =
        inl (
          reach-same old x y q,
          λ child r s. forest.acyclic p a change.place in_a not_null (reach-joined old (edge old p a) y a s (subst (λ (z : ℕ). Reaches old z a) q r)),
        )
    several_to (suc k) x y lx ne q =
        let lt = old_place q.0 q.1 in
        elim (is_it q.0 p x a) [
          | inl it ↦
              let at_v : edge new q.0 x ≡ v = (λ i. edge new (it.0 i) (it.1 i)) ∙ change.at in
              elim (several_to k v y in_v ne (subst (λ (z : ℕ). Path new k z y) at_v q.2)) [
                | inl b ↦ inr (reach-same old x a it.1, not-null old v y null ne b.0, b)
                | inr b ↦ inr (reach-same old x a it.1, b.1, b.2)
              ]
          | inr other ↦
              let same : edge new q.0 x ≡ edge old q.0 x = change.others q.0 x lt lx other in
              elim (several_to k (edge old q.0 x) y (stay q.0 x lt lx) ne (subst (λ (z : ℕ). Path new k z y) same q.2)) [
                | inl b ↦ inl (reach-step old q.0 x y lt b.0, λ child r s. apart r.0 x y q.0 lx ne lt other b.0 b.1 child r.1 s)
                | inr b ↦ inr (reach-step old q.0 x a lt b.0, b.1, b.2)
              ]
        ]

    pub several-to : (x y : ℕ) → x < suc last → y ≢ 0 → Reaches new x y → Without x y ⊎ (Reaches old x a × (v ≢ 0) × Without v y)
    several-to x y lx ne r = several_to r.0 x y lx ne r.1
