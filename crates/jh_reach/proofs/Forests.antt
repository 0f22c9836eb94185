-- Paths where the fields are the edges of a forest: from an object that isn't null there is one way up, so two paths to it
-- are one behind the other, and two different edges of an object don't lead to it.
use Rattle.std.proofs.Common.{◌≡◌, sym, ap, ◌∙◌, subst, ℕ, zero, suc, ◌<◌, ◌≢◌, ◌==◌, true, ◌&&◌, ◌||◌, not, List, length, inl, inr}
use Rattle.std.specs.Prelude.{◌⊎◌}
use Rattle.std.specs.List.{list_all}
use Rattle.std.proofs.lemmas.Bool.{or_cases, eqb-true, eq-eqb, not-true, true≢false}
use Rattle.jh_form.specs.Meaning.{Fields, edge, reaches, every, all_below, no_cycle, no_sharing, is_forest}
use Rattle.jh_form.proofs.ClosedLemmas.{both-left, both-right}
use Rattle.jh_reach.proofs.Counts.{all-below}
use Rattle.jh_reach.proofs.Paths.{Path, Reaches, StayInside, EndAtNull, all-edge, reach-step, path-last, path-inside, not-null}
use Rattle.jh_reach.proofs.Shortening.{reach-true}

-- what the definition of a forest says of paths
pub record Forest (last : ℕ) (fs : List Fields) : Type 0 where
  pub acyclic : (i x : ℕ) → i < length fs → x < suc last → x ≢ 0 → Reaches fs (edge fs i x) x → ⊥
  pub unshared : (i j x y : ℕ) → i < length fs → j < length fs → x < suc last → y < suc last → edge fs i x ≡ edge fs j y → edge fs i x ≢ 0 → (x ≡ y) × (i ≡ j)

module _ (last : ℕ) (fs : List Fields) (stay : StayInside last fs) (forest : is_forest last fs ≡ true) where
  no_way_back : (i x : ℕ) → i < length fs → x < suc last → x ≢ 0 → Reaches fs (edge fs i x) x → ⊥
  no_way_back i x lt inside ne r =
      let each = all-below (suc last) x (λ y. y == 0 || list_all (λ f. not (reaches last fs (f.objects y) y)) fs) (both-left (no_cycle last fs) (no_sharing last fs) forest) inside in
      elim (or_cases (x == 0) (list_all (λ f. not (reaches last fs (f.objects x) x)) fs) each) [
        | inl e ↦ ne (eqb-true x 0 e)
        | inr e ↦
            let apart = all-edge fs (λ c. not (reaches last fs c x)) x i lt e in
            true≢false (sym (reach-true last fs (edge fs i x) x stay (stay i x lt inside) inside r) ∙ not-true (reaches last fs (edge fs i x) x) apart)
      ]

  one_parent : (i j x y : ℕ) → i < length fs → j < length fs → x < suc last → y < suc last → edge fs i x ≡ edge fs j y → edge fs i x ≢ 0 → (x ≡ y) × (i ≡ j)
  one_parent i j x y li lj lx ly same ne =
      let at_x = all-below (suc last) x (λ x. every last (λ y. all_below (length fs) (λ i. all_below (length fs) (λ j. (x == y && i == j) || not (edge fs i x == edge fs j y) || edge fs i x == 0)))) (both-right (no_cycle last fs) (no_sharing last fs) forest) lx in
      let at_y = all-below (suc last) y (λ y. all_below (length fs) (λ i. all_below (length fs) (λ j. (x == y && i == j) || not (edge fs i x == edge fs j y) || edge fs i x == 0))) at_x ly in
      let at_i = all-below (length fs) i (λ i. all_below (length fs) (λ j. (x == y && i == j) || not (edge fs i x == edge fs j y) || edge fs i x == 0)) at_y li in
      let at_j = all-below (length fs) j (λ j. (x == y && i == j) || not (edge fs i x == edge fs j y) || edge fs i x == 0) at_i lj in
      elim (or_cases ((x == y && i == j) || not (edge fs i x == edge fs j y)) (edge fs i x == 0) at_j) [
        | inl e ↦
            elim (or_cases (x == y && i == j) (not (edge fs i x == edge fs j y)) e) [
              | inl k ↦ (eqb-true x y (both-left (x == y) (i == j) k), eqb-true i j (both-right (x == y) (i == j) k))
              | inr k ↦ absurd (true≢false (sym (eq-eqb (edge fs i x) (edge fs j y) same) ∙ not-true (edge fs i x == edge fs j y) k))
            ]
        | inr e ↦ absurd (ne (eqb-true (edge fs i x) 0 e))
      ]

  pub forest-of : Forest last fs
  forest-of = record { acyclic = no_way_back; unshared = one_parent }

module _ (last : ℕ) (fs : List Fields) (stay : StayInside last fs) (null : EndAtNull fs) (forest : Forest last fs) where
  -- an edge to an object that isn't null is from one that isn't
  from_edge : (i w z : ℕ) → i < length fs → edge fs i w ≡ z → z ≢ 0 → w ≢ 0
  from_edge i w z lt e ne is_null = ne (sym e ∙ ap (edge fs i) is_null ∙ null i lt)

  -- two paths to an object that isn't null are one behind the other
  paths-up : (j k x y z : ℕ) → x < suc last → y < suc last → Path fs j x z → Path fs k y z → z ≢ 0 → Reaches fs x y ⊎ Reaches fs y x
  paths-up zero k x y z lx ly p q ne = inr (k, subst (λ (w : ℕ). Path fs k y w) (sym p) q)
  paths-up (suc j) zero x y z lx ly p q ne = inl (suc j, subst (λ (w : ℕ). Path fs (suc j) x w) (sym q) p)
  paths-up (suc j) (suc k) x y z lx ly p q ne =
      let a = path-last fs j x z p in
      let b = path-last fs k y z q in
      let in_a = path-inside fs last j x a.0 stay lx a.3 in
      let in_b = path-inside fs last k y b.0 stay ly b.3 in
      let same = forest.unshared a.1 b.1 a.0 b.0 a.2 b.2 in_a in_b (a.4 ∙ sym b.4) (λ e. ne (sym a.4 ∙ e)) in
      paths-up j k x y a.0 lx ly a.3 (subst (λ (w : ℕ). Path fs k y w) (sym same.0) b.3) (from_edge a.1 a.0 z a.2 a.4 ne)

  pub reaches-up : (x y z : ℕ) → x < suc last → y < suc last → Reaches fs x z → Reaches fs y z → z ≢ 0 → Reaches fs x y ⊎ Reaches fs y x
  reaches-up x y z lx ly p q ne = paths-up p.0 q.0 x y z lx ly p.1 q.1 ne

  -- one child of an object is reached from another one only where they are by one edge
  from_child : (k i j x : ℕ) → i < length fs → j < length fs → x < suc last → x ≢ 0 → edge fs j x ≢ 0 → Path fs k (edge fs i x) (edge fs j x) → i ≡ j
  from_child zero i j x li lj lx ne child p = (forest.unshared i j x x li lj lx lx p (λ e. child (sym p ∙ e))).1
  from_child (suc k) i j x li lj lx ne child p =
      let a = path-last fs k (edge fs i x) (edge fs j x) p in
      let in_a = path-inside fs last k (edge fs i x) a.0 stay (stay i x li lx) a.3 in
      let same = forest.unshared a.1 j a.0 x a.2 lj in_a lx a.4 (λ e. child (sym a.4 ∙ e)) in
      absurd (forest.acyclic i x li lx ne (k, subst (λ (w : ℕ). Path fs k (edge fs i x) w) same.0 a.3))

  -- two edges of an object that both lead to one that isn't null are one edge
  pub one-edge : (i j x y : ℕ) → i < length fs → j < length fs → x < suc last → y ≢ 0 → Reaches fs (edge fs i x) y → Reaches fs (edge fs j x) y → i ≡ j
  one-edge i j x y li lj lx ne p q =
      let at_x : x ≢ 0 = not-null fs x y null ne (reach-step fs i x y li p) in
      let at_i : edge fs i x ≢ 0 = not-null fs (edge fs i x) y null ne p in
      let at_j : edge fs j x ≢ 0 = not-null fs (edge fs j x) y null ne q in
      elim (reaches-up (edge fs i x) (edge fs j x) y (stay i x li lx) (stay j x lj lx) p q ne) [
        | inl r ↦ from_child r.0 i j x li lj lx at_x at_j r.1
        | inr r ↦ sym (from_child r.0 j i x lj li lx at_x at_i r.1)
      ]

-- along one field two paths from an object are one behind the other
module _ (fs : List Fields) (one : (i j a : ℕ) → i < length fs → j < length fs → edge fs i a ≡ edge fs j a) where
  paths-on : (j k a b c : ℕ) → Path fs j a b → Path fs k a c → Reaches fs b c ⊎ Reaches fs c b
  paths-on zero k a b c p q = inl (k, subst (λ (w : ℕ). Path fs k w c) p q)
  paths-on (suc j) zero a b c p q = inr (suc j, subst (λ (w : ℕ). Path fs (suc j) w b) q p)
  paths-on (suc j) (suc k) a b c p q =
      paths-on j k (edge fs p.0 a) b c p.2 (subst (λ (w : ℕ). Path fs k w c) (one q.0 p.0 a q.1 p.1) q.2)

  pub reaches-on : (a b c : ℕ) → Reaches fs a b → Reaches fs a c → Reaches fs b c ⊎ Reaches fs c b
  reaches-on a b c p q = paths-on p.0 q.0 a b c p.1 q.1
