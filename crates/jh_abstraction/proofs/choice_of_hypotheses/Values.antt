-- Nodes and the values that stand at them.
use Rattle.std.proofs.Common.{◌≡◌, refl, sym, ap, subst, ◌∙◌, ℕ, true, not, inl, inr, List, [], ◌∷◌, map, slice_get, Some, nat_eq}
use Rattle.std.specs.Prelude.{filter}
use Rattle.std.proofs.lemmas.Bool.{true≢false, eqb-true, eq-eqb}
use Rattle.jh_form.specs.Tree.{ValueTree}
use Rattle.jh_boxed_operations.specs.comparison.Exchanged.{equal_trees}
use Rattle.jh_boxed_operations.proofs.comparison.Equalities.{equal_trees-true, equal_trees-same}
use Rattle.jh_approx.specs.definition.Names.{without_repeats}
use Rattle.jh_containers.specs.connected_component.Reaching.{has}
use Rattle.jh_query_names.specs.query_names.Gathered.{has_name}
use Rattle.jh_query_names.specs.query_names.Kinds.{value_at}
use Rattle.jh_query_names.specs.query_names.Finding.{values_at}
use Rattle.jh_query_names.proofs.query_names.Onces.{with-once, with-has}
use Rattle.jh_query_names.specs.mentioned_names.Notes.{AreTrees}
use Rattle.jh_query_names.proofs.mentioned_names.Listings.{head-same, rest-same, value-is}
use Rattle.jh_abstraction.proofs.choice_of_hypotheses.Lists.{either, in-front, behind, filter-in}

abbrev pub self_number : (n : ℕ) → nat_eq n n ≡ true
self_number n = eq-eqb n n refl

abbrev pub self_value : (v : ValueTree) → equal_trees v v ≡ true
self_value v = equal_trees-same v v refl

nothing-some : {X : Type 0} (x : X) (xs : List X) → [] ≡ x ∷ xs → ⊥
nothing-some x xs e = cc

-- ---- each once

pub once-has : (vs : List ValueTree) (v : ValueTree) → has_name vs v ≡ true → has_name (without_repeats vs) v ≡ true
once-has vs v h = subst (λ (ws : List ValueTree). has_name ws v ≡ true) (with-once vs) (with-has vs [] v h)

pub once-only : (vs : List ValueTree) (v : ValueTree) → has_name (without_repeats vs) v ≡ true → has_name vs v ≡ true
unfolding without_repeats
once-only [] v h = h
once-only (w ∷ vs) v h =
    elim (either (equal_trees v w) (has_name (filter (λ u. not (equal_trees w u)) (without_repeats vs)) v) h) [
      | inl e ↦ in-front (equal_trees v w) (has_name vs v) e
      | inr k ↦ behind (equal_trees v w) (has_name vs v) (once-only vs v (filter-in equal_trees equal_trees-true self_value (λ u. not (equal_trees w u)) (without_repeats vs) v k).0)
    ]

-- ---- trees at nodes

module _ (ts : List ValueTree) where
  pub trees-has : (ns : List ℕ) (vs : List ValueTree) → AreTrees ts ns vs → (n : ℕ) → has ns n ≡ true → (v : ValueTree) × (slice_get ts n ≡ Some v) × (has_name vs v ≡ true)
  trees-has [] vs are n h = absurd (true≢false (sym h))
  trees-has (m ∷ ns) [] are n h = absurd (nothing-some (slice_get ts m) (map (slice_get ts) ns) (sym are))
  trees-has (m ∷ ns) (w ∷ vs) are n h =
      elim (either (nat_eq n m) (has ns n) h) [
        | inl e ↦ (
          w,
          ap (slice_get ts) (eqb-true n m e) ∙ head-same (slice_get ts m) (Some w) (map (slice_get ts) ns) (map (λ v. Some v) vs) are,
          in-front (equal_trees w w) (has_name vs w) (self_value w),
        )
        | inr k ↦ let r = trees-has ns vs (rest-same (slice_get ts m) (Some w) (map (slice_get ts) ns) (map (λ v. Some v) vs) are) n k in (r.0, r.1, behind (equal_trees r.0 w) (has_name vs r.0) r.2)
      ]

  pub trees-back : (ns : List ℕ) (vs : List ValueTree) → AreTrees ts ns vs → (v : ValueTree) → has_name vs v ≡ true → (n : ℕ) × (has ns n ≡ true) × (slice_get ts n ≡ Some v)
  trees-back ns [] are v h = absurd (true≢false (sym h))
  trees-back [] (w ∷ vs) are v h = absurd (nothing-some (Some w) (map (λ v. Some v) vs) are)
  trees-back (m ∷ ns) (w ∷ vs) are v h =
      elim (either (equal_trees v w) (has_name vs v) h) [
        | inl e ↦ (
          m,
          in-front (nat_eq m m) (has ns m) (self_number m),
          head-same (slice_get ts m) (Some w) (map (slice_get ts) ns) (map (λ v. Some v) vs) are ∙ ap (λ u. Some u) (sym (equal_trees-true v w e)),
        )
        | inr k ↦ let r = trees-back ns vs (rest-same (slice_get ts m) (Some w) (map (slice_get ts) ns) (map (λ v. Some v) vs) are) v k in (r.0, behind (nat_eq r.0 m) (has ns r.0) r.1, r.2)
      ]

  pub value-has : (ns : List ℕ) (n : ℕ) (v : ValueTree) → has ns n ≡ true → slice_get ts n ≡ Some v → has_name (values_at ts ns) v ≡ true
  value-has [] n v h at = absurd (true≢false (sym h))
  value-has (m ∷ ns) n v h at =
      elim (either (nat_eq n m) (has ns n) h) [
        | inl e ↦ in-front (equal_trees v (value_at ts m)) (has_name (values_at ts ns) v) (equal_trees-same v (value_at ts m) (sym (ap (value_at ts) (sym (eqb-true n m e)) ∙ value-is ts n v at)))
        | inr k ↦ behind (equal_trees v (value_at ts m)) (has_name (values_at ts ns) v) (value-has ns n v k at)
      ]

  pub has-value : (ns : List ℕ) (v : ValueTree) → has_name (values_at ts ns) v ≡ true → (n : ℕ) × (has ns n ≡ true) × (v ≡ value_at ts n)
  has-value [] v h = absurd (true≢false (sym h))
  has-value (m ∷ ns) v h =
      elim (either (equal_trees v (value_at ts m)) (has_name (values_at ts ns) v) h) [
        | inl e ↦ (m, in-front (nat_eq m m) (has ns m) (self_number m), equal_trees-true v (value_at ts m) e)
        | inr k ↦ let r = has-value ns v k in (r.0, behind (nat_eq r.0 m) (has ns r.0) r.1, r.2)
      ]
