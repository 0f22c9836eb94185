-- A path of any length has one of at most n steps, in a universe of the objects 0 to n. Objects from which a goal is reached
-- in k steps at most become more with each k, until no more do or all are among them.
use Rattle.std.proofs.Common.{◌≡◌, refl, sym, ◌∙◌, ℕ, zero, suc, ◌<◌, ◌≤◌, Bool, true, false, ◌&&◌, not, List, length, inl, inr, arith}
use Rattle.std.specs.Prelude.{◌⊎◌}
use Rattle.std.proofs.lemmas.Bool.{or_left, cases_Bool, and_from, not-true, not_from_false, eq-eqb, true≢false}
use Rattle.jh_form.specs.Meaning.{Fields, leads, reaches, edge, any_below, count_below}
use Rattle.jh_form.proofs.ClosedLemmas.{both-left, both-right}
use Rattle.jh_reach.proofs.Counts.{any-below, below-any, count-full, count-more}
use Rattle.jh_reach.proofs.Paths.{Path, Reaches, StayInside, edge-any, leads-path}

module _ (last : ℕ) (fs : List Fields) (b : ℕ) (stay : StayInside last fs) (inside : b < suc last) where
  -- k steps are enough from all objects of the universe
  Enough : ℕ → Type 0
  Enough k = (j a : ℕ) → a < suc last → Path fs j a b → reaches k fs a b ≡ true

  more_steps : (k a : ℕ) → reaches k fs a b ≡ true → reaches (suc k) fs a b ≡ true
  more_steps k a h = or_left (reaches k fs a b) (leads fs (suc k) a b) h

  one_before : (k a i : ℕ) → i < length fs → reaches k fs (edge fs i a) b ≡ true → reaches (suc k) fs a b ≡ true
  one_before k a i lt h =
      let r = any-below (suc k) (λ j. leads fs j (edge fs i a) b) h in
      let below = r.1 in
      below-any (suc (suc k)) (suc r.0) (λ j. leads fs j a b) (omega arith) (edge-any fs (λ c. leads fs r.0 c b) a i lt r.2)

  -- where no object is reached from by one more step, no more steps reach any
  settled : (k : ℕ) → ((a : ℕ) → a < suc last → reaches (suc k) fs a b ≡ true → reaches k fs a b ≡ true) → Enough k
  unfolding Enough
  settled k shut zero a lt p = below-any (suc k) 0 (λ j. leads fs j a b) (omega arith) (eq-eqb a b p)
  settled k shut (suc j) a lt p =
      shut a lt (one_before k a p.0 p.1 (settled k shut j (edge fs p.0 a) (stay p.0 a p.1 lt) p.2))

  near : ℕ → ℕ → Bool
  near k a = reaches k fs a b

  new_at : ℕ → ℕ → Bool
  new_at k a = reaches (suc k) fs a b && not (reaches k fs a b)

  none_new : (k : ℕ) → any_below (suc last) (new_at k) ≡ false → (a : ℕ) → a < suc last → reaches (suc k) fs a b ≡ true → reaches k fs a b ≡ true
  unfolding new_at
  none_new k none a lt h =
      elim (cases_Bool (reaches k fs a b)) [
        | inl e ↦ e
        | inr e ↦ absurd (true≢false (sym (below-any (suc last) a (new_at k) lt (and_from (reaches (suc k) fs a b) (not (reaches k fs a b)) h (not_from_false (reaches k fs a b) e))) ∙ none))
      ]

  some_new : (k : ℕ) → any_below (suc last) (new_at k) ≡ true → count_below (suc last) (near k) < count_below (suc last) (near (suc k))
  unfolding near new_at
  some_new k some =
      let r = any-below (suc last) (new_at k) some in
      count-more (suc last) r.0 (near k) (near (suc k)) (λ x lt h. more_steps k x h) r.1
      (not-true (reaches k fs r.0 b) (both-right (reaches (suc k) fs r.0 b) (not (reaches k fs r.0 b)) r.2))
      (both-left (reaches (suc k) fs r.0 b) (not (reaches k fs r.0 b)) r.2)

  -- either k steps are enough, or more than k objects reach the goal in k steps
  either_enough : (k : ℕ) → Enough k ⊎ (suc k ≤ count_below (suc last) (near k))
  unfolding Enough near
  either_enough zero =
      inr (let r = count-more (suc last) b (λ x. false) (near 0) (λ x lt h. absurd (true≢false (sym h))) inside refl (below-any 1 0 (λ j. leads fs j b b) (omega arith) (eq-eqb b b refl)) in omega arith)
  either_enough (suc k) =
      elim (either_enough k) [
        | inl enough ↦ inl (λ j a lt p. more_steps k a (enough j a lt p))
        | inr many ↦
            elim (cases_Bool (any_below (suc last) (new_at k))) [
              | inl some ↦ inr (let more = some_new k some in omega arith)
              | inr none ↦ inl (λ j a lt p. more_steps k a (settled k (none_new k none) j a lt p))
            ]
      ]

  pub path-short : (j a : ℕ) → a < suc last → Path fs j a b → reaches last fs a b ≡ true
  unfolding Enough near
  path-short j a lt p =
      elim (either_enough last) [
        | inl enough ↦ enough j a lt p
        | inr many ↦ count-full (suc last) a (near last) many lt
      ]

-- reaching, as it is defined, is that some number of steps leads there
pub reach-true : (last : ℕ) (fs : List Fields) (a b : ℕ) → StayInside last fs → a < suc last → b < suc last → Reaches fs a b → reaches last fs a b ≡ true
reach-true last fs a b stay la lb r = path-short last fs b stay lb r.0 a la r.1

pub true-reach : (last : ℕ) (fs : List Fields) (a b : ℕ) → reaches last fs a b ≡ true → Reaches fs a b
true-reach last fs a b h = let r = any-below (suc last) (λ j. leads fs j a b) h in (r.0, leads-path fs r.0 a b r.2)
