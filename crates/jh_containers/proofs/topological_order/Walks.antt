-- Where something is left out, something reads directly: a walk among what is left out comes back.
use Rattle.std.proofs.Common.{◌≡◌, refl, sym, ap, subst, ◌∙◌, ◌⊎◌, inl, inr, ℕ, zero, suc, ◌<◌, ◌≤◌, List, length, arith}
use Rattle.indexmap.proofs.IndexTableLemmas.Probe.{pigeonhole, OneToOne}
use Rattle.jh_containers.specs.transitive_closure.Spreads.{IsIn}
use Rattle.jh_containers.proofs.transitive_closure.Places.{before-or-at}
use Rattle.jh_containers.specs.topological_order.Orders.{reads_of, IsTried, IsAll, Reaches, directly}
use Rattle.jh_containers.proofs.transitive_closure.Places.{same-or-not}
use Rattle.jh_containers.proofs.topological_order.Reached.{reaches-more}

-- a value that a function has below a number
hit : (f : ℕ → ℕ) (n v : ℕ) → ((i : ℕ) × (i < n) × (f i ≡ v)) ⊎ ((i : ℕ) → i < n → f i ≡ v → ⊥)
hit f zero v = inr (λ i lt e. omega arith)
hit f (suc n) v = by (same-or-not (f n) v) (hit f n v)
  where
    by : (f n ≡ v) ⊎ (f n ≡ v → ⊥) → ((i : ℕ) × (i < n) × (f i ≡ v)) ⊎ ((i : ℕ) → i < n → f i ≡ v → ⊥) → ((i : ℕ) × (i < suc n) × (f i ≡ v)) ⊎ ((i : ℕ) → i < suc n → f i ≡ v → ⊥)
    by (inl e) h = inl (n, omega arith, e)
    by (inr other) (inl k) = inl (k.0, omega arith, k.2)
    by (inr other) (inr none) = inr (λ i lt e. at-or-below i e (before-or-at i n (omega arith)))
      where
        at-or-below : (i : ℕ) → f i ≡ v → (i < n) ⊎ (i ≡ n) → ⊥
        at-or-below i e (inl l) = none i l e
        at-or-below i e (inr s) = other (ap f (sym s) ∙ e)

abbrev Twice : (ℕ → ℕ) → ℕ → Type 0
Twice f n = (i : ℕ) × (j : ℕ) × (i < j) × (j < n) × (f i ≡ f j)

abbrev Differs : (ℕ → ℕ) → ℕ → Type 0
Differs f n = (i j : ℕ) → i < j → j < n → f i ≡ f j → ⊥

twice-or-not : (f : ℕ → ℕ) (n : ℕ) → Twice f n ⊎ Differs f n
twice-or-not f zero = inr (λ i j l m e. omega arith)
twice-or-not f (suc n) = by (twice-or-not f n) (hit f n (f n))
  where
    by : Twice f n ⊎ Differs f n → ((i : ℕ) × (i < n) × (f i ≡ f n)) ⊎ ((i : ℕ) → i < n → f i ≡ f n → ⊥) → Twice f (suc n) ⊎ Differs f (suc n)
    by (inl t) h = inl (t.0, t.1, t.2, omega (arith, t.3), t.4)
    by (inr d) (inl k) = inl (k.0, n, k.1, omega arith, k.2)
    by (inr d) (inr none) = inr (λ i j l m e. at-or-below i j l e (before-or-at j n (omega arith)))
      where
        at-or-below : (i j : ℕ) → i < j → f i ≡ f j → (j < n) ⊎ (j ≡ n) → ⊥
        at-or-below i j l e (inl m) = d i j l m e
        at-or-below i j l e (inr s) = none i (subst (λ (z : ℕ). i < z) s l) (e ∙ ap f s)

three-ways : (i j : ℕ) → (i < j) ⊎ ((i ≡ j) ⊎ (j < i))
three-ways zero zero = inr (inl refl)
three-ways zero (suc j) = inl (omega arith)
three-ways (suc i) zero = inr (inr (omega arith))
three-ways (suc i) (suc j) = next (three-ways i j)
  where
    next : (i < j) ⊎ ((i ≡ j) ⊎ (j < i)) → (suc i < suc j) ⊎ ((suc i ≡ suc j) ⊎ (suc j < suc i))
    next (inl l) = inl (omega arith)
    next (inr (inl e)) = inr (inl (ap suc e))
    next (inr (inr g)) = inr (inr (omega arith))

one-to-one : (f : ℕ → ℕ) (n : ℕ) → Differs f n → OneToOne f n
one-to-one f n d = λ i j p q e. by i j p q e (three-ways i j)
  where
    by : (i j : ℕ) → i < n → j < n → f i ≡ f j → (i < j) ⊎ ((i ≡ j) ⊎ (j < i)) → i ≡ j
    by i j p q e (inl l) = absurd (d i j l q e)
    by i j p q e (inr (inl s)) = s
    by i j p q e (inr (inr g)) = absurd (d j i g p (sym e))

module _ (reads : List (List ℕ)) (order : List ℕ) (all : IsAll reads order) (inside : (r d : ℕ) → IsIn (reads_of reads r) d → d < length reads) where
  -- a thing that is left out
  record Left : Type 0 where
    thing : ℕ
    within : thing < length reads
    out : IsIn order thing → ⊥

  step : (x : Left) → (y : Left) × IsIn (reads_of reads x.thing) y.thing
  step x = by (all x.thing x.within)
    where
      by : IsTried reads order order x.thing → (y : Left) × IsIn (reads_of reads x.thing) y.thing
      by (inl h) = absurd (x.out h)
      by (inr w) = (record { thing = w.0; within = inside x.thing w.0 w.1; out = w.2 }, w.1)

  walk : Left → ℕ → Left
  walk x zero = x
  walk x (suc n) = (step (walk x n)).0

  walked : (x : Left) (i j : ℕ) → i < j → Reaches reads (walk x i).thing (walk x j).thing
  unfolding walk
  walked x i zero lt = absurd (omega arith)
  walked x i (suc j) lt = by (before-or-at i j (omega arith)) (walked x i j)
    where
      last : IsIn (reads_of reads (walk x j).thing) (walk x (suc j)).thing
      last = (step (walk x j)).1

      by : (i < j) ⊎ (i ≡ j) → (i < j → Reaches reads (walk x i).thing (walk x j).thing) → Reaches reads (walk x i).thing (walk x (suc j)).thing
      by (inl l) r = reaches-more reads (walk x i).thing (walk x j).thing (walk x (suc j)).thing (r l) last
      by (inr s) r = subst (λ (n : ℕ). Reaches reads (walk x n).thing (walk x (suc j)).thing) (sym s) (directly (walk x j).thing (walk x (suc j)).thing last)

  pub cycle-among : (r : ℕ) → r < length reads → (IsIn order r → ⊥) → (x : ℕ) × Reaches reads x x
  cycle-among r lt out = by (twice-or-not f (suc (length reads)))
    where
      f : ℕ → ℕ
      f n = (walk (record { thing = r; within = lt; out = out }) n).thing

      by : Twice f (suc (length reads)) ⊎ Differs f (suc (length reads)) → (x : ℕ) × Reaches reads x x
      by (inl t) = (f t.0, subst (λ (y : ℕ). Reaches reads (f t.0) y) (sym t.4) (walked (record { thing = r; within = lt; out = out }) t.0 t.1 t.2))
      by (inr d) =
          let le : suc (length reads) ≤ length reads = pigeonhole (suc (length reads)) (length reads) f (λ k l. (walk (record { thing = r; within = lt; out = out }) k).within) (one-to-one f (suc (length reads)) d) in
          absurd (omega arith)
