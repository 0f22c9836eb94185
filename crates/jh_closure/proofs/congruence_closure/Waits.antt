-- Nodes that wait to be one.
use Rattle.std.proofs.Common.{◌≡◌, subst, ℕ, ◌<◌, List, [], ◌∷◌, ◌++◌, length, ◌⊎◌, inl, inr, Option}
use Rattle.jh_closure.specs.declared.union_find.merge.Cause.{Cause}
use Rattle.jh_closure.specs.declared.congruence_closure.node.Node.{Node}
use Rattle.jh_closure.specs.congruence_closure.Nodes.{Has}
use Rattle.jh_closure.specs.congruence_closure.Closing.{IsFound, IsTable, Keeps, alike}
use Rattle.jh_closure.proofs.congruence_closure.Having.{has-left, has-right, has-either, has-last}

-- others may wait, where those that are gone are of one class
table-pending : (ns : List Node) (f : ℕ → ℕ) (find : Node → Option ℕ) (ps qs : List Cause) (rest : List ℕ) →
    ((q : Cause) → Has ps q → Has qs q ⊎ (f q.left ≡ f q.right)) → ((q : Cause) → Has qs q → Has ps q) →
    IsTable ns f find ps rest → IsTable ns f find qs rest
table-pending ns f find ps qs rest kept from t = record {
  parts = t.parts;
  reps = t.reps;
  entries = t.entries;
  dirty = t.dirty;
  waiting = record { left = λ q h. t.waiting.left q (from q h); right = λ q h. t.waiting.right q (from q h) };
  covers = record { each = λ k h. elim (t.covers.each k h) [ inl d ↦ inl d | inr was ↦ inr (step k was) ] };
}
  where
    turned : (j k : ℕ) → (f j ≡ f k) ⊎ Has ps (alike j k) → (f j ≡ f k) ⊎ Has qs (alike j k)
    turned j k (inl e) = inl e
    turned j k (inr w) = elim (kept (alike j k) w) [ inl stays ↦ inr stays | inr e ↦ inl e ]

    step : (k : ℕ) → IsFound ns f find ps k → IsFound ns f find qs k
    step k was x here = let r = was x here in (r.0, r.1, turned r.0 k r.2)

module _ (ns : List Node) (f : ℕ → ℕ) (find : Node → Option ℕ) (ps : List Cause) (p : Cause) where
  -- the last ones are of one class
  pub table-drop : f p.left ≡ f p.right → IsTable ns f find (ps ++ p ∷ []) [] → IsTable ns f find ps []
  table-drop same t = table-pending ns f find (ps ++ p ∷ []) ps [] (λ q h. step q (has-either ps (p ∷ []) q h)) (λ q h. has-left ps (p ∷ []) q h) t
    where
      step : (q : Cause) → Has ps q ⊎ Has (p ∷ []) q → Has ps q ⊎ (f q.left ≡ f q.right)
      step q (inl h) = inl h
      step q (inr (inl e)) = inr (subst (λ (w : Cause). f w.left ≡ f w.right) e same)
      step q (inr (inr none)) = absurd none

  pub last-first : (q : Cause) → Has (p ∷ ps) q → Has (ps ++ p ∷ []) q
  last-first q (inl e) = has-right ps (p ∷ []) q (inl e)
  last-first q (inr h) = has-left ps (p ∷ []) q h

  -- the last ones come first
  pub table-last : IsTable ns f find (ps ++ p ∷ []) [] → IsTable ns f find (p ∷ ps) []
  table-last t = table-pending ns f find (ps ++ p ∷ []) (p ∷ ps) [] (λ q h. step q (has-either ps (p ∷ []) q h)) last-first t
    where
      step : (q : Cause) → Has ps q ⊎ Has (p ∷ []) q → Has (p ∷ ps) q ⊎ (f q.left ≡ f q.right)
      step q (inl h) = inl (inr h)
      step q (inr (inl e)) = inl (inl e)
      step q (inr (inr none)) = absurd none

  pub last-left : IsTable ns f find (ps ++ p ∷ []) [] → p.left < length ns
  last-left t = t.waiting.left p (has-last ps p)

  pub last-right : IsTable ns f find (ps ++ p ∷ []) [] → p.right < length ns
  last-right t = t.waiting.right p (has-last ps p)

module _ (f : ℕ → ℕ) (first before ps : List Cause) (p : Cause) (is : before ≡ ps ++ p ∷ []) where
  pub last-kept : ((q : Cause) → Has first q → Has before q ⊎ (f q.left ≡ f q.right)) → (q : Cause) → Has first q → Has (p ∷ ps) q ⊎ (f q.left ≡ f q.right)
  last-kept kept q h = step (kept q h)
    where
      turned : Has ps q ⊎ Has (p ∷ []) q → Has (p ∷ ps) q
      turned (inl w) = inr w
      turned (inr (inl e)) = inl e
      turned (inr (inr none)) = absurd none

      step : Has before q ⊎ (f q.left ≡ f q.right) → Has (p ∷ ps) q ⊎ (f q.left ≡ f q.right)
      step (inl w) = inl (turned (has-either ps (p ∷ []) q (subst (λ (z : List Cause). Has z q) is w)))
      step (inr e) = inr e

  pub last-gone : f p.left ≡ f p.right → ((q : Cause) → Has first q → Has before q ⊎ (f q.left ≡ f q.right)) → (q : Cause) → Has first q → Has ps q ⊎ (f q.left ≡ f q.right)
  last-gone same kept q h = step (last-kept kept q h)
    where
      step : Has (p ∷ ps) q ⊎ (f q.left ≡ f q.right) → Has ps q ⊎ (f q.left ≡ f q.right)
      step (inl (inl e)) = inr (subst (λ (w : Cause). f w.left ≡ f w.right) e same)
      step (inl (inr w)) = inl w
      step (inr e) = inr e

-- they are of one class or wait, after the first two were joined
pub joined-step : (n : ℕ) (old new : ℕ → ℕ) (before after more : List Cause) (p q : Cause) → Keeps n old new → new p.left ≡ new p.right →
    ((r : Cause) → Has after r → Has more r) → (q.left < n) → (q.right < n) →
    ((r : Cause) → Has before r → Has (p ∷ after) r ⊎ (old r.left ≡ old r.right)) →
    Has before q ⊎ (old q.left ≡ old q.right) → Has more q ⊎ (new q.left ≡ new q.right)
joined-step n old new before after more p q keeps here waits hl hr kept (inr e) = inr (keeps q.left q.right hl hr e)
joined-step n old new before after more p q keeps here waits hl hr kept (inl w) = step (kept q w)
  where
    step : Has (p ∷ after) q ⊎ (old q.left ≡ old q.right) → Has more q ⊎ (new q.left ≡ new q.right)
    step (inl (inl e)) = inr (subst (λ (r : Cause). new r.left ≡ new r.right) e here)
    step (inl (inr h)) = inl (waits q h)
    step (inr e) = inr (keeps q.left q.right hl hr e)
