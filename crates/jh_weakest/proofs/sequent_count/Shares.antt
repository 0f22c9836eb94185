-- Shares as they are added, raised and taken out.
use Rattle.std.proofs.Common.{◌≡◌, refl, sym, ap, ◌∙◌, ℕ, zero, suc, ◌+◌, ◌*◌, arith, List, [], ◌∷◌, ◌++◌, drop, slice_set, add-one, Some, slice_get}
use Rattle.jh_arena.specs.table.Entries.{Listing}
use Rattle.jh_weakest.specs.declared.sequent_count.tally.Share.{Share}
use Rattle.jh_seq.specs.counting.Goals.{Weights, capped}
use Rattle.jh_weakest.specs.sequent_count.Tallies.{name_at, shares_of, AreNames, IsName}
use Rattle.jh_weakest.proofs.sequent_count.Ceilings.{sum-capped, times-capped, is-capped}

module _ (t : Listing) where
  pub names-push : (ss : List Share) (s : Share) → AreNames t ss → IsName t s.leaf → AreNames t (ss ++ s ∷ [])
  names-push [] s h e = (e, tt)
  names-push (r ∷ ss) s h e = (h.0, names-push ss s h.1 e)

  pub names-set : (ss : List Share) (i : ℕ) (s : Share) → AreNames t ss → IsName t s.leaf → AreNames t (slice_set ss i s)
  names-set [] i s h e = tt
  names-set (r ∷ ss) zero s h e = (e, h.1)
  names-set (r ∷ ss) (suc i) s h e = (h.0, names-set ss i s h.1 e)

  pub shares-push : (ss : List Share) (s : Share) (w : Weights) → shares_of t (ss ++ s ∷ []) w ≡ shares_of t ss w + s.times * w (name_at t s.leaf) s.marked
  shares-push [] s w = omega arith
  shares-push (r ∷ ss) s w = omega (arith, shares-push ss s w)

  -- a share that is raised by o
  pub shares-set : (ss : List Share) (i o : ℕ) (s r : Share) (w : Weights) → slice_get ss i ≡ Some r → r.leaf ≡ s.leaf → r.marked ≡ s.marked → s.times ≡ capped (r.times + o) →
      capped (shares_of t (slice_set ss i s) w) ≡ capped (shares_of t ss w + o * w (name_at t s.leaf) s.marked)
  shares-set [] i o s r w at e f g = absurd (cc)
  shares-set (q ∷ ss) zero o s r w at e f g =
      let here : q ≡ r = cc in
      let n = w (name_at t s.leaf) s.marked in
      let same : q.times * w (name_at t q.leaf) q.marked ≡ r.times * n = (λ i. (here i).times * w (name_at t (here i).leaf) (here i).marked) ∙ (λ i. r.times * w (name_at t (e i)) (f i)) in
      let grouped : (r.times + o) * n + shares_of t ss w ≡ (r.times * n + shares_of t ss w) + o * n = omega arith in
      sum-capped (s.times * n) ((r.times + o) * n) (shares_of t ss w) (shares_of t ss w) (times-capped s.times (r.times + o) n (is-capped s.times (r.times + o) g)) refl
      ∙ ap capped grouped
      ∙ (λ i. capped ((sym same i + shares_of t ss w) + o * n))
  shares-set (q ∷ ss) (suc i) o s r w at e f g =
      let n = w (name_at t s.leaf) s.marked in
      let first = q.times * w (name_at t q.leaf) q.marked in
      let grouped : first + (shares_of t ss w + o * n) ≡ (first + shares_of t ss w) + o * n = omega arith in
      sum-capped first first (shares_of t (slice_set ss i s) w) (shares_of t ss w + o * n) refl (shares-set ss i o s r w at e f g)
      ∙ ap capped grouped

-- the items from a place on
pub drop-get : {X : Type 0} (xs : List X) (j : ℕ) (x : X) → slice_get xs j ≡ Some x → drop j xs ≡ x ∷ drop (j + 1) xs
drop-get {X = X} xs j x e = by xs j e ∙ ap (λ k. x ∷ drop k xs) (sym (add-one j))
  where
    by : (ys : List X) (i : ℕ) → slice_get ys i ≡ Some x → drop i ys ≡ x ∷ drop (suc i) ys
    by [] i e = absurd (cc)
    by (y ∷ ys) zero e = let same : y ≡ x = cc in ap (λ z. z ∷ ys) same
    by (y ∷ ys) (suc i) e = by ys i e

pub ruleset share_steps = (names-push, names-set)
