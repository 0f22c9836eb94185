-- Objects of the universe, from the last on.
use Rattle.std.proofs.Common.{◌≡◌, sym, subst, ◌⊎◌, inl, inr, ℕ, suc, ◌-◌, ◌<◌, ◌≤◌, List, length, reverse, Some, None, get_or, slice_get, slice_index, arith}
use Rattle.std.proofs.lemmas.List.{get_or-reverse, length-reverse, get_or_past}
use Rattle.std.proofs.lemmas.Option.{slice_get_cases}
use Rattle.jh_sem.specs.Wide.{AreInside}

pub inside-reverse : (last : ℕ) (objects : List ℕ) → AreInside last objects → AreInside last (reverse objects)
inside-reverse last objects h k = by ((slice_get_cases (reverse objects) k).1)
  where
    by : ((x : ℕ) × (k < length (reverse objects)) × (slice_get (reverse objects) k ≡ Some x) × (get_or (reverse objects) k x ≡ x)) ⊎ ((length (reverse objects) ≤ k) × (slice_get (reverse objects) k ≡ None)) → slice_index (reverse objects) k < suc last
    by (inl r) = let lt = r.1 in let n = length-reverse objects in subst (λ (v : ℕ). v < suc last) (sym (get_or-reverse objects k 0 (omega arith))) (h (length objects - 1 - k))
    by (inr r) = subst (λ (v : ℕ). v < suc last) (sym (get_or_past (reverse objects) k 0 r.0)) (omega arith)
