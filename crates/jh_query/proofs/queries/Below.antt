-- Tests of all numbers below a bound, and weights of parts.
use Rattle.std.proofs.Common.{◌≡◌, refl, ℕ, zero, suc, ◌+◌, ◌<◌, ◌≤◌, ◌^◌, Bool, true, false, ◌&&◌, Option, Some, ℤ, ap, sym, ◌∙◌, ⊎_elim, add-one, arith}
use Rattle.std.specs.Prelude.{is_some, unsigned_abs}
use Rattle.std.proofs.lemmas.Bool.{cases_lt}
use Rattle.jh_form.specs.Meaning.{all_below}
use Rattle.jh_query.specs.queries.Fitting.{checked_number}
use Rattle.jh_query.specs.queries.Size.{capped}
use Rattle.jh_query.specs.queries.Tree.{NumTree}
use Rattle.jh_query.specs.queries.Truth.{Reading, read_number, sum_below}
use Rattle.jh_query.proofs.queries.Fitting.{checked-is}
use Rattle.jh_containers.proofs.capped_counts.Ceilings.{plus-capped}

and_false : (b c : Bool) → c ≡ false → (b && c) ≡ false
and_false true c e = e
and_false false c e = refl

front_false : (b c : Bool) → b ≡ false → (b && c) ≡ false
front_false b c e = rw e refl

pub one-fails : (n i : ℕ) (p : ℕ → Bool) → i < n → p i ≡ false → all_below n p ≡ false
one-fails zero i p h e = absurd (omega arith)
one-fails (suc n) i p h e =
    ⊎_elim
    (λ (k : i < n). front_false (all_below n p) (p n) (one-fails n i p k e))
    (λ (k : n ≤ i). let same : i ≡ n = omega arith in and_false (all_below n p) (p n) (rw same at e))
    (cases_lt i n)

pub one-more : (n : ℕ) (p : ℕ → Bool) → all_below n p ≡ true → p n ≡ true → all_below (n + 1) p ≡ true
one-more n p e f = rw (add-one n) (rw (e, f) refl)

pub sum-more : (n : ℕ) (f : ℕ → ℕ) (s w r : ℕ) → s ≡ capped (sum_below n f) → w ≡ capped (f n) → r ≡ capped (s + w) → r ≡ capped (sum_below (n + 1) f)
sum-more n f s w r e g h = rw (add-one n) (plus-capped r s w (sum_below n f) (f n) h e g)

pub weight-is : (m : Reading) (a : NumTree) (r : Option ℤ) (v : ℤ) (w : ℕ) → r ≡ checked_number m a → r ≡ Some v → w ≡ unsigned_abs v → w < 2 ^ 128 → (is_some (checked_number m a) ≡ true) × (w ≡ capped (unsigned_abs (read_number m a)))
weight-is m a r v w e f g h =
    let found : checked_number m a ≡ Some v = sym e ∙ f in
    let same : w ≡ unsigned_abs (read_number m a) = g ∙ ap unsigned_abs (sym (checked-is m a v found)) in
    (rw found refl, omega (arith, same, h))
