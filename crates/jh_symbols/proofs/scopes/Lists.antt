-- Faults over lists, as loops gather them.
use Rattle.std.proofs.Common.{◌≡◌, refl, sym, ap, ◌∙◌, ℕ, zero, suc, ◌+◌, ◌≤◌, ◌<◌, List, [], ◌∷◌, ◌++◌, length, drop, get_or, arith, Option, Some, None, add-one}
use Rattle.std.specs.List.{flat_map}
use Rattle.std.proofs.lemmas.List.{drop_all}
use Rattle.jh_rules.specs.declared.fault.Fault.{Fault}
use Rattle.jh_rules.specs.declared.found.Found.{Found}
use Rattle.jh_rules.specs.Faults.{Judged, fine, both, pair_of, ◌>>=◌}
use Rattle.jh_rules.specs.Found.{Finds, least, lesser}
use Rattle.jh_rules.proofs.Judgements.{least-append, lesser-assoc, lesser-none}
use Rattle.jh_symbols.specs.scopes.Asking.{both_known, joined}

module _ {A : Type 0} where
  drop-suc : (xs : List A) (i : ℕ) (x : A) → i < length xs → x ≡ get_or xs i x → drop i xs ≡ x ∷ drop (suc i) xs
  drop-suc [] i x lt e = absurd (omega arith)
  drop-suc (y ∷ ys) zero x lt e = ap (λ z. z ∷ ys) (sym e)
  drop-suc (y ∷ ys) (suc i) x lt e = drop-suc ys i x (omega arith) e

  pub drop-at : (xs : List A) (i : ℕ) (x : A) → i < length xs → x ≡ get_or xs i x → drop i xs ≡ x ∷ drop (i + 1) xs
  drop-at xs i x lt e = drop-suc xs i x lt e ∙ ap (λ n. x ∷ drop n xs) (sym (add-one i))

  -- one more of the list
  pub least-next : (f : A → List Fault) (xs : List A) (i : ℕ) (x : A) (acc new : Option Fault) → i < length xs → x ≡ get_or xs i x → new ≡ lesser acc (least (f x)) → lesser new (least (flat_map f (drop (i + 1) xs))) ≡ lesser acc (least (flat_map f (drop i xs)))
  least-next f xs i x acc new lt e n =
      ap (λ y. lesser y (least (flat_map f (drop (i + 1) xs)))) n ∙ lesser-assoc acc (least (f x)) (least (flat_map f (drop (i + 1) xs)))
      ∙ ap (lesser acc) (sym (least-append (f x) (flat_map f (drop (i + 1) xs)))) ∙ ap (λ ys. lesser acc (least (flat_map f ys))) (sym (drop-at xs i x lt e))

  -- none is left
  pub least-end : (f : A → List Fault) (xs : List A) (i : ℕ) (acc : Option Fault) → length xs ≤ i → lesser acc (least (flat_map f (drop i xs))) ≡ acc
  unfolding least
  least-end f xs i acc le = ap (λ ys. lesser acc (least (flat_map f ys))) (drop_all i xs le) ∙ lesser-none acc

known-first : (o : Option (Unit {0})) → both_known (Some (tt {0})) o ≡ o
known-first None = refl
known-first (Some tt) = refl

known-last : (o : Option (Unit {0})) → both_known o (Some (tt {0})) ≡ o
known-last None = refl
known-last (Some tt) = refl

known-assoc : {B : Type 0} (x : Option (Unit {0})) (y : Option B) (z : Option (Unit {0})) → both_known x (both_known y z) ≡ both_known (both_known x y) z
known-assoc None y z = refl
known-assoc (Some x) None z = refl
known-assoc (Some x) (Some y) None = refl
known-assoc (Some x) (Some y) (Some z) = refl

pub joined-first : (u o : Found (Unit {0})) → u.known ≡ Some tt → u.least ≡ None → joined u o ≡ o
joined-first u o k l = λ i. record { least = lesser (l i) o.least; known = (ap (λ x. both_known x o.known) k ∙ known-first o.known) i }

pub joined-last : (u o : Found (Unit {0})) → o.known ≡ Some tt → o.least ≡ None → joined u o ≡ u
joined-last u o k l = λ i. record { least = (ap (lesser u.least) l ∙ lesser-none u.least) i; known = (ap (both_known u.known) k ∙ known-last u.known) i }

pub joined-assoc : {B : Type 0} (u : Found (Unit {0})) (v : Found B) (o : Found (Unit {0})) → joined u (joined v o) ≡ joined (joined u v) o
joined-assoc u v o = λ i. record { least = sym (lesser-assoc u.least v.least o.least) i; known = known-assoc u.known v.known o.known i }

known-fine : {A B : Type 0} (x : Option A) (y : Option B) → both_known x y ≡ Rattle.std.specs.Option.option_map_or (λ u. Some tt) (pair_of x y) None
known-fine None y = refl
known-fine (Some x) None = refl
known-fine (Some x) (Some y) = refl

no-faults : {A : Type 0} (o : Option A) → Rattle.std.specs.Option.option_map_or (λ u. fine.faults) o [] ≡ []
no-faults None = refl
no-faults (Some x) = refl

-- two parts, of which nothing is known but that they are
pub finds-joined : {A B : Type 0} (a : Judged A) (b : Judged B) (u : Found A) (v : Found B) → Finds u a → Finds v b → Finds (joined u v) (both a b >>= λ u. fine)
unfolding least
finds-joined a b u v hu hv = record {
  known = (λ i. both_known (hu.known i) (hv.known i)) ∙ known-fine a.known b.known;
  least_is = (λ i. lesser (hu.least_is i) (hv.least_is i)) ∙ sym (least-append a.faults b.faults)
      ∙ sym (lesser-none (least (a.faults ++ b.faults))) ∙ sym (least-append (a.faults ++ b.faults) []) ∙ ap (λ xs. least ((a.faults ++ b.faults) ++ xs)) (sym (no-faults (pair_of a.known b.known)));
}
