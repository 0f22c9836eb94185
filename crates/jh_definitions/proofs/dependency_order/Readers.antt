-- Edges from what is read to those that read it, as loops add them.
use Rattle.std.proofs.Common.{◌≡◌, refl, sym, ap, subst, ◌∙◌, ◌⊎◌, inl, inr, ℕ, zero, suc, ◌+◌, ◌<◌, List, [], length, get_or, slice_get, Option, Some, None}
use Rattle.std.specs.Option.{option_map_or}
use Rattle.std.proofs.lemmas.Option.{slice_get_within}
use Rattle.jh_containers.specs.transitive_closure.Spreads.{IsIn, passed_to}
use Rattle.jh_containers.proofs.transitive_closure.Places.{before-or-at, item-get}
use Rattle.jh_containers.specs.topological_order.Orders.{reads_of}

some-is : (a b : ℕ) → Some a ≡ Some b → a ≡ b
some-is a b e = cc

pub within : {a m n : ℕ} → a < m → n ≡ m → a < n
within {a} {m} {n} lt e = subst (λ (k : ℕ). a < k) (sym e) lt

pub added-next : (read : List ℕ) (old new : List (List ℕ)) (reader i : ℕ) → i < length read → IsIn (passed_to new (get_or read i 0)) reader → ((n m : ℕ) → IsIn (passed_to old n) m → IsIn (passed_to new n) m) →
    ((j d : ℕ) → j < i → slice_get read j ≡ Some d → IsIn (passed_to old d) reader) → (j d : ℕ) → j < i + 1 → slice_get read j ≡ Some d → IsIn (passed_to new d) reader
added-next read old new reader i inside here keeps before j d lt e = by (before-or-at j i lt)
  where
    by : (j < i) ⊎ (j ≡ i) → IsIn (passed_to new d) reader
    by (inl l) = keeps d reader (before j d l e)
    by (inr s) = subst (λ (z : ℕ). IsIn (passed_to new z) reader) (some-is (get_or read i 0) d (sym (item-get read i 0 inside) ∙ ap (slice_get read) (sym s) ∙ e)) here

-- a row of all, by its place
pub row-is : (reads : List (List ℕ)) (i : ℕ) (row : List ℕ) → slice_get reads i ≡ Some row → reads_of reads i ≡ row
row-is reads i row e = ap (λ o. option_map_or (λ ms. ms) o []) e

pub reversed-next : (reads : List (List ℕ)) (old new : List (List ℕ)) (i : ℕ) (row : List ℕ) → slice_get reads i ≡ Some row → ((d : ℕ) → IsIn row d → IsIn (passed_to new d) i) → ((n m : ℕ) → IsIn (passed_to old n) m → IsIn (passed_to new n) m) →
    ((r d : ℕ) → r < i → IsIn (reads_of reads r) d → IsIn (passed_to old d) r) → (r d : ℕ) → r < i + 1 → IsIn (reads_of reads r) d → IsIn (passed_to new d) r
reversed-next reads old new i row at added keeps before r d lt h = by (before-or-at r i lt)
  where
    by : (r < i) ⊎ (r ≡ i) → IsIn (passed_to new d) r
    by (inl l) = keeps d r (before r d l h)
    by (inr s) = subst (λ (z : ℕ). IsIn (passed_to new d) z) (sym s) (added d (subst (λ (ms : List ℕ). IsIn ms d) (ap (reads_of reads) s ∙ row-is reads i row at) h))

none-in : (x : ℕ) → IsIn [] x → ⊥
none-in x (zero, e) = cc
none-in x (suc i, e) = cc

-- what reads something is one of the things
pub reads-inside : (reads : List (List ℕ)) (r d : ℕ) → IsIn (reads_of reads r) d → r < length reads
reads-inside reads r d h = by (slice_get reads r) refl
  where
    by : (o : Option (List ℕ)) → slice_get reads r ≡ o → r < length reads
    by None e = absurd (none-in d (subst (λ (ms : List ℕ). IsIn ms d) (ap (λ o. option_map_or (λ ms. ms) o []) e) h))
    by (Some row) e = slice_get_within reads r row e
