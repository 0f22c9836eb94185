-- Lines that are read one after another.
use Rattle.std.proofs.Common.{◌≡◌, refl, sym, ap, subst, ◌∙◌, arith, ℕ, zero, suc, ◌+◌, ◌<◌, List, [], ◌∷◌, length, drop, Option, Some, is_some, slice_get}
use Rattle.std.specs.Option.{option_map_or}
use Rattle.std.proofs.lemmas.Bool.{true≢false}
use Rattle.jh_heap.specs.text.Outlines.{Outline}
use Rattle.jh_heap.specs.text.Drafts.{Draft}
use Rattle.jh_heap.specs.text.Reading.{Reading, Step, goes_on, then_on, step, lines_from}
use Rattle.jh_heap.specs.text.Errors.{IsError, IsEnd}
use Rattle.jh_heap.specs.declared.text.reading.HeapError.{HeapError}
use Rattle.jh_heap.specs.declared.text.reading.HeapError.TheVariants as e

-- what stands from a place on
drop-there : (ws : List (List ℕ)) (i : ℕ) (x : List ℕ) → slice_get ws i ≡ Some x → drop i ws ≡ x ∷ drop (suc i) ws
drop-there [] i x h = absurd (true≢false (sym (ap is_some h)))
drop-there (w ∷ ws) zero x h = ap (λ (o : Option (List ℕ)). option_map_or (λ y. y) o x ∷ ws) h
drop-there (w ∷ ws) (suc i) x h = drop-there ws i x h

-- a line with others behind it
line-then : (o : Outline) (n : ℕ) (l : List ℕ) (ws : List (List ℕ)) (d : Draft) → 0 < length ws → lines_from o n (l ∷ ws) d ≡ then_on (step o n l d) (λ d. lines_from o (suc n) ws d)
line-then o n l [] d h = absurd (omega (arith, h))
line-then o n l (w ∷ ws) d h = refl

behind : (ws : List (List ℕ)) (i : ℕ) → i + 1 < length ws → 0 < length (drop (suc i) ws)
behind [] i h = absurd (omega (arith, h))
behind (w ∷ []) i h = absurd (omega (arith, h))
behind (w ∷ v ∷ ws) zero h = omega arith
behind (w ∷ v ∷ ws) (suc i) h = behind (v ∷ ws) i (omega (arith, h))

-- the lines from a place on, of which it isn't the last
pub lines_next : (o : Outline) (ws : List (List ℕ)) (i : ℕ) (x : List ℕ) (d : Draft) → i + 1 < length ws → slice_get ws i ≡ Some x →
    lines_from o (i + 1) (drop i ws) d ≡ then_on (step o (i + 1) x d) (λ d. lines_from o (i + 1 + 1) (drop (i + 1) ws) d)
lines_next o ws i x d more is =
    subst (λ n. lines_from o n (drop i ws) d ≡ then_on (step o n x d) (λ d. lines_from o (i + 1 + 1) (drop n ws) d)) (omega arith)
    (subst (λ k. lines_from o (suc i) (drop i ws) d ≡ then_on (step o (suc i) x d) (λ d. lines_from o k (drop (suc i) ws) d)) (omega arith)
    (ap (λ ys. lines_from o (suc i) ys d) (drop-there ws i x is) ∙ line-then o (suc i) x (drop (suc i) ws) d (behind ws i more)))

pub then_goes_on : (s : Step) (d : Draft) (next : Draft → Reading) → s ≡ goes_on d → then_on s next ≡ next d
then_goes_on s d next h = ap (λ x. then_on x next) h

pub then_ends : (s : Step) (f : HeapError) (next : Draft → Reading) → IsEnd f s → IsError f (then_on s next)
then_ends s (e.BadLine n) next h = ap (λ x. then_on x next) h
then_ends s (e.NotWellFormed n rule) next h = ap (λ x. then_on x next) h
then_ends s e.Memory next h = tt

pub error_is : (f : HeapError) (r s : Reading) → r ≡ s → IsError f s → IsError f r
error_is (e.BadLine n) r s h i = h ∙ i
error_is (e.NotWellFormed n rule) r s h i = h ∙ i
error_is e.Memory r s h i = tt

-- the last of some
pub drop_end : (ws : List (List ℕ)) (n : ℕ) (x : List ℕ) → length ws ≡ suc n → slice_get ws n ≡ Some x → drop n ws ≡ x ∷ []
drop_end [] n x e h = absurd (omega (arith, e))
drop_end (w ∷ []) zero x e h = drop-there (w ∷ []) zero x h
drop_end (w ∷ []) (suc n) x e h = absurd (omega (arith, e))
drop_end (w ∷ v ∷ ws) zero x e h = absurd (omega (arith, e))
drop_end (w ∷ v ∷ ws) (suc n) x e h = drop_end (v ∷ ws) n x (omega (arith, e)) h
