-- A universal put at null again and again.
use Rattle.std.proofs.Common.{◌≡◌, refl, ap, ℕ, zero, suc, true, List, ◌∷◌, ◌++◌, replicate, slice_get, Some}
use Rattle.jh_form.specs.Tree.{ValueTree, of_object}
use Rattle.jh_form.specs.Tree as t
use Rattle.jh_form.specs.Closed.{is_closed_term}
use Rattle.jh_arena.specs.table.Entries.{is_object, the_object}

pub null-behind : {X : Type 0} (n : ℕ) (x : X) (ws : List X) → replicate n x ++ (x ∷ ws) ≡ x ∷ (replicate n x ++ ws)
null-behind zero x ws = refl
null-behind (suc n) x ws = ap (λ zs. x ∷ zs) (null-behind n x ws)

pub null-usable : (ts : List ValueTree) (n : ℕ) → slice_get ts n ≡ Some (of_object t.null) → is_object (slice_get ts n) ≡ true
unfolding is_object
null-usable ts n e = ap is_object e

pub null-closed : (ts : List ValueTree) (n : ℕ) → slice_get ts n ≡ Some (of_object t.null) → is_closed_term (the_object (slice_get ts n)) 0 ≡ true
unfolding the_object is_closed_term
null-closed ts n e = ap (λ o. is_closed_term (the_object o) 0) e
