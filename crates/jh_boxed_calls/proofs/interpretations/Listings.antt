-- Names of a table by their numbers.
use Rattle.std.proofs.Common.{◌≡◌, refl, sym, ap, subst, ◌∙◌, ℕ, zero, suc, ◌+◌, ◌++◌, ◌∷◌, [], ◌⊎◌, inl, inr, true, List, length, slice_get, Some, None, is_some, arith}
use Rattle.std.specs.Prelude.{Option}
use Rattle.jh_name.specs.declared.naming.Name.{Name}
use Rattle.jh_boxed_calls.specs.declared.interpretations.interp.Interp.{Interp}
use Rattle.jh_boxed_calls.specs.declared.interpretations.slots.Slot.{Slot}
use Rattle.jh_boxed_calls.specs.interpretations.Interps.{IsSlot, AreSlots}
use Rattle.jh_arena.specs.table.Entries.{the_name}

name-some : (o : Option Name) → is_some o ≡ true → o ≡ Some (the_name o)
unfolding the_name
name-some (Some x) h = refl
name-some None h = absurd (cc)

pub there-name : (names : List Name) (n : ℕ) → is_some (slice_get names n) ≡ true → slice_get names n ≡ Some (the_name (slice_get names n))
there-name names n h = name-some (slice_get names n) h

pub ruleset name_steps = (there-name)

some-one : {X : Type 0} (a b : X) → Some a ≡ Some b → a ≡ b
some-one a b e = cc

-- what stands at a place of a list with one more item
pushed-is : {X : Type 0} (xs : List X) (y : X) (j : ℕ) (x : X) → slice_get (xs ++ y ∷ []) j ≡ Some x → (slice_get xs j ≡ Some x) ⊎ ((j ≡ length xs) × (x ≡ y))
pushed-is [] y zero x h = inr (refl, cc)
pushed-is [] y (suc j) x h = absurd (cc)
pushed-is (z ∷ xs) y zero x h = inl h
pushed-is (z ∷ xs) y (suc j) x h = later (pushed-is xs y j x h)
  where
    later : (slice_get xs j ≡ Some x) ⊎ ((j ≡ length xs) × (x ≡ y)) → (slice_get (z ∷ xs) (suc j) ≡ Some x) ⊎ ((suc j ≡ length (z ∷ xs)) × (x ≡ y))
    later (inl e) = inl e
    later (inr e) = inr (ap suc e.0, e.1)

pushed-length : {X : Type 0} (xs : List X) (x : X) → length (xs ++ x ∷ []) ≡ suc (length xs)
pushed-length [] x = refl
pushed-length (y ∷ xs) x = ap suc (pushed-length xs x)

pub length-pushed : {X : Type 0} (xs : List X) (x : X) (n : ℕ) → length xs ≡ n → length (xs ++ x ∷ []) ≡ n + 1
length-pushed xs x n h = let e = pushed-length xs x in omega arith

-- one more slot
pub slots-more : (i : Interp) (names : List Name) (slots : List Slot) (slot : Slot) (x : Name) → slice_get names (length slots) ≡ Some x → IsSlot i x slot → AreSlots i names slots → AreSlots i names (slots ++ slot ∷ [])
slots-more i names slots slot x named is known n y s there at = by (pushed-is slots slot n s at)
  where
    by : (slice_get slots n ≡ Some s) ⊎ ((n ≡ length slots) × (s ≡ slot)) → IsSlot i y s
    by (inl e) = known n y s there e
    by (inr e) =
        let same : x ≡ y = some-one x y (sym named ∙ ap (slice_get names) (sym e.0) ∙ there) in
        subst (λ (z : Name). IsSlot i z s) same (subst (λ (u : Slot). IsSlot i x u) (sym e.1) is)
