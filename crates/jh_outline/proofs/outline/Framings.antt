-- Places below a bound that pass a test, and the members that are framed.
use Rattle.std.proofs.Common.{◌≡◌, refl, sym, ap, subst, ◌∙◌, ◌⊎◌, inl, inr, ⊎_elim, ℕ, zero, suc, ◌+◌, ◌<◌, ◌≤◌, Bool, true, false, ◌&&◌, not, nat_eq, if◌then◌else◌, List, [], ◌∷◌, ◌++◌, map, length, Option, Some, None, slice_get, arith}
use Rattle.std.specs.Prelude.{filter}
use Rattle.std.specs.List.{Contains, list_any, flat_map}
use Rattle.std.specs.Option.{option_map_or, option_map}
use Rattle.std.proofs.lemmas.Bool.Decides.{nat_tests}
use Rattle.std.proofs.lemmas.List.{length-map}
use Rattle.std.proofs.lemmas.List.Elements.{Contains-append_left, Contains-append_right, Contains-append_cases}
use Rattle.std.proofs.lemmas.Option.{slice_get-map}
use Rattle.jh_effects.specs.written_state.Arising.{passes_at}
use Rattle.jh_effects.specs.written_state.Chosen.{places_below}
use Rattle.jh_effects.proofs.written_state.Spreading.{places-same, same-bool}
use Rattle.jh_logic.proofs.source.Lists.{has-none, has-first, has-cases}
use Rattle.jh_state_facts.specs.declared.well_formedness.state.Member.{Member}
use Rattle.jh_state_facts.specs.well_formedness.States.{member_in, members_in}
use Rattle.jh_state_facts.specs.changes.Added.{chosen, chosen_at}
use Rattle.jh_method_commands.specs.environment.Outlines.{standing_at, standing}
use Rattle.jh_outline.proofs.outline.Standing.{any-from, any-of, standing-below, there}

same-place : (a b : ℕ) (t : Bool) → nat_eq a b ≡ t → t ≡ true → a ≡ b
same-place a b t e h = grind (arith, nat_tests)

place-same : (a b : ℕ) (t : Bool) → nat_eq a b ≡ t → a ≡ b → t ≡ true
place-same a b t e h = grind (arith, nat_tests)

-- a place among those below a bound passes the test
one-passes : (test : ℕ → Bool) (n j : ℕ) (b : Bool) → test n ≡ b → Contains (if b then n ∷ [] else []) j → test j ≡ true
one-passes test n j true e i = ⊎_elim (λ s. ap test (sym s) ∙ e) (λ k. absurd (has-none j k)) (has-cases n [] j i)
one-passes test n j false e i = absurd (has-none j i)

below-passes : (test : ℕ → Bool) (n j : ℕ) → Contains (places_below test n) j → test j ≡ true
unfolding places_below
below-passes test zero j i = absurd (has-none j i)
below-passes test (suc n) j i = ⊎_elim (below-passes test n j) (one-passes test n j (test n) refl) (Contains-append_cases (places_below test n) (if test n then n ∷ [] else []) j i)

-- below one more is below, or that one
earlier : (n j : ℕ) → j < suc n → (j < n) ⊎ (n ≡ j)
earlier zero zero lt = inr refl
earlier zero (suc j) lt = absurd (omega arith)
earlier (suc n) zero lt = inl (omega arith)
earlier (suc n) (suc j) lt = next (earlier n j (omega arith))
  where
    next : (j < n) ⊎ (n ≡ j) → (suc j < suc n) ⊎ (suc n ≡ suc j)
    next (inl l) = inl (omega arith)
    next (inr s) = inr (ap suc s)

-- and one that passes it is among them
passes-below : (test : ℕ → Bool) (n j : ℕ) → j < n → test j ≡ true → Contains (places_below test n) j
unfolding places_below
passes-below test zero j lt e = absurd (omega arith)
passes-below test (suc n) j lt e = by (earlier n j lt) (λ l. passes-below test n j l e)
  where
    by : (j < n) ⊎ (n ≡ j) → (j < n → Contains (places_below test n) j) → Contains (places_below test n ++ (if test n then n ∷ [] else [])) j
    by (inl l) rest = Contains-append_left (places_below test n) (if test n then n ∷ [] else []) j (rest l)
    by (inr s) rest = Contains-append_right (places_below test n) (if test n then n ∷ [] else []) j
        (subst (λ (b : Bool). Contains (if b then n ∷ [] else []) j) (sym (ap test s ∙ e)) (subst (λ k. Contains (n ∷ []) k) s (has-first n [])))

pub below-has : (test : ℕ → Bool) (n j : ℕ) → j < n → list_any (nat_eq j) (places_below test n) ≡ test j
below-has test n j lt = same-bool (list_any (nat_eq j) (places_below test n)) (test j)
    (λ h. let r = any-from (nat_eq j) (places_below test n) h in ap test (same-place j r.0 (nat_eq j r.0) refl r.2) ∙ below-passes test n r.0 r.1)
    (λ h. any-of (nat_eq j) (places_below test n) j (passes-below test n j lt h) (place-same j j (nat_eq j j) refl refl))

-- what passes is what stands at the places that pass
pub filter-stands : {X : Type 0} (test : X → Bool) (xs : List X) (places : ℕ → Bool) → ((k : ℕ) (x : X) → slice_get xs k ≡ Some x → test x ≡ places k) → filter test xs ≡ standing xs (places_below places (length xs))
filter-stands test xs places same = sym (standing-below test xs) ∙ ap (standing xs) (places-same (passes_at test xs) places (length xs) (λ k lt. let x = there xs k lt in ap (λ o. option_map_or test o false) x.1 ∙ same k x.0 x.1))

-- members that are chosen stand at their places
pub chosen-stands : (classes : List (List ℕ)) (members : List Member) (places : List ℕ) → chosen classes members places ≡ standing (members_in classes members) places
chosen-stands classes members [] = refl
chosen-stands classes members (n ∷ ns) = λ i. (one (slice_get members n) ∙ sym (ap (λ o. option_map_or (λ x. x ∷ []) o []) (slice_get-map (member_in classes) members n))) i ++ chosen-stands classes members ns i
  where
    one : (o : Option Member) → option_map_or (λ x. member_in classes x ∷ []) o [] ≡ option_map_or (λ x. x ∷ []) (option_map (member_in classes) o) []
    one None = refl
    one (Some x) = refl

-- what stands behind the front of a list
pub get-behind : {X : Type 0} (xs ys : List X) (k : ℕ) → slice_get (xs ++ ys) (length xs + k) ≡ slice_get ys k
get-behind [] ys k = ap (slice_get ys) (from-none k)
  where
    from-none : (n : ℕ) → 0 + n ≡ n
    from-none n = omega arith
get-behind (x ∷ xs) ys k = ap (slice_get (x ∷ xs ++ ys)) (one-later (length xs) k) ∙ get-behind xs ys k
  where
    one-later : (n k : ℕ) → suc n + k ≡ suc (n + k)
    one-later n k = omega arith
