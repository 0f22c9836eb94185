-- Places that are chosen one after another.
use Rattle.std.proofs.Common.{◌≡◌, refl, sym, ap, subst, ◌∙◌, ◌⊎◌, inl, inr, ◌↔◌, ℕ, zero, suc, ◌+◌, ◌-◌, ◌<◌, ◌||◌, Bool, true, false, if◌then◌else◌, nat_eq, List, [], ◌∷◌, ◌++◌, length, add-one, get_or, slice_get, Option, Some, None, arith}
use Rattle.std.specs.List.{list_any}
use Rattle.std.specs.Option.{option_map_or}
use Rattle.std.proofs.lemmas.Bool.{true≢false}
use Rattle.std.proofs.lemmas.Option.{get_or_from_slice_get}
use Rattle.jh_containers.specs.declared.transitive_closure.facts.Fact.{Fact}
use Rattle.jh_containers.specs.transitive_closure.Spreads.{IsIn, passed_to}
use Rattle.jh_effects.specs.written_state.Chosen.{places_below, ends_with, put_last, IsChosen}
use Rattle.jh_effects.proofs.written_state.Rowing.{same-test, nat-same, nat-other}

some-is : {X : Type 0} (a b : X) → Some a ≡ Some b → b ≡ a
some-is a b e = cc

-- what stands in a list passes the test that asks for it
pub any-in : (x : ℕ) (xs : List ℕ) → list_any (nat_eq x) xs ≡ true → IsIn xs x
any-in x [] h = absurd (true≢false (sym h))
any-in x (y ∷ ys) h = by (nat_eq x y) refl (any-in x ys) h
  where
    by : (t : Bool) → nat_eq x y ≡ t → (list_any (nat_eq x) ys ≡ true → IsIn ys x) → (t || list_any (nat_eq x) ys) ≡ true → IsIn (y ∷ ys) x
    by true e rest g = (0, ap Some (sym (same-test x y true e refl)))
    by false e rest g = let k = rest g in (suc k.0, k.1)

pub in-any : (x : ℕ) (xs : List ℕ) → IsIn xs x → list_any (nat_eq x) xs ≡ true
in-any x [] (zero, e) = cc
in-any x [] (suc i, e) = cc
in-any x (y ∷ ys) (zero, e) = ap (λ t. t || list_any (nat_eq x) ys) (ap (nat_eq x) (sym (some-is y x e)) ∙ nat-same x)
in-any x (y ∷ ys) (suc i, e) = by (nat_eq x y) (in-any x ys (i, e))
  where
    by : (t : Bool) → list_any (nat_eq x) ys ≡ true → (t || list_any (nat_eq x) ys) ≡ true
    by true rest = refl
    by false rest = rest

-- whether a thing is among those of the fact at a place of a list
abbrev pub test_at : List (List ℕ) → List ℕ → ℕ → ℕ → Bool
test_at by_fact list thing place = list_any (nat_eq thing) (passed_to by_fact (get_or list place 0))

-- the places that are chosen so far are below the bound
push-cases : {X : Type 0} (xs : List X) (x : X) (i : ℕ) (r : X) → slice_get (xs ++ x ∷ []) i ≡ Some r → (slice_get xs i ≡ Some r) ⊎ (r ≡ x)
push-cases [] x zero r e = inr (some-is x r e)
push-cases [] x (suc i) r e = cc
push-cases (y ∷ xs) x zero r e = inl e
push-cases (y ∷ xs) x (suc i) r e = push-cases xs x i r e

nothing-more : (xs : List ℕ) → xs ≡ xs ++ []
nothing-more [] = refl
nothing-more (x ∷ xs) = ap (λ ys. x ∷ ys) (nothing-more xs)

below : (test : ℕ → Bool) (n i k : ℕ) → slice_get (places_below test n) i ≡ Some k → k < n
unfolding places_below
below test zero zero k e = cc
below test zero (suc i) k e = cc
below test (suc n) i k e = by (test n) (below test n i k) e
  where
    last : (slice_get (places_below test n) i ≡ Some k → k < n) → (slice_get (places_below test n) i ≡ Some k) ⊎ (k ≡ n) → k < suc n
    last rest (inl f) = let lt : k < n = rest f in omega arith
    last rest (inr s) = omega arith

    by : (b : Bool) → (slice_get (places_below test n) i ≡ Some k → k < n) → slice_get (places_below test n ++ (if b then n ∷ [] else [])) i ≡ Some k → k < suc n
    by true rest f = last rest (push-cases (places_below test n) n i k f)
    by false rest f = let lt : k < n = rest (ap (λ xs. slice_get xs i) (nothing-more (places_below test n)) ∙ f) in omega arith

not-ended : (test : ℕ → Bool) (n : ℕ) → ends_with n (places_below test n) ≡ false
not-ended test n = by (slice_get (places_below test n) (length (places_below test n) - 1)) refl
  where
    by : (o : Option ℕ) → slice_get (places_below test n) (length (places_below test n) - 1) ≡ o → option_map_or (nat_eq n) o false ≡ false
    by None e = refl
    by (Some k) e = let lt : k < n = below test n (length (places_below test n) - 1) k e in nat-other n k (λ s. let same : n ≡ k = s in absurd (omega arith))

-- one more place of the list
pub chosen-next : (test : ℕ → Bool) (n : ℕ) (old new : List ℕ) (b : Bool) → b ≡ test n → old ≡ places_below test n → new ≡ (if b then put_last n old else old) → new ≡ places_below test (n + 1)
unfolding places_below
chosen-next test n old new b at was is = is ∙ ap (λ row. if b then put_last n row else row) was ∙ by b ∙ ap (λ c. places_below test n ++ (if c then n ∷ [] else [])) at ∙ ap (places_below test) (sym (add-one n))
  where
    by : (c : Bool) → (if c then put_last n (places_below test n) else places_below test n) ≡ places_below test n ++ (if c then n ∷ [] else [])
    by true = ap (λ e. if e then places_below test n else places_below test n ++ n ∷ []) (not-ended test n)
    by false = nothing-more (places_below test n)

pub chosen-none : (test : ℕ → Bool) (row : List ℕ) → row ≡ [] → row ≡ places_below test 0
unfolding places_below
chosen-none test row e = e

-- what is chosen at the end
module _ (facts : List Fact) where
  pub chosen-end : (by_fact : List (List ℕ)) (list : List ℕ) (n thing : ℕ) (row : List ℕ) → n ≡ length list → ((thing what : ℕ) → IsIn (passed_to by_fact what) thing ↔ IsIn facts (record { of = thing; what = what })) → row ≡ places_below (test_at by_fact list thing) n → IsChosen facts list thing row
  chosen-end by_fact list n thing row long exact is = record {
    test = test_at by_fact list thing;
    exact = λ j w at.
        let here : passed_to by_fact (get_or list j 0) ≡ passed_to by_fact w = ap (passed_to by_fact) (get_or_from_slice_get list j w 0 at) in (
          λ t. (exact thing w).0 (subst (λ (ms : List ℕ). IsIn ms thing) here (any-in thing (passed_to by_fact (get_or list j 0)) t)),
          λ h. in-any thing (passed_to by_fact (get_or list j 0)) (subst (λ (ms : List ℕ). IsIn ms thing) (sym here) ((exact thing w).1 h)),
        );
    is = is ∙ ap (places_below (test_at by_fact list thing)) long;
  }
