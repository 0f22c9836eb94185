-- One turn of a loop that adds what it reads to what is there.
use Rattle.std.proofs.Common.{◌≡◌, ℕ, zero, suc, ◌-◌, ◌<◌, Bool, true, false, List, [], ◌∷◌, refl, ap, sym, ◌∙◌, arith}
use Rattle.std.proofs.lemmas.Option.{none-some}
use Rattle.std.specs.Prelude.{Option, None, Some}
use Rattle.jh_operators.proofs.lookahead.Options.{some_one}
use Rattle.jh_operators.specs.lookahead.Choices.{and_then, choose}
use Rattle.jh_operators.specs.lookahead.Lists.{Found, many_at}

module _ {A C : Type 0} (ends : ℕ → Bool) (one : ℕ → ℕ → Option (Found A)) (add : C → List A → C)
    (add-none : (c : C) → add c [] ≡ c) (add-more : (c : C) (x : A) (xs : List A) → add (add c (x ∷ [])) xs ≡ add c (x ∷ xs)) where
  -- what is there, with what is read from here on
  abbrev pub with_rest : C → ℕ → ℕ → ℕ → Option (Found C)
  with_rest c k n i = and_then {B = Found C} (many_at ends one k n i) (λ r. Some (add c r.0, r.1, r.2))

  -- what is there, with the one thing that is read
  abbrev pub with_one : C → Option (Found A) → Option (Found C)
  with_one c read = and_then {B = Found C} read (λ r. Some (add c (r.0 ∷ []), r.1, r.2))

  before : (k : ℕ) → suc k - 1 ≡ k
  before k = omega arith

  joined : (old new : C) (a : Found A) (j m : ℕ) → ◌≡◌ {A = Found C} (add old (a.0 ∷ []), a.1, a.2) (new, j, m) → (k : ℕ)
      → and_then {B = Found C} (and_then {B = Found (List A)} (many_at ends one k a.2 a.1) (λ r. Some (a.0 ∷ r.0, r.1, r.2))) (λ r. Some (add old r.0, r.1, r.2)) ≡ and_then {B = Found C} (many_at ends one k m j) (λ r. Some (add new r.0, r.1, r.2))
  unfolding and_then
  joined old new a j m e k = by_case (many_at ends one k a.2 a.1) ∙ ap (λ (q : Found C). and_then {B = Found C} (many_at ends one k q.2 q.1) (λ r. Some (add q.0 r.0, r.1, r.2))) e where
    by_case : (o : Option (Found (List A))) → and_then {B = Found C} (and_then {B = Found (List A)} o (λ r. Some (a.0 ∷ r.0, r.1, r.2))) (λ r. Some (add old r.0, r.1, r.2)) ≡ and_then {B = Found C} o (λ r. Some (add (add old (a.0 ∷ [])) r.0, r.1, r.2))
    by_case None = refl
    by_case (Some r) = ap (λ c. Some (c, r.1, r.2)) (sym (add-more old a.0 r.0))

  -- one more
  pub gathered-next : (k n i j m : ℕ) (old new : C) → 0 < k → ends i ≡ false → with_one old (one n i) ≡ Some (new, j, m) → with_rest old k n i ≡ with_rest new (k - 1) m j
  unfolding and_then choose many_at
  gathered-next zero n i j m old new h off e = absurd (omega (arith, h))
  gathered-next (suc k) n i j m old new h off e = rw (off, before k) (by_case (one n i) e) where
    by_case : (o : Option (Found A)) → with_one old o ≡ Some (new, j, m)
        → and_then {B = Found C} (and_then {B = Found (List A)} o (λ a. and_then (many_at ends one k a.2 a.1) (λ r. Some (a.0 ∷ r.0, r.1, r.2)))) (λ r. Some (add old r.0, r.1, r.2)) ≡ and_then {B = Found C} (many_at ends one k m j) (λ r. Some (add new r.0, r.1, r.2))
    by_case None e = absurd (none-some _ e)
    by_case (Some a) e = joined old new a j m (some_one e) k

  -- the list ends here
  pub gathered-all : (k n i : ℕ) (c : C) (target : Option (Found C)) → ends i ≡ true → with_rest c k n i ≡ target → target ≡ Some (c, i, n)
  unfolding and_then choose many_at
  gathered-all k n i c target on e = sym e ∙ ap (λ (o : Option (Found (List A))). and_then {B = Found C} o (λ r. Some (add c r.0, r.1, r.2))) (at_end k) ∙ ap (λ x. Some (x, i, n)) (add-none c) where
    at_end : (k : ℕ) → many_at ends one k n i ≡ Some ([], i, n)
    at_end zero = rw on refl
    at_end (suc k) = rw on refl

  -- nothing stands there
  pub gathered-none : (k n i : ℕ) (c : C) (target : Option (Found C)) → ends i ≡ false → with_one c (one n i) ≡ None → with_rest c k n i ≡ target → target ≡ None
  unfolding and_then choose many_at
  gathered-none zero n i c target off e h = sym h ∙ rw off refl
  gathered-none (suc k) n i c target off e h = sym h ∙ rw off (by_case (one n i) e) where
    by_case : (o : Option (Found A)) → with_one c o ≡ None → and_then {B = Found C} (and_then {B = Found (List A)} o (λ a. and_then (many_at ends one k a.2 a.1) (λ r. Some (a.0 ∷ r.0, r.1, r.2)))) (λ r. Some (add c r.0, r.1, r.2)) ≡ None
    by_case None e = refl
    by_case (Some a) e = absurd (none-some _ (sym e))

  -- there is no turn left
  pub gathered-short : (k n i : ℕ) (c : C) (target : Option (Found C)) → k ≡ 0 → ends i ≡ false → with_rest c k n i ≡ target → target ≡ None
  unfolding and_then choose many_at
  gathered-short zero n i c target z off h = sym h ∙ rw off refl
  gathered-short (suc k) n i c target z off h = absurd (omega (arith, z))
