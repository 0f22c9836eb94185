-- How long lists are: choices, lists that a test filters, and lists in which each stands once.
use Rattle.std.proofs.Common.{◌≡◌, refl, sym, ap, ◌∙◌, ℕ, zero, suc, ◌+◌, ◌*◌, ◌^◌, ◌≤◌, arith, length, Bool, true, false, not, if◌then◌else◌, List, [], ◌∷◌, ◌++◌, ◌⊎◌, inl, inr, map, filter, pow-suc, zero-mul}
use native.Mathlib.Nat.{pow-zero}
use Rattle.std.proofs.lemmas.Nat.{mul-le}
use Rattle.std.specs.List.{flat_map}
use Rattle.jh_form.specs.Tree.{TermTree}
use Rattle.jh_inst.specs.instances.Choices.{choices, is_old, new_choices}

module _ {X : Type 0} where
  pub length-both : (xs ys : List X) → length (xs ++ ys) ≡ length xs + length ys
  length-both [] ys = omega arith
  length-both (x ∷ xs) ys = let more : length (xs ++ ys) ≡ length xs + length ys = length-both xs ys in omega (arith, more)

  fewer : (b : Bool) (x : X) (xs : List X) (n : ℕ) → length xs ≤ n → length (if b then x ∷ xs else xs) ≤ suc n
  fewer true x xs n h = omega (arith, h)
  fewer false x xs n h = omega (arith, h)

  pub filter-fewer : (test : X → Bool) (xs : List X) → length (filter test xs) ≤ length xs
  filter-fewer test [] = omega arith
  filter-fewer test (x ∷ xs) = fewer (test x) x (filter test xs) (length xs) (filter-fewer test xs)

  -- x stands in the list
  abbrev pub In : X → List X → Type 0
  In x [] = ⊥
  In x (y ∷ ys) = (x ≡ y) ⊎ In x ys

  pub in-left : (x : X) (xs ys : List X) → In x xs → In x (xs ++ ys)
  in-left x [] ys h = absurd h
  in-left x (y ∷ xs) ys (inl e) = inl e
  in-left x (y ∷ xs) ys (inr h) = inr (in-left x xs ys h)

  pub in-right : (x : X) (xs ys : List X) → In x ys → In x (xs ++ ys)
  in-right x [] ys h = h
  in-right x (y ∷ xs) ys h = inr (in-right x xs ys h)

  pub in-both : (x : X) (xs ys : List X) → In x (xs ++ ys) → In x xs ⊎ In x ys
  in-both x [] ys h = inr h
  in-both x (y ∷ xs) ys (inl e) = inl (inl e)
  in-both x (y ∷ xs) ys (inr h) =
      elim (in-both x xs ys h) [
        | inl l ↦ inl (inr l)
        | inr r ↦ inr r
      ]

  -- none stands in the list twice
  abbrev pub Once : List X → Type 0
  Once [] = Unit {0}
  Once (x ∷ xs) = (In x xs → ⊥) × Once xs

  -- the list without the place at which an element stands
  abbrev lacking : (x : X) (ys : List X) → In x ys → List X
  lacking x [] h = absurd h
  lacking x (y ∷ ys) (inl e) = ys
  lacking x (y ∷ ys) (inr h) = y ∷ lacking x ys h

  lacking-length : (x : X) (ys : List X) (h : In x ys) → length ys ≡ suc (length (lacking x ys h))
  lacking-length x [] h = absurd h
  lacking-length x (y ∷ ys) (inl e) = refl
  lacking-length x (y ∷ ys) (inr h) = ap suc (lacking-length x ys h)

  others-stay : (x z : X) (ys : List X) (h : In x ys) → (z ≡ x → ⊥) → In z ys → In z (lacking x ys h)
  others-stay x z [] h ne g = absurd h
  others-stay x z (y ∷ ys) (inl e) ne (inl f) = absurd (ne (f ∙ sym e))
  others-stay x z (y ∷ ys) (inl e) ne (inr g) = g
  others-stay x z (y ∷ ys) (inr h) ne (inl f) = inl f
  others-stay x z (y ∷ ys) (inr h) ne (inr g) = inr (others-stay x z ys h ne g)

  abbrev pub AllIn : List X → List X → Type 0
  AllIn [] ys = Unit {0}
  AllIn (x ∷ xs) ys = In x ys × AllIn xs ys

  rest-in : (x : X) (xs ys : List X) (h : In x ys) → (In x xs → ⊥) → AllIn xs ys → AllIn xs (lacking x ys h)
  rest-in x [] ys h never all = tt
  rest-in x (z ∷ xs) ys h never all = (others-stay x z ys h (λ e. never (inl (sym e))) all.0, rest-in x xs ys h (λ g. never (inr g)) all.1)

  -- such a list is no longer than one that has all of it
  pub once-shorter : (xs ys : List X) → Once xs → AllIn xs ys → length xs ≤ length ys
  once-shorter [] ys o all = omega arith
  once-shorter (x ∷ xs) ys o all =
      let less : length xs ≤ length (lacking x ys all.0) = once-shorter xs (lacking x ys all.0) o.1 (rest-in x xs ys all.0 o.0 all.1) in
      omega (arith, less, lacking-length x ys all.0)

-- n to the power m choices of m terms
behind-many : (a : TermTree) (cs : List (List TermTree)) → length (map (λ c. a ∷ c) cs) ≡ length cs
behind-many a [] = refl
behind-many a (c ∷ cs) = ap suc (behind-many a cs)

more-many : (ts : List TermTree) (cs : List (List TermTree)) → length (flat_map (λ a. map (λ c. a ∷ c) cs) ts) ≡ length ts * length cs
more-many [] cs = sym (zero-mul (length cs))
more-many (a ∷ ts) cs =
    let rest : length (flat_map (λ b. map (λ c. b ∷ c) cs) ts) ≡ length ts * length cs = more-many ts cs in
    let here : length (map (λ c. a ∷ c) cs) ≡ length cs = behind-many a cs in
    length-both (map (λ c. a ∷ c) cs) (flat_map (λ b. map (λ c. b ∷ c) cs) ts) ∙ omega (arith, rest, here)

pub choices-many : (m : ℕ) (ts : List TermTree) → length (choices m ts) ≡ length ts ^ m
choices-many zero ts = sym (pow-zero (length ts))
choices-many (suc m) ts = more-many ts (choices m ts) ∙ ap (λ z. length ts * z) (choices-many m ts) ∙ power (length ts) (length ts ^ m) (length ts ^ suc m) (pow-suc (length ts) m)
  where
    power : (n p q : ℕ) → q ≡ p * n → n * p ≡ q
    power n p q e = omega (arith, e)

pub new-choices-fewer : (m : ℕ) (ts old : List TermTree) → length (new_choices m ts old) ≤ length ts ^ m
new-choices-fewer m ts old = let all : length (choices m ts) ≡ length ts ^ m = choices-many m ts in omega (arith, all, filter-fewer (λ c. not (is_old old c)) (choices m ts))

pub power-le : (v a b : ℕ) → a ≤ b → a ^ v ≤ b ^ v
power-le zero a b le = let one : a ^ 0 ≡ 1 = pow-zero a in let other : b ^ 0 ≡ 1 = pow-zero b in omega (arith, one, other)
power-le (suc v) a b le =
    let one : a ^ suc v ≡ a ^ v * a = pow-suc a v in
    let other : b ^ suc v ≡ b ^ v * b = pow-suc b v in
    let more : a ^ v * a ≤ b ^ v * b = mul-le (a ^ v) a (b ^ v) b (power-le v a b le) le in
    omega (arith, one, other, more)
