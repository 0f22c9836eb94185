-- Lists are read as they stand, and one turn of a loop that reads them.
use Rattle.std.proofs.Common.{◌≡◌, ℕ, zero, suc, ◌+◌, ◌-◌, ◌<◌, ◌≤◌, Bool, true, false, List, [], ◌∷◌, ◌++◌, append_assoc, append-nil, map, refl, ap, sym, ◌∙◌, arith}
use Rattle.std.specs.Prelude.{Err, Option, None, Some}
use Rattle.jh_operators.specs.declared.lookahead.error.ReadError.{ReadError}
use Rattle.jh_operators.specs.declared.lookahead.error.ReadError.TheVariants as error
use Rattle.jh_operators.specs.lookahead.Answers.{Gives}
use Rattle.jh_operators.specs.lookahead.Choices.{and_then, choose}
use Rattle.jh_operators.specs.lookahead.Lists.{Many, none, more, Found, many_at}
use Rattle.jh_operators.proofs.lookahead.Options.{Holds, nothing, found, then_holds, choose_holds, then_is, choose_on, choose_off}

module _ {A : Type 0} (One : ℕ → ℕ → A → ℕ → ℕ → Type 0) (ends : ℕ → Bool) (one : ℕ → ℕ → Option (Found A)) where
  -- what is read stands there, and the list ends after it
  pub many-sound : ((n i : ℕ) → Holds (λ a. One n i a.0 a.1 a.2) (one n i)) → (k n i : ℕ) → Holds (λ r. Many One n i r.0 r.1 r.2 × (ends r.1 ≡ true)) (many_at ends one k n i)
  unfolding many_at
  many-sound sound zero n i = choose_holds (λ e. found (none, e)) (λ _. nothing)
  many-sound sound (suc k) n i = choose_holds (λ e. found (none, e)) (λ _. then_holds (sound n i) (λ a p. then_holds (many-sound sound k a.2 a.1) (λ r q. found (more p q.0, q.1))))

  -- What stands there is read, where each thing begins with what doesn't end the list, takes a token, and is read where
  -- what follows it may follow.
  module _ (Follows : ℕ → Type 0)
      (begins : (n i j m : ℕ) (x : A) → One n i x j m → (ends i ≡ false) × (i < j) × Follows i)
      (ended : (i : ℕ) → ends i ≡ true → Follows i)
      (complete : (n i j m : ℕ) (x : A) → One n i x j m → Follows j → one n i ≡ Some (x, j, m)) where
    pub many-forward : {n i j m : ℕ} {xs : List A} → Many One n i xs j m → i ≤ j
    many-forward none = omega arith
    many-forward {n = n} {i = i} (more {j = j} {m = m} {x = x} p q) = omega (arith, (begins n i j m x p).1, many-forward q)

    first_follows : {n i j m : ℕ} {xs : List A} → Many One n i xs j m → ends j ≡ true → Follows i
    first_follows none e = ended _ e
    first_follows {n = n} {i = i} (more {j = j} {m = m} {x = x} p q) e = (begins n i j m x p).2

    pub many-complete : (k : ℕ) {n i j m : ℕ} {xs : List A} → Many One n i xs j m → ends j ≡ true → j ≤ i + k → many_at ends one k n i ≡ Some (xs, j, m)
    unfolding many_at
    many-complete zero none e h = choose_on _ e refl
    many-complete (suc k) none e h = choose_on _ e refl
    many-complete zero {n = n} {i = i} (more {j = j} {m = m} {x = x} p q) e h = absurd (omega (arith, h, (begins n i j m x p).1, many-forward q))
    many-complete (suc k) {n = n} {i = i} (more {j = j} {m = m} {x = x} p q) e h = choose_off _ (begins n i j m x p).0
        (then_is _ (complete n i j m x p (first_follows q e)) (then_is _ (many-complete k q e (omega (arith, h, (begins n i j m x p).1))) refl))

-- ---- one turn of a loop
module _ {A X : Type 0} (ends : ℕ → Bool) (one : ℕ → ℕ → Option (Found A)) (view : X → A) where
  -- what is made, with what is read from here on
  abbrev pub with_rest : List X → ℕ → ℕ → ℕ → Option (Found (List A))
  with_rest made k n i = and_then {B = Found (List A)} (many_at ends one k n i) (λ r. Some (map view made ++ r.0, r.1, r.2))

  map-last : (old : List X) (x : X) → map view (old ++ x ∷ []) ≡ map view old ++ view x ∷ []
  map-last [] x = refl
  map-last (y ∷ ys) x = ap (λ l. view y ∷ l) (map-last ys x)

  before : (k : ℕ) → suc k - 1 ≡ k
  before k = omega arith

  joined : (old : List X) (x : X) (o : Option (Found (List A))) → and_then {B = Found (List A)} (and_then {B = Found (List A)} o (λ r. Some (view x ∷ r.0, r.1, r.2))) (λ r. Some (map view old ++ r.0, r.1, r.2)) ≡ and_then {B = Found (List A)} o (λ r. Some (map view (old ++ x ∷ []) ++ r.0, r.1, r.2))
  unfolding and_then
  joined old x None = refl
  joined old x (Some r) = ap (λ l. Some (l, r.1, r.2)) (sym (append_assoc (map view old) (view x ∷ []) r.0) ∙ ap (λ l. l ++ r.0) (sym (map-last old x)))

  -- one more thing
  pub many-next : (k n i j m : ℕ) (x : X) (old new : List X) → 0 < k → ends i ≡ false → one n i ≡ Some (view x, j, m) → new ≡ old ++ x ∷ [] → with_rest old k n i ≡ with_rest new (k - 1) m j
  unfolding and_then choose many_at
  many-next zero n i j m x old new h off e q = absurd (omega (arith, h))
  many-next (suc k) n i j m x old new h off e q = rw (off, e, before k, q) (joined old x (many_at ends one k m j))

  -- the list ends here
  pub many-all : (k n i : ℕ) (old : List X) (target : Option (Found (List A))) → ends i ≡ true → with_rest old k n i ≡ target → target ≡ Some (map view old, i, n)
  unfolding and_then choose many_at
  many-all k n i old target on e = sym e ∙ ap (λ (o : Option (Found (List A))). and_then {B = Found (List A)} o (λ r. Some (map view old ++ r.0, r.1, r.2))) (at_end k) ∙ ap (λ l. Some (l, i, n)) (append-nil (map view old)) where
    at_end : (k : ℕ) → many_at ends one k n i ≡ Some ([], i, n)
    at_end zero = rw on refl
    at_end (suc k) = rw on refl

  -- nothing stands there
  pub many-none : (k n i : ℕ) (old : List X) (target : Option (Found (List A))) → ends i ≡ false → one n i ≡ None → with_rest old k n i ≡ target → target ≡ None
  unfolding and_then choose many_at
  many-none zero n i old target off e h = sym h ∙ rw off refl
  many-none (suc k) n i old target off e h = sym h ∙ rw (off, e) refl

  -- there is no turn left
  pub many-short : (k n i : ℕ) (old : List X) (target : Option (Found (List A))) → k ≡ 0 → ends i ≡ false → with_rest old k n i ≡ target → target ≡ None
  unfolding and_then choose many_at
  many-short zero n i old target z off h = sym h ∙ rw off refl
  many-short (suc k) n i old target z off h = absurd (omega (arith, z))

  -- before the first turn
  pub many-begin : (k n i : ℕ) → with_rest [] k n i ≡ many_at ends one k n i
  unfolding and_then
  many-begin k n i = same (many_at ends one k n i) where
    same : (o : Option (Found (List A))) → and_then {B = Found (List A)} o (λ r. Some (r.0, r.1, r.2)) ≡ o
    same None = refl
    same (Some r) = refl

-- an error that is passed on: nothing is read where nothing was read inside
pub error-passes : {X Y U V : Type 0} (view : X → Y) (outer : U → V) {w : Option Y} {v : Option V} (e : ReadError) → Gives view w (Err e) → (w ≡ None → v ≡ None) → Gives outer v (Err e)
error-passes view outer (error.Refused n) h go = go h
error-passes view outer error.Memory h go = tt
