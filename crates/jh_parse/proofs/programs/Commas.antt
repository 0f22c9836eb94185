-- Things with commas between them are read as they stand.
use Rattle.std.proofs.Common.{◌≡◌, ℕ, zero, suc, ◌+◌, ◌-◌, ◌<◌, true, false, List, [], ◌∷◌, ◌++◌, append_assoc, map, refl, ap, sym, ◌∙◌, arith}
use Rattle.std.proofs.lemmas.List.{map-append}
use Rattle.std.specs.Prelude.{Option, None, Some}
use Rattle.jh_lex.specs.declared.lexer.symbol.Symbol.TheVariants as symbol
use Rattle.jh_lex.specs.declared.lexer.token.Token.{Token}
use Rattle.jh_operators.specs.lookahead.Choices.{and_then, choose}
use Rattle.jh_operators.specs.lookahead.Standing.{Is, is_at}
use Rattle.jh_operators.proofs.lookahead.Options.{Holds, nothing, found, then_holds, choose_holds, then_is, choose_on, choose_off}
use Rattle.jh_parse.specs.programs.Separated.{Separated, last, further, separated_at}

module _ {A : Type 0} (ts : List Token) (One : ℕ → A → ℕ → Type 0) (one : ℕ → Option (A × ℕ)) where
  pub separated-sound : ((i : ℕ) → Holds (λ a. One i a.0 a.1) (one i)) → (k i : ℕ) → Holds (λ r. Separated ts One i r.0 r.1) (separated_at ts one k i)
  unfolding separated_at
  separated-sound sound zero i = nothing
  separated-sound sound (suc k) i = then_holds (sound i) (λ a p. choose_holds (λ c. then_holds (separated-sound sound k (a.1 + 1)) (λ r q. found (further p c q))) (λ c. found (last p)))

  -- Each thing takes a token, and is read where what follows may follow it.
  module _ (Follows : ℕ → Type 0) (forward : (i j : ℕ) (x : A) → One i x j → i < j) (comma : (i : ℕ) → Is ts i symbol.Comma → Follows i)
      (complete : (i j : ℕ) (x : A) → One i x j → Follows j → one i ≡ Some (x, j)) where
    pub separated-end : {i j : ℕ} {xs : List A} → Separated ts One i xs j → i < j
    separated-end {i = i} {j = j} (last {x = x} p) = forward i j x p
    separated-end {i = i} (further {j = j} {x = x} p c q) = omega (arith, forward i j x p, separated-end q)

    pub separated-complete : (k : ℕ) {i j : ℕ} {xs : List A} → Separated ts One i xs j → Follows j → is_at ts j symbol.Comma ≡ false → j < i + k → separated_at ts one k i ≡ Some (xs, j)
    unfolding separated_at
    separated-complete zero p stop e h = absurd (omega (arith, h, separated-end p))
    separated-complete (suc k) {i = i} {j = j} (last {x = x} p) stop e h = then_is _ (complete i j x p stop) (choose_off _ e refl)
    separated-complete (suc k) {i = i} (further {j = j} {x = x} p c q) stop e h = then_is _ (complete i j x p (comma j c)) (choose_on _ c (then_is _ (separated-complete k q stop e (omega (arith, h, forward i j x p))) refl))

-- ---- one turn of the loop that reads them, where the things are seen by a view
module _ {A X : Type 0} (ts : List Token) (one : ℕ → Option (A × ℕ)) (view : X → A) where
  -- what is made, with what is read from here on
  abbrev pub with_rest : List X → ℕ → ℕ → Option (List A × ℕ)
  with_rest made k i = and_then {B = List A × ℕ} (separated_at ts one k i) (λ r. Some (map view made ++ r.0, r.1))

  before : (k : ℕ) → suc k - 1 ≡ k
  before k = omega arith

  joined : (made : List X) (x : X) (o : Option (List A × ℕ)) → and_then {B = List A × ℕ} (and_then {B = List A × ℕ} o (λ r. Some (view x ∷ r.0, r.1))) (λ r. Some (map view made ++ r.0, r.1)) ≡ and_then {B = List A × ℕ} o (λ r. Some (map view (made ++ x ∷ []) ++ r.0, r.1))
  unfolding and_then
  joined made x None = refl
  joined made x (Some r) = ap (λ l. Some (l, r.1)) (sym (append_assoc (map view made) (view x ∷ []) r.0) ∙ ap (λ l. l ++ r.0) (sym (map-append view made (x ∷ []))))

  pub separated-next : (k i j : ℕ) (x : X) (made new : List X) → 0 < k → one i ≡ Some (view x, j) → is_at ts j symbol.Comma ≡ true → new ≡ made ++ x ∷ [] → with_rest made k i ≡ with_rest new (k - 1) (j + 1)
  unfolding and_then choose separated_at
  separated-next zero i j x made new h e c q = absurd (omega (arith, h))
  separated-next (suc k) i j x made new h e c q = rw (e, c, before k, q) (joined made x (separated_at ts one k (j + 1)))

  pub separated-last : (k i j : ℕ) (x : X) (made new : List X) (target : Option (List A × ℕ)) → 0 < k → one i ≡ Some (view x, j) → is_at ts j symbol.Comma ≡ false → new ≡ made ++ x ∷ [] → with_rest made k i ≡ target → target ≡ Some (map view new, j)
  unfolding and_then choose separated_at
  separated-last zero i j x made new target h e c q all = absurd (omega (arith, h))
  separated-last (suc k) i j x made new target h e c q all = sym all ∙ rw (e, c, q) (ap (λ l. Some (l, j)) (sym (map-append view made (x ∷ []))))

  pub separated-none : (k i : ℕ) (made : List X) (target : Option (List A × ℕ)) → one i ≡ None → with_rest made k i ≡ target → target ≡ None
  unfolding and_then separated_at
  separated-none zero i made target e all = sym all
  separated-none (suc k) i made target e all = sym all ∙ rw e refl

  pub separated-short : (k i : ℕ) (made : List X) (target : Option (List A × ℕ)) → k ≡ 0 → with_rest made k i ≡ target → target ≡ None
  unfolding and_then separated_at
  separated-short zero i made target e all = sym all
  separated-short (suc k) i made target e all = absurd (omega (arith, e))

  pub separated-begin : (k i : ℕ) → with_rest [] k i ≡ separated_at ts one k i
  unfolding and_then
  separated-begin k i = same (separated_at ts one k i) where
    same : (o : Option (List A × ℕ)) → and_then {B = List A × ℕ} o (λ r. Some (r.0, r.1)) ≡ o
    same None = refl
    same (Some r) = refl
