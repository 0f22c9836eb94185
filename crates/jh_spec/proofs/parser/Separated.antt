-- One turn of the loop that reads words with commas between them.
use Rattle.std.proofs.Common.{◌≡◌, ℕ, zero, suc, ◌+◌, ◌-◌, ◌<◌, true, false, List, [], ◌∷◌, ◌++◌, append_assoc, refl, ap, sym, ◌∙◌, arith}
use Rattle.std.specs.Prelude.{Option, None, Some}
use Rattle.jh_lex.specs.declared.lexer.symbol.Symbol.TheVariants as symbol
use Rattle.jh_lex.specs.declared.lexer.token.Token.{Token}
use Rattle.jh_ast.specs.declared.word.Word.{Word}
use Rattle.jh_operators.specs.lookahead.Choices.{and_then, choose}
use Rattle.jh_operators.specs.lookahead.Standing.{is_at}
use Rattle.jh_spec.specs.parser.PartReading.{separated_at}

module _ (ts : List Token) (one : ℕ → Option (Word × ℕ)) where
  -- what is made, with what is read from here on
  abbrev pub with_rest : List Word → ℕ → ℕ → Option (List Word × ℕ)
  with_rest made k i = and_then {B = List Word × ℕ} (separated_at ts one k i) (λ r. Some (made ++ r.0, r.1))

  before : (k : ℕ) → suc k - 1 ≡ k
  before k = omega arith

  joined : (made : List Word) (w : Word) (o : Option (List Word × ℕ)) → and_then {B = List Word × ℕ} (and_then {B = List Word × ℕ} o (λ r. Some (w ∷ r.0, r.1))) (λ r. Some (made ++ r.0, r.1)) ≡ and_then {B = List Word × ℕ} o (λ r. Some ((made ++ w ∷ []) ++ r.0, r.1))
  unfolding and_then
  joined made w None = refl
  joined made w (Some r) = ap (λ l. Some (l, r.1)) (sym (append_assoc made (w ∷ []) r.0))

  pub separated-next : (k i j : ℕ) (w : Word) (made new : List Word) → 0 < k → one i ≡ Some (w, j) → is_at ts j symbol.Comma ≡ true → new ≡ made ++ w ∷ [] → with_rest made k i ≡ with_rest new (k - 1) (j + 1)
  unfolding and_then choose separated_at
  separated-next zero i j w made new h e c q = absurd (omega (arith, h))
  separated-next (suc k) i j w made new h e c q = rw (e, c, before k, q) (joined made w (separated_at ts one k (j + 1)))

  pub separated-last : (k i j : ℕ) (w : Word) (made new : List Word) (target : Option (List Word × ℕ)) → 0 < k → one i ≡ Some (w, j) → is_at ts j symbol.Comma ≡ false → new ≡ made ++ w ∷ [] → with_rest made k i ≡ target → target ≡ Some (new, j)
  unfolding and_then choose separated_at
  separated-last zero i j w made new target h e c q all = absurd (omega (arith, h))
  separated-last (suc k) i j w made new target h e c q all = sym all ∙ rw (e, c, q) refl

  pub separated-none : (k i : ℕ) (made : List Word) (target : Option (List Word × ℕ)) → one i ≡ None → with_rest made k i ≡ target → target ≡ None
  unfolding and_then separated_at
  separated-none zero i made target e all = sym all
  separated-none (suc k) i made target e all = sym all ∙ rw e refl

  pub separated-short : (k i : ℕ) (made : List Word) (target : Option (List Word × ℕ)) → k ≡ 0 → with_rest made k i ≡ target → target ≡ None
  unfolding and_then separated_at
  separated-short zero i made target e all = sym all
  separated-short (suc k) i made target e all = absurd (omega (arith, e))

  pub separated-begin : (k i : ℕ) → with_rest [] k i ≡ separated_at ts one k i
  unfolding and_then
  separated-begin k i = same (separated_at ts one k i) where
    same : (o : Option (List Word × ℕ)) → and_then {B = List Word × ℕ} o (λ r. Some (r.0, r.1)) ≡ o
    same None = refl
    same (Some r) = refl
