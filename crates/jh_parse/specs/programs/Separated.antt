-- Things with commas between them.
use Rattle.std.specs.Prelude.{ℕ, zero, suc, ◌+◌, List, [], ◌∷◌, Option, None, Some}
use Rattle.jh_lex.specs.declared.lexer.symbol.Symbol.TheVariants as symbol
use Rattle.jh_lex.specs.declared.lexer.token.Token.{Token}
use Rattle.jh_operators.specs.lookahead.Choices.{◌>>=◌, choose}
use Rattle.jh_operators.specs.lookahead.Standing.{Is, is_at}

-- one { "," one }
pub data Separated {A : Type 0} (ts : List Token) (One : ℕ → A → ℕ → Type 0) : ℕ → List A → ℕ → Type 0 where
  last : {i j : ℕ} {x : A} → One i x j → Separated ts One i (x ∷ []) j
  further : {i j k : ℕ} {x : A} {xs : List A} → One i x j → Is ts j symbol.Comma → Separated ts One (j + 1) xs k → Separated ts One i (x ∷ xs) k

-- The same as a function, with no more than k things.
unfoldable pub separated_at : {A : Type 0} → List Token → (ℕ → Option (A × ℕ)) → ℕ → ℕ → Option (List A × ℕ)
separated_at ts one zero i = None
separated_at ts one (suc k) i = one i >>= λ a. choose (is_at ts a.1 symbol.Comma) (separated_at ts one k (a.1 + 1) >>= λ r. Some (a.0 ∷ r.0, r.1)) (Some (a.0 ∷ [], a.1))
