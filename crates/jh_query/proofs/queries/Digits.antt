-- Digits that spell 0.
use Rattle.std.proofs.Common.{◌≡◌, ℕ, ◌+◌, ◌*◌, ◌==◌, Bool, true, false, not, ◌&&◌, List, [], ◌∷◌, refl, sym, arith}
use Rattle.std.specs.List.{list_any}
use Rattle.std.proofs.lemmas.Bool.{eqb-true, eq-eqb}
use Rattle.jh_query.specs.queries.Sizing.{spelled}

-- twice a number is 0 exactly where it is
twice : (n : ℕ) (b : Bool) → (n == 0) ≡ b → (0 + 2 * n == 0) ≡ b
twice n true e = eq-eqb (0 + 2 * n) 0 (omega (arith, eqb-true n 0 e))
twice n false e = grind (arith, e)

one_more : (n : ℕ) → (1 + 2 * n == 0) ≡ false
one_more n = grind arith

pub nought : (digits : List Bool) → not (list_any (λ digit. digit) digits) ≡ (spelled digits == 0)
nought [] = refl
nought (true ∷ digits) = sym (one_more (spelled digits))
nought (false ∷ digits) = sym (twice (spelled digits) _ (sym (nought digits)))

-- two tests, of which the second is asked where the first is passed
pub both_pass : (a b p q : Bool) → p ≡ a → p ≡ true → q ≡ b → q ≡ (a && b)
both_pass a b p q e t f = rw (← e, t) f

pub one_fails : (a b p : Bool) → p ≡ a → p ≡ false → p ≡ (a && b)
one_fails a b p e t = rw (← e, t) refl
