-- Values of a universe, one after another.
use Rattle.std.proofs.Common.{ℕ, List, [], ◌∷◌, ◌++◌}
use Rattle.jh_operands.specs.declared.values.Scalar.{Scalar}
use Rattle.jh_operands.specs.Scalars as scalars
use Rattle.jh_machine.specs.locals.Locals.{AllInside}

pub inside-more : (n : ℕ) (xs : List Scalar) (x : Scalar) → AllInside n xs → scalars.IsInside n x → AllInside n (xs ++ x ∷ [])
unfolding AllInside
inside-more n [] x all is = (is, tt)
inside-more n (y ∷ xs) x all is = (all.0, inside-more n xs x all.1 is)

pub inside-none : (n : ℕ) → AllInside n []
unfolding AllInside
inside-none n = tt
