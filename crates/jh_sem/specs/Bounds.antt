-- The objects for bound variables, the innermost binder's first.
use Rattle.std.specs.Prelude.{ℕ, List, ◌∷◌, reverse}
use Rattle.jh_sem.specs.declared.bound.Bound.{Bound}
use Rattle.jh_sem.specs.declared.bound.Bound.TheVariants.{Given, Under'}

abbrev pub bound_list : Bound → List ℕ
bound_list (Given objects) = reverse objects.now
bound_list (Under' x i rest) = x ∷ bound_list rest
