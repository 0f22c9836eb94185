-- The digits of one column of layers spell what the layers spell for it.
use Rattle.std.proofs.Common.{◌≡◌, refl, ℕ, ◌+◌, ◌*◌, Bool, false, if◌then◌else◌, List, [], ◌∷◌, map, get_or, Result, Ok, Err, IfOk}
use Rattle.jh_digits.specs.solver.Solution as system
use Rattle.jh_query.specs.queries.Sizing.{spelled}

pub spelled-column : (layers : List (List Bool)) (j : ℕ) → spelled (map (λ layer. get_or layer j false) layers) ≡ system.spelled layers j
spelled-column [] j = refl
spelled-column (layer ∷ layers) j = λ i. (if get_or layer j false then 1 else 0) + 2 * spelled-column layers j i

pub ruleset spelling_steps = (spelled-column)
