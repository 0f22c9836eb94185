-- Where a formula stands, by its spot, its scope and the names that are bound.
use Rattle.std.specs.Prelude.{ℕ, not, false, List}
use Rattle.jh_rules.specs.Scopes.{Scope}
use Rattle.jh_rules.specs.Formulas.{Where}
use Rattle.jh_type.specs.declared.formula_kinds.spot.Spot.{Spot}

abbrev pub where_by : Spot → Scope → List (List ℕ) → Where
where_by s at bound = record { class = at.class; has_this = not at.fixed; old = s.old; result = s.result; local = at.local; bound = bound }

-- under `old`
abbrev pub in_old : Spot → Spot
in_old s = record { old = false; result = s.result }
