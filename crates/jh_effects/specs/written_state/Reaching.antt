-- What is given to a thing, or to those from which links lead to it.
use Rattle.std.specs.Prelude.{ℕ, List, [], ◌∷◌}
use Rattle.jh_containers.specs.declared.transitive_closure.facts.Fact.{Fact}
use Rattle.jh_containers.specs.transitive_closure.Spreads.{IsIn, Spreads, passed_to}

-- a thing by itself, as a fact
abbrev pub itself : ℕ → Fact
itself n = record { of = n; what = 0 }

-- another is reached from a thing against the links, and has this by itself
pub record IsReached (rows sources : List (List ℕ)) (n what : ℕ) : Type 0 where
  pub from : ℕ
  pub reached : Spreads (itself n ∷ []) sources (itself from)
  pub given : IsIn (passed_to rows from) what
