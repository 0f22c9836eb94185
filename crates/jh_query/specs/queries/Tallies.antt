-- What the different atoms of a part of a query come to.
use Rattle.std.specs.Prelude.{◌≡◌, ◌+◌, ◌*◌, true, false, if◌then◌else◌, List, [], ◌∷◌, ◌++◌, Option, Some, None, MatchOption}
use Rattle.std.specs.List.{list_all, list_any, sum_by}
use Rattle.jh_query.specs.declared.queries.measuring.Tally.{Tally}
use Rattle.jh_query.specs.queries.Tree.{CondTree, QueryTree}
use Rattle.jh_query.specs.queries.Same.{same_atom}
use Rattle.jh_query.specs.queries.Size.{atom_weight, capped, is_small_atom, product_by, slacks}

-- the atoms of a list that don't stand again behind, in the list or in another one after it
abbrev pub fresh : List CondTree → List CondTree → List CondTree
fresh [] later = []
fresh (a ∷ rest) later = if list_any (same_atom a) (rest ++ later) then fresh rest later else a ∷ fresh rest later

abbrev pub both_tallies : Tally → Tally → Tally
both_tallies s t = record { product = capped (s.product * t.product); slacks = capped (s.slacks + t.slacks) }

abbrev pub joined : Option Tally → Option Tally → Option Tally
joined None b = None
joined (Some s) None = None
joined (Some s) (Some t) = Some (both_tallies s t)

-- the tally of a list of atoms, or none where one of them isn't small
abbrev pub IsTally : QueryTree → Option Tally → List CondTree → Type 0
IsTally q r atoms =
    MatchOption r (list_all (is_small_atom q) atoms ≡ false)
    (λ t. (list_all (is_small_atom q) atoms ≡ true) × (t.product ≡ capped (product_by (atom_weight q) atoms)) × (t.slacks ≡ capped (sum_by slacks atoms)))
