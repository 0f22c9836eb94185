-- Hypotheses on sets that the places of the first elements make false.
use Rattle.std.specs.Prelude.{Bool, false, ◌&&◌, ◌||◌, List, length}
use Rattle.jh_query.specs.declared.queries.sizes.Spot.{Spot}
use Rattle.jh_query.specs.queries.Tree.{CondTree}
use Rattle.jh_query.specs.queries.Tree as t
use Rattle.jh_query.specs.partial_truth.Judged.{names_below}
use Rattle.jh_bapa.specs.decision.Cases.{classes_differ}

-- the class of an element keeps it from being true, and all elements that it names stand
abbrev pub is_spoiled : List Spot → CondTree → Bool
is_spoiled s (t.equal_set a b) = (names_below (length s) a && names_below (length s) b) && classes_differ s (t.equal_set a b)
is_spoiled s (t.within a b) = (names_below (length s) a && names_below (length s) b) && classes_differ s (t.within a b)
is_spoiled s (t.and a b) = is_spoiled s a || is_spoiled s b
is_spoiled s c = false
