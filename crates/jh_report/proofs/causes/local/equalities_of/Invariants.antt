use Rattle.std.proofs.Common.{◌≡◌, ℕ, ◌++◌, List, [], map, drop}
use Rattle.jh_closure.specs.structures.Literals.{literal_tree}
use Rattle.jh_report.specs.causes.LocalCauses.{equalities, most_shown}
use Rattle.jh_report.specs.causes.Pieces.{Holds}
use Rattle.jh_report.proofs.causes.local.equalities_of.Given as goal

-- what was added, with what is left, is all
abbrev pub invariant-loop-place : goal.invariant-loop-place
invariant-loop-place l = (done : List (List ℕ)) × Holds l.pieces done × (done ++ equalities l.left (map literal_tree (drop l.place l.literals)) ≡ equalities most_shown (map literal_tree l.literals))
