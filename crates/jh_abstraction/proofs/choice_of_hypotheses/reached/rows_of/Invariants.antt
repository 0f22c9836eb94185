use Rattle.std.proofs.Common.{◌≡◌, map, take}
use Rattle.jh_arena.specs.table.Nodes.{nodes}
use Rattle.jh_abstraction.specs.choice_of_hypotheses.Choosing.{linking_row}
use Rattle.jh_abstraction.proofs.choice_of_hypotheses.reached.rows_of.Given as goal

-- the rows of the first places are made
abbrev pub invariant-loop-place : goal.invariant-loop-place
invariant-loop-place l = l.rows.items ≡ map (linking_row (nodes l.table) l.few l.notes) (take l.place l.places)
