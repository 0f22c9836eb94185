-- The equation of an atom as the code has it.
use Rattle.std.specs.Prelude.{false, length, slice_index_or, List, [], ◌∷◌, ℤ, Option, Some, None}
use Rattle.jh_query.specs.queries.Sides.{side_tree}
use Rattle.jh_bapa.specs.declared.decision.lines.Slacks.{Slacks}
use Rattle.jh_bapa.specs.declared.decision.lines.Slacks.TheVariants.{One, Two}
use Rattle.jh_bapa.specs.declared.decision.lines.Line.{Line}
use Rattle.jh_bapa.specs.declared.decision.rows.Layout.{Layout}
use Rattle.jh_bapa.specs.decision.Cases.{LineTree}
use Rattle.jh_bapa.specs.decision.Systems.{Frame}

abbrev pub slack_list : Slacks → List ℤ
slack_list (One a) = a ∷ []
slack_list (Two a b) = a ∷ b ∷ []

abbrev pub line_tree : Line → LineTree
line_tree l = record { side = side_tree l.side; slacks = slack_list l.slacks; added = l.added }

abbrev pub maybe_tree : Option Line → Option LineTree
maybe_tree None = None
maybe_tree (Some l) = Some (line_tree l)

-- what stands over all rows, as the code has it
abbrev pub frame : Layout → Frame
frame m = record { regions = length m.empty.now; numbers = m.numbers; empty = λ r. slice_index_or m.empty.now r false; spots = m.spots.now; total = m.total }
