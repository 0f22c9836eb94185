use Rattle.std.proofs.Common.{take}
use Rattle.jh_explanations.specs.Marks.{AddsMarks}
use Rattle.jh_explanations.proofs.marking.mark_all.Given as goal

abbrev pub invariant-loop-index : goal.invariant-loop-index
invariant-loop-index l = AddsMarks l.fn.marks.items l.marks.items (take l.index l.places)
