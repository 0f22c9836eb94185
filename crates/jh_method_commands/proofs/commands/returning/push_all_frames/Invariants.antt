use Rattle.std.proofs.Common.{List, map, take}
use Rattle.jh_form.specs.Tree.{FormulaTree}
use Rattle.jh_arena.specs.table.Growth.{Extends}
use Rattle.jh_state_facts.specs.well_formedness.Facts.{AreFacts, AddsFacts}
use Rattle.jh_method_commands.specs.commands.Made.{frame_formula}
use Rattle.jh_method_commands.proofs.commands.returning.push_all_frames.Given as goal

-- those before the index are added
abbrev pub invariant-loop-index : goal.invariant-loop-index
invariant-loop-index l = record {
  grows : Extends l.initial.table l.table;
  facts : (fs : List FormulaTree) → AreFacts l.initial.table l.frames fs → AddsFacts l.table l.initial.facts.items l.facts.items (map (frame_formula l.fn.place) (take l.index fs));
}
