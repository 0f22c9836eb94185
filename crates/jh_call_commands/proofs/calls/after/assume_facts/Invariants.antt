use Rattle.std.proofs.Common.{List, map, take}
use Rattle.jh_form.specs.Tree.{FormulaTree}
use Rattle.jh_wp.specs.Command as w
use Rattle.jh_state_facts.specs.well_formedness.Facts.{AreFacts}
use Rattle.jh_state_facts.specs.changes.Added.{AddsCommands}
use Rattle.jh_call_commands.proofs.calls.after.assume_facts.Given as goal

-- those before the place are facts
abbrev pub invariant-loop-place : goal.invariant-loop-place
invariant-loop-place l = record {
  commands : (fs : List FormulaTree) → AreFacts l.table l.facts fs → AddsCommands l.table l.initial.commands.items l.commands.items (map (λ f. w.assume f) (take l.place fs));
}
