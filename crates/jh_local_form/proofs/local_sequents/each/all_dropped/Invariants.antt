use Rattle.std.proofs.Common.{List, map, take}
use Rattle.jh_form.specs.Tree.{FormulaTree}
use Rattle.jh_arena.specs.table.Growth.{Extends}
use Rattle.jh_reach.specs.Standing.{AreFormulas}
use Rattle.jh_normal_forms.specs.idle_updates.Dropped.{dropped}
use Rattle.jh_local_form.proofs.local_sequents.each.all_dropped.Given as goal

-- the first formulas, one by one
abbrev pub invariant-loop-place : goal.invariant-loop-place
invariant-loop-place l = record {
  made : (facts : List FormulaTree) → AreFormulas l.initial.table l.formulas facts → AreFormulas l.table l.made.items (map dropped (take l.place facts));
  grows : Extends l.initial.table l.table;
}
