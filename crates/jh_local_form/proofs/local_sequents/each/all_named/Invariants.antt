use Rattle.std.proofs.Common.{List, map, take}
use Rattle.jh_form.specs.Tree.{FormulaTree, ValueTree}
use Rattle.jh_arena.specs.table.Growth.{Extends}
use Rattle.jh_reach.specs.Standing.{AreFormulas}
use Rattle.jh_fca.specs.local_form.Named.{named}
use Rattle.jh_local_form.specs.updates.Updating.{IsNaming}
use Rattle.jh_local_form.proofs.local_sequents.each.all_named.Given as goal

-- the first formulas, one by one
abbrev pub invariant-loop-place : goal.invariant-loop-place
invariant-loop-place l = record {
  made : (us : List ValueTree) (facts : List FormulaTree) → IsNaming l.initial.table l.names us → AreFormulas l.initial.table l.formulas facts → AreFormulas l.table l.made.items (map (named us l.names.first) (take l.place facts));
  grows : Extends l.initial.table l.table;
}
