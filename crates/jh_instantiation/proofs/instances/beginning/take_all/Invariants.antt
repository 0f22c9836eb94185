use Rattle.std.proofs.Common.{◌≡◌, ◌+◌, List, ◌++◌, take}
use Rattle.jh_form.specs.Tree.{FormulaTree}
use Rattle.jh_arena.specs.table.Growth.{Extends}
use Rattle.jh_instantiation.specs.instance_count.Grouping.{AreFormulas}
use Rattle.jh_inst.specs.instances.Entries.{Entry, taken, all_witnesses}
use Rattle.jh_instantiation.specs.instances.Standing.{IsMade}
use Rattle.jh_instantiation.proofs.instances.beginning.take_all.Given as goal

-- the facts before the number are taken
abbrev pub invariant-loop-number : goal.invariant-loop-number
invariant-loop-number l = record {
  grows : Extends l.initial.table l.table;
  made : (es : List Entry) (fs : List FormulaTree) → IsMade l.initial.table l.initial.entries es → AreFormulas l.initial.table l.facts fs → IsMade l.table l.entries (es ++ taken (take l.number fs) 0 l.fn.first);
  next : (fs : List FormulaTree) → AreFormulas l.initial.table l.facts fs → l.next ≡ l.fn.first + all_witnesses (take l.number fs);
}
