use Rattle.std.proofs.Common.{◌≡◌, List, Some, map, take, slice_get}
use Rattle.jh_form.specs.Tree.{FormulaTree, of_truth}
use Rattle.jh_arena.specs.table.Growth.{Extends}
use Rattle.jh_arena.specs.table.Nodes.{nodes}
use Rattle.jh_guard.specs.Terms.{Check, guarded}
use Rattle.jh_command_terms.specs.terms.Checks.{AreChecks, AddsChecks}
use Rattle.jh_command_terms.proofs.terms.checks.push_all_guarded.Given as goal

-- the checks before the place are added
abbrev pub invariant-loop-index : goal.invariant-loop-index
invariant-loop-index l = record {
  grows : Extends l.initial.table l.table;
  checks : (f : FormulaTree) (cs : List Check) → slice_get (nodes l.initial.table) l.guard ≡ Some (of_truth f) → AreChecks l.initial.table l.more cs → AddsChecks l.table l.initial.checks.items l.checks.items (map (guarded f) (take l.index cs));
}
