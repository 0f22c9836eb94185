use Rattle.std.proofs.Common.{◌-◌, List, drop, length}
use Rattle.jh_form.specs.Tree.{ValueTree}
use Rattle.jh_arena.specs.table.Growth.{Extends}
use Rattle.jh_arena.specs.table.Nodes.{nodes}
use Rattle.jh_fca.specs.local_form.Chains.{changes_of}
use Rattle.jh_local_form.specs.updates.Updating.{IsNaming}
use Rattle.jh_local_form.specs.field_lists.Changing.{AreChanges}
use Rattle.jh_local_form.proofs.field_lists.changing.changes.Given as goal

-- the last updates, the last first
abbrev pub invariant-loop-turn : goal.invariant-loop-turn
invariant-loop-turn l = record {
  made : (us : List ValueTree) → IsNaming l.initial.table l.names us → AreChanges (nodes l.table) l.made.items (changes_of us l.names.first (drop (length us - l.turn) us));
  grows : Extends l.initial.table l.table;
}
