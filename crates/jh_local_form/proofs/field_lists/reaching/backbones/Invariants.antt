use Rattle.std.proofs.Common.{List, [], take}
use Rattle.std.specs.List.{flat_map}
use Rattle.jh_form.specs.Tree.{ValueTree}
use Rattle.jh_arena.specs.table.Growth.{Extends}
use Rattle.jh_arena.specs.table.Nodes.{nodes}
use Rattle.jh_fca.specs.local_form.Chains.{ChangeTree}
use Rattle.jh_local_form.specs.updates.Updating.{AreValues}
use Rattle.jh_local_form.specs.field_lists.Changing.{AreChanges}
use Rattle.jh_local_form.specs.field_lists.Leading.{AreBackbones, led_of, with_backbones}
use Rattle.jh_local_form.proofs.field_lists.reaching.backbones.Given as goal

-- the backbones of the first formulas
abbrev pub invariant-loop-place : goal.invariant-loop-place
invariant-loop-place l = record {
  made : (cs : List ChangeTree) (vs : List ValueTree) → AreChanges (nodes l.initial.table) l.changes cs → AreValues (nodes l.initial.table) l.formulas vs → AreBackbones l.table l.made.items (with_backbones [] (flat_map (led_of cs) (take l.place vs)));
  grows : Extends l.initial.table l.table;
}
