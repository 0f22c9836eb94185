use Rattle.std.proofs.Common.{◌≡◌, List, take, map}
use Rattle.jh_form.specs.Tree.{ValueTree}
use Rattle.jh_arena.specs.table.Growth.{Extends}
use Rattle.jh_arena.specs.table.Nodes.{nodes}
use Rattle.jh_local_form.specs.updates.Updating.{AreValues, AreUpdates, named_as}
use Rattle.jh_local_form.proofs.updates.naming.names.Given as goal

-- the first updates, with their names
abbrev pub invariant-loop-place : goal.invariant-loop-place
invariant-loop-place l = record {
  updates : l.naming.updates ≡ take l.place l.updates;
  names : (us : List ValueTree) → AreUpdates (nodes l.initial.table) l.updates us → AreValues (nodes l.table) l.naming.names (map (named_as us l.first) (take l.place us));
  first : l.naming.first ≡ l.first;
  grows : Extends l.initial.table l.table;
}
