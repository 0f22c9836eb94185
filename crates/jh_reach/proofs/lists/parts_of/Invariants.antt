use Rattle.std.proofs.Common.{List, map, take}
use Rattle.jh_form.specs.Tree.{FieldTree}
use Rattle.jh_arena.specs.table.Growth.{Extends}
use Rattle.jh_reach.specs.Parts.{part_tree}
use Rattle.jh_reach.specs.Standing.{AreFields, AreFormulas}
use Rattle.jh_reach.proofs.lists.parts_of.Given as goal

-- what the part says of the fields so far stands there
abbrev pub invariant-loop-field : goal.invariant-loop-field
invariant-loop-field l = record {
  grows : Extends l.fn.table l.table;
  nodes : (fs : List FieldTree) → AreFields l.fn.table l.fields fs → AreFormulas l.table l.made.items (map (part_tree l.part fs) (take l.field-index fs));
}
