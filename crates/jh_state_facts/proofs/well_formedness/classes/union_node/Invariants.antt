use Rattle.std.proofs.Common.{drop}
use Rattle.jh_arena.specs.table.Growth.{Extends}
use Rattle.jh_state_facts.specs.well_formedness.States.{texts_in}
use Rattle.jh_state_facts.proofs.well_formedness.ClassSteps.{Joins}
use Rattle.jh_state_facts.proofs.well_formedness.classes.union_node.Given as goal

abbrev pub invariant-loop-place : goal.invariant-loop-place
invariant-loop-place l = record {
  grows : Extends l.fn.table l.table;
  joins : Joins l.table l.made (drop l.place (texts_in l.texts)) (texts_in l.texts);
}
