use Rattle.std.proofs.Common.{false, ◌++◌, List, map, take}
use Rattle.jh_form.specs.Tree.{FormulaTree}
use Rattle.jh_arena.specs.table.Growth.{Extends}
use Rattle.jh_reach.specs.Standing.{AreFormulas}
use Rattle.jh_fca.specs.elimination.Constraints.{Constraint}
use Rattle.jh_fca.specs.elimination.Exchanged.{eliminated}
use Rattle.jh_field_constraints.specs.Standing.{IsConstraint}
use Rattle.jh_field_constraints.proofs.stepping.add_eliminated.Given as goal

-- the first facts behind those that were there
abbrev pub invariant-loop-place : goal.invariant-loop-place
invariant-loop-place l = record {
  facts : (c : Constraint) (all done : List FormulaTree) → IsConstraint l.initial.table l.of c → AreFormulas l.initial.table l.facts all → AreFormulas l.initial.table l.initial.made.items done → AreFormulas l.table l.made.items (done ++ map (λ a. eliminated c a false) (take l.place all));
  grows : Extends l.initial.table l.table;
}
