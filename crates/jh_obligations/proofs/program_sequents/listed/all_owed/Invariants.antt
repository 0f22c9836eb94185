use Rattle.std.proofs.Common.{ℕ, List, ◌++◌, map, drop}
use Rattle.jh_name.specs.declared.place.MethodId.{MethodId}
use Rattle.jh_arena.specs.table.Growth.{Extends}
use Rattle.jh_outline.specs.jh_method_commands.environment.Outlines.{program_in, writes_in}
use Rattle.jh_obligations.specs.program_sequents.Owed.{Debt, AllStand, AreOwed, FirstMany}
use Rattle.jh_obligations.specs.program_sequents.Owing.{owing_in}
use Rattle.jh_obligations.proofs.program_sequents.listed.all_owed.Given as goal

-- the sequents so far stand in the table, and with those that the methods that are left owe they are all
abbrev pub invariant-loop-place : goal.invariant-loop-place
invariant-loop-place l = record {
  grows : Extends l.initial.table l.table;
  debts : List Debt;
  stand : AllStand l.table l.made.items debts;
  rest : (more : List Debt) → AreOwed (program_in l.outline) (writes_in l.outline) (map owing_in (drop l.place l.owners)) more → AreOwed (program_in l.outline) (writes_in l.outline) (map owing_in l.owners) (debts ++ more);
  many : (id : MethodId) (n : ℕ) → FirstMany (program_in l.outline) (writes_in l.outline) (map owing_in (drop l.place l.owners)) id n → FirstMany (program_in l.outline) (writes_in l.outline) (map owing_in l.owners) id n;
}
