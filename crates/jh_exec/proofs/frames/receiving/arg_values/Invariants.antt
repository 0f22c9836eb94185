use Rattle.std.proofs.Common.{◌≡◌, ◌++◌, ℕ, Bool, drop, map, List, Option}
use Rattle.jh_name.specs.declared.place.Place.{Place}
use Rattle.jh_form.specs.Meaning.{Datum}
use Rattle.jh_arena.specs.table.Entries.{Listing}
use Rattle.jh_vars.specs.Written.{Callee}
use Rattle.jh_semantics.specs.Progress.{Progress}
use Rattle.jh_semantics.specs.Execution.{with_values}
use Rattle.jh_store.specs.memory.Held.{state_of}
use Rattle.jh_operands.specs.Exprs.{any_in}
use Rattle.jh_operands.specs.Scalars.{datum_of}
use Rattle.jh_machine_code.specs.code.Steps.{AllFit}
use Rattle.jh_machine.specs.locals.Locals.{AllInside}
use Rattle.jh_machine.specs.continuation.Overflows.{AreValues, ArgsOverflow}
use Rattle.jh_exec.proofs.frames.receiving.arg_values.Given as goal

-- the values so far, with those of the other arguments, are all; and what comes of the others comes of all
abbrev pub invariant-loop-place : goal.invariant-loop-place
invariant-loop-place l = record {
  inside : AllInside l.memory.last l.made.items;
  values : (t : Listing) (numbered : Callee → Option ℕ) (keeps : Bool) → AllFit l.memory.names t numbered keeps l.args → (ds : List Datum) → AreValues (map (any_in l.memory.names) (drop l.place l.args)) (state_of l.memory) ds →
      AreValues (map (any_in l.memory.names) l.args) (state_of l.memory) (map datum_of l.made.items ++ ds);
  next : (t : Listing) (numbered : Callee → Option ℕ) (keeps : Bool) → AllFit l.memory.names t numbered keeps l.args → (next : List Datum → Progress) → with_values (map (any_in l.memory.names) l.args) (state_of l.memory) next ≡
      with_values (map (any_in l.memory.names) (drop l.place l.args)) (state_of l.memory) (λ ds. next (map datum_of l.made.items ++ ds));
  over : (t : Listing) (numbered : Callee → Option ℕ) (keeps : Bool) → AllFit l.memory.names t numbered keeps l.args → (q : Place) → ArgsOverflow q (map (any_in l.memory.names) (drop l.place l.args)) (state_of l.memory) → ArgsOverflow q (map (any_in l.memory.names) l.args) (state_of l.memory);
}
