use Rattle.std.proofs.Common.{◌≡◌}
use Rattle.jh_arena.specs.table.Growth.{Extends}
use Rattle.jh_inst.specs.instances.Rounds as rounds
use Rattle.jh_instantiation.specs.instances.Progressing.{IsProgress, after_puts}
use Rattle.jh_instantiation.proofs.instances.Passes.{first_puts}
use Rattle.jh_instantiation.proofs.instances.rounds.put_each.Given as goal

-- those before the place were put
abbrev pub invariant-loop-place : goal.invariant-loop-place
invariant-loop-place l = record {
  grows : Extends l.initial.table l.table;
  at_hand : l.progress.at_hand.items ≡ l.initial.progress.at_hand.items;
  made : (p : rounds.Progress) → IsProgress l.initial.table l.initial.progress p → IsProgress l.table l.progress (after_puts p (first_puts l.of_one l.place p));
}
