use Rattle.std.proofs.Common.{◌≤◌}
use Rattle.jh_arena.specs.table.Growth.{Extends}
use Rattle.jh_inst.specs.instances.Rounds as rounds
use Rattle.jh_instantiation.specs.instances.Progressing.{IsProgress}
use Rattle.jh_instantiation.proofs.instances.rounds.all_rounds.Given as goal

-- so many rounds were made
abbrev pub invariant-loop-turn : goal.invariant-loop-turn
invariant-loop-turn l = record {
  grows : Extends l.initial.table l.table;
  bound : l._turn ≤ l.rounds;
  made : (p : rounds.Progress) → IsProgress l.initial.table l.initial.progress p → IsProgress l.table l.progress (rounds.rounds l._turn p);
}
