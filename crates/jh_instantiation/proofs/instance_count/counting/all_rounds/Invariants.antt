use Rattle.jh_arena.specs.table.Growth.{Extends}
use Rattle.jh_inst.specs.instances.Count as spec
use Rattle.jh_instantiation.specs.instance_count.Grouping.{IsTally}
use Rattle.jh_instantiation.proofs.instance_count.counting.all_rounds.Given as goal

-- the tally of the rounds so far
abbrev pub invariant-loop-round : goal.invariant-loop-round
invariant-loop-round l = record {
  grows : Extends l.initial.table l.table;
  so_far : (c : spec.Tally) → IsTally l.initial.table l.initial.groups.items l.fn.first c → IsTally l.table l.groups.items l.tally (spec.tally_rounds l._round c);
}
