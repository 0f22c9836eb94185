use Rattle.std.proofs.Common.{◌≡◌, ℕ, List, take}
use Rattle.jh_arena.specs.table.Growth.{Extends}
use Rattle.jh_query.specs.queries.Size.{capped}
use Rattle.jh_inst.specs.instances.Count as spec
use Rattle.jh_instantiation.specs.instance_count.Grouping.{AreGroups}
use Rattle.jh_instantiation.proofs.instance_count.counting.all_left.Given as goal

-- what the puts of the groups so far leave
abbrev pub invariant-loop-index : goal.invariant-loop-index
invariant-loop-index l = record {
  grows : Extends l.initial.table l.table;
  made : (gs : List spec.Group) (n : ℕ) → AreGroups l.initial.table l.groups gs → l.terms ≡ capped n → AreGroups l.table l.left.items (spec.all_left n (take l.index gs));
}
