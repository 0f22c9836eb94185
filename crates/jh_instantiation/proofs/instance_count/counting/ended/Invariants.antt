use Rattle.std.proofs.Common.{◌≡◌, ◌+◌, take}
use Rattle.jh_arena.specs.table.Entries.{Listing}
use Rattle.jh_query.specs.queries.Size.{capped}
use Rattle.jh_inst.specs.instances.Count as spec
use Rattle.jh_instantiation.specs.instance_count.Grouping.{IsTally}
use Rattle.jh_instantiation.proofs.instance_count.counting.ended.Given as goal

-- the puts, with those of the last pass of the groups so far
abbrev pub invariant-loop-index : goal.invariant-loop-index
invariant-loop-index l = (t : Listing) (c : spec.Tally) → IsTally t l.groups l.tally c → l.puts ≡ capped (c.puts + spec.total (spec.last_count c.terms) (take l.index c.at_hand))
