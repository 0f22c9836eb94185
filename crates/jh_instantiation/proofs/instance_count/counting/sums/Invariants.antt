use Rattle.std.proofs.Common.{◌≡◌, ◌+◌, take}
use Rattle.jh_query.specs.queries.Size.{capped}
use Rattle.jh_inst.specs.instances.Count as spec
use Rattle.jh_instantiation.specs.instance_count.Grouping.{IsTally}
use Rattle.jh_instantiation.proofs.instance_count.counting.sums.Given as goal

-- the puts and terms of the groups so far
abbrev pub invariant-loop-index : goal.invariant-loop-index
invariant-loop-index l = record {
  puts : (c : spec.Tally) → IsTally l.table l.groups l.tally c → l.puts ≡ capped (c.puts + spec.total (spec.group_puts c.terms) (take l.index c.at_hand));
  terms : (c : spec.Tally) → IsTally l.table l.groups l.tally c → l.terms ≡ capped (c.terms + spec.total (spec.group_terms c.terms) (take l.index c.at_hand));
}
