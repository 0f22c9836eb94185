use Rattle.std.proofs.Common.{take}
use Rattle.jh_arena.specs.table.Growth.{Extends}
use Rattle.jh_reach.specs.Named.{named_fields}
use Rattle.jh_reach.specs.Standing.{AreFields}
use Rattle.jh_reach.proofs.reaching.field_nodes.Given as goal

abbrev pub invariant-loop-name : goal.invariant-loop-name
invariant-loop-name l = record {
  grows : Extends l.fn.table l.table;
  fields : AreFields l.table l.made.items (named_fields (take l.name-index l.names));
}
