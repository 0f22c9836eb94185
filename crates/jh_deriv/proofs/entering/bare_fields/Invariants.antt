use Rattle.std.proofs.Common.{take}
use Rattle.jh_arena.specs.table.Growth.{Extends}
use Rattle.jh_reach.specs.Standing.{AreFields}
use Rattle.jh_deriv.specs.Replays.{bare_list}
use Rattle.jh_deriv.proofs.entering.bare_fields.Given as goal

-- the nodes so far are those of the fields so far
abbrev pub invariant-loop-field : goal.invariant-loop-field
invariant-loop-field l = record {
  grows : Extends l.fn.table l.table;
  fields : AreFields l.table l.made.items (bare_list (take l.field-index l.fields));
}
