use Rattle.std.proofs.Common.{◌≡◌, List, take}
use Rattle.jh_arena.specs.table.Nodes.{nodes}
use Rattle.jh_propagation.specs.trail.Saying.{AreTruths, truths_at}
use Rattle.jh_inst.specs.instances.Entries.{Entry}
use Rattle.jh_inst.specs.instances.Instances.{instances_of}
use Rattle.jh_ground_input.specs.jh_instantiation.instances.Standing.{IsMade}
use Rattle.jh_local.proofs.posing.instances.Given as goal

-- the instances among the first entries
abbrev pub invariant-loop-place : goal.invariant-loop-place
invariant-loop-place l = record {
  truths : AreTruths (nodes l.table) l.made.items;
  instances : (es : List Entry) → IsMade l.table l.entries es → truths_at (nodes l.table) l.made.items ≡ instances_of (take l.place es);
}
