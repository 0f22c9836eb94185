use Rattle.std.proofs.Common.{take}
use Rattle.jh_propagation.specs.trail.Looks.{AreCommon}
use Rattle.jh_propagation.proofs.trail.sets.common.Given as goal

abbrev pub invariant-loop-item : goal.invariant-loop-item
invariant-loop-item l = AreCommon (take l.item-index l.list) l.other l.made.items
