use Rattle.std.proofs.Common.{◌+◌, ◌*◌, take}
use Rattle.std.specs.List.{filter}
use Rattle.jh_arena.specs.table.Growth.{Grows}
use Rattle.jh_arena.specs.table.Nodes.{nodes}
use Rattle.jh_arena.specs.table.Parts.{parts}
use Rattle.jh_normal_forms.specs.parts.Collected.{IsCollected, IsCovered, all_parts}
use Rattle.jh_normal_forms.proofs.parts.finding.+added.Given as goal

-- a shape is looked at after its node, and its parts have smaller numbers
abbrev pub decreases-add : goal.decreases-add
decreases-add g l = 2 * l.node + 1

abbrev pub decreases-add_inner : goal.decreases-add_inner
decreases-add_inner g l = 2 * l.node

-- the parts so far are in the list
abbrev pub invariant-add_inner-loop-index : goal.invariant-add_inner-loop-index
invariant-add_inner-loop-index g l = record {
  found : IsCollected (nodes l.table) l.initial.list (filter (g.T.PartTest.test l.test) (all_parts l.order (nodes l.table) (take l.index (parts l.table.pools.lists l.shape)))) l.list;
  seen : IsCovered (g.T.PartTest.test l.test) l.order (nodes l.table) l.seen l.list;
  grows : Grows l.initial.list l.list;
}
