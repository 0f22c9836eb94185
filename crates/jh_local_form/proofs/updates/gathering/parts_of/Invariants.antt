use Rattle.std.proofs.Common.{[], take}
use Rattle.std.specs.List.{filter}
use Rattle.jh_arena.specs.table.Nodes.{nodes}
use Rattle.jh_normal_forms.specs.parts.Collected.{IsCollected, all_parts}
use Rattle.jh_normal_forms.specs.declared.parts.order.Order.TheVariants as order
use Rattle.jh_local_form.proofs.updates.gathering.parts_of.Given as goal

-- the parts of the first formulas are in the list
abbrev pub invariant-loop-place : goal.invariant-loop-place
invariant-loop-place g l = IsCollected (nodes l.table) [] (filter (g.T.PartTest.test l.test) (all_parts order.InnerFirst (nodes l.table) (take l.place l.formulas))) l.list
