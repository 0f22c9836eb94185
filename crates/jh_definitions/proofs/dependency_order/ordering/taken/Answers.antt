use Rattle.std.proofs.Common.{◌≡◌, length, arith}
use Rattle.jh_symbols.proofs.member_numbers.Puttings.{item-is}
use Rattle.jh_definitions.proofs.dependency_order.Taking.{long-next, taken-next, taken-all}
use Rattle.jh_definitions.proofs.dependency_order.ordering.taken.Goals as goal

-- src/ordering.rt
pub loop-at-preserved : goal.loop-at-preserved
loop-at-preserved c = record {
  long = long-next c.loop-at.made.items c.push.new.self.items c.loop-at.at c.index-list-at.result c.loop-at.invariant.long c.in_ok-push.ensures.items;
  taken = taken-next c.args.list.now c.args.places.now c.loop-at.made.items c.push.new.self.items c.loop-at.at c.at.result c.index-list-at.result c.loop-at.invariant.long c.in_ok-push.ensures.items c.at.ensures (item-is c.args.list.now c.at.result c.index-list-at.result (c.requires c.loop-at.at c.at.result c.at.ensures) c.index-list-at.is) c.loop-at.invariant.taken;
}

-- src/ordering.rt
pub returns : goal.returns
returns c =
    let end : c.loop-at.at ≡ length c.args.places.now = omega arith in
    taken-all c.args.list.now c.args.places.now c.loop-at.made.items c.loop-at.at c.loop-at.invariant.long end c.loop-at.invariant.taken
