use Rattle.jh_arena.proofs.table.Listed.{extends-refl, extends-trans}
use Rattle.jh_reach.proofs.Entering.{fields-none, names-step, names-end}
use Rattle.jh_reach.proofs.reaching.field_nodes.Goals as goal

pub loop-name-init : goal.loop-name-init
loop-name-init c = record {
  grows = extends-refl c.args.table.now;
  fields = fields-none c.args.table.now c.new-made.result.items c.new-made.ensures.items;
}

pub loop-name-preserved : goal.loop-name-preserved
loop-name-preserved c = record {
  grows = extends-trans c.args.table.now c.loop-name.table c.free_field.new.table c.loop-name.invariant.grows c.free_field.ensures.grows;
  fields =
      names-step c.loop-name.table c.free_field.new.table c.loop-name.made.items c.push.new.self.items c.in_ok-node.node c.loop-name.name-index c.args.names.now c.name-item.result c.free_field.ensures.grows
      c.loop-name.invariant.fields c.in_ok-node.ensures.node c.in_ok-push.ensures.items c.loop-name-test.true c.name-item.is;
}

pub returns-clause-fields : goal.returns-clause-fields
returns-clause-fields c = names-end c.loop-name.table c.loop-name.made.items c.loop-name.name-index c.args.names.now c.loop-name.invariant.fields c.loop-name-test.false
