use Rattle.jh_arena.proofs.table.Listed.{extends-refl, extends-trans}
use Rattle.jh_deriv.proofs.Bares.{bare-none, bare-step, bare-end}
use Rattle.jh_deriv.proofs.entering.bare_fields.Goals as goal

pub loop-field-init : goal.loop-field-init
loop-field-init c = record {
  grows = extends-refl c.args.table.now;
  fields = bare-none c.args.table.now c.new-made.result.items c.new-made.ensures.items;
}

pub loop-field-preserved : goal.loop-field-preserved
loop-field-preserved c = record {
  grows = extends-trans c.args.table.now c.loop-field.table c.bare_field.new.table c.loop-field.invariant.grows c.bare_field.ensures.grows;
  fields =
      bare-step c.loop-field.table c.bare_field.new.table c.loop-field.made.items c.push.new.self.items c.in_ok-node.node c.loop-field.field-index c.args.fields.now c.field-item.result c.bare_field.ensures.grows
      c.loop-field.invariant.fields c.in_ok-node.ensures.node c.in_ok-push.ensures.items c.loop-field-test.true c.field-item.is;
}

pub returns-clause-nodes : goal.returns-clause-nodes
returns-clause-nodes c = bare-end c.loop-field.table c.loop-field.made.items c.loop-field.field-index c.args.fields.now c.loop-field.invariant.fields c.loop-field-test.false
