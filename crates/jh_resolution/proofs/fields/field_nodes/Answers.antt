use Rattle.jh_arena.proofs.table.Listed.{extends-refl, extends-trans}
use Rattle.std.proofs.Common.{arith}
use Rattle.jh_resolution.specs.Spots.{fields_in}
use Rattle.jh_resolution.proofs.Loops.{making-start, making-step, making-end}
use Rattle.jh_resolution.proofs.fields.field_nodes.Goals as goal

-- src/fields.rt
pub loop-word-init : goal.loop-word-init
loop-word-init c = record {
  grows = extends-refl c.args.table.now;
  making = making-start c.args.table.now c.new-made.result.items (fields_in c.args.context.now c.args.at.now c.args.words.now) c.new-made.ensures.items;
}

-- src/fields.rt
pub loop-word-preserved : goal.loop-word-preserved
loop-word-preserved c = record {
  grows = extends-trans c.args.table.now c.loop-word.table c.field_node.new.table c.loop-word.invariant.grows c.in_ok-node.ensures.grows;
  making =
      making-step c.args.context.now c.args.at.now c.args.words.now c.loop-word.table c.field_node.new.table c.loop-word.made.items c.push.new.self.items c.in_ok-node.node c.loop-word.word-index c.word-item.result
      (fields_in c.args.context.now c.args.at.now c.args.words.now) c.loop-word.invariant.making c.in_ok-node.ensures.grows c.in_ok-node.ensures.node c.in_ok-push.ensures.items c.loop-word-test.true c.word-item.is;
}

-- src/fields.rt
pub returns-clause-trees : goal.returns-clause-trees
returns-clause-trees c =
    making-end c.args.context.now c.args.at.now c.args.words.now c.loop-word.table c.loop-word.made.items c.loop-word.word-index (fields_in c.args.context.now c.args.at.now c.args.words.now) c.loop-word.invariant.making (omega arith)
