use Rattle.std.proofs.Common.{ap, ◌∙◌, ◌++◌}
use Rattle.jh_arena.proofs.table.Listed.{extends-refl, extends-trans}
use Rattle.jh_reach.proofs.Standings.{formulas-none}
use Rattle.jh_reach.proofs.Entering.{backbones-step, backbones-end}
use Rattle.jh_reach.proofs.reaching.all_nodes.Goals as goal

pub loop-backbone-init : goal.loop-backbone-init
loop-backbone-init c = record {
  grows = extends-refl c.args.table.now;
  nodes = formulas-none c.args.table.now c.new-made.result.items c.new-made.ensures.items;
}

pub loop-backbone-preserved : goal.loop-backbone-preserved
loop-backbone-preserved c = record {
  grows = extends-trans c.args.table.now c.loop-backbone.table c.nodes_of.new.table c.loop-backbone.invariant.grows c.nodes_of.ensures.grows;
  nodes =
      backbones-step c.loop-backbone.table c.nodes_of.new.table c.loop-backbone.made.items c.in_ok-nodes.nodes.items c.extend_from_slice.new.self.items c.loop-backbone.backbone-index c.args.backbones.now c.backbone-item.result c.nodes_of.ensures.grows
      c.loop-backbone.invariant.nodes c.in_ok-nodes.ensures.nodes (c.in_ok-extend_from_slice.ensures.items ∙ ap (λ zs. c.loop-backbone.made.items ++ zs) c.as_slice.ensures.value) c.loop-backbone-test.true c.backbone-item.is;
}

pub returns-clause-nodes : goal.returns-clause-nodes
returns-clause-nodes c = backbones-end c.loop-backbone.table c.loop-backbone.made.items c.loop-backbone.backbone-index c.args.backbones.now c.loop-backbone.invariant.nodes c.loop-backbone-test.false
