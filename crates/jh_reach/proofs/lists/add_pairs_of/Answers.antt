use Rattle.std.proofs.Common.{get_or}
use Rattle.std.proofs.lemmas.Option.{slice_get-get_or}
use Rattle.jh_form.specs.Tree.{of_field}
use Rattle.jh_arena.proofs.table.Listed.{extends-trans}
use Rattle.jh_reach.specs.Axioms.{share_no_child}
use Rattle.jh_reach.proofs.Standings.{field-of, item-holds, parts-step, parts-end}
use Rattle.jh_reach.proofs.lists.add_pairs_of.Goals as goal

pub share_no_child-requires-clause-other : goal.share_no_child-requires-clause-other
share_no_child-requires-clause-other c =
    item-holds c.args.table.now c.loop-other.table c.args.others.now c.loop-other.other-index c.loop-other.invariant.grows c.requires.others c.loop-other-test.true

pub loop-other-preserved : goal.loop-other-preserved
loop-other-preserved c = record {
  grows = extends-trans c.args.table.now c.loop-other.table c.share_no_child.new.table c.loop-other.invariant.grows c.share_no_child.ensures.grows;
  nodes = λ f gs done at h old.
      let other = get_or c.args.others.now c.loop-other.other-index 0 in
      let g = field-of c.args.table.now c.args.others.now gs c.loop-other.other-index other h (slice_get-get_or c.args.others.now c.loop-other.other-index 0 c.loop-other-test.true) in
      parts-step c.loop-other.table c.share_no_child.new.table c.loop-other.made.items c.push.new.self.items c.in_ok-node.node c.loop-other.other-index (share_no_child f) gs g.0 done c.share_no_child.ensures.grows
      (c.loop-other.invariant.nodes f gs done at h old) g.1
      (c.in_ok-node.ensures.node f g.0 (c.loop-other.invariant.grows.nodes.keeps c.args.field (of_field f) at) (c.loop-other.invariant.grows.nodes.keeps other (of_field g.0) g.2))
      c.in_ok-push.ensures.items;
}

pub returns-clause-nodes : goal.returns-clause-nodes
returns-clause-nodes c = λ f gs done at h old.
    parts-end c.loop-other.table c.args.table.now c.args.others.now c.loop-other.made.items c.loop-other.other-index (share_no_child f) gs done h (c.loop-other.invariant.nodes f gs done at h old) c.loop-other-test.false
