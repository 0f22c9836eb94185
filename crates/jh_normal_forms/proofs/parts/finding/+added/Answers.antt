use Rattle.std.proofs.Common.{◌∙◌, sym, slice_get, rules, arith}
use Rattle.std.specs.List.{filter}
use Rattle.jh_arena.specs.table.Entries.{the_value}
use Rattle.jh_arena.specs.table.Nodes.{nodes}
use Rattle.jh_arena.specs.table.Parts.{parts}
use Rattle.jh_arena.proofs.table.Listed.{grows-trans}
use Rattle.jh_normal_forms.specs.parts.Standing.{before, behind, value_parts}
use Rattle.jh_normal_forms.specs.parts.Collected.{IsCollected, IsCovered}
use Rattle.jh_normal_forms.proofs.parts.Collections.{collected-seen, collected-node, collected-step, covered-stays, covered-more}
use Rattle.jh_normal_forms.proofs.parts.finding.+added.Goals as goal

pub add-returns-then-has-clause-found : goal.add-returns-then-has-clause-found
add-returns-then-has-clause-found g t c =
    collected-seen (g.T.PartTest.test c.args.test.now) c.args.order (nodes c.args.table.now) c.args.seen.now c.args.list.now c.args.node c.requires.seen (sym c.has.ensures ∙ c.if-has.true)

pub add-add_inner-requires : goal.add-add_inner-requires
add-add_inner-requires g t c κs within =
    let q = g.T.PartTest.test c.args.test.now in
    let ts = nodes c.args.table.now in
    let seen : IsCovered q c.args.order ts c.args.seen.now c.add_before.new.list =
    covered-stays q c.args.order ts (filter q (before c.args.order (the_value (slice_get ts c.args.node)))) c.args.seen.now c.args.list.now c.add_before.new.list c.requires.seen c.in_ok-add_before.ensures.found in
    search (rules, arith)

pub add-returns-clause-found : goal.add-returns-clause-found
add-returns-clause-found g t c =
    collected-node c.args.table.now (g.T.PartTest.test c.args.test.now) c.args.order c.args.node c.shape-shape.result c.args.list.now c.add_before.new.list c.add_inner.new.list c.add_behind.new.list
    c.shape-shape.ensures.tree c.shape-shape.ensures.fits c.in_ok-add_before.ensures.found c.in_ok-add_inner.ensures.found c.in_ok-add_behind.ensures.found

pub add-returns-clause-seen : goal.add-returns-clause-seen
add-returns-clause-seen g t c =
    let q = g.T.PartTest.test c.args.test.now in
    let ts = nodes c.args.table.now in
    let whole : IsCollected ts c.args.list.now (filter q (value_parts (the_value (slice_get ts c.args.node)) c.args.order)) c.add_behind.new.list =
    collected-node c.args.table.now q c.args.order c.args.node c.shape-shape.result c.args.list.now c.add_before.new.list c.add_inner.new.list c.add_behind.new.list
    c.shape-shape.ensures.tree c.shape-shape.ensures.fits c.in_ok-add_before.ensures.found c.in_ok-add_inner.ensures.found c.in_ok-add_behind.ensures.found in
    let seen : IsCovered q c.args.order ts c.add_inner.new.seen c.add_behind.new.list =
    covered-stays q c.args.order ts (filter q (behind c.args.order (the_value (slice_get ts c.args.node)))) c.add_inner.new.seen c.add_inner.new.list c.add_behind.new.list c.in_ok-add_inner.ensures.seen c.in_ok-add_behind.ensures.found in
    covered-more q c.args.order ts c.add_inner.new.seen c.add.new.self c.args.list.now c.add_behind.new.list c.args.node seen whole c.in_ok-add.ensures.added

pub add_inner-loop-index-preserved : goal.add_inner-loop-index-preserved
add_inner-loop-index-preserved g t c = record {
  found = collected-step (g.T.PartTest.test c.args.test.now) c.args.order (nodes c.args.table.now) (parts c.args.table.now.pools.lists c.args.shape) c.args.list.now c.loop-index.list c.add.new.list c.loop-index.index c.part-part.result
      c.loop-index.invariant.found c.in_ok-add.ensures.found c.part-part.ensures;
  seen = c.in_ok-add.ensures.seen;
  grows = grows-trans c.args.list.now c.loop-index.list c.add.new.list c.loop-index.invariant.grows c.add.ensures.grows;
}
