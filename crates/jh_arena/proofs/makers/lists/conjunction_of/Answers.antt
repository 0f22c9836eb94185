use Rattle.std.proofs.Common.{◌≡◌, ◌∙◌, sym, ap, ◌-◌, ◌+◌, ◌<◌, Some, drop, length, slice_get, slice_index_or, arith}
use Rattle.jh_form.specs.Tree.{of_truth}
use Rattle.jh_arena.specs.table.Nodes.{nodes}
use Rattle.jh_arena.proofs.table.Listed.{extends-refl, extends-trans}
use Rattle.jh_arena.specs.makers.Joined.{joined, truths_at}
use Rattle.jh_arena.proofs.makers.Joins.{at-index, truth-at, truth-stays, truth-there, joined-last, joined-more}
use Rattle.jh_arena.proofs.makers.lists.conjunction_of.Goals as goal

pub loop-index-init : goal.loop-index-init
loop-index-init c =
    let lt : length c.args.items.now - 1 < length c.args.items.now = search arith in
    let at : slice_get c.args.items.now (length c.args.items.now - 1) ≡ Some (slice_index_or c.args.items.now (length c.args.items.now - 1) 0) = at-index c.args.items.now (length c.args.items.now - 1) 0 lt in
    record {
      inside = lt;
      grows = extends-refl c.args.table.now;
      node = joined-last (nodes c.args.table.now) c.args.items.now (length c.args.items.now - 1) (slice_index_or c.args.items.now (length c.args.items.now - 1) 0) (omega arith) at (truth-at (nodes c.args.table.now) c.args.items.now (length c.args.items.now - 1) (slice_index_or c.args.items.now (length c.args.items.now - 1) 0) c.requires at);
    }

pub conjunction-requires-clause-a : goal.conjunction-requires-clause-a
conjunction-requires-clause-a c =
    let lt : c.loop-index.index - 1 < length c.args.items.now = let inside = c.loop-index.invariant.inside in omega arith in
    let item = slice_index_or c.args.items.now (c.loop-index.index - 1) 0 in
    truth-there (slice_get (nodes c.loop-index.table) item) _ (truth-stays c.args.table.now c.loop-index.table item c.loop-index.invariant.grows (truth-at (nodes c.args.table.now) c.args.items.now (c.loop-index.index - 1) item c.requires (at-index c.args.items.now (c.loop-index.index - 1) 0 lt)))

pub conjunction-requires-clause-b : goal.conjunction-requires-clause-b
conjunction-requires-clause-b c =
    truth-there (slice_get (nodes c.loop-index.table) c.loop-index.made) (joined (truths_at (nodes c.args.table.now) (drop c.loop-index.index c.args.items.now))) c.loop-index.invariant.node

pub loop-index-preserved : goal.loop-index-preserved
loop-index-preserved c =
    let inside = c.loop-index.invariant.inside in
    let lt : c.loop-index.index - 1 < length c.args.items.now = omega arith in
    let back : c.loop-index.index - 1 + 1 ≡ c.loop-index.index = let positive = c.loop-index-test.true in omega arith in
    record {
      inside = lt;
      grows = extends-trans c.args.table.now c.loop-index.table c.conjunction.new.table c.loop-index.invariant.grows c.in_ok-made.ensures.grows;
      node =
          joined-more c.args.table.now c.loop-index.table c.conjunction.new.table c.args.items.now (c.loop-index.index - 1) (slice_index_or c.args.items.now (c.loop-index.index - 1) 0) c.loop-index.made c.in_ok-made.made c.loop-index.invariant.grows c.requires (omega arith)
          (at-index c.args.items.now (c.loop-index.index - 1) 0 lt)
          (c.loop-index.invariant.node ∙ ap (λ k. Some (of_truth (joined (truths_at (nodes c.args.table.now) (drop k c.args.items.now))))) (sym back))
          c.in_ok-made.ensures.node;
    }
