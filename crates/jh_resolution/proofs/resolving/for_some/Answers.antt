use Rattle.std.proofs.Common.{ap, ◌∙◌, Some, slice_get}
use Rattle.jh_form.specs.Tree.{of_truth}
use Rattle.jh_form.specs.Tree as t
use Rattle.jh_arena.specs.table.Entries.{the_value}
use Rattle.jh_arena.specs.table.Nodes.{nodes}
use Rattle.jh_arena.proofs.table.Listed.{extends-trans}
use Rattle.jh_arena.proofs.table.NodeSteps.{tree-Ex}
use Rattle.jh_vars.specs.Resolved as r
use Rattle.jh_resolution.proofs.Loops.{quantified-more}
use Rattle.jh_resolution.proofs.resolving.for_some.Goals as goal

-- src/resolving.rt
pub loop-index-init : goal.loop-index-init
unfolding r.quantified
loop-index-init c = record { grows = c.in_ok-made.ensures.grows; made = c.in_ok-made.ensures.node }

-- src/resolving.rt
pub loop-index-preserved : goal.loop-index-preserved
loop-index-preserved c =
    let a = r.as_truth (the_value (slice_get (nodes c.args.table.now) c.args.inner)) in
    let l = c.loop-index.table in
    record {
      grows = extends-trans c.args.table.now l c.make.new.self c.loop-index.invariant.grows c.in_ok-made-2.ensures.grows;
      made = c.in_ok-made-2.ensures.node
          ∙ ap Some (tree-Ex l.pools (nodes l) c.loop-index.made (r.quantified t.ex c.loop-index._index a) c.loop-index.invariant.made)
          ∙ ap (λ b. Some (of_truth b)) (quantified-more t.ex c.loop-index._index a);
    }
