use Rattle.jh_arena.specs.table.Nodes.{nodes}
use Rattle.jh_instance_proofs.specs.jh_search.Paths.{closed_at}
use Rattle.jh_local.specs.Answers.{closed_tree}
use Rattle.jh_local.proofs.Boxed.{mapped-next}
use Rattle.jh_local.proofs.boxing.boxed_branches.Goals as goal

pub loop-place-preserved : goal.loop-place-preserved
loop-place-preserved c =
    mapped-next closed_tree (closed_at (nodes c.args.table.now)) c.args.branches.now c.loop-place.made.items c.push.new.self.items c.loop-place.place c.branch_at.result.now
    c.in_ok-boxed_branch.field-0 c.branch_at.ensures c.in_ok-push.ensures.items c.loop-place.invariant c.in_ok-boxed_branch.ensures
