use Rattle.jh_closure.specs.structures.Literals.{literal_tree}
use Rattle.jh_arena.specs.table.Nodes.{nodes}
use Rattle.jh_propagation.specs.trail.Saying.{literal_tree_at}
use Rattle.jh_local.proofs.Boxed.{mapped-next}
use Rattle.jh_local.proofs.boxing.boxed_trail.Goals as goal

pub loop-place-preserved : goal.loop-place-preserved
loop-place-preserved c =
    mapped-next literal_tree (literal_tree_at (nodes c.args.table.now)) c.args.trail.now c.loop-place.made.items c.push.new.self.items c.loop-place.place c.literal.result
    c.in_ok-boxed.field-0 c.literal.ensures c.in_ok-push.ensures.items c.loop-place.invariant
    c.in_ok-boxed.ensures
