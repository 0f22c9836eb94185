use Rattle.jh_arena.specs.table.Nodes.{nodes}
use Rattle.jh_instance_proofs.proofs.derivations.Forms.{hyps-next}
use Rattle.jh_instance_proofs.proofs.derivations.answering.hyps_of.Goals as goal

pub loop-place-preserved : goal.loop-place-preserved
loop-place-preserved c =
    hyps-next (nodes c.args.table.now) c.args.facts.now c.loop-place.made.items c.push.new.self.items c.loop-place.place c.node_at.result
    c.in_ok-hyp_of.field-0 c.node_at.ensures c.in_ok-push.ensures.items c.loop-place.invariant c.in_ok-hyp_of.ensures
