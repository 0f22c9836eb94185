use Rattle.std.proofs.Common.{sym}
use Rattle.jh_containers.proofs.shared_lists.Linked.{left-start, left-end, left-next}
use Rattle.jh_containers.proofs.shared_lists.chains.Chains.items.Goals as goal

pub loop-turn-init : goal.loop-turn-init
loop-turn-init g c = record { left = λ xs. left-start c.args.self.now c.args.list c.new-items.result.items xs c.new-items.ensures.items }

pub returns-in-None : goal.returns-in-None
returns-in-None g c = λ xs h. left-end c.args.self.now c.args.list c.loop-turn.next c.loop-turn.items.items xs (c.loop-turn.invariant.left xs) c.in-None.is h

pub loop-turn-preserved : goal.loop-turn-preserved
loop-turn-preserved g c = record {
  left = λ xs.
      left-next c.args.self.now c.args.list c.loop-turn.next c.loop-turn.items.items c.push.new.self.items xs c.in-Some.number c.in-Some-link.link (c.loop-turn.invariant.left xs) c.in-Some.is (sym c.in-Some-link.ensures)
      c.in_ok-push-in-Some-link.ensures.items;
}
