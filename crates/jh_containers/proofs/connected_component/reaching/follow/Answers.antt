use Rattle.jh_containers.proofs.connected_component.Passes.{more-none, more-then}
use Rattle.jh_containers.proofs.connected_component.reaching.follow.Goals as goal

pub loop-turn-init : goal.loop-turn-init
loop-turn-init c = more-none c.args.rows.now c.args.known.now.numbers.keys

pub loop-turn-preserved : goal.loop-turn-preserved
loop-turn-preserved c =
    more-then c.args.rows.now c.args.known.now.numbers.keys c.loop-turn.known.numbers.keys c.take_new.new.known.numbers.keys c.loop-turn.invariant c.in_ok-take_new.ensures
