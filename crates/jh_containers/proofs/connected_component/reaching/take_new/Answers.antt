use Rattle.jh_containers.proofs.connected_component.Passes.{more-none, more-then}
use Rattle.jh_containers.proofs.connected_component.reaching.take_new.Goals as goal

pub loop-place-init : goal.loop-place-init
loop-place-init c = more-none c.args.rows.now c.args.known.now.numbers.keys

pub loop-place-preserved : goal.loop-place-preserved
loop-place-preserved c =
    more-then c.args.rows.now c.args.known.now.numbers.keys c.loop-place.known.numbers.keys c.take_once.new.known.numbers.keys c.loop-place.invariant c.in_ok-take_once.ensures
