use Rattle.jh_loop_targets.proofs.Notings.{places-next, places-end}
use Rattle.jh_loop_targets.proofs.walking.note_places.Goals as goal

pub loop-place-init : goal.loop-place-init
loop-place-init c = λ new h. h

pub loop-place-preserved : goal.loop-place-preserved
loop-place-preserved c = λ new h. c.loop-place.invariant new (places-next c.args.states.now c.args.places.now c.loop-place.place-index _ c.loop-place.written c.note_place.new.written new c.loop-place-test.true c.in_ok-note_place.ensures h)

pub returns : goal.returns
returns c = c.loop-place.invariant c.loop-place.written (places-end c.args.states.now c.args.places.now c.loop-place.place-index c.loop-place.written c.loop-place-test.false)
