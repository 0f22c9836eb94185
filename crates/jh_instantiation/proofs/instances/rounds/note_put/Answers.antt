use Rattle.std.proofs.Common.{◌<◌, ◌≤◌, ap, ◌∙◌, arith, List, length}
use Rattle.jh_instantiation.specs.declared.instances.making.AtHand.{AtHand}
use Rattle.jh_instantiation.specs.instances.Progressing.{noted_at}
use Rattle.jh_instantiation.proofs.instances.Universals.{noted-length, noted-next, noted-all}
use Rattle.jh_instantiation.proofs.instances.rounds.note_put.Goals as goal

pub note_at-requires : goal.note_at-requires
note_at-requires c =
    let xs = c.args.at_hand.now.items in
    let long = ap length c.loop-place.invariant ∙ noted-length xs c.loop-place.place c.args.count in
    omega (arith, c.loop-place-test.true, long)

pub loop-place-preserved : goal.loop-place-preserved
loop-place-preserved c =
    let xs = c.args.at_hand.now.items in
    let inside : c.loop-place.place < length xs = omega (arith, c.loop-place-test.true) in
    c.note_at.ensures ∙ ap (λ (ys : List AtHand). noted_at c.args.count ys c.loop-place.place) c.loop-place.invariant ∙ noted-next xs c.loop-place.place c.args.count inside

pub returns : goal.returns
returns c =
    let xs = c.args.at_hand.now.items in
    let all : length xs ≤ c.loop-place.place = omega (arith, c.loop-place-test.false) in
    c.loop-place.invariant ∙ noted-all xs c.loop-place.place c.args.count all
