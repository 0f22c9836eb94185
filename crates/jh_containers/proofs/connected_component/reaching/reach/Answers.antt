use Rattle.std.proofs.Common.{◌≡◌, length, arith}
use Rattle.jh_containers.proofs.connected_component.Passes.{goes-on, pass-ends}
use Rattle.jh_containers.proofs.connected_component.reaching.reach.Goals as goal

pub loop-turn-init : goal.loop-turn-init
loop-turn-init c = record { sound = c.in_ok-known.ensures.sound; start = c.in_ok-known.ensures.start }

pub loop-turn-preserved : goal.loop-turn-preserved
loop-turn-preserved c =
    let b = goes-on c.args.rows.now c.args.start.now c.loop-turn.known.numbers.keys c.pass.new.known.numbers.keys c.loop-turn.invariant.sound c.loop-turn.invariant.start c.in_ok-pass.ensures in
    record { sound = b.0; start = b.1 }

pub returns-then-after-before : goal.returns-then-after-before
returns-then-after-before c =
    let same : length c.pass.new.known.numbers.keys ≡ length c.loop-turn.known.numbers.keys = omega arith in
    pass-ends c.args.rows.now c.args.start.now c.loop-turn.known.numbers.keys c.pass.new.known.numbers.keys c.loop-turn.invariant.sound c.loop-turn.invariant.start c.in_ok-pass.ensures same
