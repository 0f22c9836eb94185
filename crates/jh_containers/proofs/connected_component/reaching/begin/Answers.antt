use Rattle.jh_containers.proofs.connected_component.Passes.{begins, more-sound}
use Rattle.jh_containers.proofs.connected_component.reaching.begin.Goals as goal

pub returns-clause-sound : goal.returns-clause-sound
returns-clause-sound c =
    let first = begins c.args.rows.now c.args.start.now c.none-known.result.numbers.keys c.add_all.new.known.numbers.keys c.none-known.ensures c.in_ok-add_all.ensures in
    more-sound c.args.rows.now c.args.start.now c.add_all.new.known.numbers.keys c.follow.new.known.numbers.keys first.0 c.in_ok-follow.ensures

pub returns-clause-start : goal.returns-clause-start
returns-clause-start c =
    let first = begins c.args.rows.now c.args.start.now c.none-known.result.numbers.keys c.add_all.new.known.numbers.keys c.none-known.ensures c.in_ok-add_all.ensures in
    λ n h. c.in_ok-follow.ensures.keeps n (first.1 n h)
