use Rattle.jh_containers.specs.connected_component.Reaching.{IsMore}
use Rattle.jh_containers.proofs.connected_component.reaching.follow.Given as goal

abbrev pub invariant-loop-turn : goal.invariant-loop-turn
invariant-loop-turn l = IsMore l.rows l.initial.known.numbers.keys l.known.numbers.keys
