use Rattle.jh_containers.specs.connected_component.Reaching.{IsMore}
use Rattle.jh_containers.proofs.connected_component.reaching.take_new.Given as goal

abbrev pub invariant-loop-place : goal.invariant-loop-place
invariant-loop-place l = IsMore l.rows l.initial.known.numbers.keys l.known.numbers.keys
