use Rattle.jh_containers.proofs.connected_component.Passes.{Within, Sound}
use Rattle.jh_containers.proofs.connected_component.reaching.reach.Given as goal

-- what is known is reached, what is given among it
abbrev pub invariant-loop-turn : goal.invariant-loop-turn
invariant-loop-turn l = record {
  sound : Sound l.rows l.start l.known.numbers.keys;
  start : Within l.start l.known.numbers.keys;
}
