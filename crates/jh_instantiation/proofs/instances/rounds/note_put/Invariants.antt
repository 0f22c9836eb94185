use Rattle.std.proofs.Common.{◌≡◌, ◌++◌, map, take, drop}
use Rattle.jh_instantiation.specs.instances.Progressing.{put_now}
use Rattle.jh_instantiation.proofs.instances.rounds.note_put.Given as goal

-- those before the place are noted, and the others as they were
abbrev pub invariant-loop-place : goal.invariant-loop-place
invariant-loop-place l = l.at_hand.items ≡ map (put_now l.count) (take l.place l.initial.at_hand.items) ++ drop l.place l.initial.at_hand.items
