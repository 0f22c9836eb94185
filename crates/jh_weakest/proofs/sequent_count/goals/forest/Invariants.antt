use Rattle.std.proofs.Common.{◌≡◌}
use Rattle.jh_seq.specs.counting.Goals.{capped, forest_count}
use Rattle.jh_weakest.proofs.sequent_count.goals.forest.Given as goal

abbrev pub invariant-loop-index : goal.invariant-loop-index
invariant-loop-index l = record { sum : l.sum ≡ capped (forest_count l.index) }
