use Rattle.std.proofs.Common.{◌≡◌, List, map, take}
use Rattle.jh_seq.specs.sequent.Sequents.{SequentTree, sequent_tree}
use Rattle.jh_splitting.specs.Standing.{AreSequents}
use Rattle.jh_boxed_commands.proofs.conditions.splitting.boxed_sequents.Given as goal

abbrev pub invariant-loop-place : goal.invariant-loop-place
invariant-loop-place l = (ss : List SequentTree) → AreSequents l.table l.made.hyps l.made.method l.made.sequents.items ss → map sequent_tree l.boxed.items ≡ take l.place ss
