use Rattle.std.proofs.Common.{◌≡◌, List, map, take}
use Rattle.jh_seq.specs.sequent.Sequents.{HypTree, hyp_tree}
use Rattle.jh_splitting.specs.Pairs.{ArePaired}
use Rattle.jh_splitting.specs.Standing.{IsHyp}
use Rattle.jh_boxed_commands.proofs.conditions.hypotheses.boxed_hyps.Given as goal

abbrev pub invariant-loop-place : goal.invariant-loop-place
invariant-loop-place l = (hs : List HypTree) → ArePaired (IsHyp l.table) l.hyps hs → map hyp_tree l.made.items ≡ take l.place hs
