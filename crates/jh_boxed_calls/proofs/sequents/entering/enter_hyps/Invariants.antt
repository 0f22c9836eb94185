use Rattle.std.proofs.Common.{take, map}
use Rattle.jh_arena.specs.table.Growth.{Extends}
use Rattle.jh_seq.specs.sequent.Sequents.{hyp_tree}
use Rattle.jh_prove.specs.jh_splitting.Standing.{AreHyps}
use Rattle.jh_boxed_calls.proofs.sequents.entering.enter_hyps.Given as goal

abbrev pub invariant-loop-hyp : goal.invariant-loop-hyp
invariant-loop-hyp l = record {
  table : Extends l.initial.table l.table;
  hyps : AreHyps l.table l.lists l.list (map hyp_tree (take l.hyp-index l.fn.hyps));
}
