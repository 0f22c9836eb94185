use Rattle.std.proofs.Common.{take}
use Rattle.jh_arena.specs.table.Growth.{Extends}
use Rattle.jh_arena.specs.table.Nodes.{nodes}
use Rattle.jh_prove.specs.prover.Memos.{found}
use Rattle.jh_prove.specs.prover.Unlabelled.{HoldsUnlabelled, AreUnlabelled}
use Rattle.jh_prove.proofs.prover.unlabelling.facts_without_labels.Given as goal

-- the facts of the first hypotheses are made
abbrev pub invariant-loop-place : goal.invariant-loop-place
invariant-loop-place l = record {
  facts : AreUnlabelled (nodes l.table) (take l.place l.hyps) l.facts.items;
  memo : HoldsUnlabelled (nodes l.table) (found l.memo.answers);
  grows : Extends l.initial.table l.table;
}
