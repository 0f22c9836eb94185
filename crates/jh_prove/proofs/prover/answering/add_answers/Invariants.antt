use Rattle.std.proofs.Common.{List, take}
use Rattle.jh_seq.specs.sequent.Sequents.{SequentTree}
use Rattle.jh_splitting.specs.Standing.{AreSequents}
use Rattle.jh_arena.specs.table.Growth.{Extends}
use Rattle.jh_arena.specs.table.Nodes.{nodes}
use Rattle.jh_local.specs.jh_query_names.mentioned_names.Notes.{IsRight}
use Rattle.jh_prove.specs.prover.Memos.{found}
use Rattle.jh_prove.specs.prover.Right.{AllRight}
use Rattle.jh_prove.specs.prover.Unlabelled.{HoldsUnlabelled}
use Rattle.jh_prove.proofs.prover.answering.add_answers.Given as goal

-- the answers to the first sequents are right
abbrev pub invariant-loop-place : goal.invariant-loop-place
invariant-loop-place l = record {
  right : (ss : List SequentTree) → AreSequents l.initial.table l.sequents.hyps l.sequents.method l.sequents.sequents.items ss → AllRight l.options (take l.place ss) l.made.items;
  memo : HoldsUnlabelled (nodes l.table) (found l.memo.answers);
  seen : IsRight (nodes l.table) l.seen;
  grows : Extends l.initial.table l.table;
}
