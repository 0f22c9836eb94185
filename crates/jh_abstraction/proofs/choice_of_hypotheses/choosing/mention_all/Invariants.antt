use Rattle.std.proofs.Common.{take}
use Rattle.jh_arena.specs.table.Growth.{Extends}
use Rattle.jh_arena.specs.table.Nodes.{nodes}
use Rattle.jh_splitting.specs.Pairs.{ArePaired}
use Rattle.jh_query_names.specs.mentioned_names.Notes.{IsNoted, IsRight}
use Rattle.jh_abstraction.proofs.choice_of_hypotheses.choosing.mention_all.Given as goal

-- the first facts are noted
abbrev pub invariant-loop-place : goal.invariant-loop-place
invariant-loop-place l = record {
  noted : ArePaired (IsNoted (nodes l.table) l.memo.notes.items) (take l.place l.facts) l.places.items;
  right : IsRight (nodes l.table) l.memo;
  grows : Extends l.initial.table l.table;
}
