use Rattle.std.proofs.Common.{slice_get}
use Rattle.jh_name.specs.declared.place.MethodId.{MethodId}
use Rattle.jh_arena.specs.table.Entries.{the_truth}
use Rattle.jh_arena.specs.table.Growth.{Extends}
use Rattle.jh_arena.specs.table.Nodes.{nodes}
use Rattle.jh_seq.specs.splitting.Split.{split_of}
use Rattle.jh_splitting.specs.Left.{GoalsLeft}
use Rattle.jh_splitting.proofs.splitting.split_all.Given as goal

-- what was made and what is left are all sequents
abbrev pub invariant-loop-turn : goal.invariant-loop-turn
invariant-loop-turn l = record {
  left : (method : MethodId) → GoalsLeft l.table l.lists method l.waiting.items l.made.items (split_of method (the_truth (slice_get (nodes l.initial.table) l.fn.node)) l.fn.next);
  grows : Extends l.initial.table l.table;
}
