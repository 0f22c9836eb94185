use Rattle.std.proofs.Common.{take}
use Rattle.jh_arena.specs.table.Growth.{Extends}
use Rattle.jh_arena.specs.table.Nodes.{nodes}
use Rattle.jh_seq.specs.sequent.Sequents.{SequentTree}
use Rattle.jh_approx.specs.definition.Links.{named_in}
use Rattle.jh_query_names.specs.visible_part.Memos.{found as found_shown}
use Rattle.jh_query_names.specs.visible_part.Showing.{HoldsShown}
use Rattle.jh_abstraction.specs.choice_of_hypotheses.Asking.{AreNodes, IsAsked}
use Rattle.jh_abstraction.specs.choice_of_hypotheses.Choosing.{said_of}
use Rattle.jh_abstraction.proofs.choice_of_hypotheses.choosing.kept_by_names.Given as goal

-- what is kept of the first hypotheses
abbrev pub invariant-loop-place : goal.invariant-loop-place
invariant-loop-place l = record {
  chosen : (s : SequentTree) → IsAsked l.initial.table l.hyps l.label l.facts l.goal s → AreNodes (nodes l.table) l.kept.items (said_of (λ h. named_in s.mark.from h.name) (take l.place s.hyps));
  right : HoldsShown (nodes l.table) (found_shown l.memo.answers);
  grows : Extends l.initial.table l.table;
}
