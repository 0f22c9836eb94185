use Rattle.std.proofs.Common.{◌≡◌, List, length}
use Rattle.jh_closure.specs.declared.congruence_closure.equation.Equation.{Equation}
use Rattle.jh_closure.specs.congruence_closure.Closing.{IsTrail}
use Rattle.jh_closure.specs.congruence_closure.Explaining.{AreQuestions, Explains, efforts}
use Rattle.jh_closure.proofs.congruence_closure.explaining.explain.Given as goal

abbrev pub invariant-loop-question : goal.invariant-loop-question
invariant-loop-question l = record {
  used : length l.used.items ≡ length l.forest.merges;
  asked : AreQuestions l.forest.merges (length l.nodes) l.asked.items;
  explains : (said : List Equation) → IsTrail l.nodes said l.forest.merges → Explains l.nodes said l.forest.merges l.listed.items l.used.items l.asked.items l.left l.right;
}

abbrev pub decreases-loop-question : goal.decreases-loop-question
decreases-loop-question l = efforts l.asked.items
