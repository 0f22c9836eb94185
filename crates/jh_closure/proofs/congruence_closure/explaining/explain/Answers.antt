use Rattle.std.proofs.Common.{◌≡◌, ◌++◌, sym, subst, ap, List, [], ◌∷◌, arith}
use Rattle.jh_closure.specs.declared.congruence_closure.explaining.Question.{Question}
use Rattle.jh_closure.specs.congruence_closure.Nodes.{Has}
use Rattle.jh_closure.specs.congruence_closure.Explaining.{efforts}
use Rattle.jh_closure.proofs.congruence_closure.Answering.{efforts-push}
use Rattle.jh_closure.proofs.congruence_closure.Having.{has-left, has-last}
use Rattle.jh_closure.proofs.congruence_closure.explaining.explain.Goals as goal

pub answer-requires-clause-question : goal.answer-requires-clause-question
answer-requires-clause-question c = c.loop-question.invariant.asked c.in-Some.question (subst (λ (qs : List Question). Has qs c.in-Some.question) (sym c.in-Some.ensures.items) (has-last c.pop.new.self.items c.in-Some.question))

pub answer-requires-clause-asked : goal.answer-requires-clause-asked
answer-requires-clause-asked c q h = c.loop-question.invariant.asked q (subst (λ (qs : List Question). Has qs q) (sym c.in-Some.ensures.items) (has-left c.pop.new.self.items (c.in-Some.question ∷ []) q h))

pub loop-question-smaller : goal.loop-question-smaller
loop-question-smaller c =
    let a = c.in_ok-answer.ensures.effort in
    let e : efforts c.loop-question.asked.items ≡ efforts (c.pop.new.self.items ++ c.in-Some.question ∷ []) = ap efforts c.in-Some.ensures.items in
    let p = efforts-push c.pop.new.self.items c.in-Some.question in
    omega (arith, a, e, p)
