use Rattle.std.proofs.Common.{sym, subst, ℕ, List}
use Rattle.jh_closure.specs.congruence_closure.Nodes.{Has}
use Rattle.jh_closure.proofs.congruence_closure.Starting.{numbers-all, numbers-inside}
use Rattle.jh_closure.proofs.congruence_closure.beginning.numbers.Goals as goal

pub loop-number-preserved : goal.loop-number-preserved
loop-number-preserved c = record {
  all = λ k l. subst (λ (xs : List ℕ). Has xs k) (sym c.in_ok-push.ensures.items) (numbers-all c.loop-number.made.items c.loop-number.number c.loop-number.invariant.all k l);
  inside = λ k h. numbers-inside c.loop-number.made.items c.loop-number.number c.loop-number.invariant.inside k (subst (λ (xs : List ℕ). Has xs k) c.in_ok-push.ensures.items h);
}
