use Rattle.std.proofs.Common.{refl, sym, ap, subst, ◌↔◌, IsTrue}
use Rattle.jh_arena.specs.table.Nodes.{nodes}
use Rattle.jh_derivation_rules.specs.Steps.{StepTree, step_tree, bare_step}
use Rattle.jh_deriv.specs.Replays.{SuitsFacts, facts_at}
use Rattle.jh_deriv.proofs.Operands.{if-ok}
use Rattle.jh_deriv.proofs.Turning.{suits-other}
use Rattle.jh_deriv.proofs.suiting.suits_facts.Goals as goal

pub returns-in-Exists : goal.returns-in-Exists
unfolding step_tree bare_step
returns-in-Exists c =
    let fs = facts_at (nodes c.args.table.now) c.args.facts.now in
    if-ok c.is_fresh.result (λ fresh h. subst (λ (z : StepTree). IsTrue fresh ↔ SuitsFacts fs z) (ap (λ z. bare_step (step_tree z)) (sym c.in-Exists.is)) h) c.is_fresh.ensures

pub returns-in_default : goal.returns-in_default
returns-in_default c = (
  λ h. suits-other (facts_at (nodes c.args.table.now) c.args.facts.now) c.args.step.now c.in_default.not-Exists,
  λ h. refl,
)
