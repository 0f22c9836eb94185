use Rattle.std.proofs.Common.{sym, ap, subst, List}
use Rattle.jh_form.specs.declared.form.FieldTerm.{FieldTerm}
use Rattle.jh_form.specs.Bare.{list_tree}
use Rattle.jh_boxed_operations.specs.comparison.Unmarked.{unmarked_fields}
use Rattle.jh_arena.specs.table.Nodes.{nodes}
use Rattle.jh_derivation_rules.specs.declared.step.DerivStep.{DerivStep}
use Rattle.jh_derivation_rules.specs.Steps.{bare_base, option_base, bare_step, step_tree}
use Rattle.jh_derivation_rules.specs.Steps as s
use Rattle.jh_derivation_steps.specs.premises.Nodes.{step_at, AreOperands}
use Rattle.jh_deriv.specs.Replays.{Enters}
use Rattle.jh_deriv.proofs.entering.entered.Goals as goal

pub returns-in-Absurd-clause-step : goal.returns-in-Absurd-clause-step
unfolding bare_step step_tree step_at AreOperands
returns-in-Absurd-clause-step c = (ap (λ z. bare_step (step_tree z)) (sym c.in-Absurd.is), tt)

pub returns-in-Axiom-clause-step : goal.returns-in-Axiom-clause-step
unfolding bare_step step_tree
returns-in-Axiom-clause-step c =
    let ts = nodes c.axiom.new.table in
    subst (λ (z : DerivStep). Enters ts (bare_step (step_tree z)) c.axiom.result) (sym c.in-Axiom.is)
    (subst (λ (fs : List FieldTerm). Enters ts (s.axiom_of c.in-Axiom.number (unmarked_fields (list_tree fs)) (bare_base (option_base c.in-Axiom.base))) c.axiom.result) c.items.ensures c.axiom.ensures.step)
