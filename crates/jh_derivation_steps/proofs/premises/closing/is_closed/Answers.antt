use Rattle.std.proofs.Common.{sym, ap, ◌∙◌}
use Rattle.jh_arena.specs.table.Nodes.{nodes}
use Rattle.jh_derivation_rules.specs.Rules.{is_closed_step}
use Rattle.jh_derivation_steps.specs.premises.Nodes.{step_at}
use Rattle.jh_derivation_steps.proofs.premises.closing.is_closed.Goals as goal

pub returns-in-Axiom : goal.returns-in-Axiom
unfolding is_closed_step step_at
returns-in-Axiom c = c.listed.ensures ∙ ap (λ z. is_closed_step (step_at (nodes c.args.table.now) z)) (sym c.in-Axiom.is)

pub returns-in-BasedAxiom : goal.returns-in-BasedAxiom
unfolding is_closed_step step_at
returns-in-BasedAxiom c = c.based.ensures c.in-BasedAxiom.field-2 ∙ ap (λ z. is_closed_step (step_at (nodes c.args.table.now) z)) (sym c.in-BasedAxiom.is)
