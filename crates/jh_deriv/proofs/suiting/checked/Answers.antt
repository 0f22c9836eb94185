use Rattle.std.proofs.Common.{sym, ◌∙◌}
use Rattle.std.proofs.lemmas.Bool.{true≢false}
use Rattle.jh_arena.specs.table.Nodes.{nodes}
use Rattle.jh_derivation_steps.specs.premises.Nodes.{step_at}
use Rattle.jh_deriv.proofs.Turning.{gives-finds}
use Rattle.jh_deriv.proofs.suiting.checked.Goals as goal

pub returns-then-not-is_closed-clause-rule : goal.returns-then-not-is_closed-clause-rule
returns-then-not-is_closed-clause-rule c = λ r form closed alone. true≢false (sym closed ∙ sym c.is_closed.ensures ∙ c.if-not-is_closed.true)

pub rule_of-requires-clause-closed : goal.rule_of-requires-clause-closed
rule_of-requires-clause-closed c = sym c.is_closed.ensures ∙ c.if-not-is_closed.false

pub returns-clause-rule : goal.returns-clause-rule
returns-clause-rule c =
    gives-finds (nodes c.rule_of.new.table) (step_at (nodes c.args.table.now) c.args.step) c.rule_of.result c.rule_of.ensures.rule (sym c.is_closed.ensures ∙ c.if-not-is_closed.false) (c.in_ok-suits.ensures.0 c.if-not-branch.false)
