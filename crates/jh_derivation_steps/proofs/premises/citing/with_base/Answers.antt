use Rattle.std.proofs.Common.{sym, ◌∙◌, Some}
use Rattle.jh_arena.specs.table.Nodes.{nodes}
use Rattle.jh_derivation_rules.specs.Rules.{axiom_rule}
use Rattle.jh_derivation_steps.specs.premises.Nodes.{base_at}
use Rattle.jh_derivation_steps.proofs.premises.Cited.{none-given, rule-other, rule-unlisted, based-given}
use Rattle.jh_derivation_steps.proofs.premises.citing.with_base.Goals as goal

pub returns-then-number-ne10-clause-rule : goal.returns-then-number-ne10-clause-rule
returns-then-number-ne10-clause-rule c = λ fs are.
    let u = base_at (nodes c.args.table.now) c.args.place c.args.update in
    none-given (nodes c.args.table.now) (axiom_rule c.args.number fs (Some u)) (rule-other c.args.number fs u c.if-number-ne10.true)

pub returns-then-not-has_axioms-clause-rule : goal.returns-then-not-has_axioms-clause-rule
returns-then-not-has_axioms-clause-rule c = λ fs are.
    let u = base_at (nodes c.args.table.now) c.args.place c.args.update in
    none-given (nodes c.args.table.now) (axiom_rule c.args.number fs (Some u)) (rule-unlisted c.args.number fs (Some u) (sym (c.has_axioms.ensures fs are) ∙ c.if-not-has_axioms.true))

pub returns-clause-rule : goal.returns-clause-rule
returns-clause-rule c = λ fs are.
    let u = base_at (nodes c.args.table.now) c.args.place c.args.update in
    based-given (nodes c.placed.new.table) c.args.number fs u c.placed.result c.if-number-ne10.false (sym (c.has_axioms.ensures fs are) ∙ c.if-not-has_axioms.false) (c.placed.ensures.rule fs are)
