use Rattle.std.proofs.Common.{sym, ◌∙◌, ◌-◌, None, arith}
use Rattle.jh_arena.specs.table.Nodes.{nodes}
use Rattle.jh_reach.specs.Axioms.{BackboneTree}
use Rattle.jh_reach.specs.Based.{IsBaseAt, IsSortedBase}
use Rattle.jh_derivation_rules.specs.Rules.{axiom_rule}
use Rattle.jh_derivation_steps.specs.premises.Nodes.{AreFormulas}
use Rattle.jh_derivation_steps.proofs.premises.Cited.{none-given, rule-zero, rule-unlisted, listed-given}
use Rattle.jh_derivation_steps.proofs.premises.citing.numbered.Goals as goal

pub returns-then-number-eq0-clause-rule : goal.returns-then-number-eq0-clause-rule
returns-then-number-eq0-clause-rule c = λ fs are. none-given (nodes c.args.table.now) (axiom_rule c.args.number fs None) (rule-zero c.args.number fs None c.if-number-eq0.true)

pub returns-then-not-has_axioms-clause-rule : goal.returns-then-not-has_axioms-clause-rule
returns-then-not-has_axioms-clause-rule c = λ fs are.
    none-given (nodes c.args.table.now) (axiom_rule c.args.number fs None) (rule-unlisted c.args.number fs None (sym (c.has_axioms.ensures fs are) ∙ c.if-not-has_axioms.true))

pub axiom_at-requires-clause-base : goal.axiom_at-requires-clause-base
unfolding IsSortedBase
axiom_at-requires-clause-base c = tt

pub returns-clause-rule : goal.returns-clause-rule
unfolding IsBaseAt AreFormulas
returns-clause-rule c = λ fs are.
    let t1 = c.axiom_at.new.table in
    let b : BackboneTree = record { fields = fs; base = None } in
    let made = c.in_ok-made.ensures.made b are tt in
    listed-given t1 c.args.number (c.args.number - 1) fs c.in_ok-made.made c.adding.result (omega (arith, c.if-number-eq0.false)) (sym (c.has_axioms.ensures fs are) ∙ c.if-not-has_axioms.false) made
    (c.adding.ensures.rule (nodes t1)) (c.adding.ensures.there (nodes t1) tt made.1)
