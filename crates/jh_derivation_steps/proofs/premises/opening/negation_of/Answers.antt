use Rattle.std.proofs.Common.{sym, ap, subst, ℕ}
use Rattle.std.specs.Prelude.{Option}
use Rattle.jh_form.specs.Tree as t
use Rattle.jh_arena.specs.table.Nodes.{nodes}
use Rattle.jh_derivation_rules.specs.Rules.{negated}
use Rattle.jh_derivation_steps.specs.premises.Nodes.{formula_at, option_formula, IsMade}
use Rattle.jh_derivation_steps.proofs.premises.Shaping.{arm}
use Rattle.jh_derivation_steps.proofs.premises.opening.negation_of.Goals as goal

pub negation-requires : goal.negation-requires
unfolding IsMade
negation-requires c = record { a = subst (λ (o : Option ℕ). IsMade (nodes c.args.table.now) o) c.in-Some.is c.requires.made }

pub returns-in_ok-negation-in-Some-clause-made : goal.returns-in_ok-negation-in-Some-clause-made
unfolding negated option_formula IsMade
returns-in_ok-negation-in-Some-clause-made c =
    let t0 = c.args.table.now in
    arm (nodes c.negation.new.table) c.in_ok-negation-in-Some.field-0 (t.negation (formula_at (nodes t0) c.in-Some.node)) (negated (option_formula (nodes t0) c.args.made))
    (ap (λ (o : Option ℕ). negated (option_formula (nodes t0) o)) c.in-Some.is)
    (c.in_ok-negation-in-Some.ensures.made (formula_at (nodes t0) c.in-Some.node) (subst (λ (o : Option ℕ). IsMade (nodes t0) o) c.in-Some.is c.requires.made))

pub returns-in-None-clause-made : goal.returns-in-None-clause-made
unfolding negated option_formula IsMade
returns-in-None-clause-made c = (sym (ap (λ (o : Option ℕ). negated (option_formula (nodes c.args.table.now) o)) c.in-None.is), tt)
