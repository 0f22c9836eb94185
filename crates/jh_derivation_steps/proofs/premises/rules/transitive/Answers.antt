use Rattle.std.proofs.Common.{◌∙◌}
use Rattle.jh_arena.specs.table.Nodes.{nodes}
use Rattle.jh_arena.proofs.table.Listed.{extends-trans}
use Rattle.jh_derivation_rules.specs.Rules.{equation, rule_of, rule_from_two}
use Rattle.jh_derivation_steps.proofs.premises.Ruling.{made-keeps, value-keeps}
use Rattle.jh_derivation_steps.proofs.premises.rules.transitive.Goals as goal

pub returns-clause-rule : goal.returns-clause-rule
unfolding rule_of
returns-clause-rule c =
    let t0 = c.args.table.now in
    let t1 = c.equation.new.table in
    let t2 = c.equation-2.new.table in
    let t3 = c.equation-3.new.table in
    let left1 = made-keeps t1 t2 c.equation-2.ensures.grows c.in_ok-left.left c.in_ok-left.ensures.made.1 in
    let left = made-keeps t2 t3 c.equation-3.ensures.grows c.in_ok-left.left left1.1 in
    let right = made-keeps t2 t3 c.equation-3.ensures.grows c.in_ok-right.right c.in_ok-right.ensures.made.1 in
    let second = value-keeps t0 t1 c.equation.ensures.grows c.args.second c.requires.second in
    let third = value-keeps t0 t1 c.equation.ensures.grows c.args.third c.requires.third in
    let first2 = value-keeps t0 t2 (extends-trans t0 t1 t2 c.equation.ensures.grows c.equation-2.ensures.grows) c.args.first c.requires.first in
    let third2 = value-keeps t0 t2 (extends-trans t0 t1 t2 c.equation.ensures.grows c.equation-2.ensures.grows) c.args.third c.requires.third in (
      c.from_two.ensures.rule (nodes t3) ∙ (λ i. rule_from_two ((left.0 ∙ left1.0 ∙ c.in_ok-left.ensures.made.0) i) ((right.0 ∙ c.in_ok-right.ensures.made.0 ∙ (λ j. equation (second j) (third j))) i) ((c.in_ok-joined.ensures.made.0 ∙ (λ j. equation (first2 j) (third2 j))) i)),
      c.from_two.ensures.there (nodes t3) left.1 right.1 c.in_ok-joined.ensures.made.1,
    )
