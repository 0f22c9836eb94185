use Rattle.std.proofs.Common.{◌∙◌, []}
use Rattle.jh_arena.specs.table.Nodes.{nodes}
use Rattle.jh_derivation_rules.specs.Rules.{equation, rule_of, rule_from}
use Rattle.jh_derivation_steps.proofs.premises.Ruling.{made-keeps, value-keeps}
use Rattle.jh_derivation_steps.proofs.premises.rules.symmetric.Goals as goal

pub returns-clause-rule : goal.returns-clause-rule
unfolding rule_of
returns-clause-rule c =
    let t0 = c.args.table.now in
    let t1 = c.equation.new.table in
    let t2 = c.equation-2.new.table in
    let given = made-keeps t1 t2 c.equation-2.ensures.grows c.in_ok-given.given c.in_ok-given.ensures.made.1 in
    let left = value-keeps t0 t1 c.equation.ensures.grows c.args.left c.requires.left in
    let right = value-keeps t0 t1 c.equation.ensures.grows c.args.right c.requires.right in (
      c.from_one.ensures.rule (nodes t2) ∙ (λ i. rule_from ((given.0 ∙ c.in_ok-given.ensures.made.0) i) [] ((c.in_ok-turned.ensures.made.0 ∙ (λ j. equation (right j) (left j))) i)),
      c.from_one.ensures.there (nodes t2) given.1 c.in_ok-turned.ensures.made.1,
    )
