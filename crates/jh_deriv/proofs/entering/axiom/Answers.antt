use Rattle.std.proofs.Common.{sym, subst, Ok, Option}
use Rattle.jh_form.specs.Bare.{list_tree}
use Rattle.jh_boxed_operations.specs.comparison.Unmarked.{unmarked_fields}
use Rattle.jh_arena.specs.table.Nodes.{nodes}
use Rattle.jh_derivation_rules.specs.declared.step.Base.{Base}
use Rattle.jh_derivation_rules.specs.Steps.{bare_base, option_base}
use Rattle.jh_derivation_rules.specs.Steps as s
use Rattle.jh_derivation_steps.specs.declared.premises.nodes.NodeStep.TheVariants as d
use Rattle.jh_deriv.specs.Replays.{Enters}
use Rattle.jh_deriv.proofs.Operands.{entered-axiom}
use Rattle.jh_deriv.proofs.entering.axiom.Goals as goal

pub returns-in-None-clause-step : goal.returns-in-None-clause-step
unfolding bare_base option_base
returns-in-None-clause-step c =
    let ts = nodes c.bare_forest.new.table in
    let fs = unmarked_fields (list_tree c.args.fields.now) in
    subst (λ (b : Option Base). Enters ts (s.axiom_of c.args.number fs (bare_base (option_base b))) (Ok (d.Axiom c.args.number c.in_ok-list.list))) (sym c.in-None.is) (entered-axiom ts c.args.number c.in_ok-list.list fs c.in_ok-list.ensures.node)

pub returns-in-Some-clause-step : goal.returns-in-Some-clause-step
unfolding option_base
returns-in-Some-clause-step c =
    let ts = nodes c.based.new.table in
    let fs = unmarked_fields (list_tree c.args.fields.now) in
    subst (λ (b : Option Base). Enters ts (s.axiom_of c.args.number fs (bare_base (option_base b))) c.based.result) (sym c.in-Some.is) (c.based.ensures.step fs c.in_ok-list.ensures.node)
