use Rattle.std.proofs.Common.{[], ◌∷◌, Option, sym, subst, option_map}
use Rattle.jh_form.specs.Tree as tree
use Rattle.jh_semantics.specs.declared.typed_code.stmts.Claim.{Claim}
use Rattle.jh_semantics.specs.typed_code.Statements.{claim_in}
use Rattle.jh_guard.specs.Methods.{post_formula}
use Rattle.jh_state_facts.specs.well_formedness.Facts.{AddsFacts}
use Rattle.jh_state_facts.proofs.changes.AddedSteps.{on-ok}
use Rattle.jh_method_commands.specs.environment.Outlines.{source_of}
use Rattle.jh_method_commands.proofs.commands.OutlinedSteps.{the-outline}
use Rattle.jh_method_commands.proofs.commands.SideSteps.{truth-there}
use Rattle.jh_method_commands.proofs.commands.returning.push_ensures.Goals as goal

pub push_bare-requires : goal.push_bare-requires
push_bare-requires c = truth-there c.truth.new.table c.in_ok-formula-in-None.formula _ c.in_ok-formula-in-None.ensures.node

pub push_bare-requires-in-Some : goal.push_bare-requires-in-Some
push_bare-requires-in-Some c = truth-there c.formula_node.new.table c.in_ok-formula-in-Some.formula _ c.in_ok-formula-in-Some.ensures.node

pub returns-in_ok-formula-in-None-clause-facts : goal.returns-in_ok-formula-in-None-clause-facts
returns-in_ok-formula-in-None-clause-facts c =
    let src = source_of c.args.outline.now in
    on-ok c.push_bare.result
    (λ h.
    subst (λ (o : Option Claim). AddsFacts c.push_bare.new.table c.args.facts.now.items c.push_bare.new.facts.items (post_formula c.args.method.now.place (option_map (claim_in src) o) ∷ [])) (sym c.in-None.is)
    (h tree.true_formula c.in_ok-formula-in-None.ensures.node))
    c.push_bare.ensures.facts

pub returns-in_ok-formula-in-Some-clause-facts : goal.returns-in_ok-formula-in-Some-clause-facts
returns-in_ok-formula-in-Some-clause-facts c =
    let src = source_of c.args.outline.now in
    on-ok c.push_bare-in-Some.result
    (λ h.
    subst (λ (o : Option Claim). AddsFacts c.push_bare-in-Some.new.table c.args.facts.now.items c.push_bare-in-Some.new.facts.items (post_formula c.args.method.now.place (option_map (claim_in src) o) ∷ [])) (sym c.in-Some.is)
    (h (claim_in src c.in-Some.claim).formula (c.in_ok-formula-in-Some.ensures.formula src (the-outline c.args.table.now c.args.outline.now c.requires).formulas)))
    c.push_bare-in-Some.ensures.facts
