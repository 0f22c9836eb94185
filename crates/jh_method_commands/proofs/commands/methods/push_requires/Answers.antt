use Rattle.std.proofs.Common.{ap, sym, subst, option_map, Option}
use Rattle.jh_semantics.specs.declared.typed_code.stmts.Claim.{Claim}
use Rattle.jh_semantics.specs.typed_code.Statements.{claim_in}
use Rattle.jh_guard.specs.Methods.{assume_requires}
use Rattle.jh_state_facts.specs.changes.Added.{AddsCommands}
use Rattle.jh_state_facts.proofs.changes.AddedSteps.{on-ok}
use Rattle.jh_method_commands.specs.environment.Outlines.{source_of}
use Rattle.jh_method_commands.proofs.commands.OutlinedSteps.{the-outline}
use Rattle.jh_method_commands.proofs.commands.SideSteps.{truth-there}
use Rattle.jh_method_commands.proofs.commands.methods.push_requires.Goals as goal

pub assume_named-requires : goal.assume_named-requires
assume_named-requires c = truth-there c.formula_node.new.table c.in_ok-fact-in-Some.fact _ c.in_ok-fact-in-Some.ensures.node

pub returns-in_ok-fact-in-Some-clause-commands : goal.returns-in_ok-fact-in-Some-clause-commands
returns-in_ok-fact-in-Some-clause-commands c =
    let src = source_of c.args.outline.now in
    on-ok c.assume_named.result
    (λ h.
    subst (λ (o : Option Claim). AddsCommands c.assume_named.new.table c.args.commands.now.items c.assume_named.new.commands.items (assume_requires (option_map (claim_in src) o))) (sym c.in-Some.is)
    (h (claim_in src c.in-Some.claim).formula (c.in_ok-fact-in-Some.ensures.formula src (the-outline c.args.table.now c.args.outline.now c.requires).formulas)))
    c.assume_named.ensures.commands
