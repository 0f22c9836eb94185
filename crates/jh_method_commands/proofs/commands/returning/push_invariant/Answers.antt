use Rattle.std.proofs.Common.{[], ◌∷◌, subst}
use Rattle.jh_form.specs.declared.mark.Mark.{Mark}
use Rattle.jh_form.specs.Tree as tree
use Rattle.jh_semantics.specs.typed_code.Statements.{claim_in}
use Rattle.jh_state_facts.specs.well_formedness.Facts.{AddsFacts}
use Rattle.jh_state_facts.proofs.changes.AddedSteps.{on-ok}
use Rattle.jh_method_commands.specs.environment.Outlines.{source_of}
use Rattle.jh_method_commands.proofs.commands.OutlinedSteps.{the-outline}
use Rattle.jh_method_commands.proofs.commands.SideSteps.{truth-there}
use Rattle.jh_method_commands.proofs.commands.returning.push_invariant.Goals as goal

pub push_marked-requires : goal.push_marked-requires
push_marked-requires c = truth-there c.formula_node.new.table c.in_ok-formula.formula _ c.in_ok-formula.ensures.node

pub returns-clause-facts : goal.returns-clause-facts
returns-clause-facts c =
    let claim = claim_in (source_of c.args.outline.now) c.args.claim.now in
    on-ok c.push_marked.result
    (λ h.
    subst (λ (m : Mark). AddsFacts c.push_marked.new.table c.args.facts.now.items c.push_marked.new.facts.items (tree.mark m claim.formula ∷ [])) c.in_ok-mark.ensures
    (h claim.formula (c.in_ok-formula.ensures.formula (source_of c.args.outline.now) (the-outline c.args.table.now c.args.outline.now c.requires).formulas)))
    c.push_marked.ensures.facts
