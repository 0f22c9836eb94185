use Rattle.std.proofs.Common.{[], ◌∷◌, subst}
use Rattle.jh_form.specs.declared.mark.Mark.{Mark}
use Rattle.jh_form.specs.Tree as tree
use Rattle.jh_state_facts.specs.well_formedness.Facts.{AddsFacts}
use Rattle.jh_state_facts.proofs.changes.AddedSteps.{on-ok}
use Rattle.jh_method_commands.proofs.commands.returning.push_bare.Goals as goal

pub returns-clause-facts : goal.returns-clause-facts
returns-clause-facts c =
    on-ok c.push_marked.result
    (λ h f e. subst (λ (m : Mark). AddsFacts c.push_marked.new.table c.args.facts.now.items c.push_marked.new.facts.items (tree.mark m f ∷ [])) c.bare_mark-mark.ensures (h f e))
    c.push_marked.ensures.facts
