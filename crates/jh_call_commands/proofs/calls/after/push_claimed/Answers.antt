use Rattle.std.proofs.Common.{◌∙◌, ap, Some}
use Rattle.jh_form.specs.Tree.{of_truth}
use Rattle.jh_semantics.specs.typed_code.Statements.{claim_in}
use Rattle.jh_state_facts.proofs.changes.AddedSteps.{on-ok}
use Rattle.jh_call_commands.proofs.calls.after.push_claimed.Goals as goal

pub returns-clause-commands : goal.returns-clause-commands
returns-clause-commands c =
    on-ok c.assume_named.result
    (λ told p f are same. told (f (claim_in p c.args.claim.now).formula) (c.in_ok-fact.ensures.node p are ∙ ap (λ a. Some (of_truth a)) (same (claim_in p c.args.claim.now).formula)))
    c.assume_named.ensures.commands
