use Rattle.std.proofs.Common.{ℕ, List, sym, subst}
use Rattle.jh_form.specs.Tree.{free_object}
use Rattle.jh_semantics.specs.WellFormed.{lies_in}
use Rattle.jh_guard.specs.Steps.{fresh}
use Rattle.jh_guard.specs.Calls.{result_text}
use Rattle.jh_state_facts.specs.well_formedness.Facts.{AreFacts, AddsFacts}
use Rattle.jh_state_facts.proofs.changes.AddedSteps.{on-ok}
use Rattle.jh_call_commands.proofs.calls.AfterSteps.{facts-of-none}
use Rattle.jh_call_commands.proofs.calls.after.push_typed.Goals as goal

pub returns-clause-commands : goal.returns-clause-commands
returns-clause-commands c =
    let t = c.push_lies.new.table in
    let ms = c.push_lies.new.facts.items in
    let fs = lies_in c.args.classes.now c.args.ty (free_object (fresh result_text c.args.turn)) in
    on-ok c.assume_facts.result
    (λ told.
    let made = subst (λ (ns : List ℕ). AddsFacts t ns ms fs) c.new-facts.ensures.items c.in_ok-push_lies.ensures.facts in
    told fs (subst (λ (ns : List ℕ). AreFacts t ns fs) (sym c.as_slice.ensures.value) (facts-of-none t ms fs made)))
    c.assume_facts.ensures
