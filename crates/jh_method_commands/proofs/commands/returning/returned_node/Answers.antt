use Rattle.std.proofs.Common.{ℕ, List, Some, sym, ap, ◌∙◌, subst}
use Rattle.jh_form.specs.Tree.{of_truth}
use Rattle.jh_arena.specs.makers.Joined.{joined}
use Rattle.jh_guard.specs.Methods.{returned_formulas}
use Rattle.jh_semantics.specs.typed_code.Statements.{method_in}
use Rattle.jh_state_facts.specs.well_formedness.Facts.{AreFacts, AddsFacts}
use Rattle.jh_state_facts.proofs.well_formedness.FormedSteps.{added-to-none, facts-truths, facts-at}
use Rattle.jh_method_commands.specs.environment.Outlines.{source_of, program_in, writes_in, callee_of}
use Rattle.jh_method_commands.proofs.commands.SideSteps.{if-ok}
use Rattle.jh_method_commands.proofs.commands.returning.returned_node.Goals as goal

pub conjunction_of-requires : goal.conjunction_of-requires
conjunction_of-requires c =
    let o = c.args.outline.now in
    let x = c.args.method.now in
    let t = c.push_returned.new.table in
    let fs = returned_formulas (program_in o) (writes_in o) (callee_of x) (method_in (source_of o) x.code.now) in
    let are =
    subst (λ (xs : List ℕ). AreFacts t xs fs) (sym c.as_slice.ensures.value)
    (added-to-none t c.push_returned.new.facts.items fs (subst (λ (xs : List ℕ). AddsFacts t xs c.push_returned.new.facts.items fs) c.new-facts.ensures.items c.in_ok-push_returned.ensures.facts)) in
    facts-truths t c.as_slice.result.now fs are

pub returns-clause-node : goal.returns-clause-node
returns-clause-node c =
    let o = c.args.outline.now in
    let x = c.args.method.now in
    let t = c.push_returned.new.table in
    let fs = returned_formulas (program_in o) (writes_in o) (callee_of x) (method_in (source_of o) x.code.now) in
    let are =
    subst (λ (xs : List ℕ). AreFacts t xs fs) (sym c.as_slice.ensures.value)
    (added-to-none t c.push_returned.new.facts.items fs (subst (λ (xs : List ℕ). AddsFacts t xs c.push_returned.new.facts.items fs) c.new-facts.ensures.items c.in_ok-push_returned.ensures.facts)) in
    if-ok c.conjunction_of.result (λ made node. node ∙ ap (λ gs. Some (of_truth (joined gs))) (facts-at t c.as_slice.result.now fs are)) c.conjunction_of.ensures.node
