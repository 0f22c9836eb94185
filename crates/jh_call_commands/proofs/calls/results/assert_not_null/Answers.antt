use Rattle.std.proofs.Common.{List, [], ◌∷◌, sym, subst}
use Rattle.jh_form.specs.Tree as tree
use Rattle.jh_guard.specs.Terms.{Check, is_not_null}
use Rattle.jh_guard.specs.Steps.{fresh}
use Rattle.jh_guard.specs.Calls.{target_text}
use Rattle.jh_command_terms.specs.declared.terms.checks.CheckNode.{CheckNode}
use Rattle.jh_command_terms.specs.terms.Checks.{AreChecks, AddsChecks}
use Rattle.jh_command_terms.proofs.terms.CheckSteps.{added-to-none, are-facts, object-there, on-ok}
use Rattle.jh_call_commands.proofs.calls.results.assert_not_null.Goals as goal

pub push_not_null-requires : goal.push_not_null-requires
push_not_null-requires c = object-there c.args.table.now c.args.node (tree.free_object (fresh target_text c.args.turn)) c.requires

pub assert_checks-requires : goal.assert_checks-requires
assert_checks-requires c =
    let t = c.push_not_null.new.table in
    let a = tree.free_object (fresh target_text c.args.turn) in
    let cs : List Check = record { place = c.args.place; fact = is_not_null a } ∷ [] in
    let first = subst (λ (xs : List CheckNode). AddsChecks t xs c.push_not_null.new.checks.items cs) c.new-checks.ensures.items (c.in_ok-push_not_null.ensures.checks a c.requires) in
    are-facts t c.as_slice.result.now cs (subst (λ (xs : List CheckNode). AreChecks t xs cs) (sym c.as_slice.ensures.value) (added-to-none t c.push_not_null.new.checks.items cs first))

pub returns-clause-commands : goal.returns-clause-commands
returns-clause-commands c =
    let t = c.push_not_null.new.table in
    let a = tree.free_object (fresh target_text c.args.turn) in
    let cs : List Check = record { place = c.args.place; fact = is_not_null a } ∷ [] in
    let first = subst (λ (xs : List CheckNode). AddsChecks t xs c.push_not_null.new.checks.items cs) c.new-checks.ensures.items (c.in_ok-push_not_null.ensures.checks a c.requires) in
    on-ok c.assert_checks.result
    (λ told. told cs (subst (λ (xs : List CheckNode). AreChecks t xs cs) (sym c.as_slice.ensures.value) (added-to-none t c.push_not_null.new.checks.items cs first)))
    c.assert_checks.ensures.commands
