use Rattle.std.proofs.Common.{sym, drop, ◌∙◌, ap, subst, List, map}
use Rattle.jh_guard.specs.Terms.{guarded}
use Rattle.jh_command_terms.specs.declared.terms.checks.CheckNode.{CheckNode}
use Rattle.jh_command_terms.specs.terms.Checks.{AreChecks, AddsChecks}
use Rattle.jh_command_terms.proofs.terms.CheckSteps.{on-ok}
use Rattle.jh_command_terms.proofs.terms.checks.guard_from.Goals as goal

pub returns-clause-checks : goal.returns-clause-checks
returns-clause-checks c = on-ok c.push_all_guarded.result
    (λ told f cs h are.
    let same = c.as_slice-2.ensures.value ∙ c.in_ok-inner.ensures ∙ ap (drop c.args.start) c.as_slice.ensures.value in
    subst (λ (xs : List CheckNode). AddsChecks c.push_all_guarded.new.table xs c.push_all_guarded.new.checks.items (map (guarded f) cs)) c.truncate.ensures.items
    (told f cs h (subst (λ (xs : List CheckNode). AreChecks c.args.table.now xs cs) (sym same) are)))
    c.push_all_guarded.ensures.checks
