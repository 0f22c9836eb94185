use Rattle.std.proofs.Common.{arith, map, subst, List}
use Rattle.jh_arena.proofs.table.Listed.{extends-trans}
use Rattle.jh_semantics.specs.Code as code
use Rattle.jh_guard.specs.Terms.{value_term}
use Rattle.jh_guard.specs.Calls.{all_checks}
use Rattle.jh_command_terms.specs.terms.Checks.{AddsChecks}
use Rattle.jh_state_facts.proofs.well_formedness.FactSteps.{at-place}
use Rattle.jh_call_commands.specs.calls.Called.{AreValues}
use Rattle.jh_call_commands.proofs.calls.TermSteps.{nodes-next, arg-checks-next, all-codes}
use Rattle.jh_call_commands.proofs.calls.terms.arg_nodes.Goals as goal

pub loop-place-preserved : goal.loop-place-preserved
loop-place-preserved c =
    let t = c.loop-place.table in
    let u = c.value_term.new.table in
    let x = c.index-args-place.result in
    let at = at-place c.args.args.now x c.loop-place.place c.loop-place-test.true c.index-args-place.is in
    let g = c.value_term.ensures.grows in
    record {
      grows = extends-trans c.args.table.now t u c.loop-place.invariant.grows g;
      values = nodes-next c.args.args.now x c.loop-place.place at t u g c.loop-place.made.items c.push.new.self.items c.in_ok-node.node c.in_ok-push.ensures.items c.loop-place.invariant.values c.in_ok-node.ensures.node;
      checks = arg-checks-next c.args.args.now x c.loop-place.place at t u g c.args.checks.now.items c.loop-place.checks.items c.value_term.new.checks.items c.loop-place.invariant.checks c.in_ok-node.ensures.checks;
    }

pub returns-clause-nodes : goal.returns-clause-nodes
returns-clause-nodes c =
    subst (λ (es : List code.AnyCode). AreValues c.loop-place.table c.loop-place.made.items (map value_term es)) (all-codes c.args.args.now c.loop-place.place (omega (arith, c.loop-place-test.false))) c.loop-place.invariant.values

pub returns-clause-checks : goal.returns-clause-checks
returns-clause-checks c =
    subst (λ (es : List code.AnyCode). AddsChecks c.loop-place.table c.args.checks.now.items c.loop-place.checks.items (all_checks es)) (all-codes c.args.args.now c.loop-place.place (omega (arith, c.loop-place-test.false))) c.loop-place.invariant.checks
