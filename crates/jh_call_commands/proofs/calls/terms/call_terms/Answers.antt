use Rattle.std.proofs.Common.{List, map, subst}
use Rattle.jh_arena.proofs.table.Listed.{extends-trans}
use Rattle.jh_guard.specs.Terms.{value_term}
use Rattle.jh_guard.specs.Calls.{all_checks}
use Rattle.jh_semantics.specs.declared.typed_code.code.AnyCode.{AnyCode}
use Rattle.jh_semantics.specs.typed_code.Codes.{any_code}
use Rattle.jh_semantics.specs.typed_code.Statements.{target_in}
use Rattle.jh_command_terms.specs.terms.Checks.{AddsChecks}
use Rattle.jh_command_terms.proofs.terms.CheckSteps.{adds-two}
use Rattle.jh_call_commands.specs.calls.Called.{AreValues}
use Rattle.jh_call_commands.proofs.calls.TermSteps.{receiver-grows, values-grow}
use Rattle.jh_call_commands.proofs.calls.terms.call_terms.Goals as goal

pub returns-clause-target : goal.returns-clause-target
returns-clause-target c =
    let t1 = c.target_term.new.table in
    let t2 = c.receiver_node.new.table in
    let t3 = c.arg_nodes.new.table in
    let t4 = c.check_called.new.table in
    receiver-grows t1 t4 c.in_ok-target.target (target_in c.args.call.now.target) (extends-trans t1 t2 t4 c.receiver_node.ensures.grows (extends-trans t2 t3 t4 c.arg_nodes.ensures.grows c.check_called.ensures.grows)) c.in_ok-target.ensures.node

pub returns-clause-args : goal.returns-clause-args
returns-clause-args c =
    let t3 = c.arg_nodes.new.table in
    values-grow t3 c.check_called.new.table c.in_ok-args.args.items (map value_term (map any_code c.args.call.now.args)) c.check_called.ensures.grows
    (subst (λ (es : List AnyCode). AreValues t3 c.in_ok-args.args.items (map value_term (map any_code es))) c.items.ensures c.in_ok-args.ensures.nodes)

pub returns-clause-checks : goal.returns-clause-checks
returns-clause-checks c =
    let t1 = c.target_term.new.table in
    let t2 = c.receiver_node.new.table in
    let t3 = c.arg_nodes.new.table in
    let t4 = c.check_called.new.table in
    let old = c.args.checks.now.items in
    let c1 = c.target_term.new.checks.items in
    let c2 = c.receiver_node.new.checks.items in
    let c3 = c.arg_nodes.new.checks.items in
    adds-two t3 t4 old c3 c.check_called.new.checks.items _ _
    (adds-two t2 t3 old c2 c3 _ _
    (adds-two t1 t2 old c1 c2 _ _ c.in_ok-target.ensures.checks c.receiver_node.ensures.grows c.in_ok-receiver.ensures.checks)
    c.arg_nodes.ensures.grows (subst (λ (es : List AnyCode). AddsChecks t3 c2 c3 (all_checks (map any_code es))) c.items.ensures c.in_ok-args.ensures.checks))
    c.check_called.ensures.grows c.in_ok-check_called.ensures.checks
