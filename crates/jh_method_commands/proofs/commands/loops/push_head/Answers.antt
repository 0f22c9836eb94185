use Rattle.std.proofs.Common.{◌∷◌, ◌++◌, map, codes}
use Rattle.jh_form.specs.declared.mark.MarkKind.TheVariants as kind
use Rattle.jh_arena.proofs.table.Listed.{extends-trans}
use Rattle.jh_guard.specs.Terms.{truth_checks}
use Rattle.jh_guard.specs.Steps.{assert_claims, assume_claims, assert_checks, assume_named, growth, changed}
use Rattle.jh_semantics.specs.typed_code.Codes.{truth_code}
use Rattle.jh_semantics.specs.typed_code.Statements.{claim_in, code_in}
use Rattle.jh_call_commands.proofs.of_jh_command_statements.checks.ToldSteps.{formulas-grow}
use Rattle.jh_method_commands.specs.environment.Outlines.{source_of}
use Rattle.jh_method_commands.specs.commands.Made.{formed_in, changed_in, written_in}
use Rattle.jh_method_commands.proofs.commands.OutlinedSteps.{the-outline, outlined_grows}
use Rattle.jh_method_commands.proofs.commands.SideSteps.{truth-there}
use Rattle.jh_method_commands.proofs.commands.StatementSteps.{head-along}
use Rattle.jh_method_commands.proofs.commands.loops.push_head.Goals as goal

pub returns-clause-commands : goal.returns-clause-commands
returns-clause-commands c =
    let o = c.args.outline.now in
    let src = source_of o in
    let body = code_in src c.args.body.now in
    let claims = map (claim_in src) c.args.invariants.now in
    let t0 = c.args.table.now in
    let t1 = c.assert_claims.new.table in
    let t2 = c.push_any.new.table in
    let t3 = c.assume_claims.new.table in
    let t4 = c.push_test.new.table in
    head-along t1 t2 t3 t4 c.args.commands.now.items c.assert_claims.new.commands.items c.push_any.new.commands.items c.assume_claims.new.commands.items c.push_test.new.commands.items (assert_claims kind.LoopEntry claims)
    (changed (changed_in o c.args.scope.now body) c.args.turn) (assume_named (codes "wf") c.args.place (formed_in o c.args.this c.args.scope.now) ∷ growth c.args.turn (written_in o body)) (assume_claims claims) (assert_checks (truth_checks (truth_code c.args.test.now)))
    (c.in_ok-assert_claims.ensures.commands src (the-outline c.args.table.now c.args.outline.now c.requires).formulas) c.push_any.ensures.grows c.in_ok-next.ensures.commands c.assume_claims.ensures.grows
    (c.in_ok-assume_claims.ensures.commands src (formulas-grow t0 t2 (extends-trans t0 t1 t2 c.assert_claims.ensures.grows c.push_any.ensures.grows) src o.formulas.now (the-outline c.args.table.now c.args.outline.now c.requires).formulas)) c.push_test.ensures.grows c.in_ok-test.ensures.commands

pub returns-clause-grows : goal.returns-clause-grows
returns-clause-grows c =
    let t0 = c.args.table.now in
    let t1 = c.assert_claims.new.table in
    let t2 = c.push_any.new.table in
    let t3 = c.assume_claims.new.table in
    let t4 = c.push_test.new.table in
    extends-trans t0 t1 t4 c.assert_claims.ensures.grows (extends-trans t1 t2 t4 c.push_any.ensures.grows (extends-trans t2 t3 t4 c.assume_claims.ensures.grows c.push_test.ensures.grows))

pub returns-clause-outlined : goal.returns-clause-outlined
returns-clause-outlined c =
    let t0 = c.args.table.now in
    let t1 = c.assert_claims.new.table in
    let t2 = c.push_any.new.table in
    let t3 = c.assume_claims.new.table in
    let t4 = c.push_test.new.table in
    outlined_grows t0 t4 c.args.outline.now c.requires (extends-trans t0 t1 t4 c.assert_claims.ensures.grows (extends-trans t1 t2 t4 c.push_any.ensures.grows (extends-trans t2 t3 t4 c.assume_claims.ensures.grows c.push_test.ensures.grows)))

pub returns-clause-truth : goal.returns-clause-truth
returns-clause-truth c = truth-there c.push_test.new.table c.in_ok-test.test _ c.in_ok-test.ensures.node
