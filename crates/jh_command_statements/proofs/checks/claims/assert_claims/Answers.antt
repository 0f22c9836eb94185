use Rattle.std.proofs.Common.{arith}
use Rattle.jh_arena.proofs.table.Listed.{extends-trans}
use Rattle.jh_guard.specs.Steps.{assert_claim}
use Rattle.jh_semantics.specs.typed_code.Statements.{claim_in}
use Rattle.jh_state_facts.proofs.well_formedness.FactSteps.{at-place}
use Rattle.jh_state_facts.proofs.changes.AddedSteps.{adds-next, adds-all}
use Rattle.jh_command_statements.proofs.checks.ToldSteps.{formulas-grow}
use Rattle.jh_command_statements.proofs.checks.claims.assert_claims.Goals as goal

pub loop-place-preserved : goal.loop-place-preserved
loop-place-preserved c = record {
  grows = extends-trans c.args.table.now c.loop-place.table c.assert_claim.new.table c.loop-place.invariant.grows c.assert_claim.ensures.grows;
  commands = λ p are.
      adds-next (assert_claim c.args.kind) (claim_in p) c.args.claims.now c.index-claims-place.result c.loop-place.place c.loop-place.table c.assert_claim.new.table c.args.commands.now.items c.loop-place.commands.items c.assert_claim.new.commands.items
      (at-place c.args.claims.now c.index-claims-place.result c.loop-place.place c.loop-place-test.true c.index-claims-place.is) c.assert_claim.ensures.grows (c.loop-place.invariant.commands p are)
      (c.in_ok-assert_claim.ensures.commands p (formulas-grow c.args.table.now c.loop-place.table c.loop-place.invariant.grows p c.args.formulas.now are));
}

pub returns-clause-commands : goal.returns-clause-commands
returns-clause-commands c = λ p are.
    adds-all (assert_claim c.args.kind) (claim_in p) c.args.claims.now c.loop-place.place c.loop-place.table c.args.commands.now.items c.loop-place.commands.items (omega (arith, c.loop-place-test.false)) (c.loop-place.invariant.commands p are)
