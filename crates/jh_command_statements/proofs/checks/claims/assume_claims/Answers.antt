use Rattle.std.proofs.Common.{arith}
use Rattle.jh_arena.proofs.table.Listed.{extends-trans}
use Rattle.jh_wp.specs.Command as w
use Rattle.jh_guard.specs.Steps.{claim_fact}
use Rattle.jh_semantics.specs.typed_code.Statements.{claim_in}
use Rattle.jh_state_facts.proofs.well_formedness.FactSteps.{at-place}
use Rattle.jh_state_facts.proofs.changes.AddedSteps.{adds-next, adds-all}
use Rattle.jh_command_statements.proofs.checks.ToldSteps.{formulas-grow}
use Rattle.jh_command_statements.proofs.checks.claims.assume_claims.Goals as goal

pub loop-place-preserved : goal.loop-place-preserved
loop-place-preserved c = record {
  grows = extends-trans c.args.table.now c.loop-place.table c.assume_claim.new.table c.loop-place.invariant.grows c.assume_claim.ensures.grows;
  commands = λ p are.
      adds-next (λ claim. w.assume (claim_fact claim)) (claim_in p) c.args.claims.now c.index-claims-place.result c.loop-place.place c.loop-place.table c.assume_claim.new.table c.args.commands.now.items c.loop-place.commands.items c.assume_claim.new.commands.items
      (at-place c.args.claims.now c.index-claims-place.result c.loop-place.place c.loop-place-test.true c.index-claims-place.is) c.assume_claim.ensures.grows (c.loop-place.invariant.commands p are)
      (c.in_ok-assume_claim.ensures.commands p (formulas-grow c.args.table.now c.loop-place.table c.loop-place.invariant.grows p c.args.formulas.now are));
}

pub returns-clause-commands : goal.returns-clause-commands
returns-clause-commands c = λ p are.
    adds-all (λ claim. w.assume (claim_fact claim)) (claim_in p) c.args.claims.now c.loop-place.place c.loop-place.table c.args.commands.now.items c.loop-place.commands.items (omega (arith, c.loop-place-test.false)) (c.loop-place.invariant.commands p are)
