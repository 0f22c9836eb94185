use Rattle.std.proofs.Common.{[], ◌∷◌, arith, map, subst}
use Rattle.jh_arena.proofs.table.Listed.{extends-trans}
use Rattle.jh_semantics.specs.typed_code.Statements.{claim_in}
use Rattle.jh_state_facts.specs.well_formedness.Facts.{AddsFacts}
use Rattle.jh_state_facts.proofs.well_formedness.FactSteps.{adds-next, adds-all, at-place}
use Rattle.jh_method_commands.specs.environment.Outlines.{source_of}
use Rattle.jh_method_commands.specs.commands.Made.{invariant_formula}
use Rattle.jh_method_commands.proofs.commands.MethodSteps.{singles}
use Rattle.jh_method_commands.proofs.commands.OutlinedSteps.{outlined_grows}
use Rattle.jh_method_commands.proofs.commands.returning.push_invariants.Goals as goal

pub loop-place-preserved : goal.loop-place-preserved
loop-place-preserved c =
    let t = c.loop-place.table in
    let u = c.push_invariant.new.table in
    record {
      outlined = outlined_grows t u c.args.outline.now c.loop-place.invariant.outlined c.push_invariant.ensures.grows;
      grows = extends-trans c.args.table.now t u c.loop-place.invariant.grows c.push_invariant.ensures.grows;
      facts =
          adds-next (λ y. invariant_formula y ∷ []) (claim_in (source_of c.args.outline.now)) c.args.claims.now c.index-claims-place.result c.loop-place.place t u c.args.facts.now.items c.loop-place.facts.items c.push_invariant.new.facts.items
          (at-place c.args.claims.now c.index-claims-place.result c.loop-place.place c.loop-place-test.true c.index-claims-place.is) c.push_invariant.ensures.grows c.loop-place.invariant.facts c.in_ok-push_invariant.ensures.facts;
    }

pub returns-clause-facts : goal.returns-clause-facts
returns-clause-facts c =
    let src = source_of c.args.outline.now in
    subst (λ fs. AddsFacts c.loop-place.table c.args.facts.now.items c.loop-place.facts.items fs) (singles invariant_formula (map (claim_in src) c.args.claims.now))
    (adds-all (λ y. invariant_formula y ∷ []) (claim_in src) c.args.claims.now c.loop-place.place c.loop-place.table c.args.facts.now.items c.loop-place.facts.items (omega (arith, c.loop-place-test.false)) c.loop-place.invariant.facts)
