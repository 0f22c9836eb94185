use Rattle.std.proofs.Common.{[], ◌∷◌, map}
use Rattle.jh_form.specs.declared.mark.MarkKind.TheVariants as kind
use Rattle.jh_arena.proofs.table.Listed.{extends-refl}
use Rattle.jh_wp.specs.Command as w
use Rattle.jh_command_statements.specs.jh_guard.Steps.{assert_claims}
use Rattle.jh_semantics.specs.typed_code.Statements.{claim_in}
use Rattle.jh_state_facts.proofs.changes.AddedSteps.{adds-two, on-ok}
use Rattle.jh_havoc.proofs.claims.push_kept.Goals as goal

pub returns-clause-commands : goal.returns-clause-commands
returns-clause-commands c =
    let u = c.assert_claims.new.table in
    on-ok c.push_stop.result
    (λ h p is. adds-two u u c.args.commands.now.items c.assert_claims.new.commands.items c.push_stop.new.commands.items (assert_claims kind.LoopKept (map (claim_in p) c.args.invariants.now)) (w.stop ∷ []) (c.in_ok-assert_claims.ensures.commands p is) (extends-refl u) (h u))
    c.push_stop.ensures
