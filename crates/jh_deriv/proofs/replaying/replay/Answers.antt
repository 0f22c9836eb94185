use Rattle.std.proofs.Common.{[], ◌∷◌, List, ℕ, Option, Ok, subst}
use Rattle.std.specs.Prelude.{map}
use Rattle.jh_seq.specs.sequent.Sequents.{sequent_tree}
use Rattle.jh_derivation_rules.specs.declared.step.DerivStep.{DerivStep}
use Rattle.jh_derivation_rules.specs.Steps.{bare_step, steps_of}
use Rattle.jh_derivation_rules.specs.Closes.{Runs, facts_of}
use Rattle.jh_deriv.specs.Replays.{Comes, bare_steps}
use Rattle.jh_deriv.proofs.replaying.replay.Goals as goal

pub returns-in-Ok-None-clause-yes : goal.returns-in-Ok-None-clause-yes
returns-in-Ok-None-clause-yes c = λ yes.
    let fs = facts_of (sequent_tree c.args.sequent.now) in
    (c.closing_is_exact.ensures.runs fs (map bare_step (steps_of c.args.derivation.now))).1
    (subst (λ (ss : List DerivStep). Runs (fs ∷ []) (bare_steps ss)) c.items.ensures
    (subst (λ (o : Option ℕ). Comes (fs ∷ []) (bare_steps c.items.result.now) (Ok o)) c.in-Ok-None.field-0-is c.in-Ok-None.ensures))
