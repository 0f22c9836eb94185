use Rattle.std.proofs.Common.{sym, ap, ◌∙◌, List, [], ◌∷◌, ◌++◌, take}
use Rattle.std.proofs.lemmas.List.{map-append}
use Rattle.jh_cong.proofs.classes.Looking.{take-next}
use Rattle.jh_propagation.specs.declared.trail.decided.Decided.{Decided}
use Rattle.jh_explanations.specs.Steps.{literals_of}
use Rattle.jh_explanations.specs.declared.step.Step.{Step}
use Rattle.jh_search.proofs.closing.literals.Goals as goal

pub loop-place-preserved : goal.loop-place-preserved
loop-place-preserved c =
    c.in_ok-push.ensures.items
    ∙ (ap (λ (xs : List Decided). xs ++ c.step_at.result.literal ∷ []) c.loop-place.invariant
    ∙ (sym (map-append (λ (s : Step). s.literal) (take c.loop-place.place c.args.steps.now) (c.step_at.result ∷ []))
    ∙ ap literals_of (sym (take-next c.args.steps.now c.loop-place.place c.step_at.result c.step_at.ensures))))
