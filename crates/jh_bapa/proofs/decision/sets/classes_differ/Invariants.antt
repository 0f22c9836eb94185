use Rattle.std.proofs.Common.{◌≡◌}
use Rattle.jh_form.specs.Meaning.{any_below}
use Rattle.jh_query.specs.queries.Bare.{cond_tree}
use Rattle.jh_bapa.specs.decision.Cases.{class_differs}
use Rattle.jh_bapa.proofs.decision.sets.classes_differ.Given as goal

abbrev pub invariant-loop-element : goal.invariant-loop-element
invariant-loop-element l = l.any ≡ any_below l.element (λ i. class_differs l.spots i (cond_tree l.cond))
