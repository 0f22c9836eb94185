use Rattle.std.proofs.Common.{◌≡◌, ap, ◌∙◌, List, [], length}
use Rattle.jh_propagation.specs.declared.trail.decided.Decided.{Decided}
use Rattle.jh_search.proofs.Leaves.{leaf-quiet}
use Rattle.jh_search.proofs.closing.explained.Goals as goal

pub shortened-requires-clause-quiet : goal.shortened-requires-clause-quiet
shortened-requires-clause-quiet c =
    leaf-quiet c.args.problem.now c.args.searching.now c.args.cause.now c.requires.leaf some
  where
    some : c.args.searching.now.branch.decisions.items ≡ [] → ⊥
    some e = c.if-as_slice-eq0.false (ap (λ (xs : List Decided). length xs)
        (c.as_slice-3.ensures.value
        ∙ (c.in_ok-decisions.ensures
        ∙ (c.as_slice-2.ensures.value
        ∙ (c.explain.ensures.decisions ∙ e)))))
