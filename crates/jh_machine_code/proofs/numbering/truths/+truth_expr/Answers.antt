use Rattle.jh_machine_code.proofs.numbering.Standing.{stands_still}
use Rattle.jh_machine_code.proofs.numbering.TruthSteps.{truth_not_of, truth_both, truth_either, truth_same_truth}
use Rattle.jh_machine_code.proofs.numbering.truths.+truth_expr.Goals as goal

-- src/truths.rt
pub returns-in_ok-inner-in-Not-2-clause-is : goal.returns-in_ok-inner-in-Not-2-clause-is
returns-in_ok-inner-in-Not-2-clause-is t c =
    truth_not_of {u = c.in-Not.inner} {l = c.in_ok-inner-in-Not-2.inner} c.in-Not.is c.deref.ensures c.in_ok-inner-in-Not-2.ensures.ok c.in_ok-inner-in-Not.ensures.is

-- src/truths.rt
pub returns-in_ok-right-in-And-2-clause-is : goal.returns-in_ok-right-in-And-2-clause-is
returns-in_ok-right-in-And-2-clause-is t c =
    truth_both {u = c.in-And.left} {l = c.in_ok-left-in-And-2.left} {v = c.in-And.right} {r = c.in_ok-right-in-And-2.right} c.in-And.is c.deref-in-And.ensures c.in_ok-left-in-And-2.ensures.ok
    (stands_still c.truth_expr-in-And-2.ensures.grows c.in_ok-left-in-And.ensures.is) c.deref-in-And-2.ensures c.in_ok-right-in-And-2.ensures.ok c.in_ok-right-in-And.ensures.is

-- src/truths.rt
pub returns-in_ok-right-in-Or-2-clause-is : goal.returns-in_ok-right-in-Or-2-clause-is
returns-in_ok-right-in-Or-2-clause-is t c =
    truth_either {u = c.in-Or.left} {l = c.in_ok-left-in-Or-2.left} {v = c.in-Or.right} {r = c.in_ok-right-in-Or-2.right} c.in-Or.is c.deref-in-Or.ensures c.in_ok-left-in-Or-2.ensures.ok
    (stands_still c.truth_expr-in-Or-2.ensures.grows c.in_ok-left-in-Or.ensures.is) c.deref-in-Or-2.ensures c.in_ok-right-in-Or-2.ensures.ok c.in_ok-right-in-Or.ensures.is

-- src/truths.rt
pub returns-in_ok-right-in-SameTruth-2-clause-is : goal.returns-in_ok-right-in-SameTruth-2-clause-is
returns-in_ok-right-in-SameTruth-2-clause-is t c =
    truth_same_truth {u = c.in-SameTruth.left} {l = c.in_ok-left-in-SameTruth-2.left} {v = c.in-SameTruth.right} {r = c.in_ok-right-in-SameTruth-2.right} c.in-SameTruth.is c.deref-in-SameTruth.ensures c.in_ok-left-in-SameTruth-2.ensures.ok
    (stands_still c.truth_expr-in-SameTruth-2.ensures.grows c.in_ok-left-in-SameTruth.ensures.is) c.deref-in-SameTruth-2.ensures c.in_ok-right-in-SameTruth-2.ensures.ok c.in_ok-right-in-SameTruth.ensures.is
