use Rattle.std.proofs.Common.{◌≡◌, ◌∙◌, ◌-◌, ◌+◌, ◌<◌, length, drop, true, sym, ap, arith, subst, ℕ}
use Rattle.std.proofs.lemmas.Result.{IfOk-weaker}
use Rattle.jh_form.specs.Tree.{of_truth}
use Rattle.jh_form.specs.Tree as tree
use Rattle.jh_arena.proofs.table.Listed.{extends-refl, extends-trans}
use Rattle.jh_command_terms.specs.command.Code.{truth_at, IsTruth, command_in, command_fits, list_in}
use Rattle.jh_command_terms.proofs.command.CodeSteps.{step-fits, fitting-grows, is_truth-grows, truth-grows, listed-is_truth}
use Rattle.jh_wp.specs.Wp.{wp, wp_all}
use Rattle.jh_weakest.proofs.precondition.Rests.{rest-start, rest-step, both-made}
use Rattle.jh_weakest.proofs.precondition.weakest.+wp.Goals as goal

pub weakest_of_all-steps-init : goal.weakest_of_all-steps-init
weakest_of_all-steps-init t c = record {
  within = omega arith;
  grows = extends-refl c.args.table.now;
  formula = rest-start c.args.table.now c.args.steps.now c.args.normal (truth_at c.args.table.now c.args.returned) c.requires.normal;
}

pub weakest_of_all-weakest-requires : goal.weakest_of_all-weakest-requires
weakest_of_all-weakest-requires t c =
    let j = c.steps.at - 1 in
    let a = c.index-steps-at.result in
    let inside : j < length c.args.steps.now = omega (arith, c.steps-test.true, c.steps.invariant.within) in
    let fits : command_fits c.args.table.now a ≡ true = ap (command_fits c.args.table.now) c.index-steps-at.is ∙ step-fits c.args.table.now c.args.steps.now j a c.requires.fits inside in (
      omega (arith, c.decreases),
      (
        fitting-grows c.args.table.now c.steps.table c.steps.invariant.grows a fits,
        (
          listed-is_truth c.steps.table c.steps.formula (wp_all (list_in c.args.table.now (drop c.steps.at c.args.steps.now)) (truth_at c.args.table.now c.args.normal) (truth_at c.args.table.now c.args.returned)) c.steps.invariant.formula,
          is_truth-grows c.args.table.now c.steps.table c.steps.invariant.grows c.args.returned c.requires.returned,
        ),
      ),
    )

pub weakest_of_all-steps-preserved : goal.weakest_of_all-steps-preserved
weakest_of_all-steps-preserved t c =
    let j = c.steps.at - 1 in
    let a = c.index-steps-at.result in
    let inside : j < length c.args.steps.now = omega (arith, c.steps-test.true, c.steps.invariant.within) in
    let next : j + 1 ≡ c.steps.at = omega (arith, c.steps-test.true) in
    let before : IsTruth c.steps.table c.steps.formula (wp_all (list_in c.args.table.now (drop (j + 1) c.args.steps.now)) (truth_at c.args.table.now c.args.normal) (truth_at c.args.table.now c.args.returned)) =
    subst (λ (k : ℕ). IsTruth c.steps.table c.steps.formula (wp_all (list_in c.args.table.now (drop k c.args.steps.now)) (truth_at c.args.table.now c.args.normal) (truth_at c.args.table.now c.args.returned))) (sym next) c.steps.invariant.formula in
    record {
      within = omega (arith, inside);
      grows = extends-trans c.args.table.now c.steps.table c.weakest.new.table c.steps.invariant.grows c.weakest.ensures.grows;
      formula =
          rest-step c.args.table.now c.steps.table c.weakest.new.table c.args.steps.now j c.steps.formula c.in_ok-formula.formula a (truth_at c.args.table.now c.args.normal) (truth_at c.args.table.now c.args.returned) (truth_at c.steps.table c.args.returned)
          inside c.index-steps-at.is c.steps.invariant.grows c.requires.fits (truth-grows c.args.table.now c.steps.table c.steps.invariant.grows c.args.returned c.requires.returned) before c.in_ok-formula.ensures.node;
    }

pub weakest_of_both-conjunction-requires-clause-a : goal.weakest_of_both-conjunction-requires-clause-a
weakest_of_both-conjunction-requires-clause-a t c =
    let left = wp (command_in c.args.table.now c.args.left.now) (truth_at c.args.table.now c.args.normal) (truth_at c.args.table.now c.args.returned) in
    listed-is_truth c.weakest-2.new.table c.in_ok-left.left left (c.weakest-2.ensures.grows.nodes.keeps c.in_ok-left.left (of_truth left) c.in_ok-left.ensures.node)

pub weakest_of_both-conjunction-requires-clause-b : goal.weakest_of_both-conjunction-requires-clause-b
weakest_of_both-conjunction-requires-clause-b t c =
    listed-is_truth c.weakest-2.new.table c.in_ok-right.right (wp (command_in c.weakest.new.table c.args.right.now) (truth_at c.weakest.new.table c.args.normal) (truth_at c.weakest.new.table c.args.returned)) c.in_ok-right.ensures.node

pub weakest_of_both-returns-clause-node : goal.weakest_of_both-returns-clause-node
weakest_of_both-returns-clause-node t c =
    IfOk-weaker
    c.conjunction.result
    (λ made. IsTruth c.conjunction.new.table made (tree.and (truth_at c.weakest-2.new.table c.in_ok-left.left) (truth_at c.weakest-2.new.table c.in_ok-right.right)))
    (λ made. IsTruth c.conjunction.new.table made (tree.and (wp (command_in c.args.table.now c.args.left.now) (truth_at c.args.table.now c.args.normal) (truth_at c.args.table.now c.args.returned)) (wp (command_in c.args.table.now c.args.right.now) (truth_at c.args.table.now c.args.normal) (truth_at c.args.table.now c.args.returned))))
    (λ made e. both-made c.args.table.now c.weakest.new.table c.weakest-2.new.table c.conjunction.new.table c.in_ok-left.left c.in_ok-right.right made c.args.left.now c.args.right.now c.args.normal c.args.returned
    c.weakest.ensures.grows c.weakest-2.ensures.grows c.requires.right c.requires.normal c.requires.returned c.in_ok-left.ensures.node c.in_ok-right.ensures.node e)
    c.conjunction.ensures.node
