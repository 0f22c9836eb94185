use Rattle.std.proofs.Common.{◌≡◌, ◌+◌, ◌∙◌, sym, ap, refl, subst, List, [], ◌∷◌, ◌++◌, take, arith}
use Rattle.jh_closure.proofs.congruence_closure.Having.{has-at}
use Rattle.jh_cong.proofs.classes.Looking.{take-next}
use Rattle.jh_arena.specs.table.Nodes.{nodes}
use Rattle.jh_models.specs.ground_models.Clashes.{Clash}
use Rattle.jh_propagation.specs.declared.trail.decided.Decided.{Decided}
use Rattle.jh_propagation.specs.trail.Listing.{IsUndecided}
use Rattle.jh_propagation.specs.propagation.Problems.{IsProblem, instances_in}
use Rattle.jh_explanations.specs.declared.step.Step.{Step}
use Rattle.jh_explanations.specs.Steps.{literals_of, trees_of}
use Rattle.jh_explanations.proofs.Lists.{has-literal}
use Rattle.jh_explanations.proofs.Readiness.{first-undecided, ready-quiet}
use Rattle.jh_explanations.proofs.shortening.keep_first.Goals as goal

pub loop-index-init : goal.loop-index-init
loop-index-init c = record { table = refl; trail = c.requires.trail; quiet = c.requires.quiet; kept = c.requires.kept }

pub keep_step-requires-clause-problem : goal.keep_step-requires-clause-problem
keep_step-requires-clause-problem c = subst (λ t. IsProblem (nodes t) c.args.problem.now) (sym c.loop-index.invariant.table) c.requires.problem

pub keep_step-requires-clause-atom : goal.keep_step-requires-clause-atom
keep_step-requires-clause-atom c = c.requires.over.over_atoms c.step_at.result.literal (has-literal c.args.steps.now c.step_at.result (has-at c.args.steps.now c.loop-index.index c.step_at.result c.step_at.ensures))

pub keep_step-requires-clause-quiet : goal.keep_step-requires-clause-quiet
keep_step-requires-clause-quiet c = c.loop-index.invariant.quiet

pub keep_step-requires-clause-undecided : goal.keep_step-requires-clause-undecided
keep_step-requires-clause-undecided c =
    subst (λ (xs : List Decided). IsUndecided xs c.step_at.result.literal.atom) (sym (c.loop-index.invariant.trail ∙ ap literals_of c.loop-index.invariant.kept))
    (first-undecided c.args.steps.now c.requires.over.once c.loop-index.index c.step_at.result c.step_at.ensures)

pub keep_step-requires-clause-trail : goal.keep_step-requires-clause-trail
keep_step-requires-clause-trail c = c.loop-index.invariant.trail

pub loop-index-preserved : goal.loop-index-preserved
loop-index-preserved c = record {
  table = c.keep_step.ensures.table ∙ c.loop-index.invariant.table;
  trail = c.in_ok-clash.ensures.trail ∙ ap literals_of (sym c.in_ok-clash.ensures.kept);
  quiet = c.in_ok-clash.ensures.quiet c.if-clash.false;
  kept = c.in_ok-clash.ensures.kept ∙ (ap (λ (ks : List Step). ks ++ c.step_at.result ∷ []) c.loop-index.invariant.kept ∙ sym (take-next c.args.steps.now c.loop-index.index c.step_at.result c.step_at.ensures));
}

pub returns-then-clash-clause-trail : goal.returns-then-clash-clause-trail
returns-then-clash-clause-trail c = c.in_ok-clash.ensures.trail ∙ ap literals_of (sym c.in_ok-clash.ensures.kept)

pub returns-then-clash-clause-kept : goal.returns-then-clash-clause-kept
returns-then-clash-clause-kept c = (c.loop-index.index + 1, (let lt = c.loop-index-test.true in omega (arith, lt), c.in_ok-clash.ensures.kept ∙ (ap (λ (ks : List Step). ks ++ c.step_at.result ∷ []) c.loop-index.invariant.kept ∙ sym (take-next c.args.steps.now c.loop-index.index c.step_at.result c.step_at.ensures))))

pub returns-then-clash-clause-clash : goal.returns-then-clash-clause-clash
returns-then-clash-clause-clash c = λ is. subst (λ (ks : List Step). Clash (instances_in (nodes c.args.problem.now.table) c.args.problem.now) (trees_of (nodes c.args.problem.now.table) ks)) (sym c.in_ok-clash.ensures.kept) (c.in_ok-clash.ensures.clash c.if-clash.true)

pub returns-then-clash-clause-ready : goal.returns-then-clash-clause-ready
returns-then-clash-clause-ready c = c.in_ok-clash.ensures.ready

pub returns-clause-trail : goal.returns-clause-trail
returns-clause-trail c = c.loop-index.invariant.trail

pub returns-clause-kept : goal.returns-clause-kept
returns-clause-kept c = (c.loop-index.index, (omega (arith, c.loop-index, c.requires.few), c.loop-index.invariant.kept))

pub returns-clause-all : goal.returns-clause-all
returns-clause-all c = λ is.
    let same : c.loop-index.index ≡ c.args.count = omega (arith, c.loop-index, c.loop-index-test.false, c.requires.few) in
    subst (λ k. c.loop-index.kept.items ≡ take k c.args.steps.now) same c.loop-index.invariant.kept

pub returns-clause-quiet : goal.returns-clause-quiet
returns-clause-quiet c = λ is. c.loop-index.invariant.quiet

pub returns-clause-ready : goal.returns-clause-ready
returns-clause-ready c = ready-quiet c.args.problem.now c.loop-index.classes c.loop-index.trail c.loop-index.invariant.quiet
