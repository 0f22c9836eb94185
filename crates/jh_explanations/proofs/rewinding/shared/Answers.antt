use Rattle.std.proofs.Common.{◌≡◌, refl, subst, take, arith}
use Rattle.jh_explanations.specs.Steps.{literals_of}
use Rattle.jh_explanations.proofs.Readiness.{same-more}
use Rattle.jh_explanations.proofs.rewinding.shared.Goals as goal

pub loop-index-init : goal.loop-index-init
loop-index-init c = refl

pub loop-index-preserved : goal.loop-index-preserved
loop-index-preserved c = same-more c.args.trail.now c.args.steps.now c.loop-index.index c.literal.result c.step_at.result c.loop-index.invariant c.literal.ensures c.step_at.ensures (c.differ.ensures c.if-differ.false)

pub returns-clause-same : goal.returns-clause-same
returns-clause-same c =
    let all : c.loop-index.index ≡ c.args.most = omega (arith, c.loop-index, c.loop-index-test.false) in
    subst (λ k. take k c.args.trail.now ≡ literals_of (take k c.args.steps.now)) all c.loop-index.invariant
