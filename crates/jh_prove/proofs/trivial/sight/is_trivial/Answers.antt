use Rattle.std.proofs.Common.{refl, inr}
use Rattle.jh_prove.specs.trivial.Facts.{truth_at}
use Rattle.jh_prove.proofs.trivial.Shapes.{some-here}
use Rattle.jh_prove.proofs.trivial.sight.is_trivial.Goals as goal

pub returns-then-gives : goal.returns-then-gives
returns-then-gives c = (
  λ h. inr (some-here (truth_at c.args.table.now) (truth_at c.args.table.now c.args.goal) c.args.facts.now c.loop-fact.fact-index c.loop-fact-test.true (c.gives.ensures.0 c.if-gives.true)),
  λ h. refl,
)
