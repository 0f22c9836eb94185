use Rattle.std.proofs.Common.{refl, subst}
use Rattle.jh_closure.specs.congruence_closure.Nodes.{Has}
use Rattle.jh_propagation.proofs.trail.Listed.{has-get}
use Rattle.jh_propagation.proofs.trail.sets.has.Goals as goal

pub returns-then-is_one : goal.returns-then-is_one
returns-then-is_one c = (
  λ h. subst (Has c.args.list.now) (c.is_one.ensures.0 c.if-is_one.true) (has-get c.args.list.now c.loop-item.item-index _ c.loop-item-test.true),
  λ h. refl,
)
