use Rattle.std.proofs.Common.{arith, rules}
use Rattle.jh_digits.specs.systems.Solution.{entry_of, right_of}
use Rattle.jh_digits.proofs.systems.Layers.{layers_start, tested, layers_more, layers_unlike, layers_end}
use Rattle.jh_digits.proofs.systems.checking.is_row_equal.Goals as goal

pub loop-layer-init : goal.loop-layer-init
loop-layer-init c = record {
  left = omega arith;
  right = omega arith;
  same = layers_start (entry_of c.args.system.now c.args.row) c.args.system.now.columns c.args.layers.now (right_of c.args.system.now c.args.row) _ _ c.minus_right-left.ensures.value c.plus_right-right.ensures.value;
}

pub loop-layer-preserved : goal.loop-layer-preserved
loop-layer-preserved c = record {
  left = omega arith;
  right = omega arith;
  same = layers_more _ (entry_of c.args.system.now c.args.row) c.args.system.now.columns c.args.layers.now c.loop-layer.layer-index c.loop-layer.left c.loop-layer.right _ _ c.layer-item.result c.loop-layer-test.true c.layer-item.is
      (rw c.items.ensures at c.plus_sum-left.ensures.value) (rw c.items-in-loop-layer.ensures at c.minus_sum-right.ensures.value) c.if-left-right.false c.loop-layer.invariant.same;
}

pub returns-then-left-right : goal.returns-then-left-right
returns-then-left-right c = (
  λ h. search rules,
  λ p. absurd (c.if-left-right.true (layers_unlike _ (entry_of c.args.system.now c.args.row) c.args.system.now.columns c.args.layers.now c.loop-layer.layer-index c.loop-layer.left c.loop-layer.right _ _ c.layer-item.result c.loop-layer-test.true c.layer-item.is
      (rw c.items.ensures at c.plus_sum-left.ensures.value) (rw c.items-in-loop-layer.ensures at c.minus_sum-right.ensures.value) c.loop-layer.invariant.same p)),
)

pub returns : goal.returns
returns c = tested _ _ _ (layers_end _ (entry_of c.args.system.now c.args.row) c.args.system.now.columns c.args.layers.now c.loop-layer.layer-index c.loop-layer.left c.loop-layer.right c.loop-layer-test.false c.loop-layer.invariant.same)
