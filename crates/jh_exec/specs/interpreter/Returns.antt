-- Which steps return, and with what.
use Rattle.std.specs.Prelude.{Bool, true, false, Option, None}
use Rattle.jh_machine_code.specs.declared.code.step.Step.{Step}
use Rattle.jh_machine_code.specs.declared.code.step.Step.TheVariants as x
use Rattle.jh_operands.specs.declared.values.Scalar.{Scalar}
use Rattle.jh_exec.specs.declared.frames.frames.Way.{Way}
use Rattle.jh_exec.specs.declared.frames.frames.Way.TheVariants as way

unfoldable pub is_return : Step → Bool
is_return (x.Return e) = true
is_return _ = false

-- the result of what leads some way
unfoldable pub way_result : Way → Option Scalar
way_result way.On = None
way_result (way.Return v) = v
