use Rattle.std.proofs.Common.{◌≡◌, drop, map}
use Rattle.jh_arguments.specs.Arguments.{value_for}
use Rattle.jh_arguments.specs.Held.{given_in}
use Rattle.jh_arguments.proofs.setting.value_for.Given as goal

abbrev pub invariant-loop-given : goal.invariant-loop-given
invariant-loop-given l = value_for l.name (map given_in (drop l.given-index l.options)) ≡ value_for l.name (map given_in l.options)
