use Rattle.std.proofs.Common.{sym, ap}
use Rattle.jh_exec.specs.interpreter.Returns.{way_result}
use Rattle.jh_exec.proofs.interpreter.run.result_of.Goals as goal

pub returns-in-On : goal.returns-in-On
unfolding way_result
returns-in-On c = ap way_result (sym c.in-On.is)

pub returns-in-Return : goal.returns-in-Return
unfolding way_result
returns-in-Return c = ap way_result (sym c.in-Return.is)
