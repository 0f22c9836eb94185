use Rattle.std.proofs.Common.{◌≡◌, true, drop}
use Rattle.jh_machine_code.specs.entry_state.Now.{steps_now}
use Rattle.jh_machine_code.proofs.entry_state.recalling.+step_recalls.Given as goal

-- what is left says of all
abbrev pub invariant-steps_recall-loop-step : goal.invariant-steps_recall-loop-step
invariant-steps_recall-loop-step l = steps_now l.table (drop l.step-index l.steps) ≡ true → steps_now l.table l.steps ≡ true
