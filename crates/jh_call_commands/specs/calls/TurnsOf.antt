-- The turns of a call as the code holds them.
use Rattle.jh_guard.specs.Calls.{CallTurns}
use Rattle.jh_call_commands.specs.declared.calls.turns.Turns.{Turns}

abbrev pub turns_in : Turns → CallTurns
turns_in x = record { receiver = x.receiver; args = x.args; target = x.target; copies = x.copies; result = x.result; next = x.next }
