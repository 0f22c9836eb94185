use Rattle.std.proofs.Common.{ℕ, List, Option}
use Rattle.jh_vars.specs.Written.{Callee}
use Rattle.jh_semantics.specs.Program.{Program}
use Rattle.jh_semantics.specs.State.{State}
use Rattle.jh_semantics.specs.Progress.{goes_on}
use Rattle.jh_machine.specs.continuation.Todos.{Todo, resume, StackOverflows}
use Rattle.jh_machine.specs.machine.Machines.{stands}
use Rattle.jh_exec.specs.frames.Frames.{IsRun, Stands}
use Rattle.jh_exec.proofs.interpreter.run.finish.Given as goal

-- the machine stands where the run leads that it began
abbrev pub invariant-loop-turn : goal.invariant-loop-turn
invariant-loop-turn l =
    (p : Program) → (numbered : Callee → Option ℕ) → (s : State) → (ks : List Todo) → IsRun p numbered l.fn.prepared l.initial.machine.now.names l.initial.machine.now.last l.initial.machine.entry l.initial.frames.items s ks →
    Stands p numbered l.fn.prepared l.machine l.frames.items l.way (resume p ks (goes_on (stands l.initial.machine s))) (λ q. StackOverflows p q ks (goes_on (stands l.initial.machine s)))
