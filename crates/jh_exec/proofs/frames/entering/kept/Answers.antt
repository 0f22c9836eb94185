use Rattle.std.proofs.Common.{ap}
use Rattle.jh_store.specs.memory.Held.{Held, state_of}
use Rattle.jh_machine.specs.machine.Machines.{EntryIs}
use Rattle.jh_exec.proofs.frames.entering.kept.Goals as goal

pub returns-in-Ok-clause-entry : goal.returns-in-Ok-clause-entry
unfolding EntryIs
returns-in-Ok-clause-entry c = (ap state_of c.in-Ok.ensures, ap (λ (z : Held). z.names) c.in-Ok.ensures, ap (λ (z : Held). z.last) c.in-Ok.ensures)

pub returns-else-keeps-clause-entry : goal.returns-else-keeps-clause-entry
unfolding EntryIs
returns-else-keeps-clause-entry c = tt
