use Rattle.std.proofs.Common.{ap, ◌∙◌}
use Rattle.jh_store.specs.memory.Held.{state_in}
use Rattle.jh_store.proofs.memory.States.{nothing_there}
use Rattle.jh_store.proofs.memory.memory.Memory.new.Goals as goal

-- src/memory.rt
pub returns-clause-state : goal.returns-clause-state
returns-clause-state c = ap (λ cells. state_in c.args.names.now c.args.last cells) c.loop-name.invariant ∙ nothing_there c.args.names.now c.args.last c.loop-name._name
