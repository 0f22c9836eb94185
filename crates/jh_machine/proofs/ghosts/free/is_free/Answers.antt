use Rattle.jh_semantics.specs.State.{alloc_name}
use Rattle.jh_store.specs.memory.Held.{state_of, state_in}
use Rattle.jh_machine.proofs.ghosts.NodeSteps.{free_is}
use Rattle.jh_machine.proofs.ghosts.free.is_free.Goals as goal

pub returns-clause-free : goal.returns-clause-free
unfolding state_in
returns-clause-free c = λ named. free_is (state_of c.args.memory.now) c.args.object c.last.result c.both-is_one.result c.has.result c.both.result c.last.ensures c.both-is_one.ensures (c.has.ensures alloc_name named) c.both.ensures
