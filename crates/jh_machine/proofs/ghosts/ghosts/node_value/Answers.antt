use Rattle.std.proofs.Common.{refl}
use Rattle.jh_store.specs.state_pairs.Seen.{seen}
use Rattle.jh_machine.specs.declared.continuation.stop.Stop.TheVariants as s
use Rattle.jh_machine.specs.continuation.Formulas.{ValueOverflows}
use Rattle.jh_machine.proofs.ghosts.NodeSteps.{memory_only}
use Rattle.jh_machine.proofs.ghosts.ghosts.node_value.Goals as goal

pub returns-in-None-clause-stop : goal.returns-in-None-clause-stop
returns-in-None-clause-stop c = λ v is. memory_only c.args.place (ValueOverflows (seen c.args.moment.now) v) s.Memory refl
