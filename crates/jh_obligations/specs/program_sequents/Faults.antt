-- The fault of a method as one of its program.
use Rattle.jh_name.specs.declared.place.MethodId.{MethodId}
use Rattle.jh_obligations.specs.declared.command_sequents.fault.GoalsFault.{GoalsFault}
use Rattle.jh_obligations.specs.declared.command_sequents.fault.GoalsFault.TheVariants as goals
use Rattle.jh_obligations.specs.declared.program_sequents.fault.LogicError.{LogicError}
use Rattle.jh_obligations.specs.declared.program_sequents.fault.LogicError.TheVariants as fault

abbrev pub fault_of : MethodId → GoalsFault → LogicError
fault_of id (goals.TooMany n) = fault.TooManySequents id n
fault_of id goals.Memory = fault.Memory
