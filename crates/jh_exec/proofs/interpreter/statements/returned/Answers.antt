use Rattle.std.proofs.Common.{rules}
use Rattle.jh_machine.specs.continuation.Stops.{stop_of, StopsAs}
use Rattle.jh_machine.specs.continuation.Overflows.{OwnOverflows}
use Rattle.jh_machine.specs.continuation.Done.{done}
use Rattle.jh_store.specs.memory.Held.{state_of}
use Rattle.jh_exec.specs.frames.Frames.{WayInside}
use Rattle.jh_exec.proofs.interpreter.Results.{returns_nothing, value_of_return, fault_of_return}
use Rattle.jh_exec.proofs.interpreter.statements.returned.Goals as goal

pub returns-in-None-clause-on : goal.returns-in-None-clause-on
returns-in-None-clause-on c = λ p a r t numbered keeps is now. returns_nothing p a r c.args.memory.now.names t numbered keeps c.args.code.now is c.in-None.is

pub returns-in_ok-value-in-Some-clause-on : goal.returns-in_ok-value-in-Some-clause-on
returns-in_ok-value-in-Some-clause-on c = λ p a r t numbered keeps is now.
    value_of_return p a r c.args.memory.now.names t numbered keeps c.args.code.now is c.in-Some.code c.in-Some.is (state_of c.args.memory.now) now c.in_ok-value-in-Some.value c.in_ok-value-in-Some.ensures.value

pub returns-in_ok-value-in-Some-clause-inside : goal.returns-in_ok-value-in-Some-clause-inside
unfolding WayInside
returns-in_ok-value-in-Some-clause-inside c = c.in_ok-value-in-Some.ensures.inside

pub returns-in_err-value-in-Some-clause-stop : goal.returns-in_err-value-in-Some-clause-stop
returns-in_err-value-in-Some-clause-stop c = λ p a r t numbered keeps is now.
    let why = c.in_err-value-in-Some.field-0.0 in
    let whole : StopsAs (done p a r) (λ q. OwnOverflows q a r) (stop_of why) =
    fault_of_return p a r c.args.memory.now.names t numbered keeps c.args.code.now is c.in-Some.code c.in-Some.is (state_of c.args.memory.now) now why c.in_err-value-in-Some.ensures.fault in
    search rules

pub returns-in-None-clause-inside : goal.returns-in-None-clause-inside
unfolding WayInside
returns-in-None-clause-inside c = tt
