use Rattle.std.proofs.Common.{◌≡◌, ap, ◌∙◌}
use Rattle.std.proofs.lemmas.Result.{IfOk-weaker, IfErr-weaker}
use Rattle.jh_semantics.specs.Values.{value, object_of}
use Rattle.jh_semantics.specs.Execution.{receiver_of}
use Rattle.jh_store.specs.memory.Held.{state_of}
use Rattle.jh_operands.specs.Exprs.{object_in}
use Rattle.jh_operands.specs.Faults.{IsFault, Never, ObjectFault}
use Rattle.jh_exec.proofs.frames.Arguments.{receiver_none, receiver_some, fault_same}
use Rattle.jh_exec.proofs.frames.receiving.receiver_object.Goals as goal

pub returns-in-None-clause-value : goal.returns-in-None-clause-value
returns-in-None-clause-value c = λ t numbered keeps r is. ap (λ o. receiver_of o (state_of c.args.memory.now)) (receiver_none c.args.memory.now.names t numbered keeps c.args.receiver.now r is c.in-None.is)

pub returns-in-Some-clause-value : goal.returns-in-Some-clause-value
returns-in-Some-clause-value c = λ t numbered keeps r is.
    let names = c.args.memory.now.names in
    let m = state_of c.args.memory.now in
    let e = c.in-Some.receiver in
    let some = receiver_some names t numbered keeps c.args.receiver.now r is e c.in-Some.is in
    IfOk-weaker c.object_value.result (λ a. object_of (object_in names e) m ≡ value a) (λ a. receiver_of r m ≡ value a)
    (λ a h. ap (λ o. receiver_of o m) some.1 ∙ h) (c.object_value.ensures.value some.0)

pub returns-in-Some-clause-fault : goal.returns-in-Some-clause-fault
returns-in-Some-clause-fault c = λ t numbered keeps r is.
    let names = c.args.memory.now.names in
    let m = state_of c.args.memory.now in
    let e = c.in-Some.receiver in
    let some = receiver_some names t numbered keeps c.args.receiver.now r is e c.in-Some.is in
    IfErr-weaker c.object_value.result (ObjectFault (object_in names e) m) (IsFault (receiver_of r m) Never)
    (λ why h. fault_same (object_of (object_in names e) m) (receiver_of r m) why (ap (λ o. receiver_of o m) some.1) h) (c.object_value.ensures.fault some.0)
