use Rattle.std.proofs.Common.{◌≡◌, ap, ◌∙◌}
use Rattle.std.proofs.lemmas.Result.{IfOk-weaker, IfErr-weaker}
use Rattle.jh_semantics.specs.Values.{value, dereferenced}
use Rattle.jh_semantics.specs.Execution.{called_on}
use Rattle.jh_operands.specs.Exprs.{object_in}
use Rattle.jh_operands.specs.Faults.{IsFault, Never}
use Rattle.jh_exec.proofs.frames.Arguments.{receiver_none, receiver_some, fault_same}
use Rattle.jh_exec.proofs.frames.receiving.called_object.Goals as goal

pub returns-in-None-clause-value : goal.returns-in-None-clause-value
returns-in-None-clause-value c = λ names t numbered keeps r is. ap (λ o. called_on o c.args.place c.args.object) (receiver_none names t numbered keeps c.args.receiver.now r is c.in-None.is)

pub returns-in-Some-clause-value : goal.returns-in-Some-clause-value
returns-in-Some-clause-value c = λ names t numbered keeps r is.
    let e = c.in-Some.receiver in
    let some = receiver_some names t numbered keeps c.args.receiver.now r is e c.in-Some.is in
    IfOk-weaker c.dereference.result (λ a. dereferenced (object_in names e) c.args.place c.args.object ≡ value a) (λ a. called_on r c.args.place c.args.object ≡ value a)
    (λ a h. ap (λ o. called_on o c.args.place c.args.object) some.1 ∙ h) (c.dereference.ensures.value names)

pub returns-in-Some-clause-fault : goal.returns-in-Some-clause-fault
returns-in-Some-clause-fault c = λ names t numbered keeps r is.
    let e = c.in-Some.receiver in
    let some = receiver_some names t numbered keeps c.args.receiver.now r is e c.in-Some.is in
    IfErr-weaker c.dereference.result (IsFault (dereferenced (object_in names e) c.args.place c.args.object) Never) (IsFault (called_on r c.args.place c.args.object) Never)
    (λ why h. fault_same (dereferenced (object_in names e) c.args.place c.args.object) (called_on r c.args.place c.args.object) why (ap (λ o. called_on o c.args.place c.args.object) some.1) h) (c.dereference.ensures.fault names)
