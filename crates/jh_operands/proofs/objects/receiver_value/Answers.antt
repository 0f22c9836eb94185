use Rattle.std.proofs.Common.{rules, ◌≡◌}
use Rattle.std.proofs.lemmas.Result.{IfOk-weaker, IfErr-weaker}
use Rattle.jh_semantics.specs.Values.{value, dereferenced, object_of}
use Rattle.jh_store.specs.memory.Held.{state_of}
use Rattle.jh_operands.specs.Exprs.{object_in}
use Rattle.jh_operands.specs.Faults.{IsFault, Never, receiver_of, ReceiverFault}
use Rattle.jh_operands.proofs.ObjectSteps.{receiver-is, receiver-faults, null-faults}
use Rattle.jh_operands.proofs.objects.receiver_value.Goals as goal

-- src/objects.rt
pub returns-in_err-object-clause-fault : goal.returns-in_err-object-clause-fault
returns-in_err-object-clause-fault c fits =
    let names = c.args.memory.now.names in
    let s = state_of c.args.memory.now in
    let e = c.args.receiver.now in
    let r = object_in names e in
    let q = c.args.place in
    let d = c.in_err-object.field-0.0 in
    let whole : ReceiverFault r q s d = receiver-faults r q s d (c.in_err-object.ensures.fault fits) in
    search rules

-- src/objects.rt
pub returns-clause-value : goal.returns-clause-value
returns-clause-value c fits =
    let names = c.args.memory.now.names in
    let s = state_of c.args.memory.now in
    let e = c.args.receiver.now in
    let r = object_in names e in
    let q = c.args.place in
    let a = c.in_ok-object.object in
    let object : object_of r s ≡ value a = c.in_ok-object.ensures.value fits in
    IfOk-weaker c.dereference.result (λ b. dereferenced r q a ≡ value b) (λ b. receiver_of r q s ≡ value b) (λ b h. receiver-is r q s a (value b) object h) (c.dereference.ensures.value names)

-- src/objects.rt
pub returns-clause-fault : goal.returns-clause-fault
returns-clause-fault c fits =
    let names = c.args.memory.now.names in
    let s = state_of c.args.memory.now in
    let e = c.args.receiver.now in
    let r = object_in names e in
    let q = c.args.place in
    let a = c.in_ok-object.object in
    let object : object_of r s ≡ value a = c.in_ok-object.ensures.value fits in
    IfErr-weaker c.dereference.result (IsFault (dereferenced r q a) Never) (ReceiverFault r q s) (λ d h. null-faults r q s a d object h) (c.dereference.ensures.fault names)
