use Rattle.std.proofs.Common.{◌≡◌, ℕ}
use Rattle.std.proofs.lemmas.Result.{IfOk-weaker, IfErr-weaker}
use Rattle.jh_semantics.specs.Values.{value, object_of}
use Rattle.jh_semantics.specs.Objects.{target_of}
use Rattle.jh_store.specs.memory.Held.{state_of}
use Rattle.jh_operands.specs.Exprs.{object_in}
use Rattle.jh_operands.specs.Faults.{ObjectFault}
use Rattle.jh_machine.specs.continuation.Stops.{TargetFault}
use Rattle.jh_machine.proofs.writes.TargetSteps.{nowhere_object, name_object, field_fits, field_object, field_fault}
use Rattle.jh_machine.proofs.writes.destinations.destination_object.Goals as goal

pub returns-in-Nowhere-clause-value : goal.returns-in-Nowhere-clause-value
returns-in-Nowhere-clause-value c = λ t is. nowhere_object c.args.memory.now.names c.args.destination.now t is c.in-Nowhere.is (state_of c.args.memory.now)

pub returns-in-Name-clause-value : goal.returns-in-Name-clause-value
returns-in-Name-clause-value c = λ t is. name_object c.args.memory.now.names c.args.destination.now t is c.in-Name.field-0 c.in-Name.is (state_of c.args.memory.now)

pub returns-in-Field-clause-value : goal.returns-in-Field-clause-value
returns-in-Field-clause-value c = λ t is.
    let names = c.args.memory.now.names in
    let d = c.args.destination.now in
    let m = state_of c.args.memory.now in
    let k = c.in-Field.field-0 in
    let r = c.in-Field.receiver in
    let q = c.in-Field.field-2 in
    IfOk-weaker c.object_value.result (λ a. object_of (object_in names r) m ≡ value a) (λ a. target_of t m ≡ value a)
    (λ a h. field_object names d t is k r q c.in-Field.is m (value a) h) (c.object_value.ensures.value (field_fits names d t is k r q c.in-Field.is))

pub returns-in-Field-clause-fault : goal.returns-in-Field-clause-fault
returns-in-Field-clause-fault c = λ t is.
    let names = c.args.memory.now.names in
    let d = c.args.destination.now in
    let m = state_of c.args.memory.now in
    let k = c.in-Field.field-0 in
    let r = c.in-Field.receiver in
    let q = c.in-Field.field-2 in
    IfErr-weaker c.object_value.result (ObjectFault (object_in names r) m) (TargetFault t m)
    (λ why h. field_fault names d t is k r q c.in-Field.is m why h) (c.object_value.ensures.fault (field_fits names d t is k r q c.in-Field.is))
