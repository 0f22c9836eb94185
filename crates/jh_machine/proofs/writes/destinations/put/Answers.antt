use Rattle.std.proofs.Common.{◌≡◌, refl, rules}
use Rattle.std.proofs.lemmas.Result.{on_ok_weaker}
use Rattle.jh_semantics.specs.Progress.{goes_on_in}
use Rattle.jh_semantics.specs.Objects as runs
use Rattle.jh_store.specs.memory.Held.{state_of}
use Rattle.jh_operands.specs.Faults.{Never}
use Rattle.jh_operands.specs.Scalars.{datum_of}
use Rattle.jh_machine.specs.declared.continuation.stop.Stop.TheVariants as s
use Rattle.jh_machine.specs.continuation.Stops.{StopsAs, stop_of}
use Rattle.jh_machine.proofs.writes.TargetSteps.{name_plain, field_plain, put_nowhere, put_to_name, put_to_field, put_to_null, memory_stops}
use Rattle.jh_machine.proofs.writes.destinations.put.Goals as goal

pub returns-in-Nowhere-clause-on : goal.returns-in-Nowhere-clause-on
returns-in-Nowhere-clause-on c = λ t is r at inside.
    put_nowhere c.args.memory.now.names c.args.destination.now t is c.in-Nowhere.is c.args.object (datum_of c.args.value) r (state_of c.args.memory.now) at

pub returns-in-Name-clause-on : goal.returns-in-Name-clause-on
returns-in-Name-clause-on c = λ t is r at inside.
    let names = c.args.memory.now.names in
    let d = c.args.destination.now in
    let k = c.in-Name.name in
    put_to_name names d t is k c.in-Name.is c.args.object (datum_of c.args.value) r (state_of c.args.memory.now) (state_of c.put_name.new.memory) at
    (c.put_name.ensures.state (name_plain names d t is k c.in-Name.is) inside)

pub returns-in_err-at-in-Field-clause-stop : goal.returns-in_err-at-in-Field-clause-stop
unfolding stop_of
returns-in_err-at-in-Field-clause-stop c = λ t is r.
    let names = c.args.memory.now.names in
    let d = c.args.destination.now in
    let why = c.in_err-at-in-Field.field-0.0 in
    let whole : StopsAs (runs.put t c.args.object (datum_of c.args.value) r) Never (stop_of why) =
    put_to_null names d t is c.in-Field.field c.in-Field.receiver c.in-Field.place c.in-Field.is c.args.object (datum_of c.args.value) r why (c.in_err-at-in-Field.ensures.fault names) in
    search rules

pub returns-in_err-put_field-in-Field-clause-stop : goal.returns-in_err-put_field-in-Field-clause-stop
returns-in_err-put_field-in-Field-clause-stop c = λ t is r.
    let whole : StopsAs (runs.put t c.args.object (datum_of c.args.value) r) Never s.Memory = memory_stops (runs.put t c.args.object (datum_of c.args.value) r) Never s.Memory refl in
    search rules

pub returns-in_ok-put_field-in-Field-clause-on : goal.returns-in_ok-put_field-in-Field-clause-on
returns-in_ok-put_field-in-Field-clause-on c = λ t is r at inside.
    let names = c.args.memory.now.names in
    let d = c.args.destination.now in
    let k = c.in-Field.field in
    let o = c.in-Field.receiver in
    let q = c.in-Field.place in
    put_to_field names d t is k o q c.in-Field.is c.args.object c.in_ok-at-in-Field.at (datum_of c.args.value) r (state_of c.args.memory.now) (state_of c.put_field.new.memory) at
    (c.in_ok-at-in-Field.ensures.value names) (c.in_ok-put_field-in-Field.ensures.state (field_plain names d t is k o q c.in-Field.is) inside)
