use Rattle.std.proofs.Common.{◌≡◌, rules}
use Rattle.std.proofs.lemmas.Result.{on_ok_weaker}
use Rattle.jh_form.specs.Meaning.{an_object, a_number, a_truth}
use Rattle.jh_semantics.specs.State.{named}
use Rattle.jh_store.specs.memory.Held.{state_of}
use Rattle.jh_operands.specs.Exprs.{text_at}
use Rattle.jh_machine.proofs.writes.TargetSteps.{object_inside, stored_at_as, object_datum, number_datum, truth_datum}
use Rattle.jh_machine.proofs.writes.destinations.put_field.Goals as goal

pub returns-in-Object-clause-state : goal.returns-in-Object-clause-state
returns-in-Object-clause-state c =
    let x = text_at c.args.memory.now.names c.args.field in
    let last = c.args.memory.now.last in
    let a = c.in-Object.object in
    on_ok_weaker c.put_object_at.result (λ h plain inside.
    stored_at_as c.args.value last (an_object a) (object_datum c.args.value last a c.in-Object.is) (state_of c.args.memory.now) (state_of c.put_object_at.new.memory) x c.args.at
    (h (named x) plain (object_inside c.args.value last a c.in-Object.is inside))) c.put_object_at.ensures.state

pub returns-in-Number-clause-state : goal.returns-in-Number-clause-state
returns-in-Number-clause-state c =
    let x = text_at c.args.memory.now.names c.args.field in
    let last = c.args.memory.now.last in
    let z = c.in-Number.number in
    on_ok_weaker c.put_number_at.result (λ h plain inside.
    stored_at_as c.args.value last (a_number z) (number_datum c.args.value last z c.in-Number.is) (state_of c.args.memory.now) (state_of c.put_number_at.new.memory) x c.args.at
    (let g = h (named x) plain in search rules)) c.put_number_at.ensures.state

pub returns-in-Truth-clause-state : goal.returns-in-Truth-clause-state
returns-in-Truth-clause-state c =
    let x = text_at c.args.memory.now.names c.args.field in
    let last = c.args.memory.now.last in
    let b = c.in-Truth.truth in
    on_ok_weaker c.put_truth_at.result (λ h plain inside.
    stored_at_as c.args.value last (a_truth b) (truth_datum c.args.value last b c.in-Truth.is) (state_of c.args.memory.now) (state_of c.put_truth_at.new.memory) x c.args.at
    (h (named x) plain)) c.put_truth_at.ensures.state
