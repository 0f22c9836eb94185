use Rattle.std.proofs.Common.{◌≡◌, sym, ap, ◌∙◌, rules}
use Rattle.std.proofs.lemmas.Result.{on_ok_weaker, IfErr-weaker}
use Rattle.jh_semantics.specs.Progress.{goes_on_in}
use Rattle.jh_semantics.specs.Objects as runs
use Rattle.jh_store.specs.memory.Held.{state_of}
use Rattle.jh_operands.specs.Exprs.{any_in}
use Rattle.jh_operands.specs.Faults.{Never}
use Rattle.jh_operands.specs.Scalars.{datum_of}
use Rattle.jh_machine.specs.continuation.Stops.{StopsAs, stop_of}
use Rattle.jh_machine.specs.continuation.Assigning.{assigned_by, AssignOverflows}
use Rattle.jh_machine.proofs.writes.TargetSteps.{first_stops, second_stops, with_both, stops_there}
use Rattle.jh_machine.proofs.writes.destinations.assign.Goals as goal

pub returns-in_err-object-clause-stop : goal.returns-in_err-object-clause-stop
returns-in_err-object-clause-stop c = λ t is fits r at.
    let m = state_of c.args.memory.now in
    let code = any_in c.args.memory.now.names c.args.code.now in
    let why = c.in_err-object.field-0.0 in
    let whole : StopsAs (assigned_by t code r) (λ p. AssignOverflows p t code r.now) (stop_of why) = first_stops t code r m at why (c.in_err-object.ensures.fault t is) in
    search rules

pub returns-in_err-value-clause-stop : goal.returns-in_err-value-clause-stop
returns-in_err-value-clause-stop c = λ t is fits r at.
    let m = state_of c.args.memory.now in
    let code = any_in c.args.memory.now.names c.args.code.now in
    let why = c.in_err-value.field-0.0 in
    let whole : StopsAs (assigned_by t code r) (λ p. AssignOverflows p t code r.now) (stop_of why) =
    second_stops t code r m at c.in_ok-object.object (c.in_ok-object.ensures.value t is) why (c.in_err-value.ensures.fault fits) in
    search rules

pub returns-clause-on : goal.returns-clause-on
returns-clause-on c = λ t is fits r at.
    let m = state_of c.args.memory.now in
    let code = any_in c.args.memory.now.names c.args.code.now in
    let a = c.in_ok-object.object in
    let v = c.in_ok-value.value in
    let both = with_both t code r m at a (c.in_ok-object.ensures.value t is) (datum_of v) (c.in_ok-value.ensures.value fits) in
    on_ok_weaker c.put.result (λ h. both ∙ h) (c.put.ensures.on t is r at c.in_ok-value.ensures.inside)

pub returns-clause-stop : goal.returns-clause-stop
returns-clause-stop c = λ t is fits r at.
    let m = state_of c.args.memory.now in
    let code = any_in c.args.memory.now.names c.args.code.now in
    let a = c.in_ok-object.object in
    let v = c.in_ok-value.value in
    let both = with_both t code r m at a (c.in_ok-object.ensures.value t is) (datum_of v) (c.in_ok-value.ensures.value fits) in
    IfErr-weaker c.put.result (StopsAs (runs.put t a (datum_of v) r) Never) (StopsAs (assigned_by t code r) (λ p. AssignOverflows p t code r.now))
    (λ why h. stops_there (runs.put t a (datum_of v) r) (assigned_by t code r) Never (λ p. AssignOverflows p t code r.now) why both (λ p no. absurd no) h) (c.put.ensures.stop t is r)
