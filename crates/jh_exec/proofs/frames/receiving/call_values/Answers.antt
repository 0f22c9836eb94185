use Rattle.std.proofs.Common.{sym, ap, subst, ◌∙◌, rules, List, map}
use Rattle.jh_form.specs.Meaning.{Datum}
use Rattle.jh_semantics.specs.State.{State}
use Rattle.jh_semantics.specs.Code as c
use Rattle.jh_semantics.specs.Execution.{receiver_of, with_values, called_on, back, call}
use Rattle.jh_semantics.specs.Objects.{target_of}
use Rattle.jh_semantics.specs.Progress.{with_value}
use Rattle.jh_store.specs.memory.Held.{state_of}
use Rattle.jh_operands.specs.declared.exprs.AnyExpr.{AnyExpr}
use Rattle.jh_operands.specs.Exprs.{any_in}
use Rattle.jh_machine_code.specs.code.Steps.{AllFit}
use Rattle.jh_operands.specs.Faults.{IsFault, Never}
use Rattle.jh_operands.specs.Scalars.{datum_of}
use Rattle.jh_machine.specs.continuation.Stops.{StopsAs, stop_of, TargetFault}
use Rattle.jh_machine.specs.continuation.Overflows.{AreValues, ArgsOverflow, OwnOverflows}
use Rattle.jh_machine.specs.continuation.Done.{done}
use Rattle.jh_exec.proofs.frames.Arguments.{goes_stop, asks_stop, args_stop, called_stop, stops_as_call}
use Rattle.jh_exec.proofs.frames.receiving.call_values.Goals as goal

pub returns-in_err-object-clause-stop : goal.returns-in_err-object-clause-stop
returns-in_err-object-clause-stop k = λ p t numbered keeps a is r at.
    let step = k.args.step.now in
    let args = map (any_in k.args.memory.now.names) step.args in
    let why = k.in_err-object.field-0.0 in
    let whole : StopsAs (done p a r) (λ q. OwnOverflows q a r) (stop_of why) =
    stops_as_call p a (c.call is.place is.target is.receiver step.receiver_place is.method args) r (stop_of why) is.is
    (goes_stop p is.place is.target is.receiver step.receiver_place is.method args r why (subst (λ (n : State). TargetFault is.target n why) (sym at) (k.in_err-object.ensures.fault is.target is.goes))) in
    search rules

pub returns-in_err-receiver-clause-stop : goal.returns-in_err-receiver-clause-stop
returns-in_err-receiver-clause-stop k = λ p t numbered keeps a is r at.
    let step = k.args.step.now in
    let args = map (any_in k.args.memory.now.names) step.args in
    let why = k.in_err-receiver.field-0.0 in
    let whole : StopsAs (done p a r) (λ q. OwnOverflows q a r) (stop_of why) =
    stops_as_call p a (c.call is.place is.target is.receiver step.receiver_place is.method args) r (stop_of why) is.is
    (asks_stop p is.place is.target is.receiver step.receiver_place is.method args r k.in_ok-object.object (ap (target_of is.target) at ∙ k.in_ok-object.ensures.value is.target is.goes) why
    (subst (λ (n : State). IsFault (receiver_of is.receiver n) Never why) (sym at) (k.in_err-receiver.ensures.fault t numbered keeps is.receiver is.on))) in
    search rules

pub returns-in_err-args-clause-stop : goal.returns-in_err-args-clause-stop
returns-in_err-args-clause-stop k = λ p t numbered keeps a is r at.
    let step = k.args.step.now in
    let args = map (any_in k.args.memory.now.names) step.args in
    let why = k.in_err-args.field-0.0 in
    let object = k.in_ok-object.object in
    let b = k.in_ok-receiver.receiver in
    let s = state_of k.args.memory.now in
    let fit = subst (λ (es : List AnyExpr). AllFit k.args.memory.now.names t numbered keeps es) (sym k.items.ensures) is.fit in
    let next = λ (ds : List Datum). with_value (called_on is.receiver step.receiver_place b) (λ y. back r is.target object (call p is.method y ds r)) in
    let whole : StopsAs (done p a r) (λ q. OwnOverflows q a r) why =
    stops_as_call p a (c.call is.place is.target is.receiver step.receiver_place is.method args) r why is.is
    (args_stop p is.place is.target is.receiver step.receiver_place is.method args r object (ap (target_of is.target) at ∙ k.in_ok-object.ensures.value is.target is.goes) b
    (ap (receiver_of is.receiver) at ∙ k.in_ok-receiver.ensures.value t numbered keeps is.receiver is.on) why
    (subst (λ (n : State). StopsAs (with_values args n next) (λ q. ArgsOverflow q args n) why) (sym at)
    (subst (λ (es : List AnyExpr). StopsAs (with_values (map (any_in k.args.memory.now.names) es) s next) (λ q. ArgsOverflow q (map (any_in k.args.memory.now.names) es) s) why) k.items.ensures (k.in_err-args.ensures.stop t numbered keeps fit next)))) in
    search rules

pub returns-in_err-on-clause-stop : goal.returns-in_err-on-clause-stop
returns-in_err-on-clause-stop k = λ p t numbered keeps a is r at.
    let step = k.args.step.now in
    let names = k.args.memory.now.names in
    let args = map (any_in names) step.args in
    let why = k.in_err-on.field-0.0 in
    let fit = subst (λ (es : List AnyExpr). AllFit names t numbered keeps es) (sym k.items.ensures) is.fit in
    let ds = map datum_of k.in_ok-args.args.items in
    let values = subst (λ (n : State). AreValues args n ds) (sym at) (subst (λ (es : List AnyExpr). AreValues (map (any_in names) es) (state_of k.args.memory.now) ds) k.items.ensures (k.in_ok-args.ensures.values t numbered keeps fit)) in
    let whole : StopsAs (done p a r) (λ q. OwnOverflows q a r) (stop_of why) =
    stops_as_call p a (c.call is.place is.target is.receiver step.receiver_place is.method args) r (stop_of why) is.is
    (called_stop p is.place is.target is.receiver step.receiver_place is.method args r k.in_ok-object.object (ap (target_of is.target) at ∙ k.in_ok-object.ensures.value is.target is.goes) k.in_ok-receiver.receiver
    (ap (receiver_of is.receiver) at ∙ k.in_ok-receiver.ensures.value t numbered keeps is.receiver is.on) (map datum_of k.in_ok-args.args.items)
    values why (k.in_err-on.ensures.fault names t numbered keeps is.receiver is.on)) in
    search rules

pub returns-clause-on : goal.returns-clause-on
returns-clause-on k = λ t numbered keeps a is r at.
    let step = k.args.step.now in
    let names = k.args.memory.now.names in
    let args = map (any_in names) step.args in
    let fit = subst (λ (es : List AnyExpr). AllFit names t numbered keeps es) (sym k.items.ensures) is.fit in
    let ds = map datum_of k.in_ok-args.args.items in
    record {
      place = is.place;
      receiver = is.receiver;
      receiver_place = step.receiver_place;
      args = args;
      is = is.is;
      asked = k.in_ok-receiver.receiver;
      goes = ap (target_of is.target) at ∙ k.in_ok-object.ensures.value is.target is.goes;
      asks = ap (receiver_of is.receiver) at ∙ k.in_ok-receiver.ensures.value t numbered keeps is.receiver is.on;
      values = subst (λ (n : State). AreValues args n ds) (sym at) (subst (λ (es : List AnyExpr). AreValues (map (any_in names) es) (state_of k.args.memory.now) ds) k.items.ensures (k.in_ok-args.ensures.values t numbered keeps fit));
      called = k.in_ok-on.ensures.value names t numbered keeps is.receiver is.on;
    }
