use Rattle.std.proofs.Common.{sym, subst, refl, rules, ◌∷◌, is_some}
use Rattle.jh_semantics.specs.Progress.{goes_on}
use Rattle.jh_machine.specs.continuation.Todos.{one, resume, StackOverflows, EndsAs}
use Rattle.jh_machine.specs.machine.Machines.{stands}
use Rattle.jh_exec.specs.declared.frames.frames.Way.TheVariants as way
use Rattle.jh_exec.proofs.frames.Standing.{sees_paid, run_paid}
use Rattle.jh_exec.proofs.frames.Called.{own_ends}
use Rattle.jh_exec.proofs.frames.Standing.{is_paid}
use Rattle.jh_exec.proofs.interpreter.Leading.{unpaid_one, paid_ends, one_stands, returns_stand}
use Rattle.jh_exec.proofs.interpreter.StepCases.{not_return, step_return}
use Rattle.jh_exec.proofs.interpreter.Choosing.{step_paid}
use Rattle.jh_exec.proofs.interpreter.statements.one.Goals as goal

pub returns-in_err-pay-clause-stop : goal.returns-in_err-pay-clause-stop
unfolding EndsAs
returns-in_err-pay-clause-stop c = λ p numbered s ks a run is.
    let r = stands c.args.machine.now s in
    let why = c.in_err-pay.field-0.0 in
    let none = c.in_err-pay.ensures.none in
    let whole : EndsAs (resume p (one a ∷ ks) (goes_on r)) (λ q. StackOverflows p q (one a ∷ ks) (goes_on r)) why =
    subst (λ z. EndsAs (resume p (one a ∷ ks) (goes_on r)) (λ q. StackOverflows p q (one a ∷ ks) (goes_on r)) z) (sym none.0) (unpaid_one p a r r ks none.1) in
    search rules

pub returns-in_err-value-clause-stop : goal.returns-in_err-value-clause-stop
returns-in_err-value-clause-stop c = λ p numbered s ks a run is.
    let old = c.args.machine.now in
    let m = c.pay.new.machine in
    let was = c.in_ok-pay.ensures.paid in
    let x = c.args.prepared.now in
    let why = c.in_err-value.field-0.0 in
    let step = step_return m.now.names x.table.now numbered (is_some m.entry) c.args.step.now a (step_paid old m was x numbered c.args.step.now a is) c.in-Return.code c.in-Return.is in
    let whole : EndsAs (resume p (one a ∷ ks) (goes_on (stands old s))) (λ q. StackOverflows p q (one a ∷ ks) (goes_on (stands old s))) why =
    paid_ends p a (stands old s) (stands m s) ks (is_paid old m s was) why
    (own_ends p a (stands m s) ks why (c.in_err-value.ensures.stop p a (stands m s) x.table.now numbered (is_some m.entry) step refl)) in
    search rules

pub returns-in-Return-clause-on : goal.returns-in-Return-clause-on
returns-in-Return-clause-on c = λ p numbered s ks a run is.
    let old = c.args.machine.now in
    let m = c.pay.new.machine in
    let was = c.in_ok-pay.ensures.paid in
    let x = c.args.prepared.now in
    let fs = c.args.frames.now.items in
    let v = c.in_ok-value.value in
    let step = step_return m.now.names x.table.now numbered (is_some m.entry) c.args.step.now a (step_paid old m was x numbered c.args.step.now a is) c.in-Return.code c.in-Return.is in
    one_stands p (c.runs_are_resumed.ensures p) numbered x a old m s ks was m fs (way.Return v)
    (returns_stand p (c.runs_are_resumed.ensures p) numbered x a m fs s ks (run_paid p numbered x old m fs s ks was run) v c.in_ok-value.ensures.inside
    (c.in_ok-value.ensures.on p a (stands m s) x.table.now numbered (is_some m.entry) step refl))

pub paid-requires : goal.paid-requires
paid-requires c = record {
  sees = sees_paid c.args.prepared.now c.args.machine.now c.pay.new.machine c.in_ok-pay.ensures.paid c.requires;
  not_return = not_return c.args.step.now (λ e is. c.in_default.not-Return e is);
}

pub returns-in_err-paid-clause-stop : goal.returns-in_err-paid-clause-stop
returns-in_err-paid-clause-stop c = λ p numbered s ks a run is.
    let old = c.args.machine.now in
    let m = c.pay.new.machine in
    let was = c.in_ok-pay.ensures.paid in
    let x = c.args.prepared.now in
    let why = c.in_err-paid.field-0.0 in
    let whole : EndsAs (resume p (one a ∷ ks) (goes_on (stands old s))) (λ q. StackOverflows p q (one a ∷ ks) (goes_on (stands old s))) why =
    paid_ends p a (stands old s) (stands m s) ks (is_paid old m s was) why
    (c.in_err-paid.ensures.stop p numbered s ks a (run_paid p numbered x old m c.args.frames.now.items s ks was run) (step_paid old m was x numbered c.args.step.now a is)) in
    search rules

pub returns-clause-on : goal.returns-clause-on
returns-clause-on c = λ p numbered s ks a run is.
    let old = c.args.machine.now in
    let m = c.pay.new.machine in
    let was = c.in_ok-pay.ensures.paid in
    let x = c.args.prepared.now in
    one_stands p (c.runs_are_resumed.ensures p) numbered x a old m s ks was c.paid.new.machine c.paid.new.frames.items way.On
    (c.in_ok-paid.ensures.on p numbered s ks a (run_paid p numbered x old m c.args.frames.now.items s ks was run) (step_paid old m was x numbered c.args.step.now a is))
