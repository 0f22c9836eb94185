use Rattle.std.proofs.Common.{◌≡◌, rules, ◌∷◌, inl, inr}
use Rattle.std.proofs.lemmas.Result.{on_ok_weaker, IfErr-weaker}
use Rattle.jh_operands.specs.Exprs.{truth_in}
use Rattle.jh_machine.specs.declared.continuation.stop.Stop.TheVariants as stop
use Rattle.jh_machine.specs.continuation.Todos.{one, turn}
use Rattle.jh_exec.specs.frames.Frames.{WorkIs}
use Rattle.jh_exec.proofs.frames.Standing.{pushed_work}
use Rattle.jh_exec.proofs.interpreter.Choosing.{Refused, turn_paid, one_paid}
use Rattle.jh_exec.proofs.frames.Standing.{run_paid}
use Rattle.jh_exec.proofs.interpreter.branching.again.Goals as goal

pub returns-in_err-pay-clause-stop : goal.returns-in_err-pay-clause-stop
returns-in_err-pay-clause-stop c =
    let whole : Refused c.in_err-pay.field-0.0 c.args.machine.now = inr c.in_err-pay.ensures.none in
    search rules

pub returns-in_err-push-clause-stop : goal.returns-in_err-push-clause-stop
returns-in_err-push-clause-stop c =
    let whole : Refused c.in_err-push.field-0.0 c.args.machine.now = inl c.in_err-push.ensures.stop in
    search rules

pub returns-clause-paid : goal.returns-clause-paid
returns-clause-paid c = on_ok_weaker c.push-2.result (λ pushed. c.in_ok-pay.ensures.paid) c.push-2.ensures.on

pub returns-clause-run : goal.returns-clause-run
unfolding WorkIs
returns-clause-run c = λ prepared p numbered s ks a run fits is.
    let old = c.args.machine.now in
    let m = c.pay.new.machine in
    let was = c.in_ok-pay.ensures.paid in
    let e = truth_in old.now.names c.args.test.now in
    let first = c.push.new.frames.items in
    let turned = pushed_work p numbered prepared m.now.names m.now.last m.entry c.args.frames.now.items first s ks _ (turn e a) c.in_ok-push.ensures.on (turn_paid old m was prepared numbered c.args.test.now c.args.body.now a fits is) (run_paid p numbered prepared old m c.args.frames.now.items s ks was run) in
    on_ok_weaker c.push-2.result
    (λ pushed. pushed_work p numbered prepared m.now.names m.now.last m.entry first c.push-2.new.frames.items s (turn e a ∷ ks) _ (one a) pushed (one_paid old m was prepared numbered c.args.body.now a is) turned)
    c.push-2.ensures.on

pub returns-clause-stop : goal.returns-clause-stop
returns-clause-stop c = IfErr-weaker c.push-2.result (λ why. why ≡ stop.Memory) _ (λ why h. inl h) c.push-2.ensures.stop
