use Rattle.std.proofs.Common.{◌≡◌, sym, ap, subst, ◌∙◌, rules, map, ◌∷◌, ℕ, suc, ◌<◌, List}
use Rattle.std.proofs.lemmas.Result.{on_ok_weaker, IfErr-weaker}
use Rattle.jh_name.specs.declared.naming.Name.{Name}
use Rattle.jh_semantics.specs.Execution as run
use Rattle.jh_semantics.specs.State.{State}
use Rattle.jh_store.specs.memory.Held.{state_of}
use Rattle.jh_operands.specs.Scalars.{datum_of}
use Rattle.jh_machine_code.specs.code.Steps.{IsBody}
use Rattle.jh_machine.specs.locals.Locals.{AllInside}
use Rattle.jh_machine.specs.declared.continuation.stop.Stop.TheVariants as stop
use Rattle.jh_machine.specs.continuation.Todos.{rest, resume, EndsAs}
use Rattle.jh_machine.specs.declared.machine.machine.Machine.{Machine}
use Rattle.jh_machine.specs.machine.Machines.{stands}
use Rattle.jh_exec.proofs.frames.Called.{absent_method, there_method, unpaid_call, absent_stands, entered_stands}
use Rattle.jh_exec.proofs.frames.Standing.{memory_ends, run_paid, waits_on, waits_paid}
use Rattle.jh_exec.specs.frames.Frames.{IsRun}
use Rattle.jh_exec.proofs.frames.entering.enter.Goals as goal

pub returns-in_err-pay-clause-stop : goal.returns-in_err-pay-clause-stop
unfolding EndsAs
returns-in_err-pay-clause-stop c = λ p s ks m.
    let r = stands c.args.machine.now s in
    let ds = map datum_of c.args.args.now in
    let none = c.in_err-pay.ensures.none in
    let whole : EndsAs (resume p ks (run.call p m c.args.on ds r)) (λ q. ⊥) c.in_err-pay.field-0.0 =
    subst (λ z. EndsAs (resume p ks (run.call p m c.args.on ds r)) (λ q. ⊥) z) (sym none.0) (unpaid_call p m c.args.on ds r ks none.1) in
    search rules

pub returns-in-None-clause-on : goal.returns-in-None-clause-on
returns-in-None-clause-on c = λ p numbered s ks m h known number on args.
    let x = c.args.prepared.now in
    let old = c.args.machine.now in
    let paid = c.pay.new.machine in
    let was = c.in_ok-pay.ensures.paid in
    let none = absent_method old.now.names x.table.now numbered x.methods.now (numbered m) (p.method m) (h.prepared.bodies m) (number ∙ c.in-None.is) in
    absent_stands p (c.runs_are_resumed.ensures p) numbered x m c.args.on (map datum_of c.args.args.now) old paid s ks was c.args.frames.now.items (run_paid p numbered x old paid c.args.frames.now.items s ks was (waits_on p numbered x old.now.names old.now.last old.entry c.args.frames.now.items s ks known h)) none

pub returns-in_err-body-in-Some-clause-stop : goal.returns-in_err-body-in-Some-clause-stop
returns-in_err-body-in-Some-clause-stop c = λ p s ks m.
    let end = resume p ks (run.call p m c.args.on (map datum_of c.args.args.now) (stands c.args.machine.now s)) in
    let whole : EndsAs end (λ q. ⊥) c.in_err-body-in-Some.field-0.0 = memory_ends end (λ q. ⊥) c.in_err-body-in-Some.field-0.0 c.in_err-body-in-Some.ensures.stop in
    search rules

pub returns-in_ok-body-in-Some-clause-stop : goal.returns-in_ok-body-in-Some-clause-stop
returns-in_ok-body-in-Some-clause-stop c = λ p s ks m.
    let x = resume p ks (run.call p m c.args.on (map datum_of c.args.args.now) (stands c.args.machine.now s)) in
    IfErr-weaker c.begin_body.result (λ why. why ≡ stop.Memory) (EndsAs x (λ q. ⊥)) (λ why h. memory_ends x (λ q. ⊥) why h) c.begin_body.ensures.stop

pub returns-in_ok-body-in-Some-clause-on : goal.returns-in_ok-body-in-Some-clause-on
returns-in_ok-body-in-Some-clause-on c = λ p numbered s ks m h known number on args.
    let x = c.args.prepared.now in
    let old = c.args.machine.now in
    let paid = c.pay.new.machine in
    let was = c.in_ok-pay.ensures.paid in
    let ds = map datum_of c.args.args.now in
    let body = c.in_ok-body-in-Some.body in
    let there = there_method old.now.names x.table.now numbered x.methods.now (numbered m) (p.method m) (h.prepared.bodies m) c.in-Some.method (number ∙ c.in-Some.is) body.now c.in_ok-body-in-Some.ensures.there in
    let names : paid.now.names ≡ old.now.names = ap (λ (z : Machine). z.now.names) was.same in
    let last : paid.now.last ≡ old.now.last = ap (λ (z : Machine). z.now.last) was.same in
    on_ok_weaker c.begin_body.result
    (λ begun. entered_stands p (c.runs_are_resumed.ensures p) numbered x m c.args.on ds old paid s ks was there.0 c.begin_body.new.machine c.begin_body.new.frames.items there.1 begun.same begun.state
    (subst (λ (n : State). IsRun p numbered x c.begin_body.new.machine.now.names c.begin_body.new.machine.now.last c.begin_body.new.machine.entry c.begin_body.new.frames.items n (rest there.0.body ∷ ks)) (ap (λ (z : Machine). state_of z.now) was.same) begun.is_run))
    (c.begin_body.ensures.on p numbered ks there.0 (waits_paid p numbered x old paid c.args.frames.now.items ks was h) (subst (λ (ns : List Name). IsBody ns x.table.now numbered body.now there.0) (sym names) there.2)
    (subst (λ (l : ℕ). c.args.on < suc l) (sym last) on) (subst (λ (l : ℕ). AllInside l c.args.args.now) (sym last) args))
