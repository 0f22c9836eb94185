use Rattle.std.proofs.Common.{◌≡◌, sym, ap, subst, refl, rules, map, ◌∷◌, ◌⊎◌, ℕ, suc, ◌<◌, List, is_some}
use Rattle.std.proofs.lemmas.Result.{on_ok_weaker, IfErr-weaker}
use Rattle.jh_semantics.specs.Progress.{Configuration}
use Rattle.jh_semantics.specs.Execution as run
use Rattle.jh_operands.specs.declared.values.Scalar.{Scalar}
use Rattle.jh_operands.specs.Scalars.{datum_of}
use Rattle.jh_machine.specs.continuation.Todos.{return_to, resume, StackOverflows, EndsAs}
use Rattle.jh_machine.specs.continuation.Overflows.{CallOverflows}
use Rattle.jh_machine.specs.locals.Locals.{AllInside}
use Rattle.jh_exec.specs.declared.frames.frames.Way.TheVariants as way
use Rattle.jh_exec.specs.frames.Calls.{Calls}
use Rattle.jh_exec.specs.frames.Frames.{Stands}
use Rattle.jh_machine.specs.continuation.Done.{done, Else}
use Rattle.jh_machine.specs.declared.machine.machine.Machine.{Machine}
use Rattle.jh_machine.specs.machine.Machines.{stands}
use Rattle.jh_exec.proofs.frames.Called.{call_stands, call_ends, own_ends}
use Rattle.jh_exec.proofs.frames.Standing.{memory_ends}
use Rattle.jh_exec.proofs.frames.calling.call.Goals as goal

pub returns-in_err-made-clause-stop : goal.returns-in_err-made-clause-stop
returns-in_err-made-clause-stop c = λ p numbered s ks a known is.
    let r = stands c.args.machine.now s in
    let whole : EndsAs (resume p ks (done p a r)) (Else p a r ks) c.in_err-made.field-0.0 =
    own_ends p a r ks c.in_err-made.field-0.0 (c.in_err-made.ensures.stop p c.args.prepared.now.table.now numbered (is_some c.args.machine.now.entry) a is r refl) in
    search rules

pub returns-in_err-wait_for-clause-stop : goal.returns-in_err-wait_for-clause-stop
returns-in_err-wait_for-clause-stop c = λ p numbered s ks a known is.
    let r = stands c.args.machine.now s in
    let whole : EndsAs (resume p ks (done p a r)) (Else p a r ks) c.in_err-wait_for.field-0.0 =
    memory_ends (resume p ks (done p a r)) (Else p a r ks) c.in_err-wait_for.field-0.0 c.in_err-wait_for.ensures.stop in
    search rules

pub returns-clause-on : goal.returns-clause-on
returns-clause-on c = λ p numbered s ks a known is.
    let x = c.args.prepared.now in
    let m0 = c.args.machine.now in
    let m1 = c.wait_for.new.machine in
    let r = stands m0 s in
    let made = c.in_ok-made.made in
    let ds = map datum_of c.as_slice.result.now in
    let calls = subst (λ (xs : List Scalar). Calls a r is.target is.method made.object made.on (map datum_of xs)) (sym c.as_slice.ensures.value) (c.in_ok-made.ensures.on x.table.now numbered (is_some m0.entry) a is r refl) in
    let same = c.in_ok-wait_for.ensures.rest in
    let there : stands m1 s ≡ r = ap (λ (m : Machine). stands m s) same in
    let last : m1.now.last ≡ m0.now.last = ap (λ (m : Machine). m.now.last) same in
    let waits = c.in_ok-wait_for.ensures.waits p numbered s ks is.target known is.goes in
    let back = return_to r is.target made.object ∷ ks in
    on_ok_weaker c.enter.result
    (λ h. call_stands p a r is.target is.method made.object made.on ds calls ks numbered x c.enter.new.machine c.enter.new.frames.items way.On
    (subst (λ (u : Configuration). Stands p numbered x c.enter.new.machine c.enter.new.frames.items way.On (resume p back (run.call p is.method made.on ds u))
    (λ q. CallOverflows p q is.method made.on ds u ⊎ StackOverflows p q back (run.call p is.method made.on ds u))) there h))
    (c.enter.ensures.on p numbered s back is.method waits (c.in_ok-wait_for.ensures.entry s) is.number (subst (λ (l : ℕ). made.on < suc l) (sym last) c.in_ok-made.ensures.inside.0) (subst (λ (xs : List Scalar). AllInside m1.now.last xs) (sym c.as_slice.ensures.value) (subst (λ (l : ℕ). AllInside l made.args.items) (sym last) c.in_ok-made.ensures.inside.1)))

pub returns-clause-stop : goal.returns-clause-stop
returns-clause-stop c = λ p numbered s ks a known is.
    let x = c.args.prepared.now in
    let m0 = c.args.machine.now in
    let m1 = c.wait_for.new.machine in
    let r = stands m0 s in
    let made = c.in_ok-made.made in
    let ds = map datum_of c.as_slice.result.now in
    let calls = subst (λ (xs : List Scalar). Calls a r is.target is.method made.object made.on (map datum_of xs)) (sym c.as_slice.ensures.value) (c.in_ok-made.ensures.on x.table.now numbered (is_some m0.entry) a is r refl) in
    let there : stands m1 s ≡ r = ap (λ (m : Machine). stands m s) c.in_ok-wait_for.ensures.rest in
    let back = return_to r is.target made.object ∷ ks in
    IfErr-weaker c.enter.result (EndsAs (resume p back (run.call p is.method made.on ds (stands m1 s))) (λ q. ⊥)) (EndsAs (resume p ks (done p a r)) (Else p a r ks))
    (λ why h. call_ends p a r is.target is.method made.object made.on ds calls ks why (subst (λ (u : Configuration). EndsAs (resume p back (run.call p is.method made.on ds u)) (λ q. ⊥) why) there h))
    (c.enter.ensures.stop p s back is.method)
