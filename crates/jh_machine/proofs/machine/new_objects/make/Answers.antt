use Rattle.std.proofs.Common.{◌≡◌, refl, sym, ap, subst, ◌∙◌, rules, ℕ, suc, ◌<◌, List, slice_get}
use Rattle.jh_name.specs.declared.naming.Name.{Name}
use Rattle.jh_form.specs.Meaning.{an_object}
use Rattle.std.proofs.lemmas.Result.{on_ok_weaker, IfErr-weaker}
use Rattle.jh_semantics.specs.Progress.{goes_on_in}
use Rattle.jh_semantics.specs.Objects as runs
use Rattle.jh_semantics.specs.Objects.{created}
use Rattle.jh_store.specs.memory.Held.{state_of}
use Rattle.jh_operands.specs.Exprs.{text_at, IsPlain}
use Rattle.jh_operands.specs.Scalars.{datum_of, IsInside}
use Rattle.jh_machine_code.specs.code.Destinations.{IsTarget}
use Rattle.jh_operands.specs.Faults.{Never}
use Rattle.jh_machine.specs.declared.continuation.stop.Stop.TheVariants as stop
use Rattle.jh_machine.specs.continuation.Stops.{StopsAs, stop_of}
use Rattle.jh_machine.specs.continuation.Done.{made_by}
use Rattle.jh_machine.proofs.writes.TargetSteps.{memory_stops}
use Rattle.jh_machine.specs.declared.machine.machine.Machine.{Machine}
use Rattle.jh_machine.specs.machine.Machines.{stands}
use Rattle.jh_machine.proofs.machine.Making.{placed, made_fault, made_unpicked, made_unput, made_on, ok_always}
use Rattle.jh_machine.proofs.machine.new_objects.make.Goals as goal

pub returns-in_err-at-clause-stop : goal.returns-in_err-at-clause-stop
returns-in_err-at-clause-stop c = λ all plain t s is.
    let class = text_at c.args.machine.now.now.names c.args.class in
    let r = stands c.args.machine.now s in
    let why = c.in_err-at.field-0.0 in
    let whole : StopsAs (made_by c.args.place t class r) Never (stop_of why) = made_fault c.args.place t class r why (c.in_err-at.ensures.fault t is) in
    search rules

pub returns-in_err-object-clause-stop : goal.returns-in_err-object-clause-stop
returns-in_err-object-clause-stop c = λ all plain t s is.
    let class = text_at c.args.machine.now.now.names c.args.class in
    let r = stands c.args.machine.now s in
    let at = c.in_ok-at.at in
    let whole : StopsAs (made_by c.args.place t class r) Never c.in_err-object.field-0.0 =
    made_unpicked c.args.place t class r at (c.in_ok-at.ensures.value t is) c.in_err-object.field-0.0 (c.in_err-object.ensures.stop all s (placed t at class)) in
    search rules

pub returns-in_err-create-clause-stop : goal.returns-in_err-create-clause-stop
returns-in_err-create-clause-stop c = λ all plain t s is.
    let class = text_at c.args.machine.now.now.names c.args.class in
    let r = stands c.args.machine.now s in
    let whole : StopsAs (made_by c.args.place t class r) Never stop.Memory = memory_stops (made_by c.args.place t class r) Never stop.Memory refl in
    search rules

pub returns-clause-beside : goal.returns-clause-beside
returns-clause-beside c =
    let same = c.pick.ensures.kept in
    ok_always c.put.result (record {
      names = c.put.ensures.names ∙ c.create.ensures.names ∙ ap (λ (z : Machine). z.now.names) same;
      last = c.put.ensures.last ∙ c.create.ensures.last ∙ ap (λ (z : Machine). z.now.last) same;
      entry = ap (λ (z : Machine). z.entry) same;
    })

pub returns-clause-on : goal.returns-clause-on
unfolding datum_of IsInside
returns-clause-on c = λ all plain t s is.
    let m = c.args.machine.now in
    let m1 = c.pick.new.machine in
    let same = c.pick.ensures.kept in
    let names : m1.now.names ≡ m.now.names = ap (λ (z : Machine). z.now.names) same in
    let last : m1.now.last ≡ m.now.last = ap (λ (z : Machine). z.now.last) same in
    let class = text_at m.now.names c.args.class in
    let r = stands m s in
    let at = c.in_ok-at.at in
    let x = c.in_ok-object.object in
    let u = stands m1 s in
    let made = c.in_ok-create.ensures.state (ap (λ (ns : List Name). slice_get ns c.args.prepared.now.all) names ∙ all) (subst (λ (ns : List Name). IsPlain ns c.args.class) (sym names) plain)
    ∙ ap (λ (ns : List Name). created (state_of m1.now) (text_at ns c.args.class) x) names in
    let v = record u { now = created u.now class x } in
    let goes = subst (λ (ns : List Name). IsTarget ns c.args.destination.now t) (sym (c.create.ensures.names ∙ names)) is in
    let inside : x < suc c.create.new.memory.last = subst (λ (l : ℕ). x < suc l) (sym (c.create.ensures.last ∙ last)) c.in_ok-object.ensures.inside in
    on_ok_weaker c.put.result (λ h. made_on c.args.place t class r at (c.in_ok-at.ensures.value t is) x u (c.in_ok-object.ensures.on all s (placed t at class)) (goes_on_in v (state_of c.put.new.memory)) h)
    (c.put.ensures.on t goes v (sym made) inside)

pub returns-clause-stop : goal.returns-clause-stop
unfolding datum_of
returns-clause-stop c = λ all plain t s is.
    let m = c.args.machine.now in
    let m1 = c.pick.new.machine in
    let names : m1.now.names ≡ m.now.names = ap (λ (z : Machine). z.now.names) c.pick.ensures.kept in
    let class = text_at m.now.names c.args.class in
    let r = stands m s in
    let at = c.in_ok-at.at in
    let x = c.in_ok-object.object in
    let u = stands m1 s in
    let v = record u { now = created u.now class x } in
    let goes = subst (λ (ns : List Name). IsTarget ns c.args.destination.now t) (sym (c.create.ensures.names ∙ names)) is in
    IfErr-weaker c.put.result (StopsAs (runs.put t at (an_object x) v) Never) (StopsAs (made_by c.args.place t class r) Never)
    (λ why h. made_unput c.args.place t class r at (c.in_ok-at.ensures.value t is) x u (c.in_ok-object.ensures.on all s (placed t at class)) why h) (c.put.ensures.stop t goes v)
