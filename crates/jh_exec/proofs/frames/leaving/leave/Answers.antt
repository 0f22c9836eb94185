use Rattle.std.proofs.Common.{sym, ap, subst, ◌∙◌, ℕ, List}
use Rattle.std.proofs.lemmas.Result.{on_ok_weaker, IfErr-weaker}
use Rattle.jh_name.specs.declared.naming.Name.{Name}
use Rattle.jh_form.specs.Meaning.{Datum}
use Rattle.jh_semantics.specs.Objects as runs
use Rattle.jh_semantics.specs.Locals.{with_locals_of}
use Rattle.jh_semantics.specs.Execution.{back}
use Rattle.jh_machine_code.specs.code.Destinations.{IsTarget}
use Rattle.jh_operands.specs.Faults.{Never}
use Rattle.jh_operands.specs.Scalars.{datum_of}
use Rattle.jh_machine.specs.declared.locals.locals.Saved.{Saved}
use Rattle.jh_machine.specs.locals.Locals.{AreInside, AreSaved}
use Rattle.jh_machine.specs.continuation.Stops.{StopsAs}
use Rattle.jh_machine.proofs.writes.TargetSteps.{stops_there}
use Rattle.jh_machine.specs.machine.Machines.{stands}
use Rattle.jh_exec.specs.frames.Frames.{progress, WayInside}
use Rattle.jh_exec.proofs.frames.Called.{back_put}
use Rattle.jh_exec.proofs.frames.leaving.leave.Goals as goal

pub returns-clause-on : goal.returns-clause-on
returns-clause-on c = λ numbered k s is locals inside.
    let m = c.args.machine.now in
    let b = c.args.back in
    let r = stands m s in
    let u = record r { now = with_locals_of r.now is.caller.now; entry = is.caller.entry } in
    let restored = c.restore.ensures.state is.caller.now locals (subst (λ (vs : List Saved). AreInside m.now.last vs) (sym c.as_slice.ensures.value) is.inside)
    (subst (λ (vs : List Saved). AreSaved m.now.names is.caller.now c.args.prepared.now.locals.now vs) (sym c.as_slice.ensures.value) is.saved) is.known in
    let goes = subst (λ (ns : List Name). IsTarget ns b.destination.now is.target) (sym c.restore.ensures.names) is.goes in
    on_ok_weaker c.put.result
    (λ h. back_put is.caller is.target b.object c.args.way r ∙ ap (λ (d : Datum). runs.put is.target b.object d u) (sym c.call_value.ensures.value) ∙ h)
    (c.put.ensures.on is.target goes u (sym restored) (c.call_value.ensures.inside c.restore.new.memory.last (subst (λ (l : ℕ). WayInside l c.args.way) (sym c.restore.ensures.last) inside)))

pub returns-clause-stop : goal.returns-clause-stop
returns-clause-stop c = λ numbered k s is locals.
    let m = c.args.machine.now in
    let b = c.args.back in
    let r = stands m s in
    let u = record r { now = with_locals_of r.now is.caller.now; entry = is.caller.entry } in
    let goes = subst (λ (ns : List Name). IsTarget ns b.destination.now is.target) (sym c.restore.ensures.names) is.goes in
    IfErr-weaker c.put.result (StopsAs (runs.put is.target b.object (datum_of c.call_value.result) u) Never) (StopsAs (back is.caller is.target b.object (progress c.args.way r)) Never)
    (λ why h. stops_there (runs.put is.target b.object (datum_of c.call_value.result) u) (back is.caller is.target b.object (progress c.args.way r)) Never Never why
    (back_put is.caller is.target b.object c.args.way r ∙ ap (λ (d : Datum). runs.put is.target b.object d u) (sym c.call_value.ensures.value)) (λ q no. no) h)
    (c.put.ensures.stop is.target goes u)
