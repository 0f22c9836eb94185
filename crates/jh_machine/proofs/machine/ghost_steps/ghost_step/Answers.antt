use Rattle.std.proofs.Common.{sym, ap, refl, rules, []}
use Rattle.jh_form.specs.Meaning.{datum}
use Rattle.jh_semantics.specs.State.{State, shown}
use Rattle.jh_semantics.specs.Progress.{goes_on_in}
use Rattle.jh_store.specs.memory.Held.{state_of}
use Rattle.jh_machine.specs.continuation.Stops.{StopsAs}
use Rattle.jh_machine.specs.continuation.Overflows.{GhostOverflows}
use Rattle.jh_machine.specs.machine.Machines.{stands}
use Rattle.jh_machine.proofs.machine.ghost_steps.ghost_step.Goals as goal

pub returns-in_err-value-clause-stop : goal.returns-in_err-value-clause-stop
returns-in_err-value-clause-stop c = λ v s there known x.
    let whole : StopsAs x (λ q. GhostOverflows q c.args.place v (stands c.args.machine.now s)) c.in_err-value.field-0.0 = c.in_err-value.ensures.stop v s there known x in
    search rules

pub returns-clause-beside : goal.returns-clause-beside
returns-clause-beside c = record { names = c.store_value.ensures.names; last = c.store_value.ensures.last; entry = refl }

pub returns-clause-on : goal.returns-clause-on
returns-clause-on c = λ v s plain there known.
    let m = c.args.machine.now in
    ap (λ (n : State). goes_on_in (stands m s) n) (sym (c.store_value.ensures.state (datum v (shown (state_of m.now) s) []) plain c.in_ok-value.ensures.inside (c.in_ok-value.ensures.value v s there known)))
