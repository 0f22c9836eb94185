use Rattle.std.proofs.Common.{refl, []}
use Rattle.std.proofs.lemmas.Result.{IfOk-weaker, IfErr-weaker}
use Rattle.jh_form.specs.Meaning.{datum}
use Rattle.jh_semantics.specs.State.{shown}
use Rattle.jh_store.specs.memory.Held.{state_of}
use Rattle.jh_store.specs.state_pairs.Seen.{seen}
use Rattle.jh_machine.specs.continuation.Stops.{StopsAs}
use Rattle.jh_machine.specs.continuation.Formulas.{ValueOverflows, OverflowsOnly}
use Rattle.jh_machine.specs.continuation.Overflows.{GhostOverflows}
use Rattle.jh_machine.specs.ghosts.Nodes.{IsValue, ValueInside}
use Rattle.jh_machine.specs.machine.Machines.{stands}
use Rattle.jh_machine.proofs.machine.Moments.{overflow_stops, there_too, overflows_same, is_value_same, inside_same}
use Rattle.jh_machine.proofs.machine.ghost_steps.value_now.Goals as goal

pub returns-clause-value : goal.returns-clause-value
returns-clause-value c = λ v s there known.
    let m = c.args.machine.now in
    let t = c.args.prepared.now.table.now in
    let w = c.moment.result in
    IfOk-weaker c.node_value.result (λ x. IsValue w.current.now.last x (datum v (seen w) [])) (λ x. IsValue m.now.last x (datum v (shown (state_of m.now) s) []))
    (λ x h. is_value_same w m.now m.entry s c.moment.ensures.current (c.moment.ensures.entry s known) t c.args.node v there x h)
    (c.node_value.ensures.value v (there_too t w.table.now c.args.node v c.moment.ensures.table there.there))

pub returns-clause-inside : goal.returns-clause-inside
returns-clause-inside c =
    let m = c.args.machine.now in
    let w = c.moment.result in
    IfOk-weaker c.node_value.result (ValueInside w.current.now.last) (ValueInside m.now.last) (λ x h. inside_same w m.now c.moment.ensures.current x h) c.node_value.ensures.inside

pub returns-clause-stop : goal.returns-clause-stop
returns-clause-stop c = λ v s there known x.
    let m = c.args.machine.now in
    let t = c.args.prepared.now.table.now in
    let w = c.moment.result in
    IfErr-weaker c.node_value.result (OverflowsOnly c.args.place (ValueOverflows (seen w) v)) (StopsAs x (λ q. GhostOverflows q c.args.place v (stands m s)))
    (λ why h. overflow_stops x c.args.place (ValueOverflows (seen w) v) (λ q. GhostOverflows q c.args.place v (stands m s)) why h
    (λ g. (refl, overflows_same w m.now m.entry s c.moment.ensures.current (c.moment.ensures.entry s known) t c.args.node v there g)))
    (c.node_value.ensures.stop v (there_too t w.table.now c.args.node v c.moment.ensures.table there.there))
