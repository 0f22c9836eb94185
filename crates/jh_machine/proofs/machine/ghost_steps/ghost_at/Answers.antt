use Rattle.std.proofs.Common.{◌≡◌, sym, ap, ◌∙◌, refl, inl, inr, [], rules}
use Rattle.jh_form.specs.Tree.{of_object}
use Rattle.jh_form.specs.Meaning.{datum, term_value}
use Rattle.jh_sem.specs.Wide.{IsWide}
use Rattle.jh_semantics.specs.State.{named, shown}
use Rattle.jh_store.specs.memory.Held.{state_of}
use Rattle.jh_operands.specs.Exprs.{text_at}
use Rattle.jh_machine.specs.declared.continuation.stop.Stop.TheVariants as stop
use Rattle.jh_machine.specs.continuation.Stops.{StopsAs}
use Rattle.jh_machine.specs.continuation.Overflows.{GhostOverflows, GhostAtOverflows}
use Rattle.jh_machine.specs.continuation.Done.{ghost_by}
use Rattle.jh_machine.proofs.writes.TargetSteps.{memory_stops, stops_there}
use Rattle.jh_machine.specs.machine.Machines.{stands}
use Rattle.jh_machine.proofs.machine.Moments.{ghost_inside}
use Rattle.jh_machine.proofs.machine.ghost_steps.ghost_at.Goals as goal

pub returns-in_err-object-clause-stop : goal.returns-in_err-object-clause-stop
returns-in_err-object-clause-stop c = λ a v s class at there known.
    let m = c.args.machine.now in
    let to = c.args.to in
    let field = text_at m.now.names to.field in
    let d = datum v (shown (state_of m.now) s) [] in
    let x = ghost_by to.left (text_at m.now.names to.class) field a v (stands m s) in
    let whole : StopsAs x (λ q. GhostAtOverflows q to.left (text_at m.now.names to.class) a to.right v (stands m s)) c.in_err-object.field-0.0 =
    stops_there x x (λ q. (to.left ≡ q) × IsWide (shown (state_of m.now) s) (of_object a)) (λ q. GhostAtOverflows q to.left (text_at m.now.names to.class) a to.right v (stands m s)) c.in_err-object.field-0.0 refl
    (λ q h. inl h) (c.in_err-object.ensures.stop a s class at known field d) in
    search rules

pub returns-in_err-value-clause-stop : goal.returns-in_err-value-clause-stop
returns-in_err-value-clause-stop c = λ a v s class at there known.
    let m = c.args.machine.now in
    let to = c.args.to in
    let x = ghost_by to.left (text_at m.now.names to.class) (text_at m.now.names to.field) a v (stands m s) in
    let on = c.in_ok-object.ensures.on a s class at known in
    let whole : StopsAs x (λ q. GhostAtOverflows q to.left (text_at m.now.names to.class) a to.right v (stands m s)) c.in_err-value.field-0.0 =
    stops_there x x (λ q. GhostOverflows q to.right v (stands m s)) (λ q. GhostAtOverflows q to.left (text_at m.now.names to.class) a to.right v (stands m s)) c.in_err-value.field-0.0 refl
    (λ q h. inr (ap ((state_of m.now).set (named (text_at m.now.names to.class))) (sym on.0) ∙ on.1, h)) (c.in_err-value.ensures.stop v s there known x) in
    search rules

pub returns-in_err-store_value_at-clause-stop : goal.returns-in_err-store_value_at-clause-stop
returns-in_err-store_value_at-clause-stop c = λ a v s class at there known.
    let m = c.args.machine.now in
    let to = c.args.to in
    let x = ghost_by to.left (text_at m.now.names to.class) (text_at m.now.names to.field) a v (stands m s) in
    let whole : StopsAs x (λ q. GhostAtOverflows q to.left (text_at m.now.names to.class) a to.right v (stands m s)) stop.Memory =
    memory_stops x (λ q. GhostAtOverflows q to.left (text_at m.now.names to.class) a to.right v (stands m s)) stop.Memory refl in
    search rules

pub returns-clause-beside : goal.returns-clause-beside
returns-clause-beside c = record { names = c.store_value_at.ensures.names; last = c.store_value_at.ensures.last; entry = refl }

pub returns-clause-on : goal.returns-clause-on
returns-clause-on c = λ a v s class field at there known.
    let m = c.args.machine.now in
    let to = c.args.to in
    let d = datum v (shown (state_of m.now) s) [] in
    let on = c.in_ok-object.ensures.on a s class at known in
    ghost_inside to.left (text_at m.now.names to.class) (text_at m.now.names to.field) (term_value a (shown (state_of m.now) s) []) c.in_ok-object.object on.0 d (stands m s) on.1
    (state_of c.store_value_at.new.memory) (c.in_ok-store_value_at.ensures.state d field c.in_ok-value.ensures.inside (c.in_ok-value.ensures.value v s there known))
