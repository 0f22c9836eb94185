use Rattle.std.proofs.Common.{◌≡◌, sym, ◌∙◌, refl, rules, []}
use Rattle.jh_form.specs.Tree.{of_object}
use Rattle.jh_form.specs.Meaning.{term_value}
use Rattle.jh_sem.specs.Wide.{IsWide}
use Rattle.jh_semantics.specs.State.{shown}
use Rattle.jh_semantics.specs.Execution.{ghost_stored}
use Rattle.jh_store.specs.memory.Held.{state_of}
use Rattle.jh_store.specs.state_pairs.Seen.{seen}
use Rattle.jh_operands.specs.Exprs.{text_at}
use Rattle.jh_machine.specs.continuation.Stops.{StopsAs}
use Rattle.jh_machine.specs.machine.Machines.{stands}
use Rattle.jh_machine.proofs.machine.Moments.{overflow_stops, there_too, wide_same, object_same, ghost_outside}
use Rattle.jh_machine.proofs.machine.ghost_steps.ghost_object.Goals as goal

pub returns-in_err-object-clause-stop : goal.returns-in_err-object-clause-stop
unfolding StopsAs
returns-in_err-object-clause-stop c = λ a s plain there known f d.
    let m = c.args.machine.now in
    let t = c.args.prepared.now.table.now in
    let w = c.moment.result in
    let to = c.args.to in
    let x = ghost_stored to.left (text_at m.now.names to.class) f (term_value a (shown (state_of m.now) s) []) d (stands m s) in
    let whole : StopsAs x (λ q. (to.left ≡ q) × IsWide (shown (state_of m.now) s) (of_object a)) c.in_err-object.field-0.0 =
    overflow_stops (ghost_stored to.left (text_at m.now.names to.class) f (term_value a (shown (state_of m.now) s) []) d (stands m s)) to.left (IsWide (seen w) (of_object a))
    (λ q. (to.left ≡ q) × IsWide (shown (state_of m.now) s) (of_object a)) c.in_err-object.field-0.0
    (c.in_err-object.ensures.stop a (there_too t w.table.now to.object (of_object a) c.moment.ensures.table there.there))
    (λ g. (refl, wide_same w m.now m.entry s c.moment.ensures.current (c.moment.ensures.entry s known) t to.object (of_object a) there g)) in
    search rules

pub returns-then-is_in-clause-on : goal.returns-then-is_in-clause-on
returns-then-is_in-clause-on c = λ a s plain there known.
    let m = c.args.machine.now in
    let t = c.args.prepared.now.table.now in
    let w = c.moment.result in
    let to = c.args.to in (
      c.in_ok-object.ensures.value a (there_too t w.table.now to.object (of_object a) c.moment.ensures.table there.there) ∙ object_same w m.now m.entry s c.moment.ensures.current (c.moment.ensures.entry s known) t to.object a there,
      sym (c.is_in.ensures plain) ∙ c.if-is_in.true,
    )

pub returns-else-is_in-clause-stop : goal.returns-else-is_in-clause-stop
unfolding StopsAs
returns-else-is_in-clause-stop c = λ a s plain there known f d.
    let m = c.args.machine.now in
    let t = c.args.prepared.now.table.now in
    let w = c.moment.result in
    let to = c.args.to in
    ghost_outside to.left (text_at m.now.names to.class) f (term_value a (shown (state_of m.now) s) []) c.in_ok-object.object
    (c.in_ok-object.ensures.value a (there_too t w.table.now to.object (of_object a) c.moment.ensures.table there.there) ∙ object_same w m.now m.entry s c.moment.ensures.current (c.moment.ensures.entry s known) t to.object a there)
    d (stands m s) (sym c.if-is_in.false ∙ c.is_in.ensures plain)
