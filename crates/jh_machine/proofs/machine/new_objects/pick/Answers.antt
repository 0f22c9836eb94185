use Rattle.std.proofs.Common.{◌≡◌, sym, subst, ◌∙◌, refl, ℕ, ◌≤◌, List, length, slice_get, Some}
use Rattle.std.proofs.lemmas.Option.{slice_get_read}
use Rattle.jh_machine.specs.continuation.Stops.{StopsAs}
use Rattle.jh_machine.proofs.machine.Making.{pick_none, pick_taken}
use Rattle.jh_machine.proofs.machine.new_objects.pick.Goals as goal

pub returns-in-None-clause-stop : goal.returns-in-None-clause-stop
unfolding StopsAs
returns-in-None-clause-stop c = λ all s next.
    pick_none c.args.place c.args.machine.now s next (subst (λ (xs : List ℕ). length xs ≤ c.args.machine.now.taken) c.deref.ensures.value c.in-None.ensures.lookup.3)

pub returns-else-is_free-clause-stop : goal.returns-else-is_free-clause-stop
unfolding StopsAs
returns-else-is_free-clause-stop c = λ all s next.
    pick_taken c.args.place c.args.machine.now s next c.in-Some.object.now
    (subst (λ (xs : List ℕ). slice_get xs c.args.machine.now.taken ≡ Some c.in-Some.object.now) c.deref.ensures.value (slice_get_read c.deref.result.now _ c.args.machine.now.taken c.in-Some.object.now refl c.in-Some.ensures.lookup.3.0 c.in-Some.ensures.lookup.1))
    (sym c.if-is_free.false ∙ c.is_free.ensures.free all)
