use Rattle.std.proofs.Common.{◌≡◌, slice_set, subst}
use Rattle.jh_name.specs.declared.naming.Name.{Name}
use Rattle.jh_form.specs.Meaning.{an_object}
use Rattle.jh_form.specs.Assigned.{assigned}
use Rattle.jh_store.specs.memory.Held.{Held, state_of, state_in, IsNamed}
use Rattle.jh_store.proofs.memory.Writes as w
use Rattle.jh_store.proofs.memory.memory.Memory.put_object.Goals as goal

-- src/memory.rt
pub returns-clause-state : goal.returns-clause-state
returns-clause-state c =
    subst
    (λ (m : Held). (x : Name) → IsNamed m c.args.name x → state_in c.self.inside.names.now c.self.inside.last (slice_set c.self.inside.slots.items c.args.name c.put_object.new.self) ≡ assigned (state_of m) x (an_object c.args.value))
    c.self.view_is
    (λ x at. w.object_put (record { names = c.self.inside.names.now; last = c.self.inside.last; cells = c.self.inside.slots.items }) c.self.invariant c.args.name x at c.index_mut.result.now c.index_mut.ensures.value c.args.value c.put_object.new.self c.put_object.ensures)
