use Rattle.std.proofs.Common.{◌≡◌, ap, slice_set, subst}
use Rattle.jh_name.specs.declared.naming.Name.{Name}
use Rattle.jh_form.specs.Meaning.{a_field}
use Rattle.jh_form.specs.Assigned.{assigned}
use Rattle.jh_store.specs.memory.Cells.{Cells, field_in}
use Rattle.jh_store.specs.memory.Fields.{field_of}
use Rattle.jh_store.specs.memory.Held.{Held, state_of, state_in, IsNamed}
use Rattle.jh_store.proofs.memory.Writes as w
use Rattle.jh_store.proofs.memory.memory.Memory.put_field.Goals as goal

pub returns-clause-state : goal.returns-clause-state
returns-clause-state c =
    let e = c.put_field.ensures in
    subst
    (λ (m : Held). (x : Name) → IsNamed m c.args.name x → state_in c.self.inside.names.now c.self.inside.last (slice_set c.self.inside.slots.items c.args.name c.put_field.new.self) ≡ assigned (state_of m) x (a_field (field_of c.args.values)))
    c.self.view_is
    (λ x at.
    w.field_put (record { names = c.self.inside.names.now; last = c.self.inside.last; cells = c.self.inside.slots.items }) c.self.invariant c.args.name x at c.index_mut.result.now c.index_mut.ensures.value c.put_field.new.self (field_of c.args.values) (ap (λ (z : Cells). z.object) e)
    (ap (λ (z : Cells). z.number) e) (ap (λ (z : Cells). z.truth) e) (ap (λ (z : Cells). z.set) e) (ap field_in e))
