use Rattle.std.proofs.Common.{rules, arith, ◌≡◌, pos, OnOk, slice_set, subst}
use Rattle.std.proofs.lemmas.Result.{on_ok_weaker}
use Rattle.jh_name.specs.declared.naming.Name.{Name}
use Rattle.jh_form.specs.Meaning.{a_number, a_field, updated}
use Rattle.jh_form.specs.Assigned.{assigned}
use Rattle.jh_store.specs.memory.Cells.{put}
use Rattle.jh_store.specs.memory.Held.{Held, state_of, state_in, IsNamed}
use Rattle.jh_store.proofs.memory.Writes as w
use Rattle.jh_store.proofs.memory.Writes.{memory_others, memory_written_at}
use Rattle.jh_store.proofs.memory.memory.Memory.put_number_at.Goals as goal

-- src/memory.rt
pub returns-clause-state : goal.returns-clause-state
returns-clause-state c =
    let put : OnOk c.put_number_at.result (c.put_number_at.new.self ≡ record c.index_mut.result.now { numbers = put (pos 0) c.index_mut.result.now.numbers c.args.at c.args.value }) = search rules in
    subst
    (λ (m : Held). OnOk c.put_number_at.result ((x : Name) → IsNamed m c.args.name x → state_in c.self.inside.names.now c.self.inside.last (slice_set c.self.inside.slots.items c.args.name c.put_number_at.new.self) ≡ assigned (state_of m) x (a_field (updated ((state_of m).field x) c.args.at (a_number c.args.value)))))
    c.self.view_is
    (on_ok_weaker c.put_number_at.result (λ e x at. w.number_put_at (record { names = c.self.inside.names.now; last = c.self.inside.last; cells = c.self.inside.slots.items }) c.self.invariant c.args.name x at c.index_mut.result.now c.index_mut.ensures.value c.args.at c.args.value c.put_number_at.new.self e) put)

-- src/memory.rt
pub invariant_of-self : goal.invariant_of-self
invariant_of-self c = memory_others c.self.inside.names.now c.self.inside.last c.self.inside.slots.items c.args.name c.index_mut.result.now c.put_number_at.new.self c.self.invariant (search (rules, arith)) c.index_mut.ensures.value c.put_number_at.ensures.objects.0 c.put_number_at.ensures.objects.1
