use Rattle.std.proofs.Common.{rules, arith, ◌≡◌, ◌==◌, ◌||◌, OnOk, slice_set, subst}
use Rattle.std.proofs.lemmas.Result.{on_ok_weaker}
use Rattle.jh_name.specs.declared.naming.Name.{Name}
use Rattle.jh_form.specs.Meaning.{a_set}
use Rattle.jh_form.specs.Assigned.{assigned}
use Rattle.jh_store.specs.memory.Held.{Held, state_of, state_in, IsNamed}
use Rattle.jh_store.proofs.memory.Writes as w
use Rattle.jh_store.proofs.memory.Writes.{memory_others, memory_written_at}
use Rattle.jh_store.proofs.memory.memory.Memory.join.Goals as goal

-- src/memory.rt
pub returns-clause-state : goal.returns-clause-state
returns-clause-state c =
    subst
    (λ (m : Held). OnOk c.join.result ((x : Name) → IsNamed m c.args.name x → state_in c.self.inside.names.now c.self.inside.last (slice_set c.self.inside.slots.items c.args.name c.join.new.self) ≡ assigned (state_of m) x (a_set (λ b. (state_of m).set x b || b == c.args.object))))
    c.self.view_is
    (on_ok_weaker c.join.result (λ e x at. w.joined (record { names = c.self.inside.names.now; last = c.self.inside.last; cells = c.self.inside.slots.items }) c.self.invariant c.args.name x at c.index_mut.result.now c.index_mut.ensures.value c.args.object c.join.new.self e) c.join.ensures.put)

-- src/memory.rt
pub invariant_of-self : goal.invariant_of-self
invariant_of-self c = memory_others c.self.inside.names.now c.self.inside.last c.self.inside.slots.items c.args.name c.index_mut.result.now c.join.new.self c.self.invariant (search (rules, arith)) c.index_mut.ensures.value c.join.ensures.objects.0 c.join.ensures.objects.1
