use Rattle.std.proofs.Common.{rules, arith, ◌≡◌, ℕ, Bool, false, OnOk, get_or, slice_set, subst}
use Rattle.std.proofs.lemmas.Result.{on_ok_weaker}
use Rattle.jh_name.specs.declared.naming.Name.{Name}
use Rattle.jh_form.specs.Meaning.{a_set, a_field, updated}
use Rattle.jh_form.specs.Assigned.{assigned}
use Rattle.jh_store.specs.memory.Held.{Held, state_of, state_in, IsNamed}
use Rattle.jh_store.proofs.memory.Writes as w
use Rattle.jh_store.proofs.memory.Writes.{memory_others, memory_written_at}
use Rattle.jh_store.proofs.memory.memory.Memory.put_set_at.Goals as goal

-- src/memory.rt
pub returns-clause-state : goal.returns-clause-state
returns-clause-state c =
    subst
    (λ (m : Held). OnOk c.put_set_at.result ((x : Name) → IsNamed m c.args.name x → (test : ℕ → Bool) → ((b : ℕ) → get_or c.args.members.items b false ≡ test b) → state_in c.self.inside.names.now c.self.inside.last (slice_set c.self.inside.slots.items c.args.name c.put_set_at.new.self) ≡ assigned (state_of m) x (a_field (updated ((state_of m).field x) c.args.at (a_set test)))))
    c.self.view_is
    (on_ok_weaker c.put_set_at.result (λ e x at test same. w.set_put_at (record { names = c.self.inside.names.now; last = c.self.inside.last; cells = c.self.inside.slots.items }) c.self.invariant c.args.name x at c.index_mut.result.now c.index_mut.ensures.value c.args.at c.args.members.items c.put_set_at.new.self e test same) c.put_set_at.ensures.put)

-- src/memory.rt
pub invariant_of-self : goal.invariant_of-self
invariant_of-self c = memory_others c.self.inside.names.now c.self.inside.last c.self.inside.slots.items c.args.name c.index_mut.result.now c.put_set_at.new.self c.self.invariant (search (rules, arith)) c.index_mut.ensures.value c.put_set_at.ensures.objects.0 c.put_set_at.ensures.objects.1
