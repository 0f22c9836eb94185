use Rattle.std.proofs.Common.{◌≡◌, ℕ, Bool, false, get_or, slice_set, subst}
use Rattle.jh_name.specs.declared.naming.Name.{Name}
use Rattle.jh_form.specs.Meaning.{a_set}
use Rattle.jh_form.specs.Assigned.{assigned}
use Rattle.jh_store.specs.memory.Held.{Held, state_of, state_in, IsNamed}
use Rattle.jh_store.proofs.memory.Writes as w
use Rattle.jh_store.proofs.memory.memory.Memory.put_set.Goals as goal

-- src/memory.rt
pub returns-clause-state : goal.returns-clause-state
returns-clause-state c =
    subst
    (λ (m : Held). (x : Name) → IsNamed m c.args.name x → (test : ℕ → Bool) → ((a : ℕ) → get_or c.args.members.items a false ≡ test a) → state_in c.self.inside.names.now c.self.inside.last (slice_set c.self.inside.slots.items c.args.name c.put_set.new.self) ≡ assigned (state_of m) x (a_set test))
    c.self.view_is
    (λ x at test same. w.set_put (record { names = c.self.inside.names.now; last = c.self.inside.last; cells = c.self.inside.slots.items }) c.self.invariant c.args.name x at c.index_mut.result.now c.index_mut.ensures.value c.args.members.items c.put_set.new.self c.put_set.ensures test same)
