use Rattle.std.proofs.Common.{rules, arith, ◌≡◌, OnOk, slice_set, subst}
use Rattle.std.proofs.lemmas.Result.{on_ok_weaker}
use Rattle.jh_name.specs.declared.naming.Name.{Name}
use Rattle.jh_form.specs.Meaning.{a_truth, a_field, updated}
use Rattle.jh_form.specs.Assigned.{assigned}
use Rattle.jh_store.specs.memory.Held.{Held, state_of, state_in, IsNamed}
use Rattle.jh_store.proofs.memory.Writes as w
use Rattle.jh_store.proofs.memory.Writes.{memory_others, memory_written_at}
use Rattle.jh_store.proofs.memory.memory.Memory.put_truth_at.Goals as goal

-- src/memory.rt
pub returns-clause-state : goal.returns-clause-state
returns-clause-state c =
    subst
    (λ (m : Held). OnOk c.put_truth_at.result ((x : Name) → IsNamed m c.args.name x → state_in c.self.inside.names.now c.self.inside.last (slice_set c.self.inside.slots.items c.args.name c.put_truth_at.new.self) ≡ assigned (state_of m) x (a_field (updated ((state_of m).field x) c.args.at (a_truth c.args.value)))))
    c.self.view_is
    (on_ok_weaker c.put_truth_at.result (λ e x at. w.truth_put_at (record { names = c.self.inside.names.now; last = c.self.inside.last; cells = c.self.inside.slots.items }) c.self.invariant c.args.name x at c.index_mut.result.now c.index_mut.ensures.value c.args.at c.args.value c.put_truth_at.new.self e) c.put_truth_at.ensures.put)

-- src/memory.rt
pub invariant_of-self : goal.invariant_of-self
invariant_of-self c = memory_others c.self.inside.names.now c.self.inside.last c.self.inside.slots.items c.args.name c.index_mut.result.now c.put_truth_at.new.self c.self.invariant (search (rules, arith)) c.index_mut.ensures.value c.put_truth_at.ensures.objects.0 c.put_truth_at.ensures.objects.1
