use Rattle.std.proofs.Common.{◌≡◌, ◌||◌, drop}
use Rattle.jh_name.specs.declared.naming.Name.{Name}
use Rattle.jh_form.specs.Meaning.{a_set}
use Rattle.jh_form.specs.Assigned.{assigned}
use Rattle.jh_semantics.specs.Heaps.{is_in}
use Rattle.jh_store.specs.memory.Held.{state_of, IsNamed}
use Rattle.jh_heap_layout.proofs.loading.sets.join_all.Given as goal

-- with what is still to join, the set is the one with all
abbrev pub invariant-loop-object : goal.invariant-loop-object
invariant-loop-object l = record {
  names : l.memory.names ≡ l.initial.memory.names;
  last : l.memory.last ≡ l.initial.memory.last;
  state : (x : Name) → IsNamed l.initial.memory l.fn.number x →
      assigned (state_of l.memory) x (a_set (λ b. (state_of l.memory).set x b || is_in b (drop l.object-index l.fn.objects))) ≡ assigned (state_of l.initial.memory) x (a_set (λ b. (state_of l.initial.memory).set x b || is_in b l.fn.objects));
}
