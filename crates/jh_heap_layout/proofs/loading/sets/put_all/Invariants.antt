use Rattle.std.proofs.Common.{◌≡◌, ◌||◌, drop}
use Rattle.std.specs.List.{list_any}
use Rattle.jh_name.specs.declared.naming.Name.{Name}
use Rattle.jh_form.specs.Meaning.{a_set}
use Rattle.jh_form.specs.Assigned.{assigned}
use Rattle.jh_semantics.specs.Heaps.{is_in}
use Rattle.jh_store.specs.memory.Held.{state_of, IsNamed}
use Rattle.jh_heap_layout.proofs.loading.sets.put_all.Given as goal

-- with what is still to join, the set is the one with all
abbrev pub invariant-loop-row : goal.invariant-loop-row
invariant-loop-row l = record {
  names : l.memory.names ≡ l.fn.memory.names;
  last : l.memory.last ≡ l.fn.memory.last;
  state : (x : Name) → IsNamed l.fn.memory l.fn.number x →
      assigned (state_of l.memory) x (a_set (λ b. (state_of l.memory).set x b || list_any (is_in b) (drop l.row-index l.fn.rows))) ≡ assigned (state_of l.fn.memory) x (a_set (λ b. list_any (is_in b) l.fn.rows));
}
