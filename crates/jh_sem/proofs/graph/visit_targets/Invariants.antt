use Rattle.std.proofs.Common.{◌≡◌, ◌<◌, ℕ, suc, true, Some, length, slice_get}
use Rattle.jh_form.specs.Meaning.{edge}
use Rattle.jh_sem.specs.Graphs.{listed_fields, IsWalk}
use Rattle.jh_sem.proofs.graph.visit_targets.Given as goal

-- the objects to which the first fields lead have marks
abbrev pub invariant-loop-place : goal.invariant-loop-place
invariant-loop-place l = record {
  sized : length l.marks.items ≡ suc l.last;
  marked : (i : ℕ) → i < l.place → slice_get l.marks.items (edge (listed_fields l.fields) i l.at) ≡ Some true;
  kept : (x : ℕ) → slice_get l.fn.marks.items x ≡ Some true → slice_get l.marks.items x ≡ Some true;
  found : (j x : ℕ) → slice_get l.fn.found.items j ≡ Some x → slice_get l.found.items j ≡ Some x;
  walk : (start j : ℕ) → slice_get l.fn.found.items j ≡ Some l.at → IsWalk l.last (listed_fields l.fields) start l.fn.marks.items l.fn.found.items → IsWalk l.last (listed_fields l.fields) start l.marks.items l.found.items;
}
