use Rattle.std.proofs.Common.{◌≡◌, ◌||◌, ℕ, false, drop, get_or}
use Rattle.jh_semantics.specs.Heaps.{is_in}
use Rattle.jh_heap_layout.proofs.loading.fields.marks_of.Given as goal

abbrev pub invariant-loop-object : goal.invariant-loop-object
invariant-loop-object l = (b : ℕ) → (get_or l.made.items b false || is_in b (drop l.object-index l.fn.objects)) ≡ is_in b l.fn.objects
