use Rattle.std.proofs.Common.{◌≡◌, ◌+◌, ◌*◌, ◌<◌, not, ◌||◌, ◌∷◌, ℕ, suc, true, false, length, slice_get, slice_index, Some}
use Rattle.jh_form.specs.Meaning.{all_below, any_below, count_below, agree, truth, set_value, field_value}
use Rattle.jh_arena.specs.table.Entries.{the_truth, the_set, the_field}
use Rattle.jh_arena.specs.table.Nodes.{nodes}
use Rattle.jh_sem.specs.Bounds.{bound_list}
use Rattle.jh_sem.specs.Graphs.{AreRows}
use Rattle.jh_sem.proofs.Tabulated.{ListObjects}
use Rattle.jh_sem.proofs.objects.row_of.Given as goal

-- a part has a smaller number; what is asked of a node is asked of its shape, and loops ask of a part
abbrev pub invariant-loop-place : goal.invariant-loop-place
invariant-loop-place g l = record {
  counted : length l.row.items ≡ l.place;
  inside : (j x : ℕ) → slice_get l.row.items j ≡ Some x → x < suc (g.W.World.meaning l.world).last;
  objects : (x : ℕ) → x < l.place → slice_index l.row.items x ≡ (field_value (the_field (slice_get (nodes (g.W.World.listing l.world)) l.node)) (g.W.World.meaning l.world) (bound_list l.bound)).objects x;
}
