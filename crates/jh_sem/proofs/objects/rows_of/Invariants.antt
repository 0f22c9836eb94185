use Rattle.std.proofs.Common.{◌≡◌, ◌+◌, ◌*◌, ◌<◌, not, ◌||◌, ◌∷◌, ℕ, suc, true, false, length, slice_get, slice_index, Some}
use Rattle.jh_form.specs.Meaning.{all_below, any_below, count_below, agree, truth, set_value, field_value}
use Rattle.jh_arena.specs.table.Entries.{the_truth, the_set, the_field}
use Rattle.jh_arena.specs.table.Nodes.{nodes}
use Rattle.jh_sem.specs.Bounds.{bound_list}
use Rattle.jh_sem.specs.Graphs.{AreRows}
use Rattle.jh_sem.proofs.Tabulated.{ListObjects}
use Rattle.jh_sem.proofs.objects.rows_of.Given as goal

-- a part has a smaller number; what is asked of a node is asked of its shape, and loops ask of a part
abbrev pub invariant-loop-field : goal.invariant-loop-field
invariant-loop-field g l = record {
  counted : length l.rows.items ≡ l.field-index;
  rows : AreRows (g.W.World.meaning l.world).last l.rows.items;
  objects : ListObjects (g.W.World.meaning l.world).last (g.W.World.meaning l.world) (bound_list l.bound) (nodes (g.W.World.listing l.world)) l.fields l.rows.items;
}
