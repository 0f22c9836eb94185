use Rattle.std.proofs.Common.{◌≡◌, ◌+◌, ◌*◌, ◌<◌, not, ◌||◌, ◌∷◌, ℕ, suc, true, false, length, slice_get, slice_index, Some}
use Rattle.jh_form.specs.Meaning.{all_below, any_below, count_below, agree, truth, set_value, field_value}
use Rattle.jh_arena.specs.table.Entries.{the_truth, the_set, the_field}
use Rattle.jh_arena.specs.table.Nodes.{nodes}
use Rattle.jh_sem.specs.Bounds.{bound_list}
use Rattle.jh_sem.specs.Graphs.{AreRows}
use Rattle.jh_sem.proofs.Tabulated.{ListObjects}
use Rattle.jh_sem.proofs.objects.+placed.Given as goal

-- a part has a smaller number; what is asked of a node is asked of its shape, and loops ask of a part
abbrev pub decreases-object_of : goal.decreases-object_of
decreases-object_of g l = 6 * l.node + 2

abbrev pub decreases-read_object_value : goal.decreases-read_object_value
decreases-read_object_value g l = 6 * l.node + 1

abbrev pub decreases-object_in : goal.decreases-object_in
decreases-object_in g l = 6 * l.node + 2

abbrev pub decreases-object_updated : goal.decreases-object_updated
decreases-object_updated g l = 6 * l.node + 1
