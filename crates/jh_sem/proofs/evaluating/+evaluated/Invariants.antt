use Rattle.std.proofs.Common.{◌≡◌, ◌+◌, ◌*◌, ◌<◌, ◌≤◌, not, ◌||◌, ◌∷◌, ℕ, suc, true, false, length, slice_get, slice_index, Some}
use Rattle.jh_form.specs.Meaning.{all_below, any_below, count_below, agree, truth, set_value, field_value}
use Rattle.jh_arena.specs.table.Entries.{the_truth, the_set, the_field}
use Rattle.jh_arena.specs.table.Nodes.{nodes}
use Rattle.jh_sem.specs.Bounds.{bound_list}
use Rattle.jh_sem.specs.Graphs.{AreRows}
use Rattle.jh_sem.proofs.Tabulated.{ListObjects}
use Rattle.jh_sem.proofs.evaluating.+evaluated.Given as goal

-- a part has a smaller number; what is asked of a node is asked of its shape, and loops ask of a part
abbrev pub decreases-number_of : goal.decreases-number_of
decreases-number_of g l = 6 * l.node + 2

abbrev pub decreases-read_number_value : goal.decreases-read_number_value
decreases-read_number_value g l = 6 * l.node + 1

abbrev pub decreases-add_value : goal.decreases-add_value
decreases-add_value g l = 6 * l.node + 1

abbrev pub decreases-sub_value : goal.decreases-sub_value
decreases-sub_value g l = 6 * l.node + 1

abbrev pub decreases-neg_value : goal.decreases-neg_value
decreases-neg_value g l = 6 * l.node + 1

abbrev pub decreases-scale_value : goal.decreases-scale_value
decreases-scale_value g l = 6 * l.node + 1

abbrev pub decreases-card_value : goal.decreases-card_value
decreases-card_value g l = 6 * l.node + 1

abbrev pub decreases-has_member : goal.decreases-has_member
decreases-has_member g l = 6 * l.node + 2

abbrev pub decreases-read_set_value : goal.decreases-read_set_value
decreases-read_set_value g l = 6 * l.node + 1

abbrev pub decreases-union_value : goal.decreases-union_value
decreases-union_value g l = 6 * l.node + 1

abbrev pub decreases-inter_value : goal.decreases-inter_value
decreases-inter_value g l = 6 * l.node + 1

abbrev pub decreases-diff_value : goal.decreases-diff_value
decreases-diff_value g l = 6 * l.node + 1

abbrev pub decreases-compl_value : goal.decreases-compl_value
decreases-compl_value g l = 6 * l.node + 1

abbrev pub decreases-compr_value : goal.decreases-compr_value
decreases-compr_value g l = 6 * l.node + 1

abbrev pub decreases-number_in : goal.decreases-number_in
decreases-number_in g l = 6 * l.node + 2

abbrev pub decreases-number_updated : goal.decreases-number_updated
decreases-number_updated g l = 6 * l.node + 1

abbrev pub decreases-truth_in : goal.decreases-truth_in
decreases-truth_in g l = 6 * l.node + 2

abbrev pub decreases-truth_updated : goal.decreases-truth_updated
decreases-truth_updated g l = 6 * l.node + 1

abbrev pub decreases-member_in : goal.decreases-member_in
decreases-member_in g l = 6 * l.node + 2

abbrev pub decreases-member_updated : goal.decreases-member_updated
decreases-member_updated g l = 6 * l.node + 1

abbrev pub decreases-truth_of : goal.decreases-truth_of
decreases-truth_of g l = 6 * l.node + 2

abbrev pub decreases-read_truth_value : goal.decreases-read_truth_value
decreases-read_truth_value g l = 6 * l.node + 1

abbrev pub decreases-negation_value : goal.decreases-negation_value
decreases-negation_value g l = 6 * l.node + 1

abbrev pub decreases-and_value : goal.decreases-and_value
decreases-and_value g l = 6 * l.node + 1

abbrev pub decreases-or_value : goal.decreases-or_value
decreases-or_value g l = 6 * l.node + 1

abbrev pub decreases-implies_value : goal.decreases-implies_value
decreases-implies_value g l = 6 * l.node + 1

abbrev pub decreases-iff_value : goal.decreases-iff_value
decreases-iff_value g l = 6 * l.node + 1

abbrev pub decreases-all_value : goal.decreases-all_value
decreases-all_value g l = 6 * l.node + 1

abbrev pub decreases-ex_value : goal.decreases-ex_value
decreases-ex_value g l = 6 * l.node + 1

abbrev pub decreases-eq_number_value : goal.decreases-eq_number_value
decreases-eq_number_value g l = 6 * l.node + 1

abbrev pub decreases-less_value : goal.decreases-less_value
decreases-less_value g l = 6 * l.node + 1

abbrev pub decreases-less_equal_value : goal.decreases-less_equal_value
decreases-less_equal_value g l = 6 * l.node + 1

abbrev pub decreases-eq_set_value : goal.decreases-eq_set_value
decreases-eq_set_value g l = 6 * l.node + 1

abbrev pub decreases-divides_value : goal.decreases-divides_value
decreases-divides_value g l = 6 * l.node + 1

abbrev pub decreases-member_value : goal.decreases-member_value
decreases-member_value g l = 6 * l.node + 1

abbrev pub decreases-subset_value : goal.decreases-subset_value
decreases-subset_value g l = 6 * l.node + 1

abbrev pub decreases-mark_value : goal.decreases-mark_value
decreases-mark_value g l = 6 * l.node + 1

abbrev pub decreases-for_all : goal.decreases-for_all
decreases-for_all g l = 6 * l.node + 3

abbrev pub decreases-for_some : goal.decreases-for_some
decreases-for_some g l = 6 * l.node + 3

abbrev pub decreases-members : goal.decreases-members
decreases-members g l = 6 * l.node + 3

abbrev pub invariant-for_all-loop-object : goal.invariant-for_all-loop-object
invariant-for_all-loop-object g l = all_below l.object (λ x. truth (the_truth (slice_get (nodes (g.W.World.listing l.world)) l.node)) (g.W.World.meaning l.world) (x ∷ (bound_list l.bound))) ≡ true

abbrev pub invariant-for_some-loop-object : goal.invariant-for_some-loop-object
invariant-for_some-loop-object g l = any_below l.object (λ x. truth (the_truth (slice_get (nodes (g.W.World.listing l.world)) l.node)) (g.W.World.meaning l.world) (x ∷ (bound_list l.bound))) ≡ false

abbrev pub invariant-eq_set_value-loop-place : goal.invariant-eq_set_value-loop-place
invariant-eq_set_value-loop-place g l = (x : ℕ) → x < l.place → agree (set_value (the_set (slice_get (nodes (g.W.World.listing l.world)) l.a)) (g.W.World.meaning l.world) (bound_list l.bound) x) (set_value (the_set (slice_get (nodes (g.W.World.listing l.world)) l.b)) (g.W.World.meaning l.world) (bound_list l.bound) x) ≡ true

abbrev pub invariant-subset_value-loop-place : goal.invariant-subset_value-loop-place
invariant-subset_value-loop-place g l = (x : ℕ) → x < l.place → (not (set_value (the_set (slice_get (nodes (g.W.World.listing l.world)) l.a)) (g.W.World.meaning l.world) (bound_list l.bound) x) || set_value (the_set (slice_get (nodes (g.W.World.listing l.world)) l.b)) (g.W.World.meaning l.world) (bound_list l.bound) x) ≡ true

abbrev pub invariant-members-loop-object : goal.invariant-members-loop-object
invariant-members-loop-object g l = record {
  counted : l.count ≡ count_below l.object (set_value (the_set (slice_get (nodes (g.W.World.listing l.world)) l.node)) (g.W.World.meaning l.world) (bound_list l.bound));
  few : l.count ≤ l.object;
}
