-- Written by tools/value.py.
use Rattle.std.proofs.Common.{◌≡◌, ◌+◌, ◌*◌, drop}
use Rattle.jh_arena.specs.table.Entries.{fields_at}
use Rattle.jh_arena.specs.table.Nodes.{nodes}
use Rattle.jh_arena.proofs.of_jh_boxed.Rows.{before}
use Rattle.jh_export.proofs.making.+made.Given as goal

-- a node's value, its formula or term, its shape and its list of fields are made in this order, and its
-- parts have smaller numbers
abbrev pub decreases-make_term : goal.decreases-make_term
decreases-make_term l = 6 * l.node + 2

abbrev pub decreases-make_int : goal.decreases-make_int
decreases-make_int l = 6 * l.node + 2

abbrev pub decreases-make_set : goal.decreases-make_set
decreases-make_set l = 6 * l.node + 2

abbrev pub decreases-make_field : goal.decreases-make_field
decreases-make_field l = 6 * l.node + 2

abbrev pub decreases-formula_box : goal.decreases-formula_box
decreases-formula_box l = 6 * l.node + 2

abbrev pub decreases-value_box : goal.decreases-value_box
decreases-value_box l = 6 * l.node + 4

abbrev pub decreases-object_value : goal.decreases-object_value
decreases-object_value l = 6 * l.node + 3

abbrev pub decreases-number_value : goal.decreases-number_value
decreases-number_value l = 6 * l.node + 3

abbrev pub decreases-set_value : goal.decreases-set_value
decreases-set_value l = 6 * l.node + 3

abbrev pub decreases-field_value : goal.decreases-field_value
decreases-field_value l = 6 * l.node + 3

abbrev pub decreases-truth_value : goal.decreases-truth_value
decreases-truth_value l = 6 * l.node + 3

abbrev pub decreases-make_read_object : goal.decreases-make_read_object
decreases-make_read_object l = 6 * l.node + 1

abbrev pub decreases-make_read_number : goal.decreases-make_read_number
decreases-make_read_number l = 6 * l.node + 1

abbrev pub decreases-make_add : goal.decreases-make_add
decreases-make_add l = 6 * l.node + 1

abbrev pub decreases-make_sub : goal.decreases-make_sub
decreases-make_sub l = 6 * l.node + 1

abbrev pub decreases-make_neg : goal.decreases-make_neg
decreases-make_neg l = 6 * l.node + 1

abbrev pub decreases-make_scale : goal.decreases-make_scale
decreases-make_scale l = 6 * l.node + 1

abbrev pub decreases-make_card : goal.decreases-make_card
decreases-make_card l = 6 * l.node + 1

abbrev pub decreases-make_read_set : goal.decreases-make_read_set
decreases-make_read_set l = 6 * l.node + 1

abbrev pub decreases-make_single : goal.decreases-make_single
decreases-make_single l = 6 * l.node + 1

abbrev pub decreases-make_union : goal.decreases-make_union
decreases-make_union l = 6 * l.node + 1

abbrev pub decreases-make_inter : goal.decreases-make_inter
decreases-make_inter l = 6 * l.node + 1

abbrev pub decreases-make_diff : goal.decreases-make_diff
decreases-make_diff l = 6 * l.node + 1

abbrev pub decreases-make_compl : goal.decreases-make_compl
decreases-make_compl l = 6 * l.node + 1

abbrev pub decreases-make_compr : goal.decreases-make_compr
decreases-make_compr l = 6 * l.node + 1

abbrev pub decreases-make_update : goal.decreases-make_update
decreases-make_update l = 6 * l.node + 1

abbrev pub decreases-make_read_truth : goal.decreases-make_read_truth
decreases-make_read_truth l = 6 * l.node + 1

abbrev pub decreases-make_negation : goal.decreases-make_negation
decreases-make_negation l = 6 * l.node + 1

abbrev pub decreases-make_and : goal.decreases-make_and
decreases-make_and l = 6 * l.node + 1

abbrev pub decreases-make_or : goal.decreases-make_or
decreases-make_or l = 6 * l.node + 1

abbrev pub decreases-make_implies : goal.decreases-make_implies
decreases-make_implies l = 6 * l.node + 1

abbrev pub decreases-make_iff : goal.decreases-make_iff
decreases-make_iff l = 6 * l.node + 1

abbrev pub decreases-make_all : goal.decreases-make_all
decreases-make_all l = 6 * l.node + 1

abbrev pub decreases-make_ex : goal.decreases-make_ex
decreases-make_ex l = 6 * l.node + 1

abbrev pub decreases-make_eq_object : goal.decreases-make_eq_object
decreases-make_eq_object l = 6 * l.node + 1

abbrev pub decreases-make_eq_number : goal.decreases-make_eq_number
decreases-make_eq_number l = 6 * l.node + 1

abbrev pub decreases-make_eq_set : goal.decreases-make_eq_set
decreases-make_eq_set l = 6 * l.node + 1

abbrev pub decreases-make_less : goal.decreases-make_less
decreases-make_less l = 6 * l.node + 1

abbrev pub decreases-make_less_equal : goal.decreases-make_less_equal
decreases-make_less_equal l = 6 * l.node + 1

abbrev pub decreases-make_divides : goal.decreases-make_divides
decreases-make_divides l = 6 * l.node + 1

abbrev pub decreases-make_member : goal.decreases-make_member
decreases-make_member l = 6 * l.node + 1

abbrev pub decreases-make_subset : goal.decreases-make_subset
decreases-make_subset l = 6 * l.node + 1

abbrev pub decreases-make_reach : goal.decreases-make_reach
decreases-make_reach l = 6 * l.node + 1

abbrev pub decreases-make_tree : goal.decreases-make_tree
decreases-make_tree l = 6 * l.node + 1

abbrev pub decreases-make_mark : goal.decreases-make_mark
decreases-make_mark l = 6 * l.node + 1

abbrev pub decreases-make_fields : goal.decreases-make_fields
decreases-make_fields l = 6 * l.node

abbrev pub decreases-term_box : goal.decreases-term_box
decreases-term_box l = 6 * l.node + 3

abbrev pub decreases-int_box : goal.decreases-int_box
decreases-int_box l = 6 * l.node + 3

abbrev pub decreases-set_box : goal.decreases-set_box
decreases-set_box l = 6 * l.node + 3

abbrev pub decreases-field_box : goal.decreases-field_box
decreases-field_box l = 6 * l.node + 3

-- the fields made so far, with those that are left, are all
abbrev pub invariant-make_fields-loop-field : goal.invariant-make_fields-loop-field
invariant-make_fields-loop-field l = fields_at (nodes l.table) l.fields ≡ before l.made.items (fields_at (nodes l.table) (drop l.field-index l.fields))
