-- Truth values worked by hand, in a universe of the objects 0 to 3 where null is 0.
use Rattle.std.proofs.Common.{◌≡◌, refl, ℕ, ◌==◌, if◌then◌else◌, Bool, true, false, [], pos, negsuc}
use Rattle.jh_name.specs.declared.naming.Name.{Name}
use Rattle.jh_form.specs.Tree.{TermTree, IntTree, SetTree, FieldTree, ValueTree, FormulaTree, FieldTrees}
use Rattle.jh_form.specs.Tree as t
use Rattle.jh_form.specs.Meaning.{Fields, Interp, truth}

-- names without text, told apart by their turns
abbrev named : ℕ → Name
named k = record { text = []; turn = k }

-- the objects that a field gives at 1, 2 and 3; null gives null
abbrev edges : ℕ → ℕ → ℕ → Fields
edges a b c = record {
  objects = λ x. if x == 1 then a else (if x == 2 then b else (if x == 3 then c else 0));
  numbers = λ x. pos x;
  truths = λ x. x == 2;
  sets = λ x y. y == x;
}

-- 1: a chain 1, 2, 3. 2: a cycle of 1 and 2. 3: 1 and 2 share 3. 4: left, 1 to 2. 5: right, 1 to 3. 6: 2 to 3. 7: 2 to 1. 8: all null.
abbrev m : Interp
m = record {
  last = 3;
  object = λ x. x.turn;
  number = λ x. pos x.turn;
  truth = λ x. x.turn == 1;
  set = λ x y. y == x.turn;
  field = λ x. if x.turn == 1 then edges 2 3 0 else (if x.turn == 2 then edges 2 1 0 else (if x.turn == 3 then edges 3 3 0 else (if x.turn == 4 then edges 2 0 0
      else (if x.turn == 5 then edges 3 0 0 else (if x.turn == 6 then edges 0 3 0 else (if x.turn == 7 then edges 0 1 0 else edges 0 0 0))))));
}

abbrev object : ℕ → TermTree
object k = t.free_object (named k)

abbrev field : ℕ → FieldTree
field k = t.free_field (named k)

abbrev one : ℕ → FieldTrees
one f = t.more (field f) t.none

abbrev two : ℕ → ℕ → FieldTrees
two f g = t.more (field f) (one g)

abbrev three : ℕ → ℕ → ℕ → FieldTrees
three f g h = t.more (field f) (two g h)

abbrev IsSo : FormulaTree → Bool → Type 0
IsSo a b = truth a m [] ≡ b

reach_along_a_chain : IsSo (t.reach (one 1) (object 1) (object 3)) true
reach_along_a_chain = refl

reach_in_no_step : IsSo (t.reach (one 8) (object 2) (object 2)) true
reach_in_no_step = refl

reach_null_in_three_steps : IsSo (t.reach (one 1) (object 1) t.null) true
reach_null_in_three_steps = refl

reach_not_backwards : IsSo (t.reach (one 1) (object 3) (object 1)) false
reach_not_backwards = refl

reach_round_a_cycle : IsSo (t.reach (one 2) (object 2) (object 1)) true
reach_round_a_cycle = refl

reach_one_field_is_not_enough : IsSo (t.reach (one 4) (object 1) (object 3)) false
reach_one_field_is_not_enough = refl

reach_by_two_fields : IsSo (t.reach (two 4 6) (object 1) (object 3)) true
reach_by_two_fields = refl

reach_by_the_second_field : IsSo (t.reach (two 4 5) (object 1) (object 3)) true
reach_by_the_second_field = refl

reach_by_three_fields : IsSo (t.reach (three 8 4 6) (object 1) (object 3)) true
reach_by_three_fields = refl

reach_by_no_field : IsSo (t.reach t.none (object 1) (object 2)) false
reach_by_no_field = refl

reach_itself_by_no_field : IsSo (t.reach t.none (object 1) (object 1)) true
reach_itself_by_no_field = refl

a_chain_is_a_tree : IsSo (t.tree (one 1)) true
a_chain_is_a_tree = refl

a_cycle_is_no_tree : IsSo (t.tree (one 2)) false
a_cycle_is_no_tree = refl

sharing_is_no_tree : IsSo (t.tree (one 3)) false
sharing_is_no_tree = refl

null_may_be_shared : IsSo (t.tree (two 8 8)) true
null_may_be_shared = refl

left_and_right_are_a_tree : IsSo (t.tree (two 4 5)) true
left_and_right_are_a_tree = refl

one_object_with_two_edges_to_one_is_no_tree : IsSo (t.tree (two 4 4)) false
one_object_with_two_edges_to_one_is_no_tree = refl

two_fields_may_share_between_them : IsSo (t.tree (two 5 6)) false
two_fields_may_share_between_them = refl

two_fields_may_close_a_cycle : IsSo (t.tree (two 4 7)) false
two_fields_may_close_a_cycle = refl

three_fields_share : IsSo (t.tree (three 4 5 6)) false
three_fields_share = refl

three_fields_are_a_tree : IsSo (t.tree (three 4 5 8)) true
three_fields_are_a_tree = refl

no_field_is_a_tree : IsSo (t.tree t.none) true
no_field_is_a_tree = refl

every_object_is_itself : IsSo (t.all (t.eq_object (t.bound 0) (t.bound 0))) true
every_object_is_itself = refl

not_all_objects_are_one : IsSo (t.all (t.all (t.eq_object (t.bound 0) (t.bound 1)))) false
not_all_objects_are_one = refl

some_object_for_each : IsSo (t.all (t.ex (t.eq_object (t.bound 0) (t.bound 1)))) true
some_object_for_each = refl

no_object_for_all : IsSo (t.ex (t.all (t.eq_object (t.bound 0) (t.bound 1)))) false
no_object_for_all = refl

the_greatest_object_counts : IsSo (t.ex (t.eq_object (t.bound 0) (object 3))) true
the_greatest_object_counts = refl

no_object_beyond : IsSo (t.ex (t.eq_object (t.bound 0) (object 4))) false
no_object_beyond = refl

the_universe_has_four : IsSo (t.eq_number (t.card t.univ) (t.const (pos 4))) true
the_universe_has_four = refl

a_member_counts_once : IsSo (t.eq_number (t.card (t.union (t.single (object 1)) (t.single (object 1)))) (t.const (pos 1))) true
a_member_counts_once = refl

a_comprehension_under_a_binder : IsSo (t.all (t.eq_set (t.compr (t.eq_object (t.bound 0) (t.bound 1))) (t.single (t.bound 0)))) true
a_comprehension_under_a_binder = refl

a_difference : IsSo (t.eq_number (t.card (t.diff t.univ (t.single t.null))) (t.const (pos 3))) true
a_difference = refl

a_complement : IsSo (t.member (object 2) (t.compl (t.single (object 1)))) true
a_complement = refl

an_intersection_is_empty : IsSo (t.eq_set (t.inter (t.single (object 1)) (t.single (object 2))) t.empty) true
an_intersection_is_empty = refl

a_subset : IsSo (t.subset (t.single (object 1)) (t.single (object 2))) false
a_subset = refl

an_update_at_its_object : IsSo (t.eq_object (t.read_object (t.update (field 1) (object 1) (t.of_object (object 3))) (object 1)) (object 3)) true
an_update_at_its_object = refl

an_update_elsewhere : IsSo (t.eq_object (t.read_object (t.update (field 1) (object 1) (t.of_object (object 3))) (object 2)) (object 3)) true
an_update_elsewhere = refl

an_update_leaves_the_rest : IsSo (t.eq_object (t.read_object (t.update (field 1) (object 2) (t.of_object (object 1))) (object 1)) (object 2)) true
an_update_leaves_the_rest = refl

an_update_at_another_kind : IsSo (t.eq_object (t.read_object (t.update (field 1) (object 1) (t.of_number (t.const (pos 7)))) (object 1)) (object 2)) true
an_update_at_another_kind = refl

an_update_of_numbers : IsSo (t.eq_number (t.read_number (t.update (field 1) (object 1) (t.of_number (t.const (pos 7)))) (object 1)) (t.const (pos 7))) true
an_update_of_numbers = refl

an_update_of_truths : IsSo (t.read_truth (t.update (field 1) (object 1) (t.of_truth t.true_formula)) (object 1)) true
an_update_of_truths = refl

an_update_of_sets : IsSo (t.member (object 3) (t.read_set (t.update (field 1) (object 1) (t.of_set (t.single (object 3)))) (object 1))) true
an_update_of_sets = refl

an_update_by_a_field_changes_nothing : IsSo (t.eq_object (t.read_object (t.update (field 1) (object 1) (t.of_field (field 8))) (object 1)) (object 2)) true
an_update_by_a_field_changes_nothing = refl

three_divides_minus_six : IsSo (t.divides (pos 3) (t.const (negsuc 5))) true
three_divides_minus_six = refl

minus_two_divides_four : IsSo (t.divides (negsuc 1) (t.const (pos 4))) true
minus_two_divides_four = refl

four_does_not_divide_six : IsSo (t.divides (pos 4) (t.const (pos 6))) false
four_does_not_divide_six = refl

nought_divides_nought : IsSo (t.divides (pos 0) (t.const (pos 0))) true
nought_divides_nought = refl

nought_divides_no_other : IsSo (t.divides (pos 0) (t.const (pos 5))) false
nought_divides_no_other = refl

minus_one_is_less_than_nought : IsSo (t.less (t.const (negsuc 0)) (t.const (pos 0))) true
minus_one_is_less_than_nought = refl

sums_are_exact : IsSo (t.eq_number (t.sub (t.add (t.const (pos 9223372036854775807)) (t.const (pos 9223372036854775807))) (t.const (pos 9223372036854775807))) (t.const (pos 9223372036854775807))) true
sums_are_exact = refl

a_scaled_number : IsSo (t.eq_number (t.scale (negsuc 1) (t.const (pos 3))) (t.neg (t.const (pos 6)))) true
a_scaled_number = refl

iff_of_two_falsehoods : IsSo (t.iff t.false_formula (t.free_truth (named 2))) true
iff_of_two_falsehoods = refl

an_implication : IsSo (t.implies t.true_formula (t.free_truth (named 2))) false
an_implication = refl
