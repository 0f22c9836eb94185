-- Written by tools/compare.py.
-- Comparing past labels is comparing the trees without labels.
use Rattle.std.proofs.Common.{◌≡◌, refl, ap, ◌∙◌, ℕ, ℤ, Bool, true, false, ◌&&◌, nat_eq}
use Rattle.std.specs.Ordering.{int_eq}
use Rattle.jh_boxed.specs.jh_name.declared.naming.Name.{Name}
use Rattle.jh_form.specs.declared.mark.Mark.{Mark}
use Rattle.jh_form.specs.Tree.{TermTree, IntTree, SetTree, FieldTree, ValueTree, FormulaTree, FieldTrees}
use Rattle.jh_form.specs.Tree as t
use Rattle.jh_form.specs.Passing.{name_equal}
use Rattle.jh_form.specs.declared.form.Formula.{Formula}
use Rattle.jh_form.specs.declared.form.Formula.TheVariants as formula
use Rattle.std.specs.declared.boxed.Box.{Box}
use Rattle.std.specs.declared.alloc.Global.{Global}
use Rattle.jh_form.specs.Bare.{formula_tree}
use Rattle.jh_boxed_operations.specs.comparison.Compared.{bound_with, free_object_with, null_with, read_object_with, const_with, free_number_with, read_number_with, add_with, sub_with, neg_with, scale_with, card_with, free_set_with, read_set_with, empty_with, univ_with, single_with, union_with, inter_with, diff_with, compl_with, compr_with, free_field_with, update_with, of_object_with, of_number_with, of_truth_with, of_set_with, of_field_with, true_formula_with, false_formula_with, free_truth_with, read_truth_with, negation_with, and_with, or_with, implies_with, iff_with, all_with, ex_with, eq_object_with, eq_number_with, eq_set_with, less_with, less_equal_with, divides_with, member_with, subset_with, reach_with, tree_with, none_with, more_with, related_term, related_int, related_set, related_field, related_value, related_formula, related_fields, past}
use Rattle.jh_boxed_operations.specs.comparison.Exchanged.{nothing}
use Rattle.jh_boxed_operations.specs.comparison.Unmarked.{unmarked_term, unmarked_int, unmarked_set, unmarked_field, unmarked_value, unmarked_formula, unmarked_fields}

pub past-mark : (k : Mark) (a : FormulaTree) → past (t.mark k a) ≡ past a
unfolding past
past-mark k a = refl

pub past-else : (r : Formula) → ((k : Mark) (a : Box Formula Global) → r ≡ formula.Mark k a → ⊥) → past (formula_tree r) ≡ formula_tree r
unfolding past formula_tree
past-else formula.True n = refl
past-else formula.False n = refl
past-else (formula.Free x) n = refl
past-else (formula.Read' i a j b) n = refl
past-else (formula.Not' i a) n = refl
past-else (formula.And' i a j b) n = refl
past-else (formula.Or' i a j b) n = refl
past-else (formula.Implies' i a j b) n = refl
past-else (formula.Iff' i a j b) n = refl
past-else (formula.All' i a) n = refl
past-else (formula.Ex' i a) n = refl
past-else (formula.EqObj a b) n = refl
past-else (formula.EqInt a b) n = refl
past-else (formula.EqSet a b) n = refl
past-else (formula.Less a b) n = refl
past-else (formula.LessEq a b) n = refl
past-else (formula.Divides z a) n = refl
past-else (formula.Member a b) n = refl
past-else (formula.Subset a b) n = refl
past-else (formula.Reach' shape fs a b) n = refl
past-else (formula.Tree' shape fs) n = refl
past-else (formula.Mark' k i a) n = absurd (n k (record { ptr = i.ptr; alloc = i.alloc; value = a }) refl)

pub ruleset past_steps = (past-mark, past-else)

bound_with-unmarked : (q r : ℕ → Bool) → ((k : ℕ) → q k ≡ r k) → (s : TermTree) → bound_with q s ≡ bound_with r (unmarked_term s)
unfolding bound_with unmarked_term past
bound_with-unmarked q r h (t.bound k) = h k
bound_with-unmarked q r h (t.free_object x) = refl
bound_with-unmarked q r h t.null = refl
bound_with-unmarked q r h (t.read_object a b) = refl

free_object_with-unmarked : (q r : Name → Bool) → ((x : Name) → q x ≡ r x) → (s : TermTree) → free_object_with q s ≡ free_object_with r (unmarked_term s)
unfolding free_object_with unmarked_term past
free_object_with-unmarked q r h (t.free_object x) = h x
free_object_with-unmarked q r h (t.bound k) = refl
free_object_with-unmarked q r h t.null = refl
free_object_with-unmarked q r h (t.read_object a b) = refl

null_with-unmarked : (s : TermTree) → null_with s ≡ null_with (unmarked_term s)
unfolding null_with unmarked_term past
null_with-unmarked (t.bound k) = refl
null_with-unmarked (t.free_object x) = refl
null_with-unmarked t.null = refl
null_with-unmarked (t.read_object a b) = refl

read_object_with-unmarked : (q r : FieldTree → TermTree → Bool) → ((a : FieldTree) (b : TermTree) → q a b ≡ r (unmarked_field a) (unmarked_term b)) → (s : TermTree) → read_object_with q s ≡ read_object_with r (unmarked_term s)
unfolding read_object_with unmarked_term past
read_object_with-unmarked q r h (t.read_object a b) = h a b
read_object_with-unmarked q r h (t.bound k) = refl
read_object_with-unmarked q r h (t.free_object x) = refl
read_object_with-unmarked q r h t.null = refl

const_with-unmarked : (q r : ℤ → Bool) → ((z : ℤ) → q z ≡ r z) → (s : IntTree) → const_with q s ≡ const_with r (unmarked_int s)
unfolding const_with unmarked_int past
const_with-unmarked q r h (t.const z) = h z
const_with-unmarked q r h (t.free_number x) = refl
const_with-unmarked q r h (t.read_number a b) = refl
const_with-unmarked q r h (t.add a b) = refl
const_with-unmarked q r h (t.sub a b) = refl
const_with-unmarked q r h (t.neg a) = refl
const_with-unmarked q r h (t.scale z a) = refl
const_with-unmarked q r h (t.card a) = refl

free_number_with-unmarked : (q r : Name → Bool) → ((x : Name) → q x ≡ r x) → (s : IntTree) → free_number_with q s ≡ free_number_with r (unmarked_int s)
unfolding free_number_with unmarked_int past
free_number_with-unmarked q r h (t.free_number x) = h x
free_number_with-unmarked q r h (t.const z) = refl
free_number_with-unmarked q r h (t.read_number a b) = refl
free_number_with-unmarked q r h (t.add a b) = refl
free_number_with-unmarked q r h (t.sub a b) = refl
free_number_with-unmarked q r h (t.neg a) = refl
free_number_with-unmarked q r h (t.scale z a) = refl
free_number_with-unmarked q r h (t.card a) = refl

read_number_with-unmarked : (q r : FieldTree → TermTree → Bool) → ((a : FieldTree) (b : TermTree) → q a b ≡ r (unmarked_field a) (unmarked_term b)) → (s : IntTree) → read_number_with q s ≡ read_number_with r (unmarked_int s)
unfolding read_number_with unmarked_int past
read_number_with-unmarked q r h (t.read_number a b) = h a b
read_number_with-unmarked q r h (t.const z) = refl
read_number_with-unmarked q r h (t.free_number x) = refl
read_number_with-unmarked q r h (t.add a b) = refl
read_number_with-unmarked q r h (t.sub a b) = refl
read_number_with-unmarked q r h (t.neg a) = refl
read_number_with-unmarked q r h (t.scale z a) = refl
read_number_with-unmarked q r h (t.card a) = refl

add_with-unmarked : (q r : IntTree → IntTree → Bool) → ((a : IntTree) (b : IntTree) → q a b ≡ r (unmarked_int a) (unmarked_int b)) → (s : IntTree) → add_with q s ≡ add_with r (unmarked_int s)
unfolding add_with unmarked_int past
add_with-unmarked q r h (t.add a b) = h a b
add_with-unmarked q r h (t.const z) = refl
add_with-unmarked q r h (t.free_number x) = refl
add_with-unmarked q r h (t.read_number a b) = refl
add_with-unmarked q r h (t.sub a b) = refl
add_with-unmarked q r h (t.neg a) = refl
add_with-unmarked q r h (t.scale z a) = refl
add_with-unmarked q r h (t.card a) = refl

sub_with-unmarked : (q r : IntTree → IntTree → Bool) → ((a : IntTree) (b : IntTree) → q a b ≡ r (unmarked_int a) (unmarked_int b)) → (s : IntTree) → sub_with q s ≡ sub_with r (unmarked_int s)
unfolding sub_with unmarked_int past
sub_with-unmarked q r h (t.sub a b) = h a b
sub_with-unmarked q r h (t.const z) = refl
sub_with-unmarked q r h (t.free_number x) = refl
sub_with-unmarked q r h (t.read_number a b) = refl
sub_with-unmarked q r h (t.add a b) = refl
sub_with-unmarked q r h (t.neg a) = refl
sub_with-unmarked q r h (t.scale z a) = refl
sub_with-unmarked q r h (t.card a) = refl

neg_with-unmarked : (q r : IntTree → Bool) → ((a : IntTree) → q a ≡ r (unmarked_int a)) → (s : IntTree) → neg_with q s ≡ neg_with r (unmarked_int s)
unfolding neg_with unmarked_int past
neg_with-unmarked q r h (t.neg a) = h a
neg_with-unmarked q r h (t.const z) = refl
neg_with-unmarked q r h (t.free_number x) = refl
neg_with-unmarked q r h (t.read_number a b) = refl
neg_with-unmarked q r h (t.add a b) = refl
neg_with-unmarked q r h (t.sub a b) = refl
neg_with-unmarked q r h (t.scale z a) = refl
neg_with-unmarked q r h (t.card a) = refl

scale_with-unmarked : (q r : ℤ → IntTree → Bool) → ((z : ℤ) (a : IntTree) → q z a ≡ r z (unmarked_int a)) → (s : IntTree) → scale_with q s ≡ scale_with r (unmarked_int s)
unfolding scale_with unmarked_int past
scale_with-unmarked q r h (t.scale z a) = h z a
scale_with-unmarked q r h (t.const z) = refl
scale_with-unmarked q r h (t.free_number x) = refl
scale_with-unmarked q r h (t.read_number a b) = refl
scale_with-unmarked q r h (t.add a b) = refl
scale_with-unmarked q r h (t.sub a b) = refl
scale_with-unmarked q r h (t.neg a) = refl
scale_with-unmarked q r h (t.card a) = refl

card_with-unmarked : (q r : SetTree → Bool) → ((a : SetTree) → q a ≡ r (unmarked_set a)) → (s : IntTree) → card_with q s ≡ card_with r (unmarked_int s)
unfolding card_with unmarked_int past
card_with-unmarked q r h (t.card a) = h a
card_with-unmarked q r h (t.const z) = refl
card_with-unmarked q r h (t.free_number x) = refl
card_with-unmarked q r h (t.read_number a b) = refl
card_with-unmarked q r h (t.add a b) = refl
card_with-unmarked q r h (t.sub a b) = refl
card_with-unmarked q r h (t.neg a) = refl
card_with-unmarked q r h (t.scale z a) = refl

free_set_with-unmarked : (q r : Name → Bool) → ((x : Name) → q x ≡ r x) → (s : SetTree) → free_set_with q s ≡ free_set_with r (unmarked_set s)
unfolding free_set_with unmarked_set past
free_set_with-unmarked q r h (t.free_set x) = h x
free_set_with-unmarked q r h (t.read_set a b) = refl
free_set_with-unmarked q r h t.empty = refl
free_set_with-unmarked q r h t.univ = refl
free_set_with-unmarked q r h (t.single a) = refl
free_set_with-unmarked q r h (t.union a b) = refl
free_set_with-unmarked q r h (t.inter a b) = refl
free_set_with-unmarked q r h (t.diff a b) = refl
free_set_with-unmarked q r h (t.compl a) = refl
free_set_with-unmarked q r h (t.compr a) = refl

read_set_with-unmarked : (q r : FieldTree → TermTree → Bool) → ((a : FieldTree) (b : TermTree) → q a b ≡ r (unmarked_field a) (unmarked_term b)) → (s : SetTree) → read_set_with q s ≡ read_set_with r (unmarked_set s)
unfolding read_set_with unmarked_set past
read_set_with-unmarked q r h (t.read_set a b) = h a b
read_set_with-unmarked q r h (t.free_set x) = refl
read_set_with-unmarked q r h t.empty = refl
read_set_with-unmarked q r h t.univ = refl
read_set_with-unmarked q r h (t.single a) = refl
read_set_with-unmarked q r h (t.union a b) = refl
read_set_with-unmarked q r h (t.inter a b) = refl
read_set_with-unmarked q r h (t.diff a b) = refl
read_set_with-unmarked q r h (t.compl a) = refl
read_set_with-unmarked q r h (t.compr a) = refl

empty_with-unmarked : (s : SetTree) → empty_with s ≡ empty_with (unmarked_set s)
unfolding empty_with unmarked_set past
empty_with-unmarked (t.free_set x) = refl
empty_with-unmarked (t.read_set a b) = refl
empty_with-unmarked t.empty = refl
empty_with-unmarked t.univ = refl
empty_with-unmarked (t.single a) = refl
empty_with-unmarked (t.union a b) = refl
empty_with-unmarked (t.inter a b) = refl
empty_with-unmarked (t.diff a b) = refl
empty_with-unmarked (t.compl a) = refl
empty_with-unmarked (t.compr a) = refl

univ_with-unmarked : (s : SetTree) → univ_with s ≡ univ_with (unmarked_set s)
unfolding univ_with unmarked_set past
univ_with-unmarked (t.free_set x) = refl
univ_with-unmarked (t.read_set a b) = refl
univ_with-unmarked t.empty = refl
univ_with-unmarked t.univ = refl
univ_with-unmarked (t.single a) = refl
univ_with-unmarked (t.union a b) = refl
univ_with-unmarked (t.inter a b) = refl
univ_with-unmarked (t.diff a b) = refl
univ_with-unmarked (t.compl a) = refl
univ_with-unmarked (t.compr a) = refl

single_with-unmarked : (q r : TermTree → Bool) → ((a : TermTree) → q a ≡ r (unmarked_term a)) → (s : SetTree) → single_with q s ≡ single_with r (unmarked_set s)
unfolding single_with unmarked_set past
single_with-unmarked q r h (t.single a) = h a
single_with-unmarked q r h (t.free_set x) = refl
single_with-unmarked q r h (t.read_set a b) = refl
single_with-unmarked q r h t.empty = refl
single_with-unmarked q r h t.univ = refl
single_with-unmarked q r h (t.union a b) = refl
single_with-unmarked q r h (t.inter a b) = refl
single_with-unmarked q r h (t.diff a b) = refl
single_with-unmarked q r h (t.compl a) = refl
single_with-unmarked q r h (t.compr a) = refl

union_with-unmarked : (q r : SetTree → SetTree → Bool) → ((a : SetTree) (b : SetTree) → q a b ≡ r (unmarked_set a) (unmarked_set b)) → (s : SetTree) → union_with q s ≡ union_with r (unmarked_set s)
unfolding union_with unmarked_set past
union_with-unmarked q r h (t.union a b) = h a b
union_with-unmarked q r h (t.free_set x) = refl
union_with-unmarked q r h (t.read_set a b) = refl
union_with-unmarked q r h t.empty = refl
union_with-unmarked q r h t.univ = refl
union_with-unmarked q r h (t.single a) = refl
union_with-unmarked q r h (t.inter a b) = refl
union_with-unmarked q r h (t.diff a b) = refl
union_with-unmarked q r h (t.compl a) = refl
union_with-unmarked q r h (t.compr a) = refl

inter_with-unmarked : (q r : SetTree → SetTree → Bool) → ((a : SetTree) (b : SetTree) → q a b ≡ r (unmarked_set a) (unmarked_set b)) → (s : SetTree) → inter_with q s ≡ inter_with r (unmarked_set s)
unfolding inter_with unmarked_set past
inter_with-unmarked q r h (t.inter a b) = h a b
inter_with-unmarked q r h (t.free_set x) = refl
inter_with-unmarked q r h (t.read_set a b) = refl
inter_with-unmarked q r h t.empty = refl
inter_with-unmarked q r h t.univ = refl
inter_with-unmarked q r h (t.single a) = refl
inter_with-unmarked q r h (t.union a b) = refl
inter_with-unmarked q r h (t.diff a b) = refl
inter_with-unmarked q r h (t.compl a) = refl
inter_with-unmarked q r h (t.compr a) = refl

diff_with-unmarked : (q r : SetTree → SetTree → Bool) → ((a : SetTree) (b : SetTree) → q a b ≡ r (unmarked_set a) (unmarked_set b)) → (s : SetTree) → diff_with q s ≡ diff_with r (unmarked_set s)
unfolding diff_with unmarked_set past
diff_with-unmarked q r h (t.diff a b) = h a b
diff_with-unmarked q r h (t.free_set x) = refl
diff_with-unmarked q r h (t.read_set a b) = refl
diff_with-unmarked q r h t.empty = refl
diff_with-unmarked q r h t.univ = refl
diff_with-unmarked q r h (t.single a) = refl
diff_with-unmarked q r h (t.union a b) = refl
diff_with-unmarked q r h (t.inter a b) = refl
diff_with-unmarked q r h (t.compl a) = refl
diff_with-unmarked q r h (t.compr a) = refl

compl_with-unmarked : (q r : SetTree → Bool) → ((a : SetTree) → q a ≡ r (unmarked_set a)) → (s : SetTree) → compl_with q s ≡ compl_with r (unmarked_set s)
unfolding compl_with unmarked_set past
compl_with-unmarked q r h (t.compl a) = h a
compl_with-unmarked q r h (t.free_set x) = refl
compl_with-unmarked q r h (t.read_set a b) = refl
compl_with-unmarked q r h t.empty = refl
compl_with-unmarked q r h t.univ = refl
compl_with-unmarked q r h (t.single a) = refl
compl_with-unmarked q r h (t.union a b) = refl
compl_with-unmarked q r h (t.inter a b) = refl
compl_with-unmarked q r h (t.diff a b) = refl
compl_with-unmarked q r h (t.compr a) = refl

compr_with-unmarked : (q r : FormulaTree → Bool) → ((a : FormulaTree) → q a ≡ r (unmarked_formula a)) → (s : SetTree) → compr_with q s ≡ compr_with r (unmarked_set s)
unfolding compr_with unmarked_set past
compr_with-unmarked q r h (t.compr a) = h a
compr_with-unmarked q r h (t.free_set x) = refl
compr_with-unmarked q r h (t.read_set a b) = refl
compr_with-unmarked q r h t.empty = refl
compr_with-unmarked q r h t.univ = refl
compr_with-unmarked q r h (t.single a) = refl
compr_with-unmarked q r h (t.union a b) = refl
compr_with-unmarked q r h (t.inter a b) = refl
compr_with-unmarked q r h (t.diff a b) = refl
compr_with-unmarked q r h (t.compl a) = refl

free_field_with-unmarked : (q r : Name → Bool) → ((x : Name) → q x ≡ r x) → (s : FieldTree) → free_field_with q s ≡ free_field_with r (unmarked_field s)
unfolding free_field_with unmarked_field past
free_field_with-unmarked q r h (t.free_field x) = h x
free_field_with-unmarked q r h (t.update a b c) = refl

update_with-unmarked : (q r : FieldTree → TermTree → ValueTree → Bool) → ((a : FieldTree) (b : TermTree) (c : ValueTree) → q a b c ≡ r (unmarked_field a) (unmarked_term b) (unmarked_value c)) → (s : FieldTree) → update_with q s ≡ update_with r (unmarked_field s)
unfolding update_with unmarked_field past
update_with-unmarked q r h (t.update a b c) = h a b c
update_with-unmarked q r h (t.free_field x) = refl

of_object_with-unmarked : (q r : TermTree → Bool) → ((a : TermTree) → q a ≡ r (unmarked_term a)) → (s : ValueTree) → of_object_with q s ≡ of_object_with r (unmarked_value s)
unfolding of_object_with unmarked_value past
of_object_with-unmarked q r h (t.of_object a) = h a
of_object_with-unmarked q r h (t.of_number a) = refl
of_object_with-unmarked q r h (t.of_truth a) = refl
of_object_with-unmarked q r h (t.of_set a) = refl
of_object_with-unmarked q r h (t.of_field a) = refl

of_number_with-unmarked : (q r : IntTree → Bool) → ((a : IntTree) → q a ≡ r (unmarked_int a)) → (s : ValueTree) → of_number_with q s ≡ of_number_with r (unmarked_value s)
unfolding of_number_with unmarked_value past
of_number_with-unmarked q r h (t.of_number a) = h a
of_number_with-unmarked q r h (t.of_object a) = refl
of_number_with-unmarked q r h (t.of_truth a) = refl
of_number_with-unmarked q r h (t.of_set a) = refl
of_number_with-unmarked q r h (t.of_field a) = refl

of_truth_with-unmarked : (q r : FormulaTree → Bool) → ((a : FormulaTree) → q a ≡ r (unmarked_formula a)) → (s : ValueTree) → of_truth_with q s ≡ of_truth_with r (unmarked_value s)
unfolding of_truth_with unmarked_value past
of_truth_with-unmarked q r h (t.of_truth a) = h a
of_truth_with-unmarked q r h (t.of_object a) = refl
of_truth_with-unmarked q r h (t.of_number a) = refl
of_truth_with-unmarked q r h (t.of_set a) = refl
of_truth_with-unmarked q r h (t.of_field a) = refl

of_set_with-unmarked : (q r : SetTree → Bool) → ((a : SetTree) → q a ≡ r (unmarked_set a)) → (s : ValueTree) → of_set_with q s ≡ of_set_with r (unmarked_value s)
unfolding of_set_with unmarked_value past
of_set_with-unmarked q r h (t.of_set a) = h a
of_set_with-unmarked q r h (t.of_object a) = refl
of_set_with-unmarked q r h (t.of_number a) = refl
of_set_with-unmarked q r h (t.of_truth a) = refl
of_set_with-unmarked q r h (t.of_field a) = refl

of_field_with-unmarked : (q r : FieldTree → Bool) → ((a : FieldTree) → q a ≡ r (unmarked_field a)) → (s : ValueTree) → of_field_with q s ≡ of_field_with r (unmarked_value s)
unfolding of_field_with unmarked_value past
of_field_with-unmarked q r h (t.of_field a) = h a
of_field_with-unmarked q r h (t.of_object a) = refl
of_field_with-unmarked q r h (t.of_number a) = refl
of_field_with-unmarked q r h (t.of_truth a) = refl
of_field_with-unmarked q r h (t.of_set a) = refl

true_formula_with-unmarked : (s : FormulaTree) → true_formula_with (past s) ≡ true_formula_with (unmarked_formula s)
unfolding true_formula_with unmarked_formula past
true_formula_with-unmarked (t.mark k s) = true_formula_with-unmarked s
true_formula_with-unmarked t.true_formula = refl
true_formula_with-unmarked t.false_formula = refl
true_formula_with-unmarked (t.free_truth x) = refl
true_formula_with-unmarked (t.read_truth a b) = refl
true_formula_with-unmarked (t.negation a) = refl
true_formula_with-unmarked (t.and a b) = refl
true_formula_with-unmarked (t.or a b) = refl
true_formula_with-unmarked (t.implies a b) = refl
true_formula_with-unmarked (t.iff a b) = refl
true_formula_with-unmarked (t.all a) = refl
true_formula_with-unmarked (t.ex a) = refl
true_formula_with-unmarked (t.eq_object a b) = refl
true_formula_with-unmarked (t.eq_number a b) = refl
true_formula_with-unmarked (t.eq_set a b) = refl
true_formula_with-unmarked (t.less a b) = refl
true_formula_with-unmarked (t.less_equal a b) = refl
true_formula_with-unmarked (t.divides z a) = refl
true_formula_with-unmarked (t.member a b) = refl
true_formula_with-unmarked (t.subset a b) = refl
true_formula_with-unmarked (t.reach fs a b) = refl
true_formula_with-unmarked (t.tree fs) = refl

false_formula_with-unmarked : (s : FormulaTree) → false_formula_with (past s) ≡ false_formula_with (unmarked_formula s)
unfolding false_formula_with unmarked_formula past
false_formula_with-unmarked (t.mark k s) = false_formula_with-unmarked s
false_formula_with-unmarked t.true_formula = refl
false_formula_with-unmarked t.false_formula = refl
false_formula_with-unmarked (t.free_truth x) = refl
false_formula_with-unmarked (t.read_truth a b) = refl
false_formula_with-unmarked (t.negation a) = refl
false_formula_with-unmarked (t.and a b) = refl
false_formula_with-unmarked (t.or a b) = refl
false_formula_with-unmarked (t.implies a b) = refl
false_formula_with-unmarked (t.iff a b) = refl
false_formula_with-unmarked (t.all a) = refl
false_formula_with-unmarked (t.ex a) = refl
false_formula_with-unmarked (t.eq_object a b) = refl
false_formula_with-unmarked (t.eq_number a b) = refl
false_formula_with-unmarked (t.eq_set a b) = refl
false_formula_with-unmarked (t.less a b) = refl
false_formula_with-unmarked (t.less_equal a b) = refl
false_formula_with-unmarked (t.divides z a) = refl
false_formula_with-unmarked (t.member a b) = refl
false_formula_with-unmarked (t.subset a b) = refl
false_formula_with-unmarked (t.reach fs a b) = refl
false_formula_with-unmarked (t.tree fs) = refl

free_truth_with-unmarked : (q r : Name → Bool) → ((x : Name) → q x ≡ r x) → (s : FormulaTree) → free_truth_with q (past s) ≡ free_truth_with r (unmarked_formula s)
unfolding free_truth_with unmarked_formula past
free_truth_with-unmarked q r h (t.mark k s) = free_truth_with-unmarked q r h s
free_truth_with-unmarked q r h (t.free_truth x) = h x
free_truth_with-unmarked q r h t.true_formula = refl
free_truth_with-unmarked q r h t.false_formula = refl
free_truth_with-unmarked q r h (t.read_truth a b) = refl
free_truth_with-unmarked q r h (t.negation a) = refl
free_truth_with-unmarked q r h (t.and a b) = refl
free_truth_with-unmarked q r h (t.or a b) = refl
free_truth_with-unmarked q r h (t.implies a b) = refl
free_truth_with-unmarked q r h (t.iff a b) = refl
free_truth_with-unmarked q r h (t.all a) = refl
free_truth_with-unmarked q r h (t.ex a) = refl
free_truth_with-unmarked q r h (t.eq_object a b) = refl
free_truth_with-unmarked q r h (t.eq_number a b) = refl
free_truth_with-unmarked q r h (t.eq_set a b) = refl
free_truth_with-unmarked q r h (t.less a b) = refl
free_truth_with-unmarked q r h (t.less_equal a b) = refl
free_truth_with-unmarked q r h (t.divides z a) = refl
free_truth_with-unmarked q r h (t.member a b) = refl
free_truth_with-unmarked q r h (t.subset a b) = refl
free_truth_with-unmarked q r h (t.reach fs a b) = refl
free_truth_with-unmarked q r h (t.tree fs) = refl

read_truth_with-unmarked : (q r : FieldTree → TermTree → Bool) → ((a : FieldTree) (b : TermTree) → q a b ≡ r (unmarked_field a) (unmarked_term b)) → (s : FormulaTree) → read_truth_with q (past s) ≡ read_truth_with r (unmarked_formula s)
unfolding read_truth_with unmarked_formula past
read_truth_with-unmarked q r h (t.mark k s) = read_truth_with-unmarked q r h s
read_truth_with-unmarked q r h (t.read_truth a b) = h a b
read_truth_with-unmarked q r h t.true_formula = refl
read_truth_with-unmarked q r h t.false_formula = refl
read_truth_with-unmarked q r h (t.free_truth x) = refl
read_truth_with-unmarked q r h (t.negation a) = refl
read_truth_with-unmarked q r h (t.and a b) = refl
read_truth_with-unmarked q r h (t.or a b) = refl
read_truth_with-unmarked q r h (t.implies a b) = refl
read_truth_with-unmarked q r h (t.iff a b) = refl
read_truth_with-unmarked q r h (t.all a) = refl
read_truth_with-unmarked q r h (t.ex a) = refl
read_truth_with-unmarked q r h (t.eq_object a b) = refl
read_truth_with-unmarked q r h (t.eq_number a b) = refl
read_truth_with-unmarked q r h (t.eq_set a b) = refl
read_truth_with-unmarked q r h (t.less a b) = refl
read_truth_with-unmarked q r h (t.less_equal a b) = refl
read_truth_with-unmarked q r h (t.divides z a) = refl
read_truth_with-unmarked q r h (t.member a b) = refl
read_truth_with-unmarked q r h (t.subset a b) = refl
read_truth_with-unmarked q r h (t.reach fs a b) = refl
read_truth_with-unmarked q r h (t.tree fs) = refl

negation_with-unmarked : (q r : FormulaTree → Bool) → ((a : FormulaTree) → q a ≡ r (unmarked_formula a)) → (s : FormulaTree) → negation_with q (past s) ≡ negation_with r (unmarked_formula s)
unfolding negation_with unmarked_formula past
negation_with-unmarked q r h (t.mark k s) = negation_with-unmarked q r h s
negation_with-unmarked q r h (t.negation a) = h a
negation_with-unmarked q r h t.true_formula = refl
negation_with-unmarked q r h t.false_formula = refl
negation_with-unmarked q r h (t.free_truth x) = refl
negation_with-unmarked q r h (t.read_truth a b) = refl
negation_with-unmarked q r h (t.and a b) = refl
negation_with-unmarked q r h (t.or a b) = refl
negation_with-unmarked q r h (t.implies a b) = refl
negation_with-unmarked q r h (t.iff a b) = refl
negation_with-unmarked q r h (t.all a) = refl
negation_with-unmarked q r h (t.ex a) = refl
negation_with-unmarked q r h (t.eq_object a b) = refl
negation_with-unmarked q r h (t.eq_number a b) = refl
negation_with-unmarked q r h (t.eq_set a b) = refl
negation_with-unmarked q r h (t.less a b) = refl
negation_with-unmarked q r h (t.less_equal a b) = refl
negation_with-unmarked q r h (t.divides z a) = refl
negation_with-unmarked q r h (t.member a b) = refl
negation_with-unmarked q r h (t.subset a b) = refl
negation_with-unmarked q r h (t.reach fs a b) = refl
negation_with-unmarked q r h (t.tree fs) = refl

and_with-unmarked : (q r : FormulaTree → FormulaTree → Bool) → ((a : FormulaTree) (b : FormulaTree) → q a b ≡ r (unmarked_formula a) (unmarked_formula b)) → (s : FormulaTree) → and_with q (past s) ≡ and_with r (unmarked_formula s)
unfolding and_with unmarked_formula past
and_with-unmarked q r h (t.mark k s) = and_with-unmarked q r h s
and_with-unmarked q r h (t.and a b) = h a b
and_with-unmarked q r h t.true_formula = refl
and_with-unmarked q r h t.false_formula = refl
and_with-unmarked q r h (t.free_truth x) = refl
and_with-unmarked q r h (t.read_truth a b) = refl
and_with-unmarked q r h (t.negation a) = refl
and_with-unmarked q r h (t.or a b) = refl
and_with-unmarked q r h (t.implies a b) = refl
and_with-unmarked q r h (t.iff a b) = refl
and_with-unmarked q r h (t.all a) = refl
and_with-unmarked q r h (t.ex a) = refl
and_with-unmarked q r h (t.eq_object a b) = refl
and_with-unmarked q r h (t.eq_number a b) = refl
and_with-unmarked q r h (t.eq_set a b) = refl
and_with-unmarked q r h (t.less a b) = refl
and_with-unmarked q r h (t.less_equal a b) = refl
and_with-unmarked q r h (t.divides z a) = refl
and_with-unmarked q r h (t.member a b) = refl
and_with-unmarked q r h (t.subset a b) = refl
and_with-unmarked q r h (t.reach fs a b) = refl
and_with-unmarked q r h (t.tree fs) = refl

or_with-unmarked : (q r : FormulaTree → FormulaTree → Bool) → ((a : FormulaTree) (b : FormulaTree) → q a b ≡ r (unmarked_formula a) (unmarked_formula b)) → (s : FormulaTree) → or_with q (past s) ≡ or_with r (unmarked_formula s)
unfolding or_with unmarked_formula past
or_with-unmarked q r h (t.mark k s) = or_with-unmarked q r h s
or_with-unmarked q r h (t.or a b) = h a b
or_with-unmarked q r h t.true_formula = refl
or_with-unmarked q r h t.false_formula = refl
or_with-unmarked q r h (t.free_truth x) = refl
or_with-unmarked q r h (t.read_truth a b) = refl
or_with-unmarked q r h (t.negation a) = refl
or_with-unmarked q r h (t.and a b) = refl
or_with-unmarked q r h (t.implies a b) = refl
or_with-unmarked q r h (t.iff a b) = refl
or_with-unmarked q r h (t.all a) = refl
or_with-unmarked q r h (t.ex a) = refl
or_with-unmarked q r h (t.eq_object a b) = refl
or_with-unmarked q r h (t.eq_number a b) = refl
or_with-unmarked q r h (t.eq_set a b) = refl
or_with-unmarked q r h (t.less a b) = refl
or_with-unmarked q r h (t.less_equal a b) = refl
or_with-unmarked q r h (t.divides z a) = refl
or_with-unmarked q r h (t.member a b) = refl
or_with-unmarked q r h (t.subset a b) = refl
or_with-unmarked q r h (t.reach fs a b) = refl
or_with-unmarked q r h (t.tree fs) = refl

implies_with-unmarked : (q r : FormulaTree → FormulaTree → Bool) → ((a : FormulaTree) (b : FormulaTree) → q a b ≡ r (unmarked_formula a) (unmarked_formula b)) → (s : FormulaTree) → implies_with q (past s) ≡ implies_with r (unmarked_formula s)
unfolding implies_with unmarked_formula past
implies_with-unmarked q r h (t.mark k s) = implies_with-unmarked q r h s
implies_with-unmarked q r h (t.implies a b) = h a b
implies_with-unmarked q r h t.true_formula = refl
implies_with-unmarked q r h t.false_formula = refl
implies_with-unmarked q r h (t.free_truth x) = refl
implies_with-unmarked q r h (t.read_truth a b) = refl
implies_with-unmarked q r h (t.negation a) = refl
implies_with-unmarked q r h (t.and a b) = refl
implies_with-unmarked q r h (t.or a b) = refl
implies_with-unmarked q r h (t.iff a b) = refl
implies_with-unmarked q r h (t.all a) = refl
implies_with-unmarked q r h (t.ex a) = refl
implies_with-unmarked q r h (t.eq_object a b) = refl
implies_with-unmarked q r h (t.eq_number a b) = refl
implies_with-unmarked q r h (t.eq_set a b) = refl
implies_with-unmarked q r h (t.less a b) = refl
implies_with-unmarked q r h (t.less_equal a b) = refl
implies_with-unmarked q r h (t.divides z a) = refl
implies_with-unmarked q r h (t.member a b) = refl
implies_with-unmarked q r h (t.subset a b) = refl
implies_with-unmarked q r h (t.reach fs a b) = refl
implies_with-unmarked q r h (t.tree fs) = refl

iff_with-unmarked : (q r : FormulaTree → FormulaTree → Bool) → ((a : FormulaTree) (b : FormulaTree) → q a b ≡ r (unmarked_formula a) (unmarked_formula b)) → (s : FormulaTree) → iff_with q (past s) ≡ iff_with r (unmarked_formula s)
unfolding iff_with unmarked_formula past
iff_with-unmarked q r h (t.mark k s) = iff_with-unmarked q r h s
iff_with-unmarked q r h (t.iff a b) = h a b
iff_with-unmarked q r h t.true_formula = refl
iff_with-unmarked q r h t.false_formula = refl
iff_with-unmarked q r h (t.free_truth x) = refl
iff_with-unmarked q r h (t.read_truth a b) = refl
iff_with-unmarked q r h (t.negation a) = refl
iff_with-unmarked q r h (t.and a b) = refl
iff_with-unmarked q r h (t.or a b) = refl
iff_with-unmarked q r h (t.implies a b) = refl
iff_with-unmarked q r h (t.all a) = refl
iff_with-unmarked q r h (t.ex a) = refl
iff_with-unmarked q r h (t.eq_object a b) = refl
iff_with-unmarked q r h (t.eq_number a b) = refl
iff_with-unmarked q r h (t.eq_set a b) = refl
iff_with-unmarked q r h (t.less a b) = refl
iff_with-unmarked q r h (t.less_equal a b) = refl
iff_with-unmarked q r h (t.divides z a) = refl
iff_with-unmarked q r h (t.member a b) = refl
iff_with-unmarked q r h (t.subset a b) = refl
iff_with-unmarked q r h (t.reach fs a b) = refl
iff_with-unmarked q r h (t.tree fs) = refl

all_with-unmarked : (q r : FormulaTree → Bool) → ((a : FormulaTree) → q a ≡ r (unmarked_formula a)) → (s : FormulaTree) → all_with q (past s) ≡ all_with r (unmarked_formula s)
unfolding all_with unmarked_formula past
all_with-unmarked q r h (t.mark k s) = all_with-unmarked q r h s
all_with-unmarked q r h (t.all a) = h a
all_with-unmarked q r h t.true_formula = refl
all_with-unmarked q r h t.false_formula = refl
all_with-unmarked q r h (t.free_truth x) = refl
all_with-unmarked q r h (t.read_truth a b) = refl
all_with-unmarked q r h (t.negation a) = refl
all_with-unmarked q r h (t.and a b) = refl
all_with-unmarked q r h (t.or a b) = refl
all_with-unmarked q r h (t.implies a b) = refl
all_with-unmarked q r h (t.iff a b) = refl
all_with-unmarked q r h (t.ex a) = refl
all_with-unmarked q r h (t.eq_object a b) = refl
all_with-unmarked q r h (t.eq_number a b) = refl
all_with-unmarked q r h (t.eq_set a b) = refl
all_with-unmarked q r h (t.less a b) = refl
all_with-unmarked q r h (t.less_equal a b) = refl
all_with-unmarked q r h (t.divides z a) = refl
all_with-unmarked q r h (t.member a b) = refl
all_with-unmarked q r h (t.subset a b) = refl
all_with-unmarked q r h (t.reach fs a b) = refl
all_with-unmarked q r h (t.tree fs) = refl

ex_with-unmarked : (q r : FormulaTree → Bool) → ((a : FormulaTree) → q a ≡ r (unmarked_formula a)) → (s : FormulaTree) → ex_with q (past s) ≡ ex_with r (unmarked_formula s)
unfolding ex_with unmarked_formula past
ex_with-unmarked q r h (t.mark k s) = ex_with-unmarked q r h s
ex_with-unmarked q r h (t.ex a) = h a
ex_with-unmarked q r h t.true_formula = refl
ex_with-unmarked q r h t.false_formula = refl
ex_with-unmarked q r h (t.free_truth x) = refl
ex_with-unmarked q r h (t.read_truth a b) = refl
ex_with-unmarked q r h (t.negation a) = refl
ex_with-unmarked q r h (t.and a b) = refl
ex_with-unmarked q r h (t.or a b) = refl
ex_with-unmarked q r h (t.implies a b) = refl
ex_with-unmarked q r h (t.iff a b) = refl
ex_with-unmarked q r h (t.all a) = refl
ex_with-unmarked q r h (t.eq_object a b) = refl
ex_with-unmarked q r h (t.eq_number a b) = refl
ex_with-unmarked q r h (t.eq_set a b) = refl
ex_with-unmarked q r h (t.less a b) = refl
ex_with-unmarked q r h (t.less_equal a b) = refl
ex_with-unmarked q r h (t.divides z a) = refl
ex_with-unmarked q r h (t.member a b) = refl
ex_with-unmarked q r h (t.subset a b) = refl
ex_with-unmarked q r h (t.reach fs a b) = refl
ex_with-unmarked q r h (t.tree fs) = refl

eq_object_with-unmarked : (q r : TermTree → TermTree → Bool) → ((a : TermTree) (b : TermTree) → q a b ≡ r (unmarked_term a) (unmarked_term b)) → (s : FormulaTree) → eq_object_with q (past s) ≡ eq_object_with r (unmarked_formula s)
unfolding eq_object_with unmarked_formula past
eq_object_with-unmarked q r h (t.mark k s) = eq_object_with-unmarked q r h s
eq_object_with-unmarked q r h (t.eq_object a b) = h a b
eq_object_with-unmarked q r h t.true_formula = refl
eq_object_with-unmarked q r h t.false_formula = refl
eq_object_with-unmarked q r h (t.free_truth x) = refl
eq_object_with-unmarked q r h (t.read_truth a b) = refl
eq_object_with-unmarked q r h (t.negation a) = refl
eq_object_with-unmarked q r h (t.and a b) = refl
eq_object_with-unmarked q r h (t.or a b) = refl
eq_object_with-unmarked q r h (t.implies a b) = refl
eq_object_with-unmarked q r h (t.iff a b) = refl
eq_object_with-unmarked q r h (t.all a) = refl
eq_object_with-unmarked q r h (t.ex a) = refl
eq_object_with-unmarked q r h (t.eq_number a b) = refl
eq_object_with-unmarked q r h (t.eq_set a b) = refl
eq_object_with-unmarked q r h (t.less a b) = refl
eq_object_with-unmarked q r h (t.less_equal a b) = refl
eq_object_with-unmarked q r h (t.divides z a) = refl
eq_object_with-unmarked q r h (t.member a b) = refl
eq_object_with-unmarked q r h (t.subset a b) = refl
eq_object_with-unmarked q r h (t.reach fs a b) = refl
eq_object_with-unmarked q r h (t.tree fs) = refl

eq_number_with-unmarked : (q r : IntTree → IntTree → Bool) → ((a : IntTree) (b : IntTree) → q a b ≡ r (unmarked_int a) (unmarked_int b)) → (s : FormulaTree) → eq_number_with q (past s) ≡ eq_number_with r (unmarked_formula s)
unfolding eq_number_with unmarked_formula past
eq_number_with-unmarked q r h (t.mark k s) = eq_number_with-unmarked q r h s
eq_number_with-unmarked q r h (t.eq_number a b) = h a b
eq_number_with-unmarked q r h t.true_formula = refl
eq_number_with-unmarked q r h t.false_formula = refl
eq_number_with-unmarked q r h (t.free_truth x) = refl
eq_number_with-unmarked q r h (t.read_truth a b) = refl
eq_number_with-unmarked q r h (t.negation a) = refl
eq_number_with-unmarked q r h (t.and a b) = refl
eq_number_with-unmarked q r h (t.or a b) = refl
eq_number_with-unmarked q r h (t.implies a b) = refl
eq_number_with-unmarked q r h (t.iff a b) = refl
eq_number_with-unmarked q r h (t.all a) = refl
eq_number_with-unmarked q r h (t.ex a) = refl
eq_number_with-unmarked q r h (t.eq_object a b) = refl
eq_number_with-unmarked q r h (t.eq_set a b) = refl
eq_number_with-unmarked q r h (t.less a b) = refl
eq_number_with-unmarked q r h (t.less_equal a b) = refl
eq_number_with-unmarked q r h (t.divides z a) = refl
eq_number_with-unmarked q r h (t.member a b) = refl
eq_number_with-unmarked q r h (t.subset a b) = refl
eq_number_with-unmarked q r h (t.reach fs a b) = refl
eq_number_with-unmarked q r h (t.tree fs) = refl

eq_set_with-unmarked : (q r : SetTree → SetTree → Bool) → ((a : SetTree) (b : SetTree) → q a b ≡ r (unmarked_set a) (unmarked_set b)) → (s : FormulaTree) → eq_set_with q (past s) ≡ eq_set_with r (unmarked_formula s)
unfolding eq_set_with unmarked_formula past
eq_set_with-unmarked q r h (t.mark k s) = eq_set_with-unmarked q r h s
eq_set_with-unmarked q r h (t.eq_set a b) = h a b
eq_set_with-unmarked q r h t.true_formula = refl
eq_set_with-unmarked q r h t.false_formula = refl
eq_set_with-unmarked q r h (t.free_truth x) = refl
eq_set_with-unmarked q r h (t.read_truth a b) = refl
eq_set_with-unmarked q r h (t.negation a) = refl
eq_set_with-unmarked q r h (t.and a b) = refl
eq_set_with-unmarked q r h (t.or a b) = refl
eq_set_with-unmarked q r h (t.implies a b) = refl
eq_set_with-unmarked q r h (t.iff a b) = refl
eq_set_with-unmarked q r h (t.all a) = refl
eq_set_with-unmarked q r h (t.ex a) = refl
eq_set_with-unmarked q r h (t.eq_object a b) = refl
eq_set_with-unmarked q r h (t.eq_number a b) = refl
eq_set_with-unmarked q r h (t.less a b) = refl
eq_set_with-unmarked q r h (t.less_equal a b) = refl
eq_set_with-unmarked q r h (t.divides z a) = refl
eq_set_with-unmarked q r h (t.member a b) = refl
eq_set_with-unmarked q r h (t.subset a b) = refl
eq_set_with-unmarked q r h (t.reach fs a b) = refl
eq_set_with-unmarked q r h (t.tree fs) = refl

less_with-unmarked : (q r : IntTree → IntTree → Bool) → ((a : IntTree) (b : IntTree) → q a b ≡ r (unmarked_int a) (unmarked_int b)) → (s : FormulaTree) → less_with q (past s) ≡ less_with r (unmarked_formula s)
unfolding less_with unmarked_formula past
less_with-unmarked q r h (t.mark k s) = less_with-unmarked q r h s
less_with-unmarked q r h (t.less a b) = h a b
less_with-unmarked q r h t.true_formula = refl
less_with-unmarked q r h t.false_formula = refl
less_with-unmarked q r h (t.free_truth x) = refl
less_with-unmarked q r h (t.read_truth a b) = refl
less_with-unmarked q r h (t.negation a) = refl
less_with-unmarked q r h (t.and a b) = refl
less_with-unmarked q r h (t.or a b) = refl
less_with-unmarked q r h (t.implies a b) = refl
less_with-unmarked q r h (t.iff a b) = refl
less_with-unmarked q r h (t.all a) = refl
less_with-unmarked q r h (t.ex a) = refl
less_with-unmarked q r h (t.eq_object a b) = refl
less_with-unmarked q r h (t.eq_number a b) = refl
less_with-unmarked q r h (t.eq_set a b) = refl
less_with-unmarked q r h (t.less_equal a b) = refl
less_with-unmarked q r h (t.divides z a) = refl
less_with-unmarked q r h (t.member a b) = refl
less_with-unmarked q r h (t.subset a b) = refl
less_with-unmarked q r h (t.reach fs a b) = refl
less_with-unmarked q r h (t.tree fs) = refl

less_equal_with-unmarked : (q r : IntTree → IntTree → Bool) → ((a : IntTree) (b : IntTree) → q a b ≡ r (unmarked_int a) (unmarked_int b)) → (s : FormulaTree) → less_equal_with q (past s) ≡ less_equal_with r (unmarked_formula s)
unfolding less_equal_with unmarked_formula past
less_equal_with-unmarked q r h (t.mark k s) = less_equal_with-unmarked q r h s
less_equal_with-unmarked q r h (t.less_equal a b) = h a b
less_equal_with-unmarked q r h t.true_formula = refl
less_equal_with-unmarked q r h t.false_formula = refl
less_equal_with-unmarked q r h (t.free_truth x) = refl
less_equal_with-unmarked q r h (t.read_truth a b) = refl
less_equal_with-unmarked q r h (t.negation a) = refl
less_equal_with-unmarked q r h (t.and a b) = refl
less_equal_with-unmarked q r h (t.or a b) = refl
less_equal_with-unmarked q r h (t.implies a b) = refl
less_equal_with-unmarked q r h (t.iff a b) = refl
less_equal_with-unmarked q r h (t.all a) = refl
less_equal_with-unmarked q r h (t.ex a) = refl
less_equal_with-unmarked q r h (t.eq_object a b) = refl
less_equal_with-unmarked q r h (t.eq_number a b) = refl
less_equal_with-unmarked q r h (t.eq_set a b) = refl
less_equal_with-unmarked q r h (t.less a b) = refl
less_equal_with-unmarked q r h (t.divides z a) = refl
less_equal_with-unmarked q r h (t.member a b) = refl
less_equal_with-unmarked q r h (t.subset a b) = refl
less_equal_with-unmarked q r h (t.reach fs a b) = refl
less_equal_with-unmarked q r h (t.tree fs) = refl

divides_with-unmarked : (q r : ℤ → IntTree → Bool) → ((z : ℤ) (a : IntTree) → q z a ≡ r z (unmarked_int a)) → (s : FormulaTree) → divides_with q (past s) ≡ divides_with r (unmarked_formula s)
unfolding divides_with unmarked_formula past
divides_with-unmarked q r h (t.mark k s) = divides_with-unmarked q r h s
divides_with-unmarked q r h (t.divides z a) = h z a
divides_with-unmarked q r h t.true_formula = refl
divides_with-unmarked q r h t.false_formula = refl
divides_with-unmarked q r h (t.free_truth x) = refl
divides_with-unmarked q r h (t.read_truth a b) = refl
divides_with-unmarked q r h (t.negation a) = refl
divides_with-unmarked q r h (t.and a b) = refl
divides_with-unmarked q r h (t.or a b) = refl
divides_with-unmarked q r h (t.implies a b) = refl
divides_with-unmarked q r h (t.iff a b) = refl
divides_with-unmarked q r h (t.all a) = refl
divides_with-unmarked q r h (t.ex a) = refl
divides_with-unmarked q r h (t.eq_object a b) = refl
divides_with-unmarked q r h (t.eq_number a b) = refl
divides_with-unmarked q r h (t.eq_set a b) = refl
divides_with-unmarked q r h (t.less a b) = refl
divides_with-unmarked q r h (t.less_equal a b) = refl
divides_with-unmarked q r h (t.member a b) = refl
divides_with-unmarked q r h (t.subset a b) = refl
divides_with-unmarked q r h (t.reach fs a b) = refl
divides_with-unmarked q r h (t.tree fs) = refl

member_with-unmarked : (q r : TermTree → SetTree → Bool) → ((a : TermTree) (b : SetTree) → q a b ≡ r (unmarked_term a) (unmarked_set b)) → (s : FormulaTree) → member_with q (past s) ≡ member_with r (unmarked_formula s)
unfolding member_with unmarked_formula past
member_with-unmarked q r h (t.mark k s) = member_with-unmarked q r h s
member_with-unmarked q r h (t.member a b) = h a b
member_with-unmarked q r h t.true_formula = refl
member_with-unmarked q r h t.false_formula = refl
member_with-unmarked q r h (t.free_truth x) = refl
member_with-unmarked q r h (t.read_truth a b) = refl
member_with-unmarked q r h (t.negation a) = refl
member_with-unmarked q r h (t.and a b) = refl
member_with-unmarked q r h (t.or a b) = refl
member_with-unmarked q r h (t.implies a b) = refl
member_with-unmarked q r h (t.iff a b) = refl
member_with-unmarked q r h (t.all a) = refl
member_with-unmarked q r h (t.ex a) = refl
member_with-unmarked q r h (t.eq_object a b) = refl
member_with-unmarked q r h (t.eq_number a b) = refl
member_with-unmarked q r h (t.eq_set a b) = refl
member_with-unmarked q r h (t.less a b) = refl
member_with-unmarked q r h (t.less_equal a b) = refl
member_with-unmarked q r h (t.divides z a) = refl
member_with-unmarked q r h (t.subset a b) = refl
member_with-unmarked q r h (t.reach fs a b) = refl
member_with-unmarked q r h (t.tree fs) = refl

subset_with-unmarked : (q r : SetTree → SetTree → Bool) → ((a : SetTree) (b : SetTree) → q a b ≡ r (unmarked_set a) (unmarked_set b)) → (s : FormulaTree) → subset_with q (past s) ≡ subset_with r (unmarked_formula s)
unfolding subset_with unmarked_formula past
subset_with-unmarked q r h (t.mark k s) = subset_with-unmarked q r h s
subset_with-unmarked q r h (t.subset a b) = h a b
subset_with-unmarked q r h t.true_formula = refl
subset_with-unmarked q r h t.false_formula = refl
subset_with-unmarked q r h (t.free_truth x) = refl
subset_with-unmarked q r h (t.read_truth a b) = refl
subset_with-unmarked q r h (t.negation a) = refl
subset_with-unmarked q r h (t.and a b) = refl
subset_with-unmarked q r h (t.or a b) = refl
subset_with-unmarked q r h (t.implies a b) = refl
subset_with-unmarked q r h (t.iff a b) = refl
subset_with-unmarked q r h (t.all a) = refl
subset_with-unmarked q r h (t.ex a) = refl
subset_with-unmarked q r h (t.eq_object a b) = refl
subset_with-unmarked q r h (t.eq_number a b) = refl
subset_with-unmarked q r h (t.eq_set a b) = refl
subset_with-unmarked q r h (t.less a b) = refl
subset_with-unmarked q r h (t.less_equal a b) = refl
subset_with-unmarked q r h (t.divides z a) = refl
subset_with-unmarked q r h (t.member a b) = refl
subset_with-unmarked q r h (t.reach fs a b) = refl
subset_with-unmarked q r h (t.tree fs) = refl

reach_with-unmarked : (q r : FieldTrees → TermTree → TermTree → Bool) → ((fs : FieldTrees) (a : TermTree) (b : TermTree) → q fs a b ≡ r (unmarked_fields fs) (unmarked_term a) (unmarked_term b)) → (s : FormulaTree) → reach_with q (past s) ≡ reach_with r (unmarked_formula s)
unfolding reach_with unmarked_formula past
reach_with-unmarked q r h (t.mark k s) = reach_with-unmarked q r h s
reach_with-unmarked q r h (t.reach fs a b) = h fs a b
reach_with-unmarked q r h t.true_formula = refl
reach_with-unmarked q r h t.false_formula = refl
reach_with-unmarked q r h (t.free_truth x) = refl
reach_with-unmarked q r h (t.read_truth a b) = refl
reach_with-unmarked q r h (t.negation a) = refl
reach_with-unmarked q r h (t.and a b) = refl
reach_with-unmarked q r h (t.or a b) = refl
reach_with-unmarked q r h (t.implies a b) = refl
reach_with-unmarked q r h (t.iff a b) = refl
reach_with-unmarked q r h (t.all a) = refl
reach_with-unmarked q r h (t.ex a) = refl
reach_with-unmarked q r h (t.eq_object a b) = refl
reach_with-unmarked q r h (t.eq_number a b) = refl
reach_with-unmarked q r h (t.eq_set a b) = refl
reach_with-unmarked q r h (t.less a b) = refl
reach_with-unmarked q r h (t.less_equal a b) = refl
reach_with-unmarked q r h (t.divides z a) = refl
reach_with-unmarked q r h (t.member a b) = refl
reach_with-unmarked q r h (t.subset a b) = refl
reach_with-unmarked q r h (t.tree fs) = refl

tree_with-unmarked : (q r : FieldTrees → Bool) → ((fs : FieldTrees) → q fs ≡ r (unmarked_fields fs)) → (s : FormulaTree) → tree_with q (past s) ≡ tree_with r (unmarked_formula s)
unfolding tree_with unmarked_formula past
tree_with-unmarked q r h (t.mark k s) = tree_with-unmarked q r h s
tree_with-unmarked q r h (t.tree fs) = h fs
tree_with-unmarked q r h t.true_formula = refl
tree_with-unmarked q r h t.false_formula = refl
tree_with-unmarked q r h (t.free_truth x) = refl
tree_with-unmarked q r h (t.read_truth a b) = refl
tree_with-unmarked q r h (t.negation a) = refl
tree_with-unmarked q r h (t.and a b) = refl
tree_with-unmarked q r h (t.or a b) = refl
tree_with-unmarked q r h (t.implies a b) = refl
tree_with-unmarked q r h (t.iff a b) = refl
tree_with-unmarked q r h (t.all a) = refl
tree_with-unmarked q r h (t.ex a) = refl
tree_with-unmarked q r h (t.eq_object a b) = refl
tree_with-unmarked q r h (t.eq_number a b) = refl
tree_with-unmarked q r h (t.eq_set a b) = refl
tree_with-unmarked q r h (t.less a b) = refl
tree_with-unmarked q r h (t.less_equal a b) = refl
tree_with-unmarked q r h (t.divides z a) = refl
tree_with-unmarked q r h (t.member a b) = refl
tree_with-unmarked q r h (t.subset a b) = refl
tree_with-unmarked q r h (t.reach fs a b) = refl

none_with-unmarked : (s : FieldTrees) → none_with s ≡ none_with (unmarked_fields s)
unfolding none_with unmarked_fields past
none_with-unmarked t.none = refl
none_with-unmarked (t.more f fs) = refl

more_with-unmarked : (q r : FieldTree → FieldTrees → Bool) → ((f : FieldTree) (fs : FieldTrees) → q f fs ≡ r (unmarked_field f) (unmarked_fields fs)) → (s : FieldTrees) → more_with q s ≡ more_with r (unmarked_fields s)
unfolding more_with unmarked_fields past
more_with-unmarked q r h (t.more f fs) = h f fs
more_with-unmarked q r h t.none = refl

unmarked-past : (a : FormulaTree) → unmarked_formula (past a) ≡ unmarked_formula a
unfolding past unmarked_formula
unmarked-past t.true_formula = refl
unmarked-past t.false_formula = refl
unmarked-past (t.free_truth x) = refl
unmarked-past (t.read_truth a b) = refl
unmarked-past (t.negation a) = refl
unmarked-past (t.and a b) = refl
unmarked-past (t.or a b) = refl
unmarked-past (t.implies a b) = refl
unmarked-past (t.iff a b) = refl
unmarked-past (t.all a) = refl
unmarked-past (t.ex a) = refl
unmarked-past (t.eq_object a b) = refl
unmarked-past (t.eq_number a b) = refl
unmarked-past (t.eq_set a b) = refl
unmarked-past (t.less a b) = refl
unmarked-past (t.less_equal a b) = refl
unmarked-past (t.divides z a) = refl
unmarked-past (t.member a b) = refl
unmarked-past (t.subset a b) = refl
unmarked-past (t.reach fs a b) = refl
unmarked-past (t.tree fs) = refl
unmarked-past (t.mark k a) = unmarked-past a

mutual
  unfolding related_term related_int related_set related_field related_value related_formula related_fields unmarked_term unmarked_int unmarked_set unmarked_field unmarked_value unmarked_formula unmarked_fields

  pub term-past : (a s : TermTree) → related_term a false nothing s ≡ related_term (unmarked_term a) true nothing (unmarked_term s)
  term-past (t.bound k) s = bound_with-unmarked (λ k'. nat_eq k k') (λ k'. nat_eq k k') (λ k'. λ i. nat_eq k k') s
  term-past (t.free_object x) s = free_object_with-unmarked (λ x'. name_equal x x') (λ x'. name_equal x x') (λ x'. λ i. name_equal x x') s
  term-past t.null s = null_with-unmarked s
  term-past (t.read_object a b) s = read_object_with-unmarked (λ a' b'. related_field a false nothing a' && related_term b false nothing b') (λ a' b'. related_field (unmarked_field a) true nothing a' && related_term (unmarked_term b) true nothing b') (λ a' b'. λ i. field-past a a' i && term-past b b' i) s

  pub int-past : (a s : IntTree) → related_int a false nothing s ≡ related_int (unmarked_int a) true nothing (unmarked_int s)
  int-past (t.const z) s = const_with-unmarked (λ z'. int_eq z z') (λ z'. int_eq z z') (λ z'. λ i. int_eq z z') s
  int-past (t.free_number x) s = free_number_with-unmarked (λ x'. name_equal x x') (λ x'. name_equal x x') (λ x'. λ i. name_equal x x') s
  int-past (t.read_number a b) s = read_number_with-unmarked (λ a' b'. related_field a false nothing a' && related_term b false nothing b') (λ a' b'. related_field (unmarked_field a) true nothing a' && related_term (unmarked_term b) true nothing b') (λ a' b'. λ i. field-past a a' i && term-past b b' i) s
  int-past (t.add a b) s = add_with-unmarked (λ a' b'. related_int a false nothing a' && related_int b false nothing b') (λ a' b'. related_int (unmarked_int a) true nothing a' && related_int (unmarked_int b) true nothing b') (λ a' b'. λ i. int-past a a' i && int-past b b' i) s
  int-past (t.sub a b) s = sub_with-unmarked (λ a' b'. related_int a false nothing a' && related_int b false nothing b') (λ a' b'. related_int (unmarked_int a) true nothing a' && related_int (unmarked_int b) true nothing b') (λ a' b'. λ i. int-past a a' i && int-past b b' i) s
  int-past (t.neg a) s = neg_with-unmarked (λ a'. related_int a false nothing a') (λ a'. related_int (unmarked_int a) true nothing a') (λ a'. λ i. int-past a a' i) s
  int-past (t.scale z a) s = scale_with-unmarked (λ z' a'. int_eq z z' && related_int a false nothing a') (λ z' a'. int_eq z z' && related_int (unmarked_int a) true nothing a') (λ z' a'. λ i. int_eq z z' && int-past a a' i) s
  int-past (t.card a) s = card_with-unmarked (λ a'. related_set a false nothing a') (λ a'. related_set (unmarked_set a) true nothing a') (λ a'. λ i. set-past a a' i) s

  pub set-past : (a s : SetTree) → related_set a false nothing s ≡ related_set (unmarked_set a) true nothing (unmarked_set s)
  set-past (t.free_set x) s = free_set_with-unmarked (λ x'. name_equal x x') (λ x'. name_equal x x') (λ x'. λ i. name_equal x x') s
  set-past (t.read_set a b) s = read_set_with-unmarked (λ a' b'. related_field a false nothing a' && related_term b false nothing b') (λ a' b'. related_field (unmarked_field a) true nothing a' && related_term (unmarked_term b) true nothing b') (λ a' b'. λ i. field-past a a' i && term-past b b' i) s
  set-past t.empty s = empty_with-unmarked s
  set-past t.univ s = univ_with-unmarked s
  set-past (t.single a) s = single_with-unmarked (λ a'. related_term a false nothing a') (λ a'. related_term (unmarked_term a) true nothing a') (λ a'. λ i. term-past a a' i) s
  set-past (t.union a b) s = union_with-unmarked (λ a' b'. related_set a false nothing a' && related_set b false nothing b') (λ a' b'. related_set (unmarked_set a) true nothing a' && related_set (unmarked_set b) true nothing b') (λ a' b'. λ i. set-past a a' i && set-past b b' i) s
  set-past (t.inter a b) s = inter_with-unmarked (λ a' b'. related_set a false nothing a' && related_set b false nothing b') (λ a' b'. related_set (unmarked_set a) true nothing a' && related_set (unmarked_set b) true nothing b') (λ a' b'. λ i. set-past a a' i && set-past b b' i) s
  set-past (t.diff a b) s = diff_with-unmarked (λ a' b'. related_set a false nothing a' && related_set b false nothing b') (λ a' b'. related_set (unmarked_set a) true nothing a' && related_set (unmarked_set b) true nothing b') (λ a' b'. λ i. set-past a a' i && set-past b b' i) s
  set-past (t.compl a) s = compl_with-unmarked (λ a'. related_set a false nothing a') (λ a'. related_set (unmarked_set a) true nothing a') (λ a'. λ i. set-past a a' i) s
  set-past (t.compr a) s = compr_with-unmarked (λ a'. related_formula a false nothing a') (λ a'. related_formula (unmarked_formula a) true nothing a') (λ a'. λ i. formula-past a a' i) s

  pub field-past : (a s : FieldTree) → related_field a false nothing s ≡ related_field (unmarked_field a) true nothing (unmarked_field s)
  field-past (t.free_field x) s = free_field_with-unmarked (λ x'. name_equal x x') (λ x'. name_equal x x') (λ x'. λ i. name_equal x x') s
  field-past (t.update a b c) s = update_with-unmarked (λ a' b' c'. related_field a false nothing a' && related_term b false nothing b' && related_value c false nothing c') (λ a' b' c'. related_field (unmarked_field a) true nothing a' && related_term (unmarked_term b) true nothing b' && related_value (unmarked_value c) true nothing c') (λ a' b' c'. λ i. field-past a a' i && term-past b b' i && value-past c c' i) s

  pub value-past : (a s : ValueTree) → related_value a false nothing s ≡ related_value (unmarked_value a) true nothing (unmarked_value s)
  value-past (t.of_object a) s = of_object_with-unmarked (λ a'. related_term a false nothing a') (λ a'. related_term (unmarked_term a) true nothing a') (λ a'. λ i. term-past a a' i) s
  value-past (t.of_number a) s = of_number_with-unmarked (λ a'. related_int a false nothing a') (λ a'. related_int (unmarked_int a) true nothing a') (λ a'. λ i. int-past a a' i) s
  value-past (t.of_truth a) s = of_truth_with-unmarked (λ a'. related_formula a false nothing a') (λ a'. related_formula (unmarked_formula a) true nothing a') (λ a'. λ i. formula-past a a' i) s
  value-past (t.of_set a) s = of_set_with-unmarked (λ a'. related_set a false nothing a') (λ a'. related_set (unmarked_set a) true nothing a') (λ a'. λ i. set-past a a' i) s
  value-past (t.of_field a) s = of_field_with-unmarked (λ a'. related_field a false nothing a') (λ a'. related_field (unmarked_field a) true nothing a') (λ a'. λ i. field-past a a' i) s

  pub formula-past : (a s : FormulaTree) → related_formula a false nothing s ≡ related_formula (unmarked_formula a) true nothing (unmarked_formula s)
  formula-past t.true_formula s = true_formula_with-unmarked s
  formula-past t.false_formula s = false_formula_with-unmarked s
  formula-past (t.free_truth x) s = free_truth_with-unmarked (λ x'. name_equal x x') (λ x'. name_equal x x') (λ x'. λ i. name_equal x x') s
  formula-past (t.read_truth a b) s = read_truth_with-unmarked (λ a' b'. related_field a false nothing a' && related_term b false nothing b') (λ a' b'. related_field (unmarked_field a) true nothing a' && related_term (unmarked_term b) true nothing b') (λ a' b'. λ i. field-past a a' i && term-past b b' i) s
  formula-past (t.negation a) s = negation_with-unmarked (λ a'. related_formula a false nothing a') (λ a'. related_formula (unmarked_formula a) true nothing a') (λ a'. λ i. formula-past a a' i) s
  formula-past (t.and a b) s = and_with-unmarked (λ a' b'. related_formula a false nothing a' && related_formula b false nothing b') (λ a' b'. related_formula (unmarked_formula a) true nothing a' && related_formula (unmarked_formula b) true nothing b') (λ a' b'. λ i. formula-past a a' i && formula-past b b' i) s
  formula-past (t.or a b) s = or_with-unmarked (λ a' b'. related_formula a false nothing a' && related_formula b false nothing b') (λ a' b'. related_formula (unmarked_formula a) true nothing a' && related_formula (unmarked_formula b) true nothing b') (λ a' b'. λ i. formula-past a a' i && formula-past b b' i) s
  formula-past (t.implies a b) s = implies_with-unmarked (λ a' b'. related_formula a false nothing a' && related_formula b false nothing b') (λ a' b'. related_formula (unmarked_formula a) true nothing a' && related_formula (unmarked_formula b) true nothing b') (λ a' b'. λ i. formula-past a a' i && formula-past b b' i) s
  formula-past (t.iff a b) s = iff_with-unmarked (λ a' b'. related_formula a false nothing a' && related_formula b false nothing b') (λ a' b'. related_formula (unmarked_formula a) true nothing a' && related_formula (unmarked_formula b) true nothing b') (λ a' b'. λ i. formula-past a a' i && formula-past b b' i) s
  formula-past (t.all a) s = all_with-unmarked (λ a'. related_formula a false nothing a') (λ a'. related_formula (unmarked_formula a) true nothing a') (λ a'. λ i. formula-past a a' i) s
  formula-past (t.ex a) s = ex_with-unmarked (λ a'. related_formula a false nothing a') (λ a'. related_formula (unmarked_formula a) true nothing a') (λ a'. λ i. formula-past a a' i) s
  formula-past (t.eq_object a b) s = eq_object_with-unmarked (λ a' b'. related_term a false nothing a' && related_term b false nothing b') (λ a' b'. related_term (unmarked_term a) true nothing a' && related_term (unmarked_term b) true nothing b') (λ a' b'. λ i. term-past a a' i && term-past b b' i) s
  formula-past (t.eq_number a b) s = eq_number_with-unmarked (λ a' b'. related_int a false nothing a' && related_int b false nothing b') (λ a' b'. related_int (unmarked_int a) true nothing a' && related_int (unmarked_int b) true nothing b') (λ a' b'. λ i. int-past a a' i && int-past b b' i) s
  formula-past (t.eq_set a b) s = eq_set_with-unmarked (λ a' b'. related_set a false nothing a' && related_set b false nothing b') (λ a' b'. related_set (unmarked_set a) true nothing a' && related_set (unmarked_set b) true nothing b') (λ a' b'. λ i. set-past a a' i && set-past b b' i) s
  formula-past (t.less a b) s = less_with-unmarked (λ a' b'. related_int a false nothing a' && related_int b false nothing b') (λ a' b'. related_int (unmarked_int a) true nothing a' && related_int (unmarked_int b) true nothing b') (λ a' b'. λ i. int-past a a' i && int-past b b' i) s
  formula-past (t.less_equal a b) s = less_equal_with-unmarked (λ a' b'. related_int a false nothing a' && related_int b false nothing b') (λ a' b'. related_int (unmarked_int a) true nothing a' && related_int (unmarked_int b) true nothing b') (λ a' b'. λ i. int-past a a' i && int-past b b' i) s
  formula-past (t.divides z a) s = divides_with-unmarked (λ z' a'. int_eq z z' && related_int a false nothing a') (λ z' a'. int_eq z z' && related_int (unmarked_int a) true nothing a') (λ z' a'. λ i. int_eq z z' && int-past a a' i) s
  formula-past (t.member a b) s = member_with-unmarked (λ a' b'. related_term a false nothing a' && related_set b false nothing b') (λ a' b'. related_term (unmarked_term a) true nothing a' && related_set (unmarked_set b) true nothing b') (λ a' b'. λ i. term-past a a' i && set-past b b' i) s
  formula-past (t.subset a b) s = subset_with-unmarked (λ a' b'. related_set a false nothing a' && related_set b false nothing b') (λ a' b'. related_set (unmarked_set a) true nothing a' && related_set (unmarked_set b) true nothing b') (λ a' b'. λ i. set-past a a' i && set-past b b' i) s
  formula-past (t.reach fs a b) s = reach_with-unmarked (λ fs' a' b'. related_fields fs false nothing fs' && related_term a false nothing a' && related_term b false nothing b') (λ fs' a' b'. related_fields (unmarked_fields fs) true nothing fs' && related_term (unmarked_term a) true nothing a' && related_term (unmarked_term b) true nothing b') (λ fs' a' b'. λ i. fields-past fs fs' i && term-past a a' i && term-past b b' i) s
  formula-past (t.tree fs) s = tree_with-unmarked (λ fs'. related_fields fs false nothing fs') (λ fs'. related_fields (unmarked_fields fs) true nothing fs') (λ fs'. λ i. fields-past fs fs' i) s
  formula-past (t.mark k a) s = formula-past a (past s) ∙ ap (λ z. related_formula (unmarked_formula a) true nothing z) (unmarked-past s)

  pub fields-past : (a s : FieldTrees) → related_fields a false nothing s ≡ related_fields (unmarked_fields a) true nothing (unmarked_fields s)
  fields-past t.none s = none_with-unmarked s
  fields-past (t.more f fs) s = more_with-unmarked (λ f' fs'. related_field f false nothing f' && related_fields fs false nothing fs') (λ f' fs'. related_field (unmarked_field f) true nothing f' && related_fields (unmarked_fields fs) true nothing fs') (λ f' fs'. λ i. field-past f f' i && fields-past fs fs' i) s
