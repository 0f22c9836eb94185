-- Written by tools/compare.py.
-- The test of whether a tree is another with some parts exchanged, as the code asks it. Labels are compared, or passed.
use Rattle.std.specs.Prelude.{ℕ, ℤ, Bool, true, false, ◌&&◌, ◌||◌, nat_eq}
use Rattle.std.specs.Ordering.{int_eq}
use Rattle.jh_boxed.specs.jh_name.declared.naming.Name.{Name}
use Rattle.jh_form.specs.declared.mark.Mark.{Mark}
use Rattle.jh_form.specs.Tree.{TermTree, IntTree, SetTree, FieldTree, ValueTree, FormulaTree, FieldTrees}
use Rattle.jh_form.specs.Tree as t
use Rattle.jh_form.specs.Passing.{name_equal}
use Rattle.jh_boxed_operations.specs.comparison.Marks.{mark_equal}

-- a test of the parts of a tree of one form; a tree of another form doesn't pass
unfoldable pub bound_with : (ℕ → Bool) → TermTree → Bool
bound_with q (t.bound k) = q k
bound_with q _ = false

unfoldable pub free_object_with : (Name → Bool) → TermTree → Bool
free_object_with q (t.free_object x) = q x
free_object_with q _ = false

unfoldable pub null_with : TermTree → Bool
null_with t.null = true
null_with _ = false

unfoldable pub read_object_with : (FieldTree → TermTree → Bool) → TermTree → Bool
read_object_with q (t.read_object a b) = q a b
read_object_with q _ = false

unfoldable pub const_with : (ℤ → Bool) → IntTree → Bool
const_with q (t.const z) = q z
const_with q _ = false

unfoldable pub free_number_with : (Name → Bool) → IntTree → Bool
free_number_with q (t.free_number x) = q x
free_number_with q _ = false

unfoldable pub read_number_with : (FieldTree → TermTree → Bool) → IntTree → Bool
read_number_with q (t.read_number a b) = q a b
read_number_with q _ = false

unfoldable pub add_with : (IntTree → IntTree → Bool) → IntTree → Bool
add_with q (t.add a b) = q a b
add_with q _ = false

unfoldable pub sub_with : (IntTree → IntTree → Bool) → IntTree → Bool
sub_with q (t.sub a b) = q a b
sub_with q _ = false

unfoldable pub neg_with : (IntTree → Bool) → IntTree → Bool
neg_with q (t.neg a) = q a
neg_with q _ = false

unfoldable pub scale_with : (ℤ → IntTree → Bool) → IntTree → Bool
scale_with q (t.scale z a) = q z a
scale_with q _ = false

unfoldable pub card_with : (SetTree → Bool) → IntTree → Bool
card_with q (t.card a) = q a
card_with q _ = false

unfoldable pub free_set_with : (Name → Bool) → SetTree → Bool
free_set_with q (t.free_set x) = q x
free_set_with q _ = false

unfoldable pub read_set_with : (FieldTree → TermTree → Bool) → SetTree → Bool
read_set_with q (t.read_set a b) = q a b
read_set_with q _ = false

unfoldable pub empty_with : SetTree → Bool
empty_with t.empty = true
empty_with _ = false

unfoldable pub univ_with : SetTree → Bool
univ_with t.univ = true
univ_with _ = false

unfoldable pub single_with : (TermTree → Bool) → SetTree → Bool
single_with q (t.single a) = q a
single_with q _ = false

unfoldable pub union_with : (SetTree → SetTree → Bool) → SetTree → Bool
union_with q (t.union a b) = q a b
union_with q _ = false

unfoldable pub inter_with : (SetTree → SetTree → Bool) → SetTree → Bool
inter_with q (t.inter a b) = q a b
inter_with q _ = false

unfoldable pub diff_with : (SetTree → SetTree → Bool) → SetTree → Bool
diff_with q (t.diff a b) = q a b
diff_with q _ = false

unfoldable pub compl_with : (SetTree → Bool) → SetTree → Bool
compl_with q (t.compl a) = q a
compl_with q _ = false

unfoldable pub compr_with : (FormulaTree → Bool) → SetTree → Bool
compr_with q (t.compr a) = q a
compr_with q _ = false

unfoldable pub free_field_with : (Name → Bool) → FieldTree → Bool
free_field_with q (t.free_field x) = q x
free_field_with q _ = false

unfoldable pub update_with : (FieldTree → TermTree → ValueTree → Bool) → FieldTree → Bool
update_with q (t.update a b c) = q a b c
update_with q _ = false

unfoldable pub of_object_with : (TermTree → Bool) → ValueTree → Bool
of_object_with q (t.of_object a) = q a
of_object_with q _ = false

unfoldable pub of_number_with : (IntTree → Bool) → ValueTree → Bool
of_number_with q (t.of_number a) = q a
of_number_with q _ = false

unfoldable pub of_truth_with : (FormulaTree → Bool) → ValueTree → Bool
of_truth_with q (t.of_truth a) = q a
of_truth_with q _ = false

unfoldable pub of_set_with : (SetTree → Bool) → ValueTree → Bool
of_set_with q (t.of_set a) = q a
of_set_with q _ = false

unfoldable pub of_field_with : (FieldTree → Bool) → ValueTree → Bool
of_field_with q (t.of_field a) = q a
of_field_with q _ = false

unfoldable pub true_formula_with : FormulaTree → Bool
true_formula_with t.true_formula = true
true_formula_with _ = false

unfoldable pub false_formula_with : FormulaTree → Bool
false_formula_with t.false_formula = true
false_formula_with _ = false

unfoldable pub free_truth_with : (Name → Bool) → FormulaTree → Bool
free_truth_with q (t.free_truth x) = q x
free_truth_with q _ = false

unfoldable pub read_truth_with : (FieldTree → TermTree → Bool) → FormulaTree → Bool
read_truth_with q (t.read_truth a b) = q a b
read_truth_with q _ = false

unfoldable pub negation_with : (FormulaTree → Bool) → FormulaTree → Bool
negation_with q (t.negation a) = q a
negation_with q _ = false

unfoldable pub and_with : (FormulaTree → FormulaTree → Bool) → FormulaTree → Bool
and_with q (t.and a b) = q a b
and_with q _ = false

unfoldable pub or_with : (FormulaTree → FormulaTree → Bool) → FormulaTree → Bool
or_with q (t.or a b) = q a b
or_with q _ = false

unfoldable pub implies_with : (FormulaTree → FormulaTree → Bool) → FormulaTree → Bool
implies_with q (t.implies a b) = q a b
implies_with q _ = false

unfoldable pub iff_with : (FormulaTree → FormulaTree → Bool) → FormulaTree → Bool
iff_with q (t.iff a b) = q a b
iff_with q _ = false

unfoldable pub all_with : (FormulaTree → Bool) → FormulaTree → Bool
all_with q (t.all a) = q a
all_with q _ = false

unfoldable pub ex_with : (FormulaTree → Bool) → FormulaTree → Bool
ex_with q (t.ex a) = q a
ex_with q _ = false

unfoldable pub eq_object_with : (TermTree → TermTree → Bool) → FormulaTree → Bool
eq_object_with q (t.eq_object a b) = q a b
eq_object_with q _ = false

unfoldable pub eq_number_with : (IntTree → IntTree → Bool) → FormulaTree → Bool
eq_number_with q (t.eq_number a b) = q a b
eq_number_with q _ = false

unfoldable pub eq_set_with : (SetTree → SetTree → Bool) → FormulaTree → Bool
eq_set_with q (t.eq_set a b) = q a b
eq_set_with q _ = false

unfoldable pub less_with : (IntTree → IntTree → Bool) → FormulaTree → Bool
less_with q (t.less a b) = q a b
less_with q _ = false

unfoldable pub less_equal_with : (IntTree → IntTree → Bool) → FormulaTree → Bool
less_equal_with q (t.less_equal a b) = q a b
less_equal_with q _ = false

unfoldable pub divides_with : (ℤ → IntTree → Bool) → FormulaTree → Bool
divides_with q (t.divides z a) = q z a
divides_with q _ = false

unfoldable pub member_with : (TermTree → SetTree → Bool) → FormulaTree → Bool
member_with q (t.member a b) = q a b
member_with q _ = false

unfoldable pub subset_with : (SetTree → SetTree → Bool) → FormulaTree → Bool
subset_with q (t.subset a b) = q a b
subset_with q _ = false

unfoldable pub reach_with : (FieldTrees → TermTree → TermTree → Bool) → FormulaTree → Bool
reach_with q (t.reach fs a b) = q fs a b
reach_with q _ = false

unfoldable pub tree_with : (FieldTrees → Bool) → FormulaTree → Bool
tree_with q (t.tree fs) = q fs
tree_with q _ = false

unfoldable pub mark_with : (Mark → FormulaTree → Bool) → FormulaTree → Bool
mark_with q (t.mark k a) = q k a
mark_with q _ = false

unfoldable pub none_with : FieldTrees → Bool
none_with t.none = true
none_with _ = false

unfoldable pub more_with : (FieldTree → FieldTrees → Bool) → FieldTrees → Bool
more_with q (t.more f fs) = q f fs
more_with q _ = false

-- the formula under the labels that stand around it
unfoldable pub past : FormulaTree → FormulaTree
past (t.mark k a) = past a
past a = a

-- a formula as it is compared: with its labels, or past them
abbrev pub seen : Bool → FormulaTree → FormulaTree
seen true s = s
seen false s = past s

-- one thing where labels are compared, and another where they are passed
abbrev pub by_labels : {X : Type 0} → Bool → X → X → X
by_labels true x y = x
by_labels false x y = y

-- with whether labels are compared, and which parts may be exchanged
unfoldable mutual
  pub related_term : TermTree → Bool → (ValueTree → ValueTree → Bool) → TermTree → Bool
  related_term (t.bound k) w p s = p (t.of_object (t.bound k)) (t.of_object s) || bound_with (λ k'. nat_eq k k') s
  related_term (t.free_object x) w p s = p (t.of_object (t.free_object x)) (t.of_object s) || free_object_with (λ x'. name_equal x x') s
  related_term t.null w p s = p (t.of_object t.null) (t.of_object s) || null_with s
  related_term (t.read_object a b) w p s = p (t.of_object (t.read_object a b)) (t.of_object s) || read_object_with (λ a' b'. related_field a w p a' && related_term b w p b') s

  pub related_int : IntTree → Bool → (ValueTree → ValueTree → Bool) → IntTree → Bool
  related_int (t.const z) w p s = p (t.of_number (t.const z)) (t.of_number s) || const_with (λ z'. int_eq z z') s
  related_int (t.free_number x) w p s = p (t.of_number (t.free_number x)) (t.of_number s) || free_number_with (λ x'. name_equal x x') s
  related_int (t.read_number a b) w p s = p (t.of_number (t.read_number a b)) (t.of_number s) || read_number_with (λ a' b'. related_field a w p a' && related_term b w p b') s
  related_int (t.add a b) w p s = p (t.of_number (t.add a b)) (t.of_number s) || add_with (λ a' b'. related_int a w p a' && related_int b w p b') s
  related_int (t.sub a b) w p s = p (t.of_number (t.sub a b)) (t.of_number s) || sub_with (λ a' b'. related_int a w p a' && related_int b w p b') s
  related_int (t.neg a) w p s = p (t.of_number (t.neg a)) (t.of_number s) || neg_with (λ a'. related_int a w p a') s
  related_int (t.scale z a) w p s = p (t.of_number (t.scale z a)) (t.of_number s) || scale_with (λ z' a'. int_eq z z' && related_int a w p a') s
  related_int (t.card a) w p s = p (t.of_number (t.card a)) (t.of_number s) || card_with (λ a'. related_set a w p a') s

  pub related_set : SetTree → Bool → (ValueTree → ValueTree → Bool) → SetTree → Bool
  related_set (t.free_set x) w p s = p (t.of_set (t.free_set x)) (t.of_set s) || free_set_with (λ x'. name_equal x x') s
  related_set (t.read_set a b) w p s = p (t.of_set (t.read_set a b)) (t.of_set s) || read_set_with (λ a' b'. related_field a w p a' && related_term b w p b') s
  related_set t.empty w p s = p (t.of_set t.empty) (t.of_set s) || empty_with s
  related_set t.univ w p s = p (t.of_set t.univ) (t.of_set s) || univ_with s
  related_set (t.single a) w p s = p (t.of_set (t.single a)) (t.of_set s) || single_with (λ a'. related_term a w p a') s
  related_set (t.union a b) w p s = p (t.of_set (t.union a b)) (t.of_set s) || union_with (λ a' b'. related_set a w p a' && related_set b w p b') s
  related_set (t.inter a b) w p s = p (t.of_set (t.inter a b)) (t.of_set s) || inter_with (λ a' b'. related_set a w p a' && related_set b w p b') s
  related_set (t.diff a b) w p s = p (t.of_set (t.diff a b)) (t.of_set s) || diff_with (λ a' b'. related_set a w p a' && related_set b w p b') s
  related_set (t.compl a) w p s = p (t.of_set (t.compl a)) (t.of_set s) || compl_with (λ a'. related_set a w p a') s
  related_set (t.compr a) w p s = p (t.of_set (t.compr a)) (t.of_set s) || compr_with (λ a'. related_formula a w p a') s

  pub related_field : FieldTree → Bool → (ValueTree → ValueTree → Bool) → FieldTree → Bool
  related_field (t.free_field x) w p s = p (t.of_field (t.free_field x)) (t.of_field s) || free_field_with (λ x'. name_equal x x') s
  related_field (t.update a b c) w p s = p (t.of_field (t.update a b c)) (t.of_field s) || update_with (λ a' b' c'. related_field a w p a' && related_term b w p b' && related_value c w p c') s

  pub related_value : ValueTree → Bool → (ValueTree → ValueTree → Bool) → ValueTree → Bool
  related_value (t.of_object a) w p s = of_object_with (λ a'. related_term a w p a') s
  related_value (t.of_number a) w p s = of_number_with (λ a'. related_int a w p a') s
  related_value (t.of_truth a) w p s = of_truth_with (λ a'. related_formula a w p a') s
  related_value (t.of_set a) w p s = of_set_with (λ a'. related_set a w p a') s
  related_value (t.of_field a) w p s = of_field_with (λ a'. related_field a w p a') s

  pub related_formula : FormulaTree → Bool → (ValueTree → ValueTree → Bool) → FormulaTree → Bool
  related_formula t.true_formula w p s = p (t.of_truth t.true_formula) (t.of_truth s) || true_formula_with (seen w s)
  related_formula t.false_formula w p s = p (t.of_truth t.false_formula) (t.of_truth s) || false_formula_with (seen w s)
  related_formula (t.free_truth x) w p s = p (t.of_truth (t.free_truth x)) (t.of_truth s) || free_truth_with (λ x'. name_equal x x') (seen w s)
  related_formula (t.read_truth a b) w p s = p (t.of_truth (t.read_truth a b)) (t.of_truth s) || read_truth_with (λ a' b'. related_field a w p a' && related_term b w p b') (seen w s)
  related_formula (t.negation a) w p s = p (t.of_truth (t.negation a)) (t.of_truth s) || negation_with (λ a'. related_formula a w p a') (seen w s)
  related_formula (t.and a b) w p s = p (t.of_truth (t.and a b)) (t.of_truth s) || and_with (λ a' b'. related_formula a w p a' && related_formula b w p b') (seen w s)
  related_formula (t.or a b) w p s = p (t.of_truth (t.or a b)) (t.of_truth s) || or_with (λ a' b'. related_formula a w p a' && related_formula b w p b') (seen w s)
  related_formula (t.implies a b) w p s = p (t.of_truth (t.implies a b)) (t.of_truth s) || implies_with (λ a' b'. related_formula a w p a' && related_formula b w p b') (seen w s)
  related_formula (t.iff a b) w p s = p (t.of_truth (t.iff a b)) (t.of_truth s) || iff_with (λ a' b'. related_formula a w p a' && related_formula b w p b') (seen w s)
  related_formula (t.all a) w p s = p (t.of_truth (t.all a)) (t.of_truth s) || all_with (λ a'. related_formula a w p a') (seen w s)
  related_formula (t.ex a) w p s = p (t.of_truth (t.ex a)) (t.of_truth s) || ex_with (λ a'. related_formula a w p a') (seen w s)
  related_formula (t.eq_object a b) w p s = p (t.of_truth (t.eq_object a b)) (t.of_truth s) || eq_object_with (λ a' b'. related_term a w p a' && related_term b w p b') (seen w s)
  related_formula (t.eq_number a b) w p s = p (t.of_truth (t.eq_number a b)) (t.of_truth s) || eq_number_with (λ a' b'. related_int a w p a' && related_int b w p b') (seen w s)
  related_formula (t.eq_set a b) w p s = p (t.of_truth (t.eq_set a b)) (t.of_truth s) || eq_set_with (λ a' b'. related_set a w p a' && related_set b w p b') (seen w s)
  related_formula (t.less a b) w p s = p (t.of_truth (t.less a b)) (t.of_truth s) || less_with (λ a' b'. related_int a w p a' && related_int b w p b') (seen w s)
  related_formula (t.less_equal a b) w p s = p (t.of_truth (t.less_equal a b)) (t.of_truth s) || less_equal_with (λ a' b'. related_int a w p a' && related_int b w p b') (seen w s)
  related_formula (t.divides z a) w p s = p (t.of_truth (t.divides z a)) (t.of_truth s) || divides_with (λ z' a'. int_eq z z' && related_int a w p a') (seen w s)
  related_formula (t.member a b) w p s = p (t.of_truth (t.member a b)) (t.of_truth s) || member_with (λ a' b'. related_term a w p a' && related_set b w p b') (seen w s)
  related_formula (t.subset a b) w p s = p (t.of_truth (t.subset a b)) (t.of_truth s) || subset_with (λ a' b'. related_set a w p a' && related_set b w p b') (seen w s)
  related_formula (t.reach fs a b) w p s = p (t.of_truth (t.reach fs a b)) (t.of_truth s) || reach_with (λ fs' a' b'. related_fields fs w p fs' && related_term a w p a' && related_term b w p b') (seen w s)
  related_formula (t.tree fs) w p s = p (t.of_truth (t.tree fs)) (t.of_truth s) || tree_with (λ fs'. related_fields fs w p fs') (seen w s)
  related_formula (t.mark k a) w p s = p (t.of_truth (t.mark k a)) (t.of_truth s) || by_labels w (mark_with (λ k' a'. mark_equal k k' && related_formula a w p a') (seen w s)) (related_formula a w p (seen w s))

  pub related_fields : FieldTrees → Bool → (ValueTree → ValueTree → Bool) → FieldTrees → Bool
  related_fields t.none w p s = none_with s
  related_fields (t.more f fs) w p s = more_with (λ f' fs'. related_field f w p f' && related_fields fs w p fs') s
