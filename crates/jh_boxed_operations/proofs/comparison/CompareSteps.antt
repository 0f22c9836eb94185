-- Written by tools/compare.py.
-- The test at each constructor, and a form's test at the program's values.
use Rattle.std.proofs.Common.{◌≡◌, refl, sym, ap, ◌∙◌, ℕ, ℤ, Bool, true, false, ◌&&◌, ◌||◌, nat_eq, List}
use Rattle.std.specs.Ordering.{int_eq}
use Rattle.jh_boxed.specs.jh_name.declared.naming.Name.{Name}
use Rattle.jh_form.specs.declared.mark.Mark.{Mark}
use Rattle.jh_form.specs.Tree.{TermTree, IntTree, SetTree, FieldTree, ValueTree, FormulaTree, FieldTrees}
use Rattle.jh_form.specs.Tree as t
use Rattle.jh_form.specs.Passing.{name_equal}
use Rattle.jh_boxed_operations.specs.comparison.Marks.{mark_equal}
use Rattle.jh_form.specs.declared.form.Term.{Term}
use Rattle.jh_form.specs.declared.form.IntTerm.{IntTerm}
use Rattle.jh_form.specs.declared.form.SetTerm.{SetTerm}
use Rattle.jh_form.specs.declared.form.FieldTerm.{FieldTerm}
use Rattle.jh_form.specs.declared.form.Value.{Value}
use Rattle.jh_form.specs.declared.form.Formula.{Formula}
use Rattle.jh_form.specs.declared.form.Term.TheVariants as term
use Rattle.jh_form.specs.declared.form.IntTerm.TheVariants as int
use Rattle.jh_form.specs.declared.form.SetTerm.TheVariants as set
use Rattle.jh_form.specs.declared.form.FieldTerm.TheVariants as field
use Rattle.jh_form.specs.declared.form.Value.TheVariants as value
use Rattle.jh_form.specs.declared.form.Formula.TheVariants as formula
use Rattle.jh_form.specs.declared.form.Formula.{roll-out-Formula, roll-Formula}
use Rattle.jh_form.specs.declared.form.FieldTerm.TheViews.{outs-Reach', rolls-Reach, outs-Tree', rolls-Tree}
use Rattle.jh_form.specs.declared.form.FieldTerm.TheBlock.{shown-the_row-FieldTerm-0}
use Rattle.std.specs.declared.boxed.Box.{Box}
use Rattle.std.specs.declared.alloc.Global.{Global}
use Rattle.jh_form.specs.Bare.{term_tree, int_tree, set_tree, field_tree, value_tree, formula_tree}
use Rattle.jh_boxed_operations.specs.comparison.Compared.{bound_with, free_object_with, null_with, read_object_with, const_with, free_number_with, read_number_with, add_with, sub_with, neg_with, scale_with, card_with, free_set_with, read_set_with, empty_with, univ_with, single_with, union_with, inter_with, diff_with, compl_with, compr_with, free_field_with, update_with, of_object_with, of_number_with, of_truth_with, of_set_with, of_field_with, true_formula_with, false_formula_with, free_truth_with, read_truth_with, negation_with, and_with, or_with, implies_with, iff_with, all_with, ex_with, eq_object_with, eq_number_with, eq_set_with, less_with, less_equal_with, divides_with, member_with, subset_with, reach_with, tree_with, mark_with, none_with, more_with, related_term, related_int, related_set, related_field, related_value, related_formula, related_fields, seen, by_labels}

pub related_term-bound : (k : ℕ) (w : Bool) (p : ValueTree → ValueTree → Bool) (s : TermTree) → related_term (t.bound k) w p s ≡ (p (t.of_object (t.bound k)) (t.of_object s) || bound_with (λ k'. nat_eq k k') s)
unfolding related_term
related_term-bound k w p s = refl

pub bound_with-here : (q : ℕ → Bool) (k : ℕ) → bound_with q (t.bound k) ≡ q k
unfolding bound_with
bound_with-here q k = refl

pub related_term-free_object : (x : Name) (w : Bool) (p : ValueTree → ValueTree → Bool) (s : TermTree) → related_term (t.free_object x) w p s ≡ (p (t.of_object (t.free_object x)) (t.of_object s) || free_object_with (λ x'. name_equal x x') s)
unfolding related_term
related_term-free_object x w p s = refl

pub free_object_with-here : (q : Name → Bool) (x : Name) → free_object_with q (t.free_object x) ≡ q x
unfolding free_object_with
free_object_with-here q x = refl

pub related_term-null : (w : Bool) (p : ValueTree → ValueTree → Bool) (s : TermTree) → related_term t.null w p s ≡ (p (t.of_object t.null) (t.of_object s) || null_with s)
unfolding related_term
related_term-null w p s = refl

pub null_with-here : null_with t.null ≡ true
unfolding null_with
null_with-here = refl

pub related_term-read_object : (a : FieldTree) (b : TermTree) (w : Bool) (p : ValueTree → ValueTree → Bool) (s : TermTree) → related_term (t.read_object a b) w p s ≡ (p (t.of_object (t.read_object a b)) (t.of_object s) || read_object_with (λ a' b'. related_field a w p a' && related_term b w p b') s)
unfolding related_term
related_term-read_object a b w p s = refl

pub read_object_with-here : (q : FieldTree → TermTree → Bool) (a : FieldTree) (b : TermTree) → read_object_with q (t.read_object a b) ≡ q a b
unfolding read_object_with
read_object_with-here q a b = refl

pub related_int-const : (z : ℤ) (w : Bool) (p : ValueTree → ValueTree → Bool) (s : IntTree) → related_int (t.const z) w p s ≡ (p (t.of_number (t.const z)) (t.of_number s) || const_with (λ z'. int_eq z z') s)
unfolding related_int
related_int-const z w p s = refl

pub const_with-here : (q : ℤ → Bool) (z : ℤ) → const_with q (t.const z) ≡ q z
unfolding const_with
const_with-here q z = refl

pub related_int-free_number : (x : Name) (w : Bool) (p : ValueTree → ValueTree → Bool) (s : IntTree) → related_int (t.free_number x) w p s ≡ (p (t.of_number (t.free_number x)) (t.of_number s) || free_number_with (λ x'. name_equal x x') s)
unfolding related_int
related_int-free_number x w p s = refl

pub free_number_with-here : (q : Name → Bool) (x : Name) → free_number_with q (t.free_number x) ≡ q x
unfolding free_number_with
free_number_with-here q x = refl

pub related_int-read_number : (a : FieldTree) (b : TermTree) (w : Bool) (p : ValueTree → ValueTree → Bool) (s : IntTree) → related_int (t.read_number a b) w p s ≡ (p (t.of_number (t.read_number a b)) (t.of_number s) || read_number_with (λ a' b'. related_field a w p a' && related_term b w p b') s)
unfolding related_int
related_int-read_number a b w p s = refl

pub read_number_with-here : (q : FieldTree → TermTree → Bool) (a : FieldTree) (b : TermTree) → read_number_with q (t.read_number a b) ≡ q a b
unfolding read_number_with
read_number_with-here q a b = refl

pub related_int-add : (a : IntTree) (b : IntTree) (w : Bool) (p : ValueTree → ValueTree → Bool) (s : IntTree) → related_int (t.add a b) w p s ≡ (p (t.of_number (t.add a b)) (t.of_number s) || add_with (λ a' b'. related_int a w p a' && related_int b w p b') s)
unfolding related_int
related_int-add a b w p s = refl

pub add_with-here : (q : IntTree → IntTree → Bool) (a : IntTree) (b : IntTree) → add_with q (t.add a b) ≡ q a b
unfolding add_with
add_with-here q a b = refl

pub related_int-sub : (a : IntTree) (b : IntTree) (w : Bool) (p : ValueTree → ValueTree → Bool) (s : IntTree) → related_int (t.sub a b) w p s ≡ (p (t.of_number (t.sub a b)) (t.of_number s) || sub_with (λ a' b'. related_int a w p a' && related_int b w p b') s)
unfolding related_int
related_int-sub a b w p s = refl

pub sub_with-here : (q : IntTree → IntTree → Bool) (a : IntTree) (b : IntTree) → sub_with q (t.sub a b) ≡ q a b
unfolding sub_with
sub_with-here q a b = refl

pub related_int-neg : (a : IntTree) (w : Bool) (p : ValueTree → ValueTree → Bool) (s : IntTree) → related_int (t.neg a) w p s ≡ (p (t.of_number (t.neg a)) (t.of_number s) || neg_with (λ a'. related_int a w p a') s)
unfolding related_int
related_int-neg a w p s = refl

pub neg_with-here : (q : IntTree → Bool) (a : IntTree) → neg_with q (t.neg a) ≡ q a
unfolding neg_with
neg_with-here q a = refl

pub related_int-scale : (z : ℤ) (a : IntTree) (w : Bool) (p : ValueTree → ValueTree → Bool) (s : IntTree) → related_int (t.scale z a) w p s ≡ (p (t.of_number (t.scale z a)) (t.of_number s) || scale_with (λ z' a'. int_eq z z' && related_int a w p a') s)
unfolding related_int
related_int-scale z a w p s = refl

pub scale_with-here : (q : ℤ → IntTree → Bool) (z : ℤ) (a : IntTree) → scale_with q (t.scale z a) ≡ q z a
unfolding scale_with
scale_with-here q z a = refl

pub related_int-card : (a : SetTree) (w : Bool) (p : ValueTree → ValueTree → Bool) (s : IntTree) → related_int (t.card a) w p s ≡ (p (t.of_number (t.card a)) (t.of_number s) || card_with (λ a'. related_set a w p a') s)
unfolding related_int
related_int-card a w p s = refl

pub card_with-here : (q : SetTree → Bool) (a : SetTree) → card_with q (t.card a) ≡ q a
unfolding card_with
card_with-here q a = refl

pub related_set-free_set : (x : Name) (w : Bool) (p : ValueTree → ValueTree → Bool) (s : SetTree) → related_set (t.free_set x) w p s ≡ (p (t.of_set (t.free_set x)) (t.of_set s) || free_set_with (λ x'. name_equal x x') s)
unfolding related_set
related_set-free_set x w p s = refl

pub free_set_with-here : (q : Name → Bool) (x : Name) → free_set_with q (t.free_set x) ≡ q x
unfolding free_set_with
free_set_with-here q x = refl

pub related_set-read_set : (a : FieldTree) (b : TermTree) (w : Bool) (p : ValueTree → ValueTree → Bool) (s : SetTree) → related_set (t.read_set a b) w p s ≡ (p (t.of_set (t.read_set a b)) (t.of_set s) || read_set_with (λ a' b'. related_field a w p a' && related_term b w p b') s)
unfolding related_set
related_set-read_set a b w p s = refl

pub read_set_with-here : (q : FieldTree → TermTree → Bool) (a : FieldTree) (b : TermTree) → read_set_with q (t.read_set a b) ≡ q a b
unfolding read_set_with
read_set_with-here q a b = refl

pub related_set-empty : (w : Bool) (p : ValueTree → ValueTree → Bool) (s : SetTree) → related_set t.empty w p s ≡ (p (t.of_set t.empty) (t.of_set s) || empty_with s)
unfolding related_set
related_set-empty w p s = refl

pub empty_with-here : empty_with t.empty ≡ true
unfolding empty_with
empty_with-here = refl

pub related_set-univ : (w : Bool) (p : ValueTree → ValueTree → Bool) (s : SetTree) → related_set t.univ w p s ≡ (p (t.of_set t.univ) (t.of_set s) || univ_with s)
unfolding related_set
related_set-univ w p s = refl

pub univ_with-here : univ_with t.univ ≡ true
unfolding univ_with
univ_with-here = refl

pub related_set-single : (a : TermTree) (w : Bool) (p : ValueTree → ValueTree → Bool) (s : SetTree) → related_set (t.single a) w p s ≡ (p (t.of_set (t.single a)) (t.of_set s) || single_with (λ a'. related_term a w p a') s)
unfolding related_set
related_set-single a w p s = refl

pub single_with-here : (q : TermTree → Bool) (a : TermTree) → single_with q (t.single a) ≡ q a
unfolding single_with
single_with-here q a = refl

pub related_set-union : (a : SetTree) (b : SetTree) (w : Bool) (p : ValueTree → ValueTree → Bool) (s : SetTree) → related_set (t.union a b) w p s ≡ (p (t.of_set (t.union a b)) (t.of_set s) || union_with (λ a' b'. related_set a w p a' && related_set b w p b') s)
unfolding related_set
related_set-union a b w p s = refl

pub union_with-here : (q : SetTree → SetTree → Bool) (a : SetTree) (b : SetTree) → union_with q (t.union a b) ≡ q a b
unfolding union_with
union_with-here q a b = refl

pub related_set-inter : (a : SetTree) (b : SetTree) (w : Bool) (p : ValueTree → ValueTree → Bool) (s : SetTree) → related_set (t.inter a b) w p s ≡ (p (t.of_set (t.inter a b)) (t.of_set s) || inter_with (λ a' b'. related_set a w p a' && related_set b w p b') s)
unfolding related_set
related_set-inter a b w p s = refl

pub inter_with-here : (q : SetTree → SetTree → Bool) (a : SetTree) (b : SetTree) → inter_with q (t.inter a b) ≡ q a b
unfolding inter_with
inter_with-here q a b = refl

pub related_set-diff : (a : SetTree) (b : SetTree) (w : Bool) (p : ValueTree → ValueTree → Bool) (s : SetTree) → related_set (t.diff a b) w p s ≡ (p (t.of_set (t.diff a b)) (t.of_set s) || diff_with (λ a' b'. related_set a w p a' && related_set b w p b') s)
unfolding related_set
related_set-diff a b w p s = refl

pub diff_with-here : (q : SetTree → SetTree → Bool) (a : SetTree) (b : SetTree) → diff_with q (t.diff a b) ≡ q a b
unfolding diff_with
diff_with-here q a b = refl

pub related_set-compl : (a : SetTree) (w : Bool) (p : ValueTree → ValueTree → Bool) (s : SetTree) → related_set (t.compl a) w p s ≡ (p (t.of_set (t.compl a)) (t.of_set s) || compl_with (λ a'. related_set a w p a') s)
unfolding related_set
related_set-compl a w p s = refl

pub compl_with-here : (q : SetTree → Bool) (a : SetTree) → compl_with q (t.compl a) ≡ q a
unfolding compl_with
compl_with-here q a = refl

pub related_set-compr : (a : FormulaTree) (w : Bool) (p : ValueTree → ValueTree → Bool) (s : SetTree) → related_set (t.compr a) w p s ≡ (p (t.of_set (t.compr a)) (t.of_set s) || compr_with (λ a'. related_formula a w p a') s)
unfolding related_set
related_set-compr a w p s = refl

pub compr_with-here : (q : FormulaTree → Bool) (a : FormulaTree) → compr_with q (t.compr a) ≡ q a
unfolding compr_with
compr_with-here q a = refl

pub related_field-free_field : (x : Name) (w : Bool) (p : ValueTree → ValueTree → Bool) (s : FieldTree) → related_field (t.free_field x) w p s ≡ (p (t.of_field (t.free_field x)) (t.of_field s) || free_field_with (λ x'. name_equal x x') s)
unfolding related_field
related_field-free_field x w p s = refl

pub free_field_with-here : (q : Name → Bool) (x : Name) → free_field_with q (t.free_field x) ≡ q x
unfolding free_field_with
free_field_with-here q x = refl

pub related_field-update : (a : FieldTree) (b : TermTree) (c : ValueTree) (w : Bool) (p : ValueTree → ValueTree → Bool) (s : FieldTree) → related_field (t.update a b c) w p s ≡ (p (t.of_field (t.update a b c)) (t.of_field s) || update_with (λ a' b' c'. related_field a w p a' && related_term b w p b' && related_value c w p c') s)
unfolding related_field
related_field-update a b c w p s = refl

pub update_with-here : (q : FieldTree → TermTree → ValueTree → Bool) (a : FieldTree) (b : TermTree) (c : ValueTree) → update_with q (t.update a b c) ≡ q a b c
unfolding update_with
update_with-here q a b c = refl

pub related_value-of_object : (a : TermTree) (w : Bool) (p : ValueTree → ValueTree → Bool) (s : ValueTree) → related_value (t.of_object a) w p s ≡ (of_object_with (λ a'. related_term a w p a') s)
unfolding related_value
related_value-of_object a w p s = refl

pub of_object_with-here : (q : TermTree → Bool) (a : TermTree) → of_object_with q (t.of_object a) ≡ q a
unfolding of_object_with
of_object_with-here q a = refl

pub related_value-of_number : (a : IntTree) (w : Bool) (p : ValueTree → ValueTree → Bool) (s : ValueTree) → related_value (t.of_number a) w p s ≡ (of_number_with (λ a'. related_int a w p a') s)
unfolding related_value
related_value-of_number a w p s = refl

pub of_number_with-here : (q : IntTree → Bool) (a : IntTree) → of_number_with q (t.of_number a) ≡ q a
unfolding of_number_with
of_number_with-here q a = refl

pub related_value-of_truth : (a : FormulaTree) (w : Bool) (p : ValueTree → ValueTree → Bool) (s : ValueTree) → related_value (t.of_truth a) w p s ≡ (of_truth_with (λ a'. related_formula a w p a') s)
unfolding related_value
related_value-of_truth a w p s = refl

pub of_truth_with-here : (q : FormulaTree → Bool) (a : FormulaTree) → of_truth_with q (t.of_truth a) ≡ q a
unfolding of_truth_with
of_truth_with-here q a = refl

pub related_value-of_set : (a : SetTree) (w : Bool) (p : ValueTree → ValueTree → Bool) (s : ValueTree) → related_value (t.of_set a) w p s ≡ (of_set_with (λ a'. related_set a w p a') s)
unfolding related_value
related_value-of_set a w p s = refl

pub of_set_with-here : (q : SetTree → Bool) (a : SetTree) → of_set_with q (t.of_set a) ≡ q a
unfolding of_set_with
of_set_with-here q a = refl

pub related_value-of_field : (a : FieldTree) (w : Bool) (p : ValueTree → ValueTree → Bool) (s : ValueTree) → related_value (t.of_field a) w p s ≡ (of_field_with (λ a'. related_field a w p a') s)
unfolding related_value
related_value-of_field a w p s = refl

pub of_field_with-here : (q : FieldTree → Bool) (a : FieldTree) → of_field_with q (t.of_field a) ≡ q a
unfolding of_field_with
of_field_with-here q a = refl

pub related_formula-true_formula : (w : Bool) (p : ValueTree → ValueTree → Bool) (s : FormulaTree) → related_formula t.true_formula w p s ≡ (p (t.of_truth t.true_formula) (t.of_truth s) || true_formula_with (seen w s))
unfolding related_formula
related_formula-true_formula w p s = refl

pub true_formula_with-here : true_formula_with t.true_formula ≡ true
unfolding true_formula_with
true_formula_with-here = refl

pub related_formula-false_formula : (w : Bool) (p : ValueTree → ValueTree → Bool) (s : FormulaTree) → related_formula t.false_formula w p s ≡ (p (t.of_truth t.false_formula) (t.of_truth s) || false_formula_with (seen w s))
unfolding related_formula
related_formula-false_formula w p s = refl

pub false_formula_with-here : false_formula_with t.false_formula ≡ true
unfolding false_formula_with
false_formula_with-here = refl

pub related_formula-free_truth : (x : Name) (w : Bool) (p : ValueTree → ValueTree → Bool) (s : FormulaTree) → related_formula (t.free_truth x) w p s ≡ (p (t.of_truth (t.free_truth x)) (t.of_truth s) || free_truth_with (λ x'. name_equal x x') (seen w s))
unfolding related_formula
related_formula-free_truth x w p s = refl

pub free_truth_with-here : (q : Name → Bool) (x : Name) → free_truth_with q (t.free_truth x) ≡ q x
unfolding free_truth_with
free_truth_with-here q x = refl

pub related_formula-read_truth : (a : FieldTree) (b : TermTree) (w : Bool) (p : ValueTree → ValueTree → Bool) (s : FormulaTree) → related_formula (t.read_truth a b) w p s ≡ (p (t.of_truth (t.read_truth a b)) (t.of_truth s) || read_truth_with (λ a' b'. related_field a w p a' && related_term b w p b') (seen w s))
unfolding related_formula
related_formula-read_truth a b w p s = refl

pub read_truth_with-here : (q : FieldTree → TermTree → Bool) (a : FieldTree) (b : TermTree) → read_truth_with q (t.read_truth a b) ≡ q a b
unfolding read_truth_with
read_truth_with-here q a b = refl

pub related_formula-negation : (a : FormulaTree) (w : Bool) (p : ValueTree → ValueTree → Bool) (s : FormulaTree) → related_formula (t.negation a) w p s ≡ (p (t.of_truth (t.negation a)) (t.of_truth s) || negation_with (λ a'. related_formula a w p a') (seen w s))
unfolding related_formula
related_formula-negation a w p s = refl

pub negation_with-here : (q : FormulaTree → Bool) (a : FormulaTree) → negation_with q (t.negation a) ≡ q a
unfolding negation_with
negation_with-here q a = refl

pub related_formula-and : (a : FormulaTree) (b : FormulaTree) (w : Bool) (p : ValueTree → ValueTree → Bool) (s : FormulaTree) → related_formula (t.and a b) w p s ≡ (p (t.of_truth (t.and a b)) (t.of_truth s) || and_with (λ a' b'. related_formula a w p a' && related_formula b w p b') (seen w s))
unfolding related_formula
related_formula-and a b w p s = refl

pub and_with-here : (q : FormulaTree → FormulaTree → Bool) (a : FormulaTree) (b : FormulaTree) → and_with q (t.and a b) ≡ q a b
unfolding and_with
and_with-here q a b = refl

pub related_formula-or : (a : FormulaTree) (b : FormulaTree) (w : Bool) (p : ValueTree → ValueTree → Bool) (s : FormulaTree) → related_formula (t.or a b) w p s ≡ (p (t.of_truth (t.or a b)) (t.of_truth s) || or_with (λ a' b'. related_formula a w p a' && related_formula b w p b') (seen w s))
unfolding related_formula
related_formula-or a b w p s = refl

pub or_with-here : (q : FormulaTree → FormulaTree → Bool) (a : FormulaTree) (b : FormulaTree) → or_with q (t.or a b) ≡ q a b
unfolding or_with
or_with-here q a b = refl

pub related_formula-implies : (a : FormulaTree) (b : FormulaTree) (w : Bool) (p : ValueTree → ValueTree → Bool) (s : FormulaTree) → related_formula (t.implies a b) w p s ≡ (p (t.of_truth (t.implies a b)) (t.of_truth s) || implies_with (λ a' b'. related_formula a w p a' && related_formula b w p b') (seen w s))
unfolding related_formula
related_formula-implies a b w p s = refl

pub implies_with-here : (q : FormulaTree → FormulaTree → Bool) (a : FormulaTree) (b : FormulaTree) → implies_with q (t.implies a b) ≡ q a b
unfolding implies_with
implies_with-here q a b = refl

pub related_formula-iff : (a : FormulaTree) (b : FormulaTree) (w : Bool) (p : ValueTree → ValueTree → Bool) (s : FormulaTree) → related_formula (t.iff a b) w p s ≡ (p (t.of_truth (t.iff a b)) (t.of_truth s) || iff_with (λ a' b'. related_formula a w p a' && related_formula b w p b') (seen w s))
unfolding related_formula
related_formula-iff a b w p s = refl

pub iff_with-here : (q : FormulaTree → FormulaTree → Bool) (a : FormulaTree) (b : FormulaTree) → iff_with q (t.iff a b) ≡ q a b
unfolding iff_with
iff_with-here q a b = refl

pub related_formula-all : (a : FormulaTree) (w : Bool) (p : ValueTree → ValueTree → Bool) (s : FormulaTree) → related_formula (t.all a) w p s ≡ (p (t.of_truth (t.all a)) (t.of_truth s) || all_with (λ a'. related_formula a w p a') (seen w s))
unfolding related_formula
related_formula-all a w p s = refl

pub all_with-here : (q : FormulaTree → Bool) (a : FormulaTree) → all_with q (t.all a) ≡ q a
unfolding all_with
all_with-here q a = refl

pub related_formula-ex : (a : FormulaTree) (w : Bool) (p : ValueTree → ValueTree → Bool) (s : FormulaTree) → related_formula (t.ex a) w p s ≡ (p (t.of_truth (t.ex a)) (t.of_truth s) || ex_with (λ a'. related_formula a w p a') (seen w s))
unfolding related_formula
related_formula-ex a w p s = refl

pub ex_with-here : (q : FormulaTree → Bool) (a : FormulaTree) → ex_with q (t.ex a) ≡ q a
unfolding ex_with
ex_with-here q a = refl

pub related_formula-eq_object : (a : TermTree) (b : TermTree) (w : Bool) (p : ValueTree → ValueTree → Bool) (s : FormulaTree) → related_formula (t.eq_object a b) w p s ≡ (p (t.of_truth (t.eq_object a b)) (t.of_truth s) || eq_object_with (λ a' b'. related_term a w p a' && related_term b w p b') (seen w s))
unfolding related_formula
related_formula-eq_object a b w p s = refl

pub eq_object_with-here : (q : TermTree → TermTree → Bool) (a : TermTree) (b : TermTree) → eq_object_with q (t.eq_object a b) ≡ q a b
unfolding eq_object_with
eq_object_with-here q a b = refl

pub related_formula-eq_number : (a : IntTree) (b : IntTree) (w : Bool) (p : ValueTree → ValueTree → Bool) (s : FormulaTree) → related_formula (t.eq_number a b) w p s ≡ (p (t.of_truth (t.eq_number a b)) (t.of_truth s) || eq_number_with (λ a' b'. related_int a w p a' && related_int b w p b') (seen w s))
unfolding related_formula
related_formula-eq_number a b w p s = refl

pub eq_number_with-here : (q : IntTree → IntTree → Bool) (a : IntTree) (b : IntTree) → eq_number_with q (t.eq_number a b) ≡ q a b
unfolding eq_number_with
eq_number_with-here q a b = refl

pub related_formula-eq_set : (a : SetTree) (b : SetTree) (w : Bool) (p : ValueTree → ValueTree → Bool) (s : FormulaTree) → related_formula (t.eq_set a b) w p s ≡ (p (t.of_truth (t.eq_set a b)) (t.of_truth s) || eq_set_with (λ a' b'. related_set a w p a' && related_set b w p b') (seen w s))
unfolding related_formula
related_formula-eq_set a b w p s = refl

pub eq_set_with-here : (q : SetTree → SetTree → Bool) (a : SetTree) (b : SetTree) → eq_set_with q (t.eq_set a b) ≡ q a b
unfolding eq_set_with
eq_set_with-here q a b = refl

pub related_formula-less : (a : IntTree) (b : IntTree) (w : Bool) (p : ValueTree → ValueTree → Bool) (s : FormulaTree) → related_formula (t.less a b) w p s ≡ (p (t.of_truth (t.less a b)) (t.of_truth s) || less_with (λ a' b'. related_int a w p a' && related_int b w p b') (seen w s))
unfolding related_formula
related_formula-less a b w p s = refl

pub less_with-here : (q : IntTree → IntTree → Bool) (a : IntTree) (b : IntTree) → less_with q (t.less a b) ≡ q a b
unfolding less_with
less_with-here q a b = refl

pub related_formula-less_equal : (a : IntTree) (b : IntTree) (w : Bool) (p : ValueTree → ValueTree → Bool) (s : FormulaTree) → related_formula (t.less_equal a b) w p s ≡ (p (t.of_truth (t.less_equal a b)) (t.of_truth s) || less_equal_with (λ a' b'. related_int a w p a' && related_int b w p b') (seen w s))
unfolding related_formula
related_formula-less_equal a b w p s = refl

pub less_equal_with-here : (q : IntTree → IntTree → Bool) (a : IntTree) (b : IntTree) → less_equal_with q (t.less_equal a b) ≡ q a b
unfolding less_equal_with
less_equal_with-here q a b = refl

pub related_formula-divides : (z : ℤ) (a : IntTree) (w : Bool) (p : ValueTree → ValueTree → Bool) (s : FormulaTree) → related_formula (t.divides z a) w p s ≡ (p (t.of_truth (t.divides z a)) (t.of_truth s) || divides_with (λ z' a'. int_eq z z' && related_int a w p a') (seen w s))
unfolding related_formula
related_formula-divides z a w p s = refl

pub divides_with-here : (q : ℤ → IntTree → Bool) (z : ℤ) (a : IntTree) → divides_with q (t.divides z a) ≡ q z a
unfolding divides_with
divides_with-here q z a = refl

pub related_formula-member : (a : TermTree) (b : SetTree) (w : Bool) (p : ValueTree → ValueTree → Bool) (s : FormulaTree) → related_formula (t.member a b) w p s ≡ (p (t.of_truth (t.member a b)) (t.of_truth s) || member_with (λ a' b'. related_term a w p a' && related_set b w p b') (seen w s))
unfolding related_formula
related_formula-member a b w p s = refl

pub member_with-here : (q : TermTree → SetTree → Bool) (a : TermTree) (b : SetTree) → member_with q (t.member a b) ≡ q a b
unfolding member_with
member_with-here q a b = refl

pub related_formula-subset : (a : SetTree) (b : SetTree) (w : Bool) (p : ValueTree → ValueTree → Bool) (s : FormulaTree) → related_formula (t.subset a b) w p s ≡ (p (t.of_truth (t.subset a b)) (t.of_truth s) || subset_with (λ a' b'. related_set a w p a' && related_set b w p b') (seen w s))
unfolding related_formula
related_formula-subset a b w p s = refl

pub subset_with-here : (q : SetTree → SetTree → Bool) (a : SetTree) (b : SetTree) → subset_with q (t.subset a b) ≡ q a b
unfolding subset_with
subset_with-here q a b = refl

pub related_formula-reach : (fs : FieldTrees) (a : TermTree) (b : TermTree) (w : Bool) (p : ValueTree → ValueTree → Bool) (s : FormulaTree) → related_formula (t.reach fs a b) w p s ≡ (p (t.of_truth (t.reach fs a b)) (t.of_truth s) || reach_with (λ fs' a' b'. related_fields fs w p fs' && related_term a w p a' && related_term b w p b') (seen w s))
unfolding related_formula
related_formula-reach fs a b w p s = refl

pub reach_with-here : (q : FieldTrees → TermTree → TermTree → Bool) (fs : FieldTrees) (a : TermTree) (b : TermTree) → reach_with q (t.reach fs a b) ≡ q fs a b
unfolding reach_with
reach_with-here q fs a b = refl

pub related_formula-tree : (fs : FieldTrees) (w : Bool) (p : ValueTree → ValueTree → Bool) (s : FormulaTree) → related_formula (t.tree fs) w p s ≡ (p (t.of_truth (t.tree fs)) (t.of_truth s) || tree_with (λ fs'. related_fields fs w p fs') (seen w s))
unfolding related_formula
related_formula-tree fs w p s = refl

pub tree_with-here : (q : FieldTrees → Bool) (fs : FieldTrees) → tree_with q (t.tree fs) ≡ q fs
unfolding tree_with
tree_with-here q fs = refl

pub related_formula-mark : (k : Mark) (a : FormulaTree) (w : Bool) (p : ValueTree → ValueTree → Bool) (s : FormulaTree) → related_formula (t.mark k a) w p s ≡ (p (t.of_truth (t.mark k a)) (t.of_truth s) || by_labels w (mark_with (λ k' a'. mark_equal k k' && related_formula a w p a') (seen w s)) (related_formula a w p (seen w s)))
unfolding related_formula
related_formula-mark k a w p s = refl

pub mark_with-here : (q : Mark → FormulaTree → Bool) (k : Mark) (a : FormulaTree) → mark_with q (t.mark k a) ≡ q k a
unfolding mark_with
mark_with-here q k a = refl

pub related_fields-none : (w : Bool) (p : ValueTree → ValueTree → Bool) (s : FieldTrees) → related_fields t.none w p s ≡ (none_with s)
unfolding related_fields
related_fields-none w p s = refl

pub none_with-here : none_with t.none ≡ true
unfolding none_with
none_with-here = refl

pub related_fields-more : (f : FieldTree) (fs : FieldTrees) (w : Bool) (p : ValueTree → ValueTree → Bool) (s : FieldTrees) → related_fields (t.more f fs) w p s ≡ (more_with (λ f' fs'. related_field f w p f' && related_fields fs w p fs') s)
unfolding related_fields
related_fields-more f fs w p s = refl

pub more_with-here : (q : FieldTree → FieldTrees → Bool) (f : FieldTree) (fs : FieldTrees) → more_with q (t.more f fs) ≡ q f fs
unfolding more_with
more_with-here q f fs = refl

pub ruleset here_steps = (bound_with-here, free_object_with-here, null_with-here, read_object_with-here, const_with-here, free_number_with-here, read_number_with-here, add_with-here, sub_with-here, neg_with-here, scale_with-here, card_with-here, free_set_with-here, read_set_with-here, empty_with-here, univ_with-here, single_with-here, union_with-here, inter_with-here, diff_with-here, compl_with-here, compr_with-here, free_field_with-here, update_with-here, of_object_with-here, of_number_with-here, of_truth_with-here, of_set_with-here, of_field_with-here, true_formula_with-here, false_formula_with-here, free_truth_with-here, read_truth_with-here, negation_with-here, and_with-here, or_with-here, implies_with-here, iff_with-here, all_with-here, ex_with-here, eq_object_with-here, eq_number_with-here, eq_set_with-here, less_with-here, less_equal_with-here, divides_with-here, member_with-here, subset_with-here, reach_with-here, tree_with-here, mark_with-here, none_with-here, more_with-here)

pub ruleset compare_steps = (related_term-bound, related_term-free_object, related_term-null, related_term-read_object, related_int-const, related_int-free_number, related_int-read_number, related_int-add, related_int-sub, related_int-neg, related_int-scale, related_int-card, related_set-free_set, related_set-read_set, related_set-empty, related_set-univ, related_set-single, related_set-union, related_set-inter, related_set-diff, related_set-compl, related_set-compr, related_field-free_field, related_field-update, related_value-of_object, related_value-of_number, related_value-of_truth, related_value-of_set, related_value-of_field, related_formula-true_formula, related_formula-false_formula, related_formula-free_truth, related_formula-read_truth, related_formula-negation, related_formula-and, related_formula-or, related_formula-implies, related_formula-iff, related_formula-all, related_formula-ex, related_formula-eq_object, related_formula-eq_number, related_formula-eq_set, related_formula-less, related_formula-less_equal, related_formula-divides, related_formula-member, related_formula-subset, related_formula-reach, related_formula-tree, related_formula-mark, related_fields-none, related_fields-more)

pub bound_with-else : (q : ℕ → Bool) (r : Term) → ((k : ℕ) → r ≡ (term.Bound k) → ⊥) → bound_with q (term_tree r) ≡ false
unfolding bound_with term_tree
bound_with-else q (term.Bound k) n = absurd (n k refl)
bound_with-else q (term.Free x) n = refl
bound_with-else q term.Null n = refl
bound_with-else q (term.Read' i a j b) n = refl

pub free_object_with-else : (q : Name → Bool) (r : Term) → ((x : Name) → r ≡ (term.Free x) → ⊥) → free_object_with q (term_tree r) ≡ false
unfolding free_object_with term_tree
free_object_with-else q (term.Bound k) n = refl
free_object_with-else q (term.Free x) n = absurd (n x refl)
free_object_with-else q term.Null n = refl
free_object_with-else q (term.Read' i a j b) n = refl

pub null_with-else : (r : Term) → (r ≡ term.Null → ⊥) → null_with (term_tree r) ≡ false
unfolding null_with term_tree
null_with-else (term.Bound k) n = refl
null_with-else (term.Free x) n = refl
null_with-else term.Null n = absurd (n refl)
null_with-else (term.Read' i a j b) n = refl

pub read_object_with-else : (q : FieldTree → TermTree → Bool) (r : Term) → ((a : Box FieldTerm Global) (b : Box Term Global) → r ≡ (term.Read a b) → ⊥) → read_object_with q (term_tree r) ≡ false
unfolding read_object_with term_tree
read_object_with-else q (term.Bound k) n = refl
read_object_with-else q (term.Free x) n = refl
read_object_with-else q term.Null n = refl
read_object_with-else q (term.Read' i a j b) n = absurd (n (record { ptr = i.ptr; alloc = i.alloc; value = a }) (record { ptr = j.ptr; alloc = j.alloc; value = b }) refl)

pub const_with-else : (q : ℤ → Bool) (r : IntTerm) → ((z : ℤ) → r ≡ (int.Const z) → ⊥) → const_with q (int_tree r) ≡ false
unfolding const_with int_tree
const_with-else q (int.Const z) n = absurd (n z refl)
const_with-else q (int.Free x) n = refl
const_with-else q (int.Read' i a j b) n = refl
const_with-else q (int.Add' i a j b) n = refl
const_with-else q (int.Sub' i a j b) n = refl
const_with-else q (int.Neg' i a) n = refl
const_with-else q (int.Scale' z i a) n = refl
const_with-else q (int.Card' i a) n = refl

pub free_number_with-else : (q : Name → Bool) (r : IntTerm) → ((x : Name) → r ≡ (int.Free x) → ⊥) → free_number_with q (int_tree r) ≡ false
unfolding free_number_with int_tree
free_number_with-else q (int.Const z) n = refl
free_number_with-else q (int.Free x) n = absurd (n x refl)
free_number_with-else q (int.Read' i a j b) n = refl
free_number_with-else q (int.Add' i a j b) n = refl
free_number_with-else q (int.Sub' i a j b) n = refl
free_number_with-else q (int.Neg' i a) n = refl
free_number_with-else q (int.Scale' z i a) n = refl
free_number_with-else q (int.Card' i a) n = refl

pub read_number_with-else : (q : FieldTree → TermTree → Bool) (r : IntTerm) → ((a : Box FieldTerm Global) (b : Box Term Global) → r ≡ (int.Read a b) → ⊥) → read_number_with q (int_tree r) ≡ false
unfolding read_number_with int_tree
read_number_with-else q (int.Const z) n = refl
read_number_with-else q (int.Free x) n = refl
read_number_with-else q (int.Read' i a j b) n = absurd (n (record { ptr = i.ptr; alloc = i.alloc; value = a }) (record { ptr = j.ptr; alloc = j.alloc; value = b }) refl)
read_number_with-else q (int.Add' i a j b) n = refl
read_number_with-else q (int.Sub' i a j b) n = refl
read_number_with-else q (int.Neg' i a) n = refl
read_number_with-else q (int.Scale' z i a) n = refl
read_number_with-else q (int.Card' i a) n = refl

pub add_with-else : (q : IntTree → IntTree → Bool) (r : IntTerm) → ((a : Box IntTerm Global) (b : Box IntTerm Global) → r ≡ (int.Add a b) → ⊥) → add_with q (int_tree r) ≡ false
unfolding add_with int_tree
add_with-else q (int.Const z) n = refl
add_with-else q (int.Free x) n = refl
add_with-else q (int.Read' i a j b) n = refl
add_with-else q (int.Add' i a j b) n = absurd (n (record { ptr = i.ptr; alloc = i.alloc; value = a }) (record { ptr = j.ptr; alloc = j.alloc; value = b }) refl)
add_with-else q (int.Sub' i a j b) n = refl
add_with-else q (int.Neg' i a) n = refl
add_with-else q (int.Scale' z i a) n = refl
add_with-else q (int.Card' i a) n = refl

pub sub_with-else : (q : IntTree → IntTree → Bool) (r : IntTerm) → ((a : Box IntTerm Global) (b : Box IntTerm Global) → r ≡ (int.Sub a b) → ⊥) → sub_with q (int_tree r) ≡ false
unfolding sub_with int_tree
sub_with-else q (int.Const z) n = refl
sub_with-else q (int.Free x) n = refl
sub_with-else q (int.Read' i a j b) n = refl
sub_with-else q (int.Add' i a j b) n = refl
sub_with-else q (int.Sub' i a j b) n = absurd (n (record { ptr = i.ptr; alloc = i.alloc; value = a }) (record { ptr = j.ptr; alloc = j.alloc; value = b }) refl)
sub_with-else q (int.Neg' i a) n = refl
sub_with-else q (int.Scale' z i a) n = refl
sub_with-else q (int.Card' i a) n = refl

pub neg_with-else : (q : IntTree → Bool) (r : IntTerm) → ((a : Box IntTerm Global) → r ≡ (int.Neg a) → ⊥) → neg_with q (int_tree r) ≡ false
unfolding neg_with int_tree
neg_with-else q (int.Const z) n = refl
neg_with-else q (int.Free x) n = refl
neg_with-else q (int.Read' i a j b) n = refl
neg_with-else q (int.Add' i a j b) n = refl
neg_with-else q (int.Sub' i a j b) n = refl
neg_with-else q (int.Neg' i a) n = absurd (n (record { ptr = i.ptr; alloc = i.alloc; value = a }) refl)
neg_with-else q (int.Scale' z i a) n = refl
neg_with-else q (int.Card' i a) n = refl

pub scale_with-else : (q : ℤ → IntTree → Bool) (r : IntTerm) → ((z : ℤ) (a : Box IntTerm Global) → r ≡ (int.Scale z a) → ⊥) → scale_with q (int_tree r) ≡ false
unfolding scale_with int_tree
scale_with-else q (int.Const z) n = refl
scale_with-else q (int.Free x) n = refl
scale_with-else q (int.Read' i a j b) n = refl
scale_with-else q (int.Add' i a j b) n = refl
scale_with-else q (int.Sub' i a j b) n = refl
scale_with-else q (int.Neg' i a) n = refl
scale_with-else q (int.Scale' z i a) n = absurd (n z (record { ptr = i.ptr; alloc = i.alloc; value = a }) refl)
scale_with-else q (int.Card' i a) n = refl

pub card_with-else : (q : SetTree → Bool) (r : IntTerm) → ((a : Box SetTerm Global) → r ≡ (int.Card a) → ⊥) → card_with q (int_tree r) ≡ false
unfolding card_with int_tree
card_with-else q (int.Const z) n = refl
card_with-else q (int.Free x) n = refl
card_with-else q (int.Read' i a j b) n = refl
card_with-else q (int.Add' i a j b) n = refl
card_with-else q (int.Sub' i a j b) n = refl
card_with-else q (int.Neg' i a) n = refl
card_with-else q (int.Scale' z i a) n = refl
card_with-else q (int.Card' i a) n = absurd (n (record { ptr = i.ptr; alloc = i.alloc; value = a }) refl)

pub free_set_with-else : (q : Name → Bool) (r : SetTerm) → ((x : Name) → r ≡ (set.Free x) → ⊥) → free_set_with q (set_tree r) ≡ false
unfolding free_set_with set_tree
free_set_with-else q (set.Free x) n = absurd (n x refl)
free_set_with-else q (set.Read' i a j b) n = refl
free_set_with-else q set.Empty n = refl
free_set_with-else q set.Univ n = refl
free_set_with-else q (set.Single' i a) n = refl
free_set_with-else q (set.Union' i a j b) n = refl
free_set_with-else q (set.Inter' i a j b) n = refl
free_set_with-else q (set.Diff' i a j b) n = refl
free_set_with-else q (set.Compl' i a) n = refl
free_set_with-else q (set.Compr' i a) n = refl

pub read_set_with-else : (q : FieldTree → TermTree → Bool) (r : SetTerm) → ((a : Box FieldTerm Global) (b : Box Term Global) → r ≡ (set.Read a b) → ⊥) → read_set_with q (set_tree r) ≡ false
unfolding read_set_with set_tree
read_set_with-else q (set.Free x) n = refl
read_set_with-else q (set.Read' i a j b) n = absurd (n (record { ptr = i.ptr; alloc = i.alloc; value = a }) (record { ptr = j.ptr; alloc = j.alloc; value = b }) refl)
read_set_with-else q set.Empty n = refl
read_set_with-else q set.Univ n = refl
read_set_with-else q (set.Single' i a) n = refl
read_set_with-else q (set.Union' i a j b) n = refl
read_set_with-else q (set.Inter' i a j b) n = refl
read_set_with-else q (set.Diff' i a j b) n = refl
read_set_with-else q (set.Compl' i a) n = refl
read_set_with-else q (set.Compr' i a) n = refl

pub empty_with-else : (r : SetTerm) → (r ≡ set.Empty → ⊥) → empty_with (set_tree r) ≡ false
unfolding empty_with set_tree
empty_with-else (set.Free x) n = refl
empty_with-else (set.Read' i a j b) n = refl
empty_with-else set.Empty n = absurd (n refl)
empty_with-else set.Univ n = refl
empty_with-else (set.Single' i a) n = refl
empty_with-else (set.Union' i a j b) n = refl
empty_with-else (set.Inter' i a j b) n = refl
empty_with-else (set.Diff' i a j b) n = refl
empty_with-else (set.Compl' i a) n = refl
empty_with-else (set.Compr' i a) n = refl

pub univ_with-else : (r : SetTerm) → (r ≡ set.Univ → ⊥) → univ_with (set_tree r) ≡ false
unfolding univ_with set_tree
univ_with-else (set.Free x) n = refl
univ_with-else (set.Read' i a j b) n = refl
univ_with-else set.Empty n = refl
univ_with-else set.Univ n = absurd (n refl)
univ_with-else (set.Single' i a) n = refl
univ_with-else (set.Union' i a j b) n = refl
univ_with-else (set.Inter' i a j b) n = refl
univ_with-else (set.Diff' i a j b) n = refl
univ_with-else (set.Compl' i a) n = refl
univ_with-else (set.Compr' i a) n = refl

pub single_with-else : (q : TermTree → Bool) (r : SetTerm) → ((a : Box Term Global) → r ≡ (set.Single a) → ⊥) → single_with q (set_tree r) ≡ false
unfolding single_with set_tree
single_with-else q (set.Free x) n = refl
single_with-else q (set.Read' i a j b) n = refl
single_with-else q set.Empty n = refl
single_with-else q set.Univ n = refl
single_with-else q (set.Single' i a) n = absurd (n (record { ptr = i.ptr; alloc = i.alloc; value = a }) refl)
single_with-else q (set.Union' i a j b) n = refl
single_with-else q (set.Inter' i a j b) n = refl
single_with-else q (set.Diff' i a j b) n = refl
single_with-else q (set.Compl' i a) n = refl
single_with-else q (set.Compr' i a) n = refl

pub union_with-else : (q : SetTree → SetTree → Bool) (r : SetTerm) → ((a : Box SetTerm Global) (b : Box SetTerm Global) → r ≡ (set.Union a b) → ⊥) → union_with q (set_tree r) ≡ false
unfolding union_with set_tree
union_with-else q (set.Free x) n = refl
union_with-else q (set.Read' i a j b) n = refl
union_with-else q set.Empty n = refl
union_with-else q set.Univ n = refl
union_with-else q (set.Single' i a) n = refl
union_with-else q (set.Union' i a j b) n = absurd (n (record { ptr = i.ptr; alloc = i.alloc; value = a }) (record { ptr = j.ptr; alloc = j.alloc; value = b }) refl)
union_with-else q (set.Inter' i a j b) n = refl
union_with-else q (set.Diff' i a j b) n = refl
union_with-else q (set.Compl' i a) n = refl
union_with-else q (set.Compr' i a) n = refl

pub inter_with-else : (q : SetTree → SetTree → Bool) (r : SetTerm) → ((a : Box SetTerm Global) (b : Box SetTerm Global) → r ≡ (set.Inter a b) → ⊥) → inter_with q (set_tree r) ≡ false
unfolding inter_with set_tree
inter_with-else q (set.Free x) n = refl
inter_with-else q (set.Read' i a j b) n = refl
inter_with-else q set.Empty n = refl
inter_with-else q set.Univ n = refl
inter_with-else q (set.Single' i a) n = refl
inter_with-else q (set.Union' i a j b) n = refl
inter_with-else q (set.Inter' i a j b) n = absurd (n (record { ptr = i.ptr; alloc = i.alloc; value = a }) (record { ptr = j.ptr; alloc = j.alloc; value = b }) refl)
inter_with-else q (set.Diff' i a j b) n = refl
inter_with-else q (set.Compl' i a) n = refl
inter_with-else q (set.Compr' i a) n = refl

pub diff_with-else : (q : SetTree → SetTree → Bool) (r : SetTerm) → ((a : Box SetTerm Global) (b : Box SetTerm Global) → r ≡ (set.Diff a b) → ⊥) → diff_with q (set_tree r) ≡ false
unfolding diff_with set_tree
diff_with-else q (set.Free x) n = refl
diff_with-else q (set.Read' i a j b) n = refl
diff_with-else q set.Empty n = refl
diff_with-else q set.Univ n = refl
diff_with-else q (set.Single' i a) n = refl
diff_with-else q (set.Union' i a j b) n = refl
diff_with-else q (set.Inter' i a j b) n = refl
diff_with-else q (set.Diff' i a j b) n = absurd (n (record { ptr = i.ptr; alloc = i.alloc; value = a }) (record { ptr = j.ptr; alloc = j.alloc; value = b }) refl)
diff_with-else q (set.Compl' i a) n = refl
diff_with-else q (set.Compr' i a) n = refl

pub compl_with-else : (q : SetTree → Bool) (r : SetTerm) → ((a : Box SetTerm Global) → r ≡ (set.Compl a) → ⊥) → compl_with q (set_tree r) ≡ false
unfolding compl_with set_tree
compl_with-else q (set.Free x) n = refl
compl_with-else q (set.Read' i a j b) n = refl
compl_with-else q set.Empty n = refl
compl_with-else q set.Univ n = refl
compl_with-else q (set.Single' i a) n = refl
compl_with-else q (set.Union' i a j b) n = refl
compl_with-else q (set.Inter' i a j b) n = refl
compl_with-else q (set.Diff' i a j b) n = refl
compl_with-else q (set.Compl' i a) n = absurd (n (record { ptr = i.ptr; alloc = i.alloc; value = a }) refl)
compl_with-else q (set.Compr' i a) n = refl

pub compr_with-else : (q : FormulaTree → Bool) (r : SetTerm) → ((a : Box Formula Global) → r ≡ (set.Compr a) → ⊥) → compr_with q (set_tree r) ≡ false
unfolding compr_with set_tree
compr_with-else q (set.Free x) n = refl
compr_with-else q (set.Read' i a j b) n = refl
compr_with-else q set.Empty n = refl
compr_with-else q set.Univ n = refl
compr_with-else q (set.Single' i a) n = refl
compr_with-else q (set.Union' i a j b) n = refl
compr_with-else q (set.Inter' i a j b) n = refl
compr_with-else q (set.Diff' i a j b) n = refl
compr_with-else q (set.Compl' i a) n = refl
compr_with-else q (set.Compr' i a) n = absurd (n (record { ptr = i.ptr; alloc = i.alloc; value = a }) refl)

pub free_field_with-else : (q : Name → Bool) (r : FieldTerm) → ((x : Name) → r ≡ (field.Free x) → ⊥) → free_field_with q (field_tree r) ≡ false
unfolding free_field_with field_tree
free_field_with-else q (field.Free x) n = absurd (n x refl)
free_field_with-else q (field.Update' i a j b l c) n = refl

pub update_with-else : (q : FieldTree → TermTree → ValueTree → Bool) (r : FieldTerm) → ((a : Box FieldTerm Global) (b : Box Term Global) (c : Box Value Global) → r ≡ (field.Update a b c) → ⊥) → update_with q (field_tree r) ≡ false
unfolding update_with field_tree
update_with-else q (field.Free x) n = refl
update_with-else q (field.Update' i a j b l c) n = absurd (n (record { ptr = i.ptr; alloc = i.alloc; value = a }) (record { ptr = j.ptr; alloc = j.alloc; value = b }) (record { ptr = l.ptr; alloc = l.alloc; value = c }) refl)

pub of_object_with-else : (q : TermTree → Bool) (r : Value) → ((a : Term) → r ≡ (value.Obj a) → ⊥) → of_object_with q (value_tree r) ≡ false
unfolding of_object_with value_tree
of_object_with-else q (value.Obj a) n = absurd (n a refl)
of_object_with-else q (value.Int a) n = refl
of_object_with-else q (value.Bool a) n = refl
of_object_with-else q (value.Set a) n = refl
of_object_with-else q (value.Field a) n = refl

pub of_number_with-else : (q : IntTree → Bool) (r : Value) → ((a : IntTerm) → r ≡ (value.Int a) → ⊥) → of_number_with q (value_tree r) ≡ false
unfolding of_number_with value_tree
of_number_with-else q (value.Obj a) n = refl
of_number_with-else q (value.Int a) n = absurd (n a refl)
of_number_with-else q (value.Bool a) n = refl
of_number_with-else q (value.Set a) n = refl
of_number_with-else q (value.Field a) n = refl

pub of_truth_with-else : (q : FormulaTree → Bool) (r : Value) → ((a : Formula) → r ≡ (value.Bool a) → ⊥) → of_truth_with q (value_tree r) ≡ false
unfolding of_truth_with value_tree
of_truth_with-else q (value.Obj a) n = refl
of_truth_with-else q (value.Int a) n = refl
of_truth_with-else q (value.Bool a) n = absurd (n a refl)
of_truth_with-else q (value.Set a) n = refl
of_truth_with-else q (value.Field a) n = refl

pub of_set_with-else : (q : SetTree → Bool) (r : Value) → ((a : SetTerm) → r ≡ (value.Set a) → ⊥) → of_set_with q (value_tree r) ≡ false
unfolding of_set_with value_tree
of_set_with-else q (value.Obj a) n = refl
of_set_with-else q (value.Int a) n = refl
of_set_with-else q (value.Bool a) n = refl
of_set_with-else q (value.Set a) n = absurd (n a refl)
of_set_with-else q (value.Field a) n = refl

pub of_field_with-else : (q : FieldTree → Bool) (r : Value) → ((a : FieldTerm) → r ≡ (value.Field a) → ⊥) → of_field_with q (value_tree r) ≡ false
unfolding of_field_with value_tree
of_field_with-else q (value.Obj a) n = refl
of_field_with-else q (value.Int a) n = refl
of_field_with-else q (value.Bool a) n = refl
of_field_with-else q (value.Set a) n = refl
of_field_with-else q (value.Field a) n = absurd (n a refl)

pub true_formula_with-else : (r : Formula) → (r ≡ formula.True → ⊥) → true_formula_with (formula_tree r) ≡ false
unfolding true_formula_with formula_tree
true_formula_with-else formula.True n = absurd (n refl)
true_formula_with-else formula.False n = refl
true_formula_with-else (formula.Free x) n = refl
true_formula_with-else (formula.Read' i a j b) n = refl
true_formula_with-else (formula.Not' i a) n = refl
true_formula_with-else (formula.And' i a j b) n = refl
true_formula_with-else (formula.Or' i a j b) n = refl
true_formula_with-else (formula.Implies' i a j b) n = refl
true_formula_with-else (formula.Iff' i a j b) n = refl
true_formula_with-else (formula.All' i a) n = refl
true_formula_with-else (formula.Ex' i a) n = refl
true_formula_with-else (formula.EqObj a b) n = refl
true_formula_with-else (formula.EqInt a b) n = refl
true_formula_with-else (formula.EqSet a b) n = refl
true_formula_with-else (formula.Less a b) n = refl
true_formula_with-else (formula.LessEq a b) n = refl
true_formula_with-else (formula.Divides z a) n = refl
true_formula_with-else (formula.Member a b) n = refl
true_formula_with-else (formula.Subset a b) n = refl
true_formula_with-else (formula.Reach' shape fs a b) n = refl
true_formula_with-else (formula.Tree' shape fs) n = refl
true_formula_with-else (formula.Mark' k i a) n = refl

pub false_formula_with-else : (r : Formula) → (r ≡ formula.False → ⊥) → false_formula_with (formula_tree r) ≡ false
unfolding false_formula_with formula_tree
false_formula_with-else formula.True n = refl
false_formula_with-else formula.False n = absurd (n refl)
false_formula_with-else (formula.Free x) n = refl
false_formula_with-else (formula.Read' i a j b) n = refl
false_formula_with-else (formula.Not' i a) n = refl
false_formula_with-else (formula.And' i a j b) n = refl
false_formula_with-else (formula.Or' i a j b) n = refl
false_formula_with-else (formula.Implies' i a j b) n = refl
false_formula_with-else (formula.Iff' i a j b) n = refl
false_formula_with-else (formula.All' i a) n = refl
false_formula_with-else (formula.Ex' i a) n = refl
false_formula_with-else (formula.EqObj a b) n = refl
false_formula_with-else (formula.EqInt a b) n = refl
false_formula_with-else (formula.EqSet a b) n = refl
false_formula_with-else (formula.Less a b) n = refl
false_formula_with-else (formula.LessEq a b) n = refl
false_formula_with-else (formula.Divides z a) n = refl
false_formula_with-else (formula.Member a b) n = refl
false_formula_with-else (formula.Subset a b) n = refl
false_formula_with-else (formula.Reach' shape fs a b) n = refl
false_formula_with-else (formula.Tree' shape fs) n = refl
false_formula_with-else (formula.Mark' k i a) n = refl

pub free_truth_with-else : (q : Name → Bool) (r : Formula) → ((x : Name) → r ≡ (formula.Free x) → ⊥) → free_truth_with q (formula_tree r) ≡ false
unfolding free_truth_with formula_tree
free_truth_with-else q formula.True n = refl
free_truth_with-else q formula.False n = refl
free_truth_with-else q (formula.Free x) n = absurd (n x refl)
free_truth_with-else q (formula.Read' i a j b) n = refl
free_truth_with-else q (formula.Not' i a) n = refl
free_truth_with-else q (formula.And' i a j b) n = refl
free_truth_with-else q (formula.Or' i a j b) n = refl
free_truth_with-else q (formula.Implies' i a j b) n = refl
free_truth_with-else q (formula.Iff' i a j b) n = refl
free_truth_with-else q (formula.All' i a) n = refl
free_truth_with-else q (formula.Ex' i a) n = refl
free_truth_with-else q (formula.EqObj a b) n = refl
free_truth_with-else q (formula.EqInt a b) n = refl
free_truth_with-else q (formula.EqSet a b) n = refl
free_truth_with-else q (formula.Less a b) n = refl
free_truth_with-else q (formula.LessEq a b) n = refl
free_truth_with-else q (formula.Divides z a) n = refl
free_truth_with-else q (formula.Member a b) n = refl
free_truth_with-else q (formula.Subset a b) n = refl
free_truth_with-else q (formula.Reach' shape fs a b) n = refl
free_truth_with-else q (formula.Tree' shape fs) n = refl
free_truth_with-else q (formula.Mark' k i a) n = refl

pub read_truth_with-else : (q : FieldTree → TermTree → Bool) (r : Formula) → ((a : Box FieldTerm Global) (b : Box Term Global) → r ≡ (formula.Read a b) → ⊥) → read_truth_with q (formula_tree r) ≡ false
unfolding read_truth_with formula_tree
read_truth_with-else q formula.True n = refl
read_truth_with-else q formula.False n = refl
read_truth_with-else q (formula.Free x) n = refl
read_truth_with-else q (formula.Read' i a j b) n = absurd (n (record { ptr = i.ptr; alloc = i.alloc; value = a }) (record { ptr = j.ptr; alloc = j.alloc; value = b }) refl)
read_truth_with-else q (formula.Not' i a) n = refl
read_truth_with-else q (formula.And' i a j b) n = refl
read_truth_with-else q (formula.Or' i a j b) n = refl
read_truth_with-else q (formula.Implies' i a j b) n = refl
read_truth_with-else q (formula.Iff' i a j b) n = refl
read_truth_with-else q (formula.All' i a) n = refl
read_truth_with-else q (formula.Ex' i a) n = refl
read_truth_with-else q (formula.EqObj a b) n = refl
read_truth_with-else q (formula.EqInt a b) n = refl
read_truth_with-else q (formula.EqSet a b) n = refl
read_truth_with-else q (formula.Less a b) n = refl
read_truth_with-else q (formula.LessEq a b) n = refl
read_truth_with-else q (formula.Divides z a) n = refl
read_truth_with-else q (formula.Member a b) n = refl
read_truth_with-else q (formula.Subset a b) n = refl
read_truth_with-else q (formula.Reach' shape fs a b) n = refl
read_truth_with-else q (formula.Tree' shape fs) n = refl
read_truth_with-else q (formula.Mark' k i a) n = refl

pub negation_with-else : (q : FormulaTree → Bool) (r : Formula) → ((a : Box Formula Global) → r ≡ (formula.Not a) → ⊥) → negation_with q (formula_tree r) ≡ false
unfolding negation_with formula_tree
negation_with-else q formula.True n = refl
negation_with-else q formula.False n = refl
negation_with-else q (formula.Free x) n = refl
negation_with-else q (formula.Read' i a j b) n = refl
negation_with-else q (formula.Not' i a) n = absurd (n (record { ptr = i.ptr; alloc = i.alloc; value = a }) refl)
negation_with-else q (formula.And' i a j b) n = refl
negation_with-else q (formula.Or' i a j b) n = refl
negation_with-else q (formula.Implies' i a j b) n = refl
negation_with-else q (formula.Iff' i a j b) n = refl
negation_with-else q (formula.All' i a) n = refl
negation_with-else q (formula.Ex' i a) n = refl
negation_with-else q (formula.EqObj a b) n = refl
negation_with-else q (formula.EqInt a b) n = refl
negation_with-else q (formula.EqSet a b) n = refl
negation_with-else q (formula.Less a b) n = refl
negation_with-else q (formula.LessEq a b) n = refl
negation_with-else q (formula.Divides z a) n = refl
negation_with-else q (formula.Member a b) n = refl
negation_with-else q (formula.Subset a b) n = refl
negation_with-else q (formula.Reach' shape fs a b) n = refl
negation_with-else q (formula.Tree' shape fs) n = refl
negation_with-else q (formula.Mark' k i a) n = refl

pub and_with-else : (q : FormulaTree → FormulaTree → Bool) (r : Formula) → ((a : Box Formula Global) (b : Box Formula Global) → r ≡ (formula.And a b) → ⊥) → and_with q (formula_tree r) ≡ false
unfolding and_with formula_tree
and_with-else q formula.True n = refl
and_with-else q formula.False n = refl
and_with-else q (formula.Free x) n = refl
and_with-else q (formula.Read' i a j b) n = refl
and_with-else q (formula.Not' i a) n = refl
and_with-else q (formula.And' i a j b) n = absurd (n (record { ptr = i.ptr; alloc = i.alloc; value = a }) (record { ptr = j.ptr; alloc = j.alloc; value = b }) refl)
and_with-else q (formula.Or' i a j b) n = refl
and_with-else q (formula.Implies' i a j b) n = refl
and_with-else q (formula.Iff' i a j b) n = refl
and_with-else q (formula.All' i a) n = refl
and_with-else q (formula.Ex' i a) n = refl
and_with-else q (formula.EqObj a b) n = refl
and_with-else q (formula.EqInt a b) n = refl
and_with-else q (formula.EqSet a b) n = refl
and_with-else q (formula.Less a b) n = refl
and_with-else q (formula.LessEq a b) n = refl
and_with-else q (formula.Divides z a) n = refl
and_with-else q (formula.Member a b) n = refl
and_with-else q (formula.Subset a b) n = refl
and_with-else q (formula.Reach' shape fs a b) n = refl
and_with-else q (formula.Tree' shape fs) n = refl
and_with-else q (formula.Mark' k i a) n = refl

pub or_with-else : (q : FormulaTree → FormulaTree → Bool) (r : Formula) → ((a : Box Formula Global) (b : Box Formula Global) → r ≡ (formula.Or a b) → ⊥) → or_with q (formula_tree r) ≡ false
unfolding or_with formula_tree
or_with-else q formula.True n = refl
or_with-else q formula.False n = refl
or_with-else q (formula.Free x) n = refl
or_with-else q (formula.Read' i a j b) n = refl
or_with-else q (formula.Not' i a) n = refl
or_with-else q (formula.And' i a j b) n = refl
or_with-else q (formula.Or' i a j b) n = absurd (n (record { ptr = i.ptr; alloc = i.alloc; value = a }) (record { ptr = j.ptr; alloc = j.alloc; value = b }) refl)
or_with-else q (formula.Implies' i a j b) n = refl
or_with-else q (formula.Iff' i a j b) n = refl
or_with-else q (formula.All' i a) n = refl
or_with-else q (formula.Ex' i a) n = refl
or_with-else q (formula.EqObj a b) n = refl
or_with-else q (formula.EqInt a b) n = refl
or_with-else q (formula.EqSet a b) n = refl
or_with-else q (formula.Less a b) n = refl
or_with-else q (formula.LessEq a b) n = refl
or_with-else q (formula.Divides z a) n = refl
or_with-else q (formula.Member a b) n = refl
or_with-else q (formula.Subset a b) n = refl
or_with-else q (formula.Reach' shape fs a b) n = refl
or_with-else q (formula.Tree' shape fs) n = refl
or_with-else q (formula.Mark' k i a) n = refl

pub implies_with-else : (q : FormulaTree → FormulaTree → Bool) (r : Formula) → ((a : Box Formula Global) (b : Box Formula Global) → r ≡ (formula.Implies a b) → ⊥) → implies_with q (formula_tree r) ≡ false
unfolding implies_with formula_tree
implies_with-else q formula.True n = refl
implies_with-else q formula.False n = refl
implies_with-else q (formula.Free x) n = refl
implies_with-else q (formula.Read' i a j b) n = refl
implies_with-else q (formula.Not' i a) n = refl
implies_with-else q (formula.And' i a j b) n = refl
implies_with-else q (formula.Or' i a j b) n = refl
implies_with-else q (formula.Implies' i a j b) n = absurd (n (record { ptr = i.ptr; alloc = i.alloc; value = a }) (record { ptr = j.ptr; alloc = j.alloc; value = b }) refl)
implies_with-else q (formula.Iff' i a j b) n = refl
implies_with-else q (formula.All' i a) n = refl
implies_with-else q (formula.Ex' i a) n = refl
implies_with-else q (formula.EqObj a b) n = refl
implies_with-else q (formula.EqInt a b) n = refl
implies_with-else q (formula.EqSet a b) n = refl
implies_with-else q (formula.Less a b) n = refl
implies_with-else q (formula.LessEq a b) n = refl
implies_with-else q (formula.Divides z a) n = refl
implies_with-else q (formula.Member a b) n = refl
implies_with-else q (formula.Subset a b) n = refl
implies_with-else q (formula.Reach' shape fs a b) n = refl
implies_with-else q (formula.Tree' shape fs) n = refl
implies_with-else q (formula.Mark' k i a) n = refl

pub iff_with-else : (q : FormulaTree → FormulaTree → Bool) (r : Formula) → ((a : Box Formula Global) (b : Box Formula Global) → r ≡ (formula.Iff a b) → ⊥) → iff_with q (formula_tree r) ≡ false
unfolding iff_with formula_tree
iff_with-else q formula.True n = refl
iff_with-else q formula.False n = refl
iff_with-else q (formula.Free x) n = refl
iff_with-else q (formula.Read' i a j b) n = refl
iff_with-else q (formula.Not' i a) n = refl
iff_with-else q (formula.And' i a j b) n = refl
iff_with-else q (formula.Or' i a j b) n = refl
iff_with-else q (formula.Implies' i a j b) n = refl
iff_with-else q (formula.Iff' i a j b) n = absurd (n (record { ptr = i.ptr; alloc = i.alloc; value = a }) (record { ptr = j.ptr; alloc = j.alloc; value = b }) refl)
iff_with-else q (formula.All' i a) n = refl
iff_with-else q (formula.Ex' i a) n = refl
iff_with-else q (formula.EqObj a b) n = refl
iff_with-else q (formula.EqInt a b) n = refl
iff_with-else q (formula.EqSet a b) n = refl
iff_with-else q (formula.Less a b) n = refl
iff_with-else q (formula.LessEq a b) n = refl
iff_with-else q (formula.Divides z a) n = refl
iff_with-else q (formula.Member a b) n = refl
iff_with-else q (formula.Subset a b) n = refl
iff_with-else q (formula.Reach' shape fs a b) n = refl
iff_with-else q (formula.Tree' shape fs) n = refl
iff_with-else q (formula.Mark' k i a) n = refl

pub all_with-else : (q : FormulaTree → Bool) (r : Formula) → ((a : Box Formula Global) → r ≡ (formula.All a) → ⊥) → all_with q (formula_tree r) ≡ false
unfolding all_with formula_tree
all_with-else q formula.True n = refl
all_with-else q formula.False n = refl
all_with-else q (formula.Free x) n = refl
all_with-else q (formula.Read' i a j b) n = refl
all_with-else q (formula.Not' i a) n = refl
all_with-else q (formula.And' i a j b) n = refl
all_with-else q (formula.Or' i a j b) n = refl
all_with-else q (formula.Implies' i a j b) n = refl
all_with-else q (formula.Iff' i a j b) n = refl
all_with-else q (formula.All' i a) n = absurd (n (record { ptr = i.ptr; alloc = i.alloc; value = a }) refl)
all_with-else q (formula.Ex' i a) n = refl
all_with-else q (formula.EqObj a b) n = refl
all_with-else q (formula.EqInt a b) n = refl
all_with-else q (formula.EqSet a b) n = refl
all_with-else q (formula.Less a b) n = refl
all_with-else q (formula.LessEq a b) n = refl
all_with-else q (formula.Divides z a) n = refl
all_with-else q (formula.Member a b) n = refl
all_with-else q (formula.Subset a b) n = refl
all_with-else q (formula.Reach' shape fs a b) n = refl
all_with-else q (formula.Tree' shape fs) n = refl
all_with-else q (formula.Mark' k i a) n = refl

pub ex_with-else : (q : FormulaTree → Bool) (r : Formula) → ((a : Box Formula Global) → r ≡ (formula.Ex a) → ⊥) → ex_with q (formula_tree r) ≡ false
unfolding ex_with formula_tree
ex_with-else q formula.True n = refl
ex_with-else q formula.False n = refl
ex_with-else q (formula.Free x) n = refl
ex_with-else q (formula.Read' i a j b) n = refl
ex_with-else q (formula.Not' i a) n = refl
ex_with-else q (formula.And' i a j b) n = refl
ex_with-else q (formula.Or' i a j b) n = refl
ex_with-else q (formula.Implies' i a j b) n = refl
ex_with-else q (formula.Iff' i a j b) n = refl
ex_with-else q (formula.All' i a) n = refl
ex_with-else q (formula.Ex' i a) n = absurd (n (record { ptr = i.ptr; alloc = i.alloc; value = a }) refl)
ex_with-else q (formula.EqObj a b) n = refl
ex_with-else q (formula.EqInt a b) n = refl
ex_with-else q (formula.EqSet a b) n = refl
ex_with-else q (formula.Less a b) n = refl
ex_with-else q (formula.LessEq a b) n = refl
ex_with-else q (formula.Divides z a) n = refl
ex_with-else q (formula.Member a b) n = refl
ex_with-else q (formula.Subset a b) n = refl
ex_with-else q (formula.Reach' shape fs a b) n = refl
ex_with-else q (formula.Tree' shape fs) n = refl
ex_with-else q (formula.Mark' k i a) n = refl

pub eq_object_with-else : (q : TermTree → TermTree → Bool) (r : Formula) → ((a : Term) (b : Term) → r ≡ (formula.EqObj a b) → ⊥) → eq_object_with q (formula_tree r) ≡ false
unfolding eq_object_with formula_tree
eq_object_with-else q formula.True n = refl
eq_object_with-else q formula.False n = refl
eq_object_with-else q (formula.Free x) n = refl
eq_object_with-else q (formula.Read' i a j b) n = refl
eq_object_with-else q (formula.Not' i a) n = refl
eq_object_with-else q (formula.And' i a j b) n = refl
eq_object_with-else q (formula.Or' i a j b) n = refl
eq_object_with-else q (formula.Implies' i a j b) n = refl
eq_object_with-else q (formula.Iff' i a j b) n = refl
eq_object_with-else q (formula.All' i a) n = refl
eq_object_with-else q (formula.Ex' i a) n = refl
eq_object_with-else q (formula.EqObj a b) n = absurd (n a b refl)
eq_object_with-else q (formula.EqInt a b) n = refl
eq_object_with-else q (formula.EqSet a b) n = refl
eq_object_with-else q (formula.Less a b) n = refl
eq_object_with-else q (formula.LessEq a b) n = refl
eq_object_with-else q (formula.Divides z a) n = refl
eq_object_with-else q (formula.Member a b) n = refl
eq_object_with-else q (formula.Subset a b) n = refl
eq_object_with-else q (formula.Reach' shape fs a b) n = refl
eq_object_with-else q (formula.Tree' shape fs) n = refl
eq_object_with-else q (formula.Mark' k i a) n = refl

pub eq_number_with-else : (q : IntTree → IntTree → Bool) (r : Formula) → ((a : IntTerm) (b : IntTerm) → r ≡ (formula.EqInt a b) → ⊥) → eq_number_with q (formula_tree r) ≡ false
unfolding eq_number_with formula_tree
eq_number_with-else q formula.True n = refl
eq_number_with-else q formula.False n = refl
eq_number_with-else q (formula.Free x) n = refl
eq_number_with-else q (formula.Read' i a j b) n = refl
eq_number_with-else q (formula.Not' i a) n = refl
eq_number_with-else q (formula.And' i a j b) n = refl
eq_number_with-else q (formula.Or' i a j b) n = refl
eq_number_with-else q (formula.Implies' i a j b) n = refl
eq_number_with-else q (formula.Iff' i a j b) n = refl
eq_number_with-else q (formula.All' i a) n = refl
eq_number_with-else q (formula.Ex' i a) n = refl
eq_number_with-else q (formula.EqObj a b) n = refl
eq_number_with-else q (formula.EqInt a b) n = absurd (n a b refl)
eq_number_with-else q (formula.EqSet a b) n = refl
eq_number_with-else q (formula.Less a b) n = refl
eq_number_with-else q (formula.LessEq a b) n = refl
eq_number_with-else q (formula.Divides z a) n = refl
eq_number_with-else q (formula.Member a b) n = refl
eq_number_with-else q (formula.Subset a b) n = refl
eq_number_with-else q (formula.Reach' shape fs a b) n = refl
eq_number_with-else q (formula.Tree' shape fs) n = refl
eq_number_with-else q (formula.Mark' k i a) n = refl

pub eq_set_with-else : (q : SetTree → SetTree → Bool) (r : Formula) → ((a : SetTerm) (b : SetTerm) → r ≡ (formula.EqSet a b) → ⊥) → eq_set_with q (formula_tree r) ≡ false
unfolding eq_set_with formula_tree
eq_set_with-else q formula.True n = refl
eq_set_with-else q formula.False n = refl
eq_set_with-else q (formula.Free x) n = refl
eq_set_with-else q (formula.Read' i a j b) n = refl
eq_set_with-else q (formula.Not' i a) n = refl
eq_set_with-else q (formula.And' i a j b) n = refl
eq_set_with-else q (formula.Or' i a j b) n = refl
eq_set_with-else q (formula.Implies' i a j b) n = refl
eq_set_with-else q (formula.Iff' i a j b) n = refl
eq_set_with-else q (formula.All' i a) n = refl
eq_set_with-else q (formula.Ex' i a) n = refl
eq_set_with-else q (formula.EqObj a b) n = refl
eq_set_with-else q (formula.EqInt a b) n = refl
eq_set_with-else q (formula.EqSet a b) n = absurd (n a b refl)
eq_set_with-else q (formula.Less a b) n = refl
eq_set_with-else q (formula.LessEq a b) n = refl
eq_set_with-else q (formula.Divides z a) n = refl
eq_set_with-else q (formula.Member a b) n = refl
eq_set_with-else q (formula.Subset a b) n = refl
eq_set_with-else q (formula.Reach' shape fs a b) n = refl
eq_set_with-else q (formula.Tree' shape fs) n = refl
eq_set_with-else q (formula.Mark' k i a) n = refl

pub less_with-else : (q : IntTree → IntTree → Bool) (r : Formula) → ((a : IntTerm) (b : IntTerm) → r ≡ (formula.Less a b) → ⊥) → less_with q (formula_tree r) ≡ false
unfolding less_with formula_tree
less_with-else q formula.True n = refl
less_with-else q formula.False n = refl
less_with-else q (formula.Free x) n = refl
less_with-else q (formula.Read' i a j b) n = refl
less_with-else q (formula.Not' i a) n = refl
less_with-else q (formula.And' i a j b) n = refl
less_with-else q (formula.Or' i a j b) n = refl
less_with-else q (formula.Implies' i a j b) n = refl
less_with-else q (formula.Iff' i a j b) n = refl
less_with-else q (formula.All' i a) n = refl
less_with-else q (formula.Ex' i a) n = refl
less_with-else q (formula.EqObj a b) n = refl
less_with-else q (formula.EqInt a b) n = refl
less_with-else q (formula.EqSet a b) n = refl
less_with-else q (formula.Less a b) n = absurd (n a b refl)
less_with-else q (formula.LessEq a b) n = refl
less_with-else q (formula.Divides z a) n = refl
less_with-else q (formula.Member a b) n = refl
less_with-else q (formula.Subset a b) n = refl
less_with-else q (formula.Reach' shape fs a b) n = refl
less_with-else q (formula.Tree' shape fs) n = refl
less_with-else q (formula.Mark' k i a) n = refl

pub less_equal_with-else : (q : IntTree → IntTree → Bool) (r : Formula) → ((a : IntTerm) (b : IntTerm) → r ≡ (formula.LessEq a b) → ⊥) → less_equal_with q (formula_tree r) ≡ false
unfolding less_equal_with formula_tree
less_equal_with-else q formula.True n = refl
less_equal_with-else q formula.False n = refl
less_equal_with-else q (formula.Free x) n = refl
less_equal_with-else q (formula.Read' i a j b) n = refl
less_equal_with-else q (formula.Not' i a) n = refl
less_equal_with-else q (formula.And' i a j b) n = refl
less_equal_with-else q (formula.Or' i a j b) n = refl
less_equal_with-else q (formula.Implies' i a j b) n = refl
less_equal_with-else q (formula.Iff' i a j b) n = refl
less_equal_with-else q (formula.All' i a) n = refl
less_equal_with-else q (formula.Ex' i a) n = refl
less_equal_with-else q (formula.EqObj a b) n = refl
less_equal_with-else q (formula.EqInt a b) n = refl
less_equal_with-else q (formula.EqSet a b) n = refl
less_equal_with-else q (formula.Less a b) n = refl
less_equal_with-else q (formula.LessEq a b) n = absurd (n a b refl)
less_equal_with-else q (formula.Divides z a) n = refl
less_equal_with-else q (formula.Member a b) n = refl
less_equal_with-else q (formula.Subset a b) n = refl
less_equal_with-else q (formula.Reach' shape fs a b) n = refl
less_equal_with-else q (formula.Tree' shape fs) n = refl
less_equal_with-else q (formula.Mark' k i a) n = refl

pub divides_with-else : (q : ℤ → IntTree → Bool) (r : Formula) → ((z : ℤ) (a : IntTerm) → r ≡ (formula.Divides z a) → ⊥) → divides_with q (formula_tree r) ≡ false
unfolding divides_with formula_tree
divides_with-else q formula.True n = refl
divides_with-else q formula.False n = refl
divides_with-else q (formula.Free x) n = refl
divides_with-else q (formula.Read' i a j b) n = refl
divides_with-else q (formula.Not' i a) n = refl
divides_with-else q (formula.And' i a j b) n = refl
divides_with-else q (formula.Or' i a j b) n = refl
divides_with-else q (formula.Implies' i a j b) n = refl
divides_with-else q (formula.Iff' i a j b) n = refl
divides_with-else q (formula.All' i a) n = refl
divides_with-else q (formula.Ex' i a) n = refl
divides_with-else q (formula.EqObj a b) n = refl
divides_with-else q (formula.EqInt a b) n = refl
divides_with-else q (formula.EqSet a b) n = refl
divides_with-else q (formula.Less a b) n = refl
divides_with-else q (formula.LessEq a b) n = refl
divides_with-else q (formula.Divides z a) n = absurd (n z a refl)
divides_with-else q (formula.Member a b) n = refl
divides_with-else q (formula.Subset a b) n = refl
divides_with-else q (formula.Reach' shape fs a b) n = refl
divides_with-else q (formula.Tree' shape fs) n = refl
divides_with-else q (formula.Mark' k i a) n = refl

pub member_with-else : (q : TermTree → SetTree → Bool) (r : Formula) → ((a : Term) (b : SetTerm) → r ≡ (formula.Member a b) → ⊥) → member_with q (formula_tree r) ≡ false
unfolding member_with formula_tree
member_with-else q formula.True n = refl
member_with-else q formula.False n = refl
member_with-else q (formula.Free x) n = refl
member_with-else q (formula.Read' i a j b) n = refl
member_with-else q (formula.Not' i a) n = refl
member_with-else q (formula.And' i a j b) n = refl
member_with-else q (formula.Or' i a j b) n = refl
member_with-else q (formula.Implies' i a j b) n = refl
member_with-else q (formula.Iff' i a j b) n = refl
member_with-else q (formula.All' i a) n = refl
member_with-else q (formula.Ex' i a) n = refl
member_with-else q (formula.EqObj a b) n = refl
member_with-else q (formula.EqInt a b) n = refl
member_with-else q (formula.EqSet a b) n = refl
member_with-else q (formula.Less a b) n = refl
member_with-else q (formula.LessEq a b) n = refl
member_with-else q (formula.Divides z a) n = refl
member_with-else q (formula.Member a b) n = absurd (n a b refl)
member_with-else q (formula.Subset a b) n = refl
member_with-else q (formula.Reach' shape fs a b) n = refl
member_with-else q (formula.Tree' shape fs) n = refl
member_with-else q (formula.Mark' k i a) n = refl

pub subset_with-else : (q : SetTree → SetTree → Bool) (r : Formula) → ((a : SetTerm) (b : SetTerm) → r ≡ (formula.Subset a b) → ⊥) → subset_with q (formula_tree r) ≡ false
unfolding subset_with formula_tree
subset_with-else q formula.True n = refl
subset_with-else q formula.False n = refl
subset_with-else q (formula.Free x) n = refl
subset_with-else q (formula.Read' i a j b) n = refl
subset_with-else q (formula.Not' i a) n = refl
subset_with-else q (formula.And' i a j b) n = refl
subset_with-else q (formula.Or' i a j b) n = refl
subset_with-else q (formula.Implies' i a j b) n = refl
subset_with-else q (formula.Iff' i a j b) n = refl
subset_with-else q (formula.All' i a) n = refl
subset_with-else q (formula.Ex' i a) n = refl
subset_with-else q (formula.EqObj a b) n = refl
subset_with-else q (formula.EqInt a b) n = refl
subset_with-else q (formula.EqSet a b) n = refl
subset_with-else q (formula.Less a b) n = refl
subset_with-else q (formula.LessEq a b) n = refl
subset_with-else q (formula.Divides z a) n = refl
subset_with-else q (formula.Member a b) n = refl
subset_with-else q (formula.Subset a b) n = absurd (n a b refl)
subset_with-else q (formula.Reach' shape fs a b) n = refl
subset_with-else q (formula.Tree' shape fs) n = refl
subset_with-else q (formula.Mark' k i a) n = refl

pub reach_with-else : (q : FieldTrees → TermTree → TermTree → Bool) (r : Formula) → ((fs : List FieldTerm) (a : Term) (b : Term) → r ≡ (formula.Reach fs a b) → ⊥) → reach_with q (formula_tree r) ≡ false
unfolding reach_with formula_tree
reach_with-else q formula.True n = refl
reach_with-else q formula.False n = refl
reach_with-else q (formula.Free x) n = refl
reach_with-else q (formula.Read' i a j b) n = refl
reach_with-else q (formula.Not' i a) n = refl
reach_with-else q (formula.And' i a j b) n = refl
reach_with-else q (formula.Or' i a j b) n = refl
reach_with-else q (formula.Implies' i a j b) n = refl
reach_with-else q (formula.Iff' i a j b) n = refl
reach_with-else q (formula.All' i a) n = refl
reach_with-else q (formula.Ex' i a) n = refl
reach_with-else q (formula.EqObj a b) n = refl
reach_with-else q (formula.EqInt a b) n = refl
reach_with-else q (formula.EqSet a b) n = refl
reach_with-else q (formula.Less a b) n = refl
reach_with-else q (formula.LessEq a b) n = refl
reach_with-else q (formula.Divides z a) n = refl
reach_with-else q (formula.Member a b) n = refl
reach_with-else q (formula.Subset a b) n = refl
reach_with-else q (formula.Reach' shape fs a b) n = absurd (n (shown-the_row-FieldTerm-0 shape fs) a b (sym (roll-out-Formula (formula.Reach' shape fs a b)) ∙ ap roll-Formula (outs-Reach' shape fs a b) ∙ rolls-Reach (shown-the_row-FieldTerm-0 shape fs) a b))
reach_with-else q (formula.Tree' shape fs) n = refl
reach_with-else q (formula.Mark' k i a) n = refl

pub tree_with-else : (q : FieldTrees → Bool) (r : Formula) → ((fs : List FieldTerm) → r ≡ (formula.Tree fs) → ⊥) → tree_with q (formula_tree r) ≡ false
unfolding tree_with formula_tree
tree_with-else q formula.True n = refl
tree_with-else q formula.False n = refl
tree_with-else q (formula.Free x) n = refl
tree_with-else q (formula.Read' i a j b) n = refl
tree_with-else q (formula.Not' i a) n = refl
tree_with-else q (formula.And' i a j b) n = refl
tree_with-else q (formula.Or' i a j b) n = refl
tree_with-else q (formula.Implies' i a j b) n = refl
tree_with-else q (formula.Iff' i a j b) n = refl
tree_with-else q (formula.All' i a) n = refl
tree_with-else q (formula.Ex' i a) n = refl
tree_with-else q (formula.EqObj a b) n = refl
tree_with-else q (formula.EqInt a b) n = refl
tree_with-else q (formula.EqSet a b) n = refl
tree_with-else q (formula.Less a b) n = refl
tree_with-else q (formula.LessEq a b) n = refl
tree_with-else q (formula.Divides z a) n = refl
tree_with-else q (formula.Member a b) n = refl
tree_with-else q (formula.Subset a b) n = refl
tree_with-else q (formula.Reach' shape fs a b) n = refl
tree_with-else q (formula.Tree' shape fs) n = absurd (n (shown-the_row-FieldTerm-0 shape fs) (sym (roll-out-Formula (formula.Tree' shape fs)) ∙ ap roll-Formula (outs-Tree' shape fs) ∙ rolls-Tree (shown-the_row-FieldTerm-0 shape fs)))
tree_with-else q (formula.Mark' k i a) n = refl

pub mark_with-else : (q : Mark → FormulaTree → Bool) (r : Formula) → ((k : Mark) (a : Box Formula Global) → r ≡ (formula.Mark k a) → ⊥) → mark_with q (formula_tree r) ≡ false
unfolding mark_with formula_tree
mark_with-else q formula.True n = refl
mark_with-else q formula.False n = refl
mark_with-else q (formula.Free x) n = refl
mark_with-else q (formula.Read' i a j b) n = refl
mark_with-else q (formula.Not' i a) n = refl
mark_with-else q (formula.And' i a j b) n = refl
mark_with-else q (formula.Or' i a j b) n = refl
mark_with-else q (formula.Implies' i a j b) n = refl
mark_with-else q (formula.Iff' i a j b) n = refl
mark_with-else q (formula.All' i a) n = refl
mark_with-else q (formula.Ex' i a) n = refl
mark_with-else q (formula.EqObj a b) n = refl
mark_with-else q (formula.EqInt a b) n = refl
mark_with-else q (formula.EqSet a b) n = refl
mark_with-else q (formula.Less a b) n = refl
mark_with-else q (formula.LessEq a b) n = refl
mark_with-else q (formula.Divides z a) n = refl
mark_with-else q (formula.Member a b) n = refl
mark_with-else q (formula.Subset a b) n = refl
mark_with-else q (formula.Reach' shape fs a b) n = refl
mark_with-else q (formula.Tree' shape fs) n = refl
mark_with-else q (formula.Mark' k i a) n = absurd (n k (record { ptr = i.ptr; alloc = i.alloc; value = a }) refl)

pub ruleset other_steps = (bound_with-else, free_object_with-else, null_with-else, read_object_with-else, const_with-else, free_number_with-else, read_number_with-else, add_with-else, sub_with-else, neg_with-else, scale_with-else, card_with-else, free_set_with-else, read_set_with-else, empty_with-else, univ_with-else, single_with-else, union_with-else, inter_with-else, diff_with-else, compl_with-else, compr_with-else, free_field_with-else, update_with-else, of_object_with-else, of_number_with-else, of_truth_with-else, of_set_with-else, of_field_with-else, true_formula_with-else, false_formula_with-else, free_truth_with-else, read_truth_with-else, negation_with-else, and_with-else, or_with-else, implies_with-else, iff_with-else, all_with-else, ex_with-else, eq_object_with-else, eq_number_with-else, eq_set_with-else, less_with-else, less_equal_with-else, divides_with-else, member_with-else, subset_with-else, reach_with-else, tree_with-else, mark_with-else)
