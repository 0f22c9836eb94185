-- Written by tools/compare.py.
-- The test decides the relation.
use Rattle.std.proofs.Common.{◌≡◌, refl, sym, ap, subst, ℕ, ℤ, Bool, true, false, ◌&&◌, ◌||◌, nat_eq}
use Rattle.std.proofs.lemmas.Bool.{true≢false, eqb-true, eq-eqb}
use Rattle.jh_form.proofs.ClosedLemmas.{both-left, both-right}
use Rattle.jh_form.proofs.Names.{name_equal-same, name_equal-true}
use Rattle.jh_boxed_operations.proofs.comparison.MarkLemmas.{mark_equal-same, mark_equal-true, int_eq-same, int_eq-true}
use Rattle.std.specs.Ordering.{int_eq}
use Rattle.jh_boxed.specs.jh_name.declared.naming.Name.{Name}
use Rattle.jh_form.specs.declared.mark.Mark.{Mark}
use Rattle.jh_form.specs.Tree.{TermTree, IntTree, SetTree, FieldTree, ValueTree, FormulaTree, FieldTrees}
use Rattle.jh_form.specs.Tree as t
use Rattle.jh_form.specs.Passing.{name_equal}
use Rattle.jh_boxed_operations.specs.comparison.Marks.{mark_equal}
use Rattle.jh_boxed_operations.specs.comparison.Compared.{bound_with, free_object_with, null_with, read_object_with, const_with, free_number_with, read_number_with, add_with, sub_with, neg_with, scale_with, card_with, free_set_with, read_set_with, empty_with, univ_with, single_with, union_with, inter_with, diff_with, compl_with, compr_with, free_field_with, update_with, of_object_with, of_number_with, of_truth_with, of_set_with, of_field_with, true_formula_with, false_formula_with, free_truth_with, read_truth_with, negation_with, and_with, or_with, implies_with, iff_with, all_with, ex_with, eq_object_with, eq_number_with, eq_set_with, less_with, less_equal_with, divides_with, member_with, subset_with, reach_with, tree_with, mark_with, none_with, more_with, related_term, related_int, related_set, related_field, related_value, related_formula, related_fields, seen, by_labels}
use Rattle.jh_boxed_operations.specs.comparison.Related.{TermsRelated, IntsRelated, SetsRelated, FieldsRelated, ValuesRelated, FormulasRelated, ListsRelated}
use Rattle.jh_boxed_operations.specs.comparison.Related as r

-- a passed test is of a tree of that form
pub bound_with-inv : (q : ℕ → Bool) (P : TermTree → Type 0) → ((k : ℕ) → q k ≡ true → P (t.bound k)) → (s : TermTree) → bound_with q s ≡ true → P s
unfolding bound_with
bound_with-inv q P go (t.bound k) h = go k h
bound_with-inv q P go _ h = absurd (true≢false (sym h))

pub free_object_with-inv : (q : Name → Bool) (P : TermTree → Type 0) → ((x : Name) → q x ≡ true → P (t.free_object x)) → (s : TermTree) → free_object_with q s ≡ true → P s
unfolding free_object_with
free_object_with-inv q P go (t.free_object x) h = go x h
free_object_with-inv q P go _ h = absurd (true≢false (sym h))

pub null_with-inv : (P : TermTree → Type 0) → P t.null → (s : TermTree) → null_with s ≡ true → P s
unfolding null_with
null_with-inv P go t.null h = go
null_with-inv P go _ h = absurd (true≢false (sym h))

pub read_object_with-inv : (q : FieldTree → TermTree → Bool) (P : TermTree → Type 0) → ((a : FieldTree) (b : TermTree) → q a b ≡ true → P (t.read_object a b)) → (s : TermTree) → read_object_with q s ≡ true → P s
unfolding read_object_with
read_object_with-inv q P go (t.read_object a b) h = go a b h
read_object_with-inv q P go _ h = absurd (true≢false (sym h))

pub const_with-inv : (q : ℤ → Bool) (P : IntTree → Type 0) → ((z : ℤ) → q z ≡ true → P (t.const z)) → (s : IntTree) → const_with q s ≡ true → P s
unfolding const_with
const_with-inv q P go (t.const z) h = go z h
const_with-inv q P go _ h = absurd (true≢false (sym h))

pub free_number_with-inv : (q : Name → Bool) (P : IntTree → Type 0) → ((x : Name) → q x ≡ true → P (t.free_number x)) → (s : IntTree) → free_number_with q s ≡ true → P s
unfolding free_number_with
free_number_with-inv q P go (t.free_number x) h = go x h
free_number_with-inv q P go _ h = absurd (true≢false (sym h))

pub read_number_with-inv : (q : FieldTree → TermTree → Bool) (P : IntTree → Type 0) → ((a : FieldTree) (b : TermTree) → q a b ≡ true → P (t.read_number a b)) → (s : IntTree) → read_number_with q s ≡ true → P s
unfolding read_number_with
read_number_with-inv q P go (t.read_number a b) h = go a b h
read_number_with-inv q P go _ h = absurd (true≢false (sym h))

pub add_with-inv : (q : IntTree → IntTree → Bool) (P : IntTree → Type 0) → ((a : IntTree) (b : IntTree) → q a b ≡ true → P (t.add a b)) → (s : IntTree) → add_with q s ≡ true → P s
unfolding add_with
add_with-inv q P go (t.add a b) h = go a b h
add_with-inv q P go _ h = absurd (true≢false (sym h))

pub sub_with-inv : (q : IntTree → IntTree → Bool) (P : IntTree → Type 0) → ((a : IntTree) (b : IntTree) → q a b ≡ true → P (t.sub a b)) → (s : IntTree) → sub_with q s ≡ true → P s
unfolding sub_with
sub_with-inv q P go (t.sub a b) h = go a b h
sub_with-inv q P go _ h = absurd (true≢false (sym h))

pub neg_with-inv : (q : IntTree → Bool) (P : IntTree → Type 0) → ((a : IntTree) → q a ≡ true → P (t.neg a)) → (s : IntTree) → neg_with q s ≡ true → P s
unfolding neg_with
neg_with-inv q P go (t.neg a) h = go a h
neg_with-inv q P go _ h = absurd (true≢false (sym h))

pub scale_with-inv : (q : ℤ → IntTree → Bool) (P : IntTree → Type 0) → ((z : ℤ) (a : IntTree) → q z a ≡ true → P (t.scale z a)) → (s : IntTree) → scale_with q s ≡ true → P s
unfolding scale_with
scale_with-inv q P go (t.scale z a) h = go z a h
scale_with-inv q P go _ h = absurd (true≢false (sym h))

pub card_with-inv : (q : SetTree → Bool) (P : IntTree → Type 0) → ((a : SetTree) → q a ≡ true → P (t.card a)) → (s : IntTree) → card_with q s ≡ true → P s
unfolding card_with
card_with-inv q P go (t.card a) h = go a h
card_with-inv q P go _ h = absurd (true≢false (sym h))

pub free_set_with-inv : (q : Name → Bool) (P : SetTree → Type 0) → ((x : Name) → q x ≡ true → P (t.free_set x)) → (s : SetTree) → free_set_with q s ≡ true → P s
unfolding free_set_with
free_set_with-inv q P go (t.free_set x) h = go x h
free_set_with-inv q P go _ h = absurd (true≢false (sym h))

pub read_set_with-inv : (q : FieldTree → TermTree → Bool) (P : SetTree → Type 0) → ((a : FieldTree) (b : TermTree) → q a b ≡ true → P (t.read_set a b)) → (s : SetTree) → read_set_with q s ≡ true → P s
unfolding read_set_with
read_set_with-inv q P go (t.read_set a b) h = go a b h
read_set_with-inv q P go _ h = absurd (true≢false (sym h))

pub empty_with-inv : (P : SetTree → Type 0) → P t.empty → (s : SetTree) → empty_with s ≡ true → P s
unfolding empty_with
empty_with-inv P go t.empty h = go
empty_with-inv P go _ h = absurd (true≢false (sym h))

pub univ_with-inv : (P : SetTree → Type 0) → P t.univ → (s : SetTree) → univ_with s ≡ true → P s
unfolding univ_with
univ_with-inv P go t.univ h = go
univ_with-inv P go _ h = absurd (true≢false (sym h))

pub single_with-inv : (q : TermTree → Bool) (P : SetTree → Type 0) → ((a : TermTree) → q a ≡ true → P (t.single a)) → (s : SetTree) → single_with q s ≡ true → P s
unfolding single_with
single_with-inv q P go (t.single a) h = go a h
single_with-inv q P go _ h = absurd (true≢false (sym h))

pub union_with-inv : (q : SetTree → SetTree → Bool) (P : SetTree → Type 0) → ((a : SetTree) (b : SetTree) → q a b ≡ true → P (t.union a b)) → (s : SetTree) → union_with q s ≡ true → P s
unfolding union_with
union_with-inv q P go (t.union a b) h = go a b h
union_with-inv q P go _ h = absurd (true≢false (sym h))

pub inter_with-inv : (q : SetTree → SetTree → Bool) (P : SetTree → Type 0) → ((a : SetTree) (b : SetTree) → q a b ≡ true → P (t.inter a b)) → (s : SetTree) → inter_with q s ≡ true → P s
unfolding inter_with
inter_with-inv q P go (t.inter a b) h = go a b h
inter_with-inv q P go _ h = absurd (true≢false (sym h))

pub diff_with-inv : (q : SetTree → SetTree → Bool) (P : SetTree → Type 0) → ((a : SetTree) (b : SetTree) → q a b ≡ true → P (t.diff a b)) → (s : SetTree) → diff_with q s ≡ true → P s
unfolding diff_with
diff_with-inv q P go (t.diff a b) h = go a b h
diff_with-inv q P go _ h = absurd (true≢false (sym h))

pub compl_with-inv : (q : SetTree → Bool) (P : SetTree → Type 0) → ((a : SetTree) → q a ≡ true → P (t.compl a)) → (s : SetTree) → compl_with q s ≡ true → P s
unfolding compl_with
compl_with-inv q P go (t.compl a) h = go a h
compl_with-inv q P go _ h = absurd (true≢false (sym h))

pub compr_with-inv : (q : FormulaTree → Bool) (P : SetTree → Type 0) → ((a : FormulaTree) → q a ≡ true → P (t.compr a)) → (s : SetTree) → compr_with q s ≡ true → P s
unfolding compr_with
compr_with-inv q P go (t.compr a) h = go a h
compr_with-inv q P go _ h = absurd (true≢false (sym h))

pub free_field_with-inv : (q : Name → Bool) (P : FieldTree → Type 0) → ((x : Name) → q x ≡ true → P (t.free_field x)) → (s : FieldTree) → free_field_with q s ≡ true → P s
unfolding free_field_with
free_field_with-inv q P go (t.free_field x) h = go x h
free_field_with-inv q P go _ h = absurd (true≢false (sym h))

pub update_with-inv : (q : FieldTree → TermTree → ValueTree → Bool) (P : FieldTree → Type 0) → ((a : FieldTree) (b : TermTree) (c : ValueTree) → q a b c ≡ true → P (t.update a b c)) → (s : FieldTree) → update_with q s ≡ true → P s
unfolding update_with
update_with-inv q P go (t.update a b c) h = go a b c h
update_with-inv q P go _ h = absurd (true≢false (sym h))

pub of_object_with-inv : (q : TermTree → Bool) (P : ValueTree → Type 0) → ((a : TermTree) → q a ≡ true → P (t.of_object a)) → (s : ValueTree) → of_object_with q s ≡ true → P s
unfolding of_object_with
of_object_with-inv q P go (t.of_object a) h = go a h
of_object_with-inv q P go _ h = absurd (true≢false (sym h))

pub of_number_with-inv : (q : IntTree → Bool) (P : ValueTree → Type 0) → ((a : IntTree) → q a ≡ true → P (t.of_number a)) → (s : ValueTree) → of_number_with q s ≡ true → P s
unfolding of_number_with
of_number_with-inv q P go (t.of_number a) h = go a h
of_number_with-inv q P go _ h = absurd (true≢false (sym h))

pub of_truth_with-inv : (q : FormulaTree → Bool) (P : ValueTree → Type 0) → ((a : FormulaTree) → q a ≡ true → P (t.of_truth a)) → (s : ValueTree) → of_truth_with q s ≡ true → P s
unfolding of_truth_with
of_truth_with-inv q P go (t.of_truth a) h = go a h
of_truth_with-inv q P go _ h = absurd (true≢false (sym h))

pub of_set_with-inv : (q : SetTree → Bool) (P : ValueTree → Type 0) → ((a : SetTree) → q a ≡ true → P (t.of_set a)) → (s : ValueTree) → of_set_with q s ≡ true → P s
unfolding of_set_with
of_set_with-inv q P go (t.of_set a) h = go a h
of_set_with-inv q P go _ h = absurd (true≢false (sym h))

pub of_field_with-inv : (q : FieldTree → Bool) (P : ValueTree → Type 0) → ((a : FieldTree) → q a ≡ true → P (t.of_field a)) → (s : ValueTree) → of_field_with q s ≡ true → P s
unfolding of_field_with
of_field_with-inv q P go (t.of_field a) h = go a h
of_field_with-inv q P go _ h = absurd (true≢false (sym h))

pub true_formula_with-inv : (P : FormulaTree → Type 0) → P t.true_formula → (s : FormulaTree) → true_formula_with s ≡ true → P s
unfolding true_formula_with
true_formula_with-inv P go t.true_formula h = go
true_formula_with-inv P go _ h = absurd (true≢false (sym h))

pub false_formula_with-inv : (P : FormulaTree → Type 0) → P t.false_formula → (s : FormulaTree) → false_formula_with s ≡ true → P s
unfolding false_formula_with
false_formula_with-inv P go t.false_formula h = go
false_formula_with-inv P go _ h = absurd (true≢false (sym h))

pub free_truth_with-inv : (q : Name → Bool) (P : FormulaTree → Type 0) → ((x : Name) → q x ≡ true → P (t.free_truth x)) → (s : FormulaTree) → free_truth_with q s ≡ true → P s
unfolding free_truth_with
free_truth_with-inv q P go (t.free_truth x) h = go x h
free_truth_with-inv q P go _ h = absurd (true≢false (sym h))

pub read_truth_with-inv : (q : FieldTree → TermTree → Bool) (P : FormulaTree → Type 0) → ((a : FieldTree) (b : TermTree) → q a b ≡ true → P (t.read_truth a b)) → (s : FormulaTree) → read_truth_with q s ≡ true → P s
unfolding read_truth_with
read_truth_with-inv q P go (t.read_truth a b) h = go a b h
read_truth_with-inv q P go _ h = absurd (true≢false (sym h))

pub negation_with-inv : (q : FormulaTree → Bool) (P : FormulaTree → Type 0) → ((a : FormulaTree) → q a ≡ true → P (t.negation a)) → (s : FormulaTree) → negation_with q s ≡ true → P s
unfolding negation_with
negation_with-inv q P go (t.negation a) h = go a h
negation_with-inv q P go _ h = absurd (true≢false (sym h))

pub and_with-inv : (q : FormulaTree → FormulaTree → Bool) (P : FormulaTree → Type 0) → ((a : FormulaTree) (b : FormulaTree) → q a b ≡ true → P (t.and a b)) → (s : FormulaTree) → and_with q s ≡ true → P s
unfolding and_with
and_with-inv q P go (t.and a b) h = go a b h
and_with-inv q P go _ h = absurd (true≢false (sym h))

pub or_with-inv : (q : FormulaTree → FormulaTree → Bool) (P : FormulaTree → Type 0) → ((a : FormulaTree) (b : FormulaTree) → q a b ≡ true → P (t.or a b)) → (s : FormulaTree) → or_with q s ≡ true → P s
unfolding or_with
or_with-inv q P go (t.or a b) h = go a b h
or_with-inv q P go _ h = absurd (true≢false (sym h))

pub implies_with-inv : (q : FormulaTree → FormulaTree → Bool) (P : FormulaTree → Type 0) → ((a : FormulaTree) (b : FormulaTree) → q a b ≡ true → P (t.implies a b)) → (s : FormulaTree) → implies_with q s ≡ true → P s
unfolding implies_with
implies_with-inv q P go (t.implies a b) h = go a b h
implies_with-inv q P go _ h = absurd (true≢false (sym h))

pub iff_with-inv : (q : FormulaTree → FormulaTree → Bool) (P : FormulaTree → Type 0) → ((a : FormulaTree) (b : FormulaTree) → q a b ≡ true → P (t.iff a b)) → (s : FormulaTree) → iff_with q s ≡ true → P s
unfolding iff_with
iff_with-inv q P go (t.iff a b) h = go a b h
iff_with-inv q P go _ h = absurd (true≢false (sym h))

pub all_with-inv : (q : FormulaTree → Bool) (P : FormulaTree → Type 0) → ((a : FormulaTree) → q a ≡ true → P (t.all a)) → (s : FormulaTree) → all_with q s ≡ true → P s
unfolding all_with
all_with-inv q P go (t.all a) h = go a h
all_with-inv q P go _ h = absurd (true≢false (sym h))

pub ex_with-inv : (q : FormulaTree → Bool) (P : FormulaTree → Type 0) → ((a : FormulaTree) → q a ≡ true → P (t.ex a)) → (s : FormulaTree) → ex_with q s ≡ true → P s
unfolding ex_with
ex_with-inv q P go (t.ex a) h = go a h
ex_with-inv q P go _ h = absurd (true≢false (sym h))

pub eq_object_with-inv : (q : TermTree → TermTree → Bool) (P : FormulaTree → Type 0) → ((a : TermTree) (b : TermTree) → q a b ≡ true → P (t.eq_object a b)) → (s : FormulaTree) → eq_object_with q s ≡ true → P s
unfolding eq_object_with
eq_object_with-inv q P go (t.eq_object a b) h = go a b h
eq_object_with-inv q P go _ h = absurd (true≢false (sym h))

pub eq_number_with-inv : (q : IntTree → IntTree → Bool) (P : FormulaTree → Type 0) → ((a : IntTree) (b : IntTree) → q a b ≡ true → P (t.eq_number a b)) → (s : FormulaTree) → eq_number_with q s ≡ true → P s
unfolding eq_number_with
eq_number_with-inv q P go (t.eq_number a b) h = go a b h
eq_number_with-inv q P go _ h = absurd (true≢false (sym h))

pub eq_set_with-inv : (q : SetTree → SetTree → Bool) (P : FormulaTree → Type 0) → ((a : SetTree) (b : SetTree) → q a b ≡ true → P (t.eq_set a b)) → (s : FormulaTree) → eq_set_with q s ≡ true → P s
unfolding eq_set_with
eq_set_with-inv q P go (t.eq_set a b) h = go a b h
eq_set_with-inv q P go _ h = absurd (true≢false (sym h))

pub less_with-inv : (q : IntTree → IntTree → Bool) (P : FormulaTree → Type 0) → ((a : IntTree) (b : IntTree) → q a b ≡ true → P (t.less a b)) → (s : FormulaTree) → less_with q s ≡ true → P s
unfolding less_with
less_with-inv q P go (t.less a b) h = go a b h
less_with-inv q P go _ h = absurd (true≢false (sym h))

pub less_equal_with-inv : (q : IntTree → IntTree → Bool) (P : FormulaTree → Type 0) → ((a : IntTree) (b : IntTree) → q a b ≡ true → P (t.less_equal a b)) → (s : FormulaTree) → less_equal_with q s ≡ true → P s
unfolding less_equal_with
less_equal_with-inv q P go (t.less_equal a b) h = go a b h
less_equal_with-inv q P go _ h = absurd (true≢false (sym h))

pub divides_with-inv : (q : ℤ → IntTree → Bool) (P : FormulaTree → Type 0) → ((z : ℤ) (a : IntTree) → q z a ≡ true → P (t.divides z a)) → (s : FormulaTree) → divides_with q s ≡ true → P s
unfolding divides_with
divides_with-inv q P go (t.divides z a) h = go z a h
divides_with-inv q P go _ h = absurd (true≢false (sym h))

pub member_with-inv : (q : TermTree → SetTree → Bool) (P : FormulaTree → Type 0) → ((a : TermTree) (b : SetTree) → q a b ≡ true → P (t.member a b)) → (s : FormulaTree) → member_with q s ≡ true → P s
unfolding member_with
member_with-inv q P go (t.member a b) h = go a b h
member_with-inv q P go _ h = absurd (true≢false (sym h))

pub subset_with-inv : (q : SetTree → SetTree → Bool) (P : FormulaTree → Type 0) → ((a : SetTree) (b : SetTree) → q a b ≡ true → P (t.subset a b)) → (s : FormulaTree) → subset_with q s ≡ true → P s
unfolding subset_with
subset_with-inv q P go (t.subset a b) h = go a b h
subset_with-inv q P go _ h = absurd (true≢false (sym h))

pub reach_with-inv : (q : FieldTrees → TermTree → TermTree → Bool) (P : FormulaTree → Type 0) → ((fs : FieldTrees) (a : TermTree) (b : TermTree) → q fs a b ≡ true → P (t.reach fs a b)) → (s : FormulaTree) → reach_with q s ≡ true → P s
unfolding reach_with
reach_with-inv q P go (t.reach fs a b) h = go fs a b h
reach_with-inv q P go _ h = absurd (true≢false (sym h))

pub tree_with-inv : (q : FieldTrees → Bool) (P : FormulaTree → Type 0) → ((fs : FieldTrees) → q fs ≡ true → P (t.tree fs)) → (s : FormulaTree) → tree_with q s ≡ true → P s
unfolding tree_with
tree_with-inv q P go (t.tree fs) h = go fs h
tree_with-inv q P go _ h = absurd (true≢false (sym h))

pub mark_with-inv : (q : Mark → FormulaTree → Bool) (P : FormulaTree → Type 0) → ((k : Mark) (a : FormulaTree) → q k a ≡ true → P (t.mark k a)) → (s : FormulaTree) → mark_with q s ≡ true → P s
unfolding mark_with
mark_with-inv q P go (t.mark k a) h = go k a h
mark_with-inv q P go _ h = absurd (true≢false (sym h))

pub none_with-inv : (P : FieldTrees → Type 0) → P t.none → (s : FieldTrees) → none_with s ≡ true → P s
unfolding none_with
none_with-inv P go t.none h = go
none_with-inv P go _ h = absurd (true≢false (sym h))

pub more_with-inv : (q : FieldTree → FieldTrees → Bool) (P : FieldTrees → Type 0) → ((f : FieldTree) (fs : FieldTrees) → q f fs ≡ true → P (t.more f fs)) → (s : FieldTrees) → more_with q s ≡ true → P s
unfolding more_with
more_with-inv q P go (t.more f fs) h = go f fs h
more_with-inv q P go _ h = absurd (true≢false (sym h))

either : (a b : Bool) (P : Type 0) → (a ≡ true → P) → (b ≡ true → P) → (a || b) ≡ true → P
either true b P f g h = f refl
either false b P f g h = g h

pub or-left : (a b : Bool) → a ≡ true → (a || b) ≡ true
or-left a b h = ap (λ c. c || b) h

pub or-right : (a b : Bool) → b ≡ true → (a || b) ≡ true
or-right true b h = refl
or-right false b h = h

pub both : (a b : Bool) → a ≡ true → b ≡ true → (a && b) ≡ true
both true b h k = k
both false b h k = h

module _ (p : ValueTree → ValueTree → Bool) (X : ValueTree → ValueTree → Type 0) (sound : (u v : ValueTree) → p u v ≡ true → X u v) where
  mutual
    unfolding related_term related_int related_set related_field related_value related_formula related_fields

    pub term-related : (a s : TermTree) → related_term a true p s ≡ true → TermsRelated X a s
    term-related (t.bound k) s h = either (p (t.of_object (t.bound k)) (t.of_object s)) (bound_with (λ k'. nat_eq k k') s) (TermsRelated X (t.bound k) s) (λ e. r.term_here (t.bound k) s (sound (t.of_object (t.bound k)) (t.of_object s) e)) (λ h2. bound_with-inv (λ k'. nat_eq k k') (λ s. TermsRelated X (t.bound k) s) (λ k' e. subst (λ (z0 : ℕ). TermsRelated X (t.bound k) (t.bound z0)) (eqb-true k k' e) (r.bound k)) s h2) h
    term-related (t.free_object x) s h = either (p (t.of_object (t.free_object x)) (t.of_object s)) (free_object_with (λ x'. name_equal x x') s) (TermsRelated X (t.free_object x) s) (λ e. r.term_here (t.free_object x) s (sound (t.of_object (t.free_object x)) (t.of_object s) e)) (λ h2. free_object_with-inv (λ x'. name_equal x x') (λ s. TermsRelated X (t.free_object x) s) (λ x' e. subst (λ (z0 : Name). TermsRelated X (t.free_object x) (t.free_object z0)) (name_equal-true x x' e) (r.free_object x)) s h2) h
    term-related t.null s h = either (p (t.of_object t.null) (t.of_object s)) (null_with s) (TermsRelated X t.null s) (λ e. r.term_here t.null s (sound (t.of_object t.null) (t.of_object s) e)) (λ h2. null_with-inv (λ s. TermsRelated X t.null s) r.null s h2) h
    term-related (t.read_object a b) s h = either (p (t.of_object (t.read_object a b)) (t.of_object s)) (read_object_with (λ a' b'. related_field a true p a' && related_term b true p b') s) (TermsRelated X (t.read_object a b) s) (λ e. r.term_here (t.read_object a b) s (sound (t.of_object (t.read_object a b)) (t.of_object s) e)) (λ h2. read_object_with-inv (λ a' b'. related_field a true p a' && related_term b true p b') (λ s. TermsRelated X (t.read_object a b) s) (λ a' b' e. r.read_object a a' b b' (field-related a a' (both-left (related_field a true p a') (related_term b true p b') e)) (term-related b b' (both-right (related_field a true p a') (related_term b true p b') e))) s h2) h

    pub int-related : (a s : IntTree) → related_int a true p s ≡ true → IntsRelated X a s
    int-related (t.const z) s h = either (p (t.of_number (t.const z)) (t.of_number s)) (const_with (λ z'. int_eq z z') s) (IntsRelated X (t.const z) s) (λ e. r.int_here (t.const z) s (sound (t.of_number (t.const z)) (t.of_number s) e)) (λ h2. const_with-inv (λ z'. int_eq z z') (λ s. IntsRelated X (t.const z) s) (λ z' e. subst (λ (z0 : ℤ). IntsRelated X (t.const z) (t.const z0)) (int_eq-true z z' e) (r.const z)) s h2) h
    int-related (t.free_number x) s h = either (p (t.of_number (t.free_number x)) (t.of_number s)) (free_number_with (λ x'. name_equal x x') s) (IntsRelated X (t.free_number x) s) (λ e. r.int_here (t.free_number x) s (sound (t.of_number (t.free_number x)) (t.of_number s) e)) (λ h2. free_number_with-inv (λ x'. name_equal x x') (λ s. IntsRelated X (t.free_number x) s) (λ x' e. subst (λ (z0 : Name). IntsRelated X (t.free_number x) (t.free_number z0)) (name_equal-true x x' e) (r.free_number x)) s h2) h
    int-related (t.read_number a b) s h = either (p (t.of_number (t.read_number a b)) (t.of_number s)) (read_number_with (λ a' b'. related_field a true p a' && related_term b true p b') s) (IntsRelated X (t.read_number a b) s) (λ e. r.int_here (t.read_number a b) s (sound (t.of_number (t.read_number a b)) (t.of_number s) e)) (λ h2. read_number_with-inv (λ a' b'. related_field a true p a' && related_term b true p b') (λ s. IntsRelated X (t.read_number a b) s) (λ a' b' e. r.read_number a a' b b' (field-related a a' (both-left (related_field a true p a') (related_term b true p b') e)) (term-related b b' (both-right (related_field a true p a') (related_term b true p b') e))) s h2) h
    int-related (t.add a b) s h = either (p (t.of_number (t.add a b)) (t.of_number s)) (add_with (λ a' b'. related_int a true p a' && related_int b true p b') s) (IntsRelated X (t.add a b) s) (λ e. r.int_here (t.add a b) s (sound (t.of_number (t.add a b)) (t.of_number s) e)) (λ h2. add_with-inv (λ a' b'. related_int a true p a' && related_int b true p b') (λ s. IntsRelated X (t.add a b) s) (λ a' b' e. r.add a a' b b' (int-related a a' (both-left (related_int a true p a') (related_int b true p b') e)) (int-related b b' (both-right (related_int a true p a') (related_int b true p b') e))) s h2) h
    int-related (t.sub a b) s h = either (p (t.of_number (t.sub a b)) (t.of_number s)) (sub_with (λ a' b'. related_int a true p a' && related_int b true p b') s) (IntsRelated X (t.sub a b) s) (λ e. r.int_here (t.sub a b) s (sound (t.of_number (t.sub a b)) (t.of_number s) e)) (λ h2. sub_with-inv (λ a' b'. related_int a true p a' && related_int b true p b') (λ s. IntsRelated X (t.sub a b) s) (λ a' b' e. r.sub a a' b b' (int-related a a' (both-left (related_int a true p a') (related_int b true p b') e)) (int-related b b' (both-right (related_int a true p a') (related_int b true p b') e))) s h2) h
    int-related (t.neg a) s h = either (p (t.of_number (t.neg a)) (t.of_number s)) (neg_with (λ a'. related_int a true p a') s) (IntsRelated X (t.neg a) s) (λ e. r.int_here (t.neg a) s (sound (t.of_number (t.neg a)) (t.of_number s) e)) (λ h2. neg_with-inv (λ a'. related_int a true p a') (λ s. IntsRelated X (t.neg a) s) (λ a' e. r.neg a a' (int-related a a' e)) s h2) h
    int-related (t.scale z a) s h = either (p (t.of_number (t.scale z a)) (t.of_number s)) (scale_with (λ z' a'. int_eq z z' && related_int a true p a') s) (IntsRelated X (t.scale z a) s) (λ e. r.int_here (t.scale z a) s (sound (t.of_number (t.scale z a)) (t.of_number s) e)) (λ h2. scale_with-inv (λ z' a'. int_eq z z' && related_int a true p a') (λ s. IntsRelated X (t.scale z a) s) (λ z' a' e. subst (λ (z0 : ℤ). IntsRelated X (t.scale z a) (t.scale z0 a')) (int_eq-true z z' (both-left (int_eq z z') (related_int a true p a') e)) (r.scale z a a' (int-related a a' (both-right (int_eq z z') (related_int a true p a') e)))) s h2) h
    int-related (t.card a) s h = either (p (t.of_number (t.card a)) (t.of_number s)) (card_with (λ a'. related_set a true p a') s) (IntsRelated X (t.card a) s) (λ e. r.int_here (t.card a) s (sound (t.of_number (t.card a)) (t.of_number s) e)) (λ h2. card_with-inv (λ a'. related_set a true p a') (λ s. IntsRelated X (t.card a) s) (λ a' e. r.card a a' (set-related a a' e)) s h2) h

    pub set-related : (a s : SetTree) → related_set a true p s ≡ true → SetsRelated X a s
    set-related (t.free_set x) s h = either (p (t.of_set (t.free_set x)) (t.of_set s)) (free_set_with (λ x'. name_equal x x') s) (SetsRelated X (t.free_set x) s) (λ e. r.set_here (t.free_set x) s (sound (t.of_set (t.free_set x)) (t.of_set s) e)) (λ h2. free_set_with-inv (λ x'. name_equal x x') (λ s. SetsRelated X (t.free_set x) s) (λ x' e. subst (λ (z0 : Name). SetsRelated X (t.free_set x) (t.free_set z0)) (name_equal-true x x' e) (r.free_set x)) s h2) h
    set-related (t.read_set a b) s h = either (p (t.of_set (t.read_set a b)) (t.of_set s)) (read_set_with (λ a' b'. related_field a true p a' && related_term b true p b') s) (SetsRelated X (t.read_set a b) s) (λ e. r.set_here (t.read_set a b) s (sound (t.of_set (t.read_set a b)) (t.of_set s) e)) (λ h2. read_set_with-inv (λ a' b'. related_field a true p a' && related_term b true p b') (λ s. SetsRelated X (t.read_set a b) s) (λ a' b' e. r.read_set a a' b b' (field-related a a' (both-left (related_field a true p a') (related_term b true p b') e)) (term-related b b' (both-right (related_field a true p a') (related_term b true p b') e))) s h2) h
    set-related t.empty s h = either (p (t.of_set t.empty) (t.of_set s)) (empty_with s) (SetsRelated X t.empty s) (λ e. r.set_here t.empty s (sound (t.of_set t.empty) (t.of_set s) e)) (λ h2. empty_with-inv (λ s. SetsRelated X t.empty s) r.empty s h2) h
    set-related t.univ s h = either (p (t.of_set t.univ) (t.of_set s)) (univ_with s) (SetsRelated X t.univ s) (λ e. r.set_here t.univ s (sound (t.of_set t.univ) (t.of_set s) e)) (λ h2. univ_with-inv (λ s. SetsRelated X t.univ s) r.univ s h2) h
    set-related (t.single a) s h = either (p (t.of_set (t.single a)) (t.of_set s)) (single_with (λ a'. related_term a true p a') s) (SetsRelated X (t.single a) s) (λ e. r.set_here (t.single a) s (sound (t.of_set (t.single a)) (t.of_set s) e)) (λ h2. single_with-inv (λ a'. related_term a true p a') (λ s. SetsRelated X (t.single a) s) (λ a' e. r.single a a' (term-related a a' e)) s h2) h
    set-related (t.union a b) s h = either (p (t.of_set (t.union a b)) (t.of_set s)) (union_with (λ a' b'. related_set a true p a' && related_set b true p b') s) (SetsRelated X (t.union a b) s) (λ e. r.set_here (t.union a b) s (sound (t.of_set (t.union a b)) (t.of_set s) e)) (λ h2. union_with-inv (λ a' b'. related_set a true p a' && related_set b true p b') (λ s. SetsRelated X (t.union a b) s) (λ a' b' e. r.union a a' b b' (set-related a a' (both-left (related_set a true p a') (related_set b true p b') e)) (set-related b b' (both-right (related_set a true p a') (related_set b true p b') e))) s h2) h
    set-related (t.inter a b) s h = either (p (t.of_set (t.inter a b)) (t.of_set s)) (inter_with (λ a' b'. related_set a true p a' && related_set b true p b') s) (SetsRelated X (t.inter a b) s) (λ e. r.set_here (t.inter a b) s (sound (t.of_set (t.inter a b)) (t.of_set s) e)) (λ h2. inter_with-inv (λ a' b'. related_set a true p a' && related_set b true p b') (λ s. SetsRelated X (t.inter a b) s) (λ a' b' e. r.inter a a' b b' (set-related a a' (both-left (related_set a true p a') (related_set b true p b') e)) (set-related b b' (both-right (related_set a true p a') (related_set b true p b') e))) s h2) h
    set-related (t.diff a b) s h = either (p (t.of_set (t.diff a b)) (t.of_set s)) (diff_with (λ a' b'. related_set a true p a' && related_set b true p b') s) (SetsRelated X (t.diff a b) s) (λ e. r.set_here (t.diff a b) s (sound (t.of_set (t.diff a b)) (t.of_set s) e)) (λ h2. diff_with-inv (λ a' b'. related_set a true p a' && related_set b true p b') (λ s. SetsRelated X (t.diff a b) s) (λ a' b' e. r.diff a a' b b' (set-related a a' (both-left (related_set a true p a') (related_set b true p b') e)) (set-related b b' (both-right (related_set a true p a') (related_set b true p b') e))) s h2) h
    set-related (t.compl a) s h = either (p (t.of_set (t.compl a)) (t.of_set s)) (compl_with (λ a'. related_set a true p a') s) (SetsRelated X (t.compl a) s) (λ e. r.set_here (t.compl a) s (sound (t.of_set (t.compl a)) (t.of_set s) e)) (λ h2. compl_with-inv (λ a'. related_set a true p a') (λ s. SetsRelated X (t.compl a) s) (λ a' e. r.compl a a' (set-related a a' e)) s h2) h
    set-related (t.compr a) s h = either (p (t.of_set (t.compr a)) (t.of_set s)) (compr_with (λ a'. related_formula a true p a') s) (SetsRelated X (t.compr a) s) (λ e. r.set_here (t.compr a) s (sound (t.of_set (t.compr a)) (t.of_set s) e)) (λ h2. compr_with-inv (λ a'. related_formula a true p a') (λ s. SetsRelated X (t.compr a) s) (λ a' e. r.compr a a' (formula-related a a' e)) s h2) h

    pub field-related : (a s : FieldTree) → related_field a true p s ≡ true → FieldsRelated X a s
    field-related (t.free_field x) s h = either (p (t.of_field (t.free_field x)) (t.of_field s)) (free_field_with (λ x'. name_equal x x') s) (FieldsRelated X (t.free_field x) s) (λ e. r.field_here (t.free_field x) s (sound (t.of_field (t.free_field x)) (t.of_field s) e)) (λ h2. free_field_with-inv (λ x'. name_equal x x') (λ s. FieldsRelated X (t.free_field x) s) (λ x' e. subst (λ (z0 : Name). FieldsRelated X (t.free_field x) (t.free_field z0)) (name_equal-true x x' e) (r.free_field x)) s h2) h
    field-related (t.update a b c) s h = either (p (t.of_field (t.update a b c)) (t.of_field s)) (update_with (λ a' b' c'. related_field a true p a' && related_term b true p b' && related_value c true p c') s) (FieldsRelated X (t.update a b c) s) (λ e. r.field_here (t.update a b c) s (sound (t.of_field (t.update a b c)) (t.of_field s) e)) (λ h2. update_with-inv (λ a' b' c'. related_field a true p a' && related_term b true p b' && related_value c true p c') (λ s. FieldsRelated X (t.update a b c) s) (λ a' b' c' e. r.update a a' b b' c c' (field-related a a' (both-left (related_field a true p a') (related_term b true p b') (both-left (related_field a true p a' && related_term b true p b') (related_value c true p c') e))) (term-related b b' (both-right (related_field a true p a') (related_term b true p b') (both-left (related_field a true p a' && related_term b true p b') (related_value c true p c') e))) (value-related c c' (both-right (related_field a true p a' && related_term b true p b') (related_value c true p c') e))) s h2) h

    pub value-related : (a s : ValueTree) → related_value a true p s ≡ true → ValuesRelated X a s
    value-related (t.of_object a) s h2 = of_object_with-inv (λ a'. related_term a true p a') (λ s. ValuesRelated X (t.of_object a) s) (λ a' e. r.of_object a a' (term-related a a' e)) s h2
    value-related (t.of_number a) s h2 = of_number_with-inv (λ a'. related_int a true p a') (λ s. ValuesRelated X (t.of_number a) s) (λ a' e. r.of_number a a' (int-related a a' e)) s h2
    value-related (t.of_truth a) s h2 = of_truth_with-inv (λ a'. related_formula a true p a') (λ s. ValuesRelated X (t.of_truth a) s) (λ a' e. r.of_truth a a' (formula-related a a' e)) s h2
    value-related (t.of_set a) s h2 = of_set_with-inv (λ a'. related_set a true p a') (λ s. ValuesRelated X (t.of_set a) s) (λ a' e. r.of_set a a' (set-related a a' e)) s h2
    value-related (t.of_field a) s h2 = of_field_with-inv (λ a'. related_field a true p a') (λ s. ValuesRelated X (t.of_field a) s) (λ a' e. r.of_field a a' (field-related a a' e)) s h2

    pub formula-related : (a s : FormulaTree) → related_formula a true p s ≡ true → FormulasRelated X a s
    formula-related t.true_formula s h = either (p (t.of_truth t.true_formula) (t.of_truth s)) (true_formula_with s) (FormulasRelated X t.true_formula s) (λ e. r.formula_here t.true_formula s (sound (t.of_truth t.true_formula) (t.of_truth s) e)) (λ h2. true_formula_with-inv (λ s. FormulasRelated X t.true_formula s) r.true_formula s h2) h
    formula-related t.false_formula s h = either (p (t.of_truth t.false_formula) (t.of_truth s)) (false_formula_with s) (FormulasRelated X t.false_formula s) (λ e. r.formula_here t.false_formula s (sound (t.of_truth t.false_formula) (t.of_truth s) e)) (λ h2. false_formula_with-inv (λ s. FormulasRelated X t.false_formula s) r.false_formula s h2) h
    formula-related (t.free_truth x) s h = either (p (t.of_truth (t.free_truth x)) (t.of_truth s)) (free_truth_with (λ x'. name_equal x x') s) (FormulasRelated X (t.free_truth x) s) (λ e. r.formula_here (t.free_truth x) s (sound (t.of_truth (t.free_truth x)) (t.of_truth s) e)) (λ h2. free_truth_with-inv (λ x'. name_equal x x') (λ s. FormulasRelated X (t.free_truth x) s) (λ x' e. subst (λ (z0 : Name). FormulasRelated X (t.free_truth x) (t.free_truth z0)) (name_equal-true x x' e) (r.free_truth x)) s h2) h
    formula-related (t.read_truth a b) s h = either (p (t.of_truth (t.read_truth a b)) (t.of_truth s)) (read_truth_with (λ a' b'. related_field a true p a' && related_term b true p b') s) (FormulasRelated X (t.read_truth a b) s) (λ e. r.formula_here (t.read_truth a b) s (sound (t.of_truth (t.read_truth a b)) (t.of_truth s) e)) (λ h2. read_truth_with-inv (λ a' b'. related_field a true p a' && related_term b true p b') (λ s. FormulasRelated X (t.read_truth a b) s) (λ a' b' e. r.read_truth a a' b b' (field-related a a' (both-left (related_field a true p a') (related_term b true p b') e)) (term-related b b' (both-right (related_field a true p a') (related_term b true p b') e))) s h2) h
    formula-related (t.negation a) s h = either (p (t.of_truth (t.negation a)) (t.of_truth s)) (negation_with (λ a'. related_formula a true p a') s) (FormulasRelated X (t.negation a) s) (λ e. r.formula_here (t.negation a) s (sound (t.of_truth (t.negation a)) (t.of_truth s) e)) (λ h2. negation_with-inv (λ a'. related_formula a true p a') (λ s. FormulasRelated X (t.negation a) s) (λ a' e. r.negation a a' (formula-related a a' e)) s h2) h
    formula-related (t.and a b) s h = either (p (t.of_truth (t.and a b)) (t.of_truth s)) (and_with (λ a' b'. related_formula a true p a' && related_formula b true p b') s) (FormulasRelated X (t.and a b) s) (λ e. r.formula_here (t.and a b) s (sound (t.of_truth (t.and a b)) (t.of_truth s) e)) (λ h2. and_with-inv (λ a' b'. related_formula a true p a' && related_formula b true p b') (λ s. FormulasRelated X (t.and a b) s) (λ a' b' e. r.and a a' b b' (formula-related a a' (both-left (related_formula a true p a') (related_formula b true p b') e)) (formula-related b b' (both-right (related_formula a true p a') (related_formula b true p b') e))) s h2) h
    formula-related (t.or a b) s h = either (p (t.of_truth (t.or a b)) (t.of_truth s)) (or_with (λ a' b'. related_formula a true p a' && related_formula b true p b') s) (FormulasRelated X (t.or a b) s) (λ e. r.formula_here (t.or a b) s (sound (t.of_truth (t.or a b)) (t.of_truth s) e)) (λ h2. or_with-inv (λ a' b'. related_formula a true p a' && related_formula b true p b') (λ s. FormulasRelated X (t.or a b) s) (λ a' b' e. r.or a a' b b' (formula-related a a' (both-left (related_formula a true p a') (related_formula b true p b') e)) (formula-related b b' (both-right (related_formula a true p a') (related_formula b true p b') e))) s h2) h
    formula-related (t.implies a b) s h = either (p (t.of_truth (t.implies a b)) (t.of_truth s)) (implies_with (λ a' b'. related_formula a true p a' && related_formula b true p b') s) (FormulasRelated X (t.implies a b) s) (λ e. r.formula_here (t.implies a b) s (sound (t.of_truth (t.implies a b)) (t.of_truth s) e)) (λ h2. implies_with-inv (λ a' b'. related_formula a true p a' && related_formula b true p b') (λ s. FormulasRelated X (t.implies a b) s) (λ a' b' e. r.implies a a' b b' (formula-related a a' (both-left (related_formula a true p a') (related_formula b true p b') e)) (formula-related b b' (both-right (related_formula a true p a') (related_formula b true p b') e))) s h2) h
    formula-related (t.iff a b) s h = either (p (t.of_truth (t.iff a b)) (t.of_truth s)) (iff_with (λ a' b'. related_formula a true p a' && related_formula b true p b') s) (FormulasRelated X (t.iff a b) s) (λ e. r.formula_here (t.iff a b) s (sound (t.of_truth (t.iff a b)) (t.of_truth s) e)) (λ h2. iff_with-inv (λ a' b'. related_formula a true p a' && related_formula b true p b') (λ s. FormulasRelated X (t.iff a b) s) (λ a' b' e. r.iff a a' b b' (formula-related a a' (both-left (related_formula a true p a') (related_formula b true p b') e)) (formula-related b b' (both-right (related_formula a true p a') (related_formula b true p b') e))) s h2) h
    formula-related (t.all a) s h = either (p (t.of_truth (t.all a)) (t.of_truth s)) (all_with (λ a'. related_formula a true p a') s) (FormulasRelated X (t.all a) s) (λ e. r.formula_here (t.all a) s (sound (t.of_truth (t.all a)) (t.of_truth s) e)) (λ h2. all_with-inv (λ a'. related_formula a true p a') (λ s. FormulasRelated X (t.all a) s) (λ a' e. r.all a a' (formula-related a a' e)) s h2) h
    formula-related (t.ex a) s h = either (p (t.of_truth (t.ex a)) (t.of_truth s)) (ex_with (λ a'. related_formula a true p a') s) (FormulasRelated X (t.ex a) s) (λ e. r.formula_here (t.ex a) s (sound (t.of_truth (t.ex a)) (t.of_truth s) e)) (λ h2. ex_with-inv (λ a'. related_formula a true p a') (λ s. FormulasRelated X (t.ex a) s) (λ a' e. r.ex a a' (formula-related a a' e)) s h2) h
    formula-related (t.eq_object a b) s h = either (p (t.of_truth (t.eq_object a b)) (t.of_truth s)) (eq_object_with (λ a' b'. related_term a true p a' && related_term b true p b') s) (FormulasRelated X (t.eq_object a b) s) (λ e. r.formula_here (t.eq_object a b) s (sound (t.of_truth (t.eq_object a b)) (t.of_truth s) e)) (λ h2. eq_object_with-inv (λ a' b'. related_term a true p a' && related_term b true p b') (λ s. FormulasRelated X (t.eq_object a b) s) (λ a' b' e. r.eq_object a a' b b' (term-related a a' (both-left (related_term a true p a') (related_term b true p b') e)) (term-related b b' (both-right (related_term a true p a') (related_term b true p b') e))) s h2) h
    formula-related (t.eq_number a b) s h = either (p (t.of_truth (t.eq_number a b)) (t.of_truth s)) (eq_number_with (λ a' b'. related_int a true p a' && related_int b true p b') s) (FormulasRelated X (t.eq_number a b) s) (λ e. r.formula_here (t.eq_number a b) s (sound (t.of_truth (t.eq_number a b)) (t.of_truth s) e)) (λ h2. eq_number_with-inv (λ a' b'. related_int a true p a' && related_int b true p b') (λ s. FormulasRelated X (t.eq_number a b) s) (λ a' b' e. r.eq_number a a' b b' (int-related a a' (both-left (related_int a true p a') (related_int b true p b') e)) (int-related b b' (both-right (related_int a true p a') (related_int b true p b') e))) s h2) h
    formula-related (t.eq_set a b) s h = either (p (t.of_truth (t.eq_set a b)) (t.of_truth s)) (eq_set_with (λ a' b'. related_set a true p a' && related_set b true p b') s) (FormulasRelated X (t.eq_set a b) s) (λ e. r.formula_here (t.eq_set a b) s (sound (t.of_truth (t.eq_set a b)) (t.of_truth s) e)) (λ h2. eq_set_with-inv (λ a' b'. related_set a true p a' && related_set b true p b') (λ s. FormulasRelated X (t.eq_set a b) s) (λ a' b' e. r.eq_set a a' b b' (set-related a a' (both-left (related_set a true p a') (related_set b true p b') e)) (set-related b b' (both-right (related_set a true p a') (related_set b true p b') e))) s h2) h
    formula-related (t.less a b) s h = either (p (t.of_truth (t.less a b)) (t.of_truth s)) (less_with (λ a' b'. related_int a true p a' && related_int b true p b') s) (FormulasRelated X (t.less a b) s) (λ e. r.formula_here (t.less a b) s (sound (t.of_truth (t.less a b)) (t.of_truth s) e)) (λ h2. less_with-inv (λ a' b'. related_int a true p a' && related_int b true p b') (λ s. FormulasRelated X (t.less a b) s) (λ a' b' e. r.less a a' b b' (int-related a a' (both-left (related_int a true p a') (related_int b true p b') e)) (int-related b b' (both-right (related_int a true p a') (related_int b true p b') e))) s h2) h
    formula-related (t.less_equal a b) s h = either (p (t.of_truth (t.less_equal a b)) (t.of_truth s)) (less_equal_with (λ a' b'. related_int a true p a' && related_int b true p b') s) (FormulasRelated X (t.less_equal a b) s) (λ e. r.formula_here (t.less_equal a b) s (sound (t.of_truth (t.less_equal a b)) (t.of_truth s) e)) (λ h2. less_equal_with-inv (λ a' b'. related_int a true p a' && related_int b true p b') (λ s. FormulasRelated X (t.less_equal a b) s) (λ a' b' e. r.less_equal a a' b b' (int-related a a' (both-left (related_int a true p a') (related_int b true p b') e)) (int-related b b' (both-right (related_int a true p a') (related_int b true p b') e))) s h2) h
    formula-related (t.divides z a) s h = either (p (t.of_truth (t.divides z a)) (t.of_truth s)) (divides_with (λ z' a'. int_eq z z' && related_int a true p a') s) (FormulasRelated X (t.divides z a) s) (λ e. r.formula_here (t.divides z a) s (sound (t.of_truth (t.divides z a)) (t.of_truth s) e)) (λ h2. divides_with-inv (λ z' a'. int_eq z z' && related_int a true p a') (λ s. FormulasRelated X (t.divides z a) s) (λ z' a' e. subst (λ (z0 : ℤ). FormulasRelated X (t.divides z a) (t.divides z0 a')) (int_eq-true z z' (both-left (int_eq z z') (related_int a true p a') e)) (r.divides z a a' (int-related a a' (both-right (int_eq z z') (related_int a true p a') e)))) s h2) h
    formula-related (t.member a b) s h = either (p (t.of_truth (t.member a b)) (t.of_truth s)) (member_with (λ a' b'. related_term a true p a' && related_set b true p b') s) (FormulasRelated X (t.member a b) s) (λ e. r.formula_here (t.member a b) s (sound (t.of_truth (t.member a b)) (t.of_truth s) e)) (λ h2. member_with-inv (λ a' b'. related_term a true p a' && related_set b true p b') (λ s. FormulasRelated X (t.member a b) s) (λ a' b' e. r.member a a' b b' (term-related a a' (both-left (related_term a true p a') (related_set b true p b') e)) (set-related b b' (both-right (related_term a true p a') (related_set b true p b') e))) s h2) h
    formula-related (t.subset a b) s h = either (p (t.of_truth (t.subset a b)) (t.of_truth s)) (subset_with (λ a' b'. related_set a true p a' && related_set b true p b') s) (FormulasRelated X (t.subset a b) s) (λ e. r.formula_here (t.subset a b) s (sound (t.of_truth (t.subset a b)) (t.of_truth s) e)) (λ h2. subset_with-inv (λ a' b'. related_set a true p a' && related_set b true p b') (λ s. FormulasRelated X (t.subset a b) s) (λ a' b' e. r.subset a a' b b' (set-related a a' (both-left (related_set a true p a') (related_set b true p b') e)) (set-related b b' (both-right (related_set a true p a') (related_set b true p b') e))) s h2) h
    formula-related (t.reach fs a b) s h = either (p (t.of_truth (t.reach fs a b)) (t.of_truth s)) (reach_with (λ fs' a' b'. related_fields fs true p fs' && related_term a true p a' && related_term b true p b') s) (FormulasRelated X (t.reach fs a b) s) (λ e. r.formula_here (t.reach fs a b) s (sound (t.of_truth (t.reach fs a b)) (t.of_truth s) e)) (λ h2. reach_with-inv (λ fs' a' b'. related_fields fs true p fs' && related_term a true p a' && related_term b true p b') (λ s. FormulasRelated X (t.reach fs a b) s) (λ fs' a' b' e. r.reach fs fs' a a' b b' (fields-related fs fs' (both-left (related_fields fs true p fs') (related_term a true p a') (both-left (related_fields fs true p fs' && related_term a true p a') (related_term b true p b') e))) (term-related a a' (both-right (related_fields fs true p fs') (related_term a true p a') (both-left (related_fields fs true p fs' && related_term a true p a') (related_term b true p b') e))) (term-related b b' (both-right (related_fields fs true p fs' && related_term a true p a') (related_term b true p b') e))) s h2) h
    formula-related (t.tree fs) s h = either (p (t.of_truth (t.tree fs)) (t.of_truth s)) (tree_with (λ fs'. related_fields fs true p fs') s) (FormulasRelated X (t.tree fs) s) (λ e. r.formula_here (t.tree fs) s (sound (t.of_truth (t.tree fs)) (t.of_truth s) e)) (λ h2. tree_with-inv (λ fs'. related_fields fs true p fs') (λ s. FormulasRelated X (t.tree fs) s) (λ fs' e. r.tree fs fs' (fields-related fs fs' e)) s h2) h
    formula-related (t.mark k a) s h = either (p (t.of_truth (t.mark k a)) (t.of_truth s)) (mark_with (λ k' a'. mark_equal k k' && related_formula a true p a') s) (FormulasRelated X (t.mark k a) s) (λ e. r.formula_here (t.mark k a) s (sound (t.of_truth (t.mark k a)) (t.of_truth s) e)) (λ h2. mark_with-inv (λ k' a'. mark_equal k k' && related_formula a true p a') (λ s. FormulasRelated X (t.mark k a) s) (λ k' a' e. subst (λ (z0 : Mark). FormulasRelated X (t.mark k a) (t.mark z0 a')) (mark_equal-true k k' (both-left (mark_equal k k') (related_formula a true p a') e)) (r.mark k a a' (formula-related a a' (both-right (mark_equal k k') (related_formula a true p a') e)))) s h2) h

    pub fields-related : (a s : FieldTrees) → related_fields a true p s ≡ true → ListsRelated X a s
    fields-related t.none s h2 = none_with-inv (λ s. ListsRelated X t.none s) r.none s h2
    fields-related (t.more f fs) s h2 = more_with-inv (λ f' fs'. related_field f true p f' && related_fields fs true p fs') (λ s. ListsRelated X (t.more f fs) s) (λ f' fs' e. r.more f f' fs fs' (field-related f f' (both-left (related_field f true p f') (related_fields fs true p fs') e)) (fields-related fs fs' (both-right (related_field f true p f') (related_fields fs true p fs') e))) s h2

module _ (p : ValueTree → ValueTree → Bool) (X : ValueTree → ValueTree → Type 0) (complete : (u v : ValueTree) → X u v → p u v ≡ true) where
  here_lemma : (u v : ValueTree) (b : Bool) → X u v → (p u v || b) ≡ true
  here_lemma u v b x = or-left (p u v) b (complete u v x)

  pub term_here-passes : (w : Bool) (a s : TermTree) → X (t.of_object a) (t.of_object s) → related_term a w p s ≡ true
  unfolding related_term
  term_here-passes w (t.bound k) s here = here_lemma (t.of_object (t.bound k)) (t.of_object s) (bound_with (λ k'. nat_eq k k') s) here
  term_here-passes w (t.free_object x) s here = here_lemma (t.of_object (t.free_object x)) (t.of_object s) (free_object_with (λ x'. name_equal x x') s) here
  term_here-passes w t.null s here = here_lemma (t.of_object t.null) (t.of_object s) (null_with s) here
  term_here-passes w (t.read_object a b) s here = here_lemma (t.of_object (t.read_object a b)) (t.of_object s) (read_object_with (λ a' b'. related_field a w p a' && related_term b w p b') s) here

  pub int_here-passes : (w : Bool) (a s : IntTree) → X (t.of_number a) (t.of_number s) → related_int a w p s ≡ true
  unfolding related_int
  int_here-passes w (t.const z) s here = here_lemma (t.of_number (t.const z)) (t.of_number s) (const_with (λ z'. int_eq z z') s) here
  int_here-passes w (t.free_number x) s here = here_lemma (t.of_number (t.free_number x)) (t.of_number s) (free_number_with (λ x'. name_equal x x') s) here
  int_here-passes w (t.read_number a b) s here = here_lemma (t.of_number (t.read_number a b)) (t.of_number s) (read_number_with (λ a' b'. related_field a w p a' && related_term b w p b') s) here
  int_here-passes w (t.add a b) s here = here_lemma (t.of_number (t.add a b)) (t.of_number s) (add_with (λ a' b'. related_int a w p a' && related_int b w p b') s) here
  int_here-passes w (t.sub a b) s here = here_lemma (t.of_number (t.sub a b)) (t.of_number s) (sub_with (λ a' b'. related_int a w p a' && related_int b w p b') s) here
  int_here-passes w (t.neg a) s here = here_lemma (t.of_number (t.neg a)) (t.of_number s) (neg_with (λ a'. related_int a w p a') s) here
  int_here-passes w (t.scale z a) s here = here_lemma (t.of_number (t.scale z a)) (t.of_number s) (scale_with (λ z' a'. int_eq z z' && related_int a w p a') s) here
  int_here-passes w (t.card a) s here = here_lemma (t.of_number (t.card a)) (t.of_number s) (card_with (λ a'. related_set a w p a') s) here

  pub set_here-passes : (w : Bool) (a s : SetTree) → X (t.of_set a) (t.of_set s) → related_set a w p s ≡ true
  unfolding related_set
  set_here-passes w (t.free_set x) s here = here_lemma (t.of_set (t.free_set x)) (t.of_set s) (free_set_with (λ x'. name_equal x x') s) here
  set_here-passes w (t.read_set a b) s here = here_lemma (t.of_set (t.read_set a b)) (t.of_set s) (read_set_with (λ a' b'. related_field a w p a' && related_term b w p b') s) here
  set_here-passes w t.empty s here = here_lemma (t.of_set t.empty) (t.of_set s) (empty_with s) here
  set_here-passes w t.univ s here = here_lemma (t.of_set t.univ) (t.of_set s) (univ_with s) here
  set_here-passes w (t.single a) s here = here_lemma (t.of_set (t.single a)) (t.of_set s) (single_with (λ a'. related_term a w p a') s) here
  set_here-passes w (t.union a b) s here = here_lemma (t.of_set (t.union a b)) (t.of_set s) (union_with (λ a' b'. related_set a w p a' && related_set b w p b') s) here
  set_here-passes w (t.inter a b) s here = here_lemma (t.of_set (t.inter a b)) (t.of_set s) (inter_with (λ a' b'. related_set a w p a' && related_set b w p b') s) here
  set_here-passes w (t.diff a b) s here = here_lemma (t.of_set (t.diff a b)) (t.of_set s) (diff_with (λ a' b'. related_set a w p a' && related_set b w p b') s) here
  set_here-passes w (t.compl a) s here = here_lemma (t.of_set (t.compl a)) (t.of_set s) (compl_with (λ a'. related_set a w p a') s) here
  set_here-passes w (t.compr a) s here = here_lemma (t.of_set (t.compr a)) (t.of_set s) (compr_with (λ a'. related_formula a w p a') s) here

  pub field_here-passes : (w : Bool) (a s : FieldTree) → X (t.of_field a) (t.of_field s) → related_field a w p s ≡ true
  unfolding related_field
  field_here-passes w (t.free_field x) s here = here_lemma (t.of_field (t.free_field x)) (t.of_field s) (free_field_with (λ x'. name_equal x x') s) here
  field_here-passes w (t.update a b c) s here = here_lemma (t.of_field (t.update a b c)) (t.of_field s) (update_with (λ a' b' c'. related_field a w p a' && related_term b w p b' && related_value c w p c') s) here

  pub formula_here-passes : (w : Bool) (a s : FormulaTree) → X (t.of_truth a) (t.of_truth s) → related_formula a w p s ≡ true
  unfolding related_formula
  formula_here-passes w t.true_formula s here = here_lemma (t.of_truth t.true_formula) (t.of_truth s) (true_formula_with (seen w s)) here
  formula_here-passes w t.false_formula s here = here_lemma (t.of_truth t.false_formula) (t.of_truth s) (false_formula_with (seen w s)) here
  formula_here-passes w (t.free_truth x) s here = here_lemma (t.of_truth (t.free_truth x)) (t.of_truth s) (free_truth_with (λ x'. name_equal x x') (seen w s)) here
  formula_here-passes w (t.read_truth a b) s here = here_lemma (t.of_truth (t.read_truth a b)) (t.of_truth s) (read_truth_with (λ a' b'. related_field a w p a' && related_term b w p b') (seen w s)) here
  formula_here-passes w (t.negation a) s here = here_lemma (t.of_truth (t.negation a)) (t.of_truth s) (negation_with (λ a'. related_formula a w p a') (seen w s)) here
  formula_here-passes w (t.and a b) s here = here_lemma (t.of_truth (t.and a b)) (t.of_truth s) (and_with (λ a' b'. related_formula a w p a' && related_formula b w p b') (seen w s)) here
  formula_here-passes w (t.or a b) s here = here_lemma (t.of_truth (t.or a b)) (t.of_truth s) (or_with (λ a' b'. related_formula a w p a' && related_formula b w p b') (seen w s)) here
  formula_here-passes w (t.implies a b) s here = here_lemma (t.of_truth (t.implies a b)) (t.of_truth s) (implies_with (λ a' b'. related_formula a w p a' && related_formula b w p b') (seen w s)) here
  formula_here-passes w (t.iff a b) s here = here_lemma (t.of_truth (t.iff a b)) (t.of_truth s) (iff_with (λ a' b'. related_formula a w p a' && related_formula b w p b') (seen w s)) here
  formula_here-passes w (t.all a) s here = here_lemma (t.of_truth (t.all a)) (t.of_truth s) (all_with (λ a'. related_formula a w p a') (seen w s)) here
  formula_here-passes w (t.ex a) s here = here_lemma (t.of_truth (t.ex a)) (t.of_truth s) (ex_with (λ a'. related_formula a w p a') (seen w s)) here
  formula_here-passes w (t.eq_object a b) s here = here_lemma (t.of_truth (t.eq_object a b)) (t.of_truth s) (eq_object_with (λ a' b'. related_term a w p a' && related_term b w p b') (seen w s)) here
  formula_here-passes w (t.eq_number a b) s here = here_lemma (t.of_truth (t.eq_number a b)) (t.of_truth s) (eq_number_with (λ a' b'. related_int a w p a' && related_int b w p b') (seen w s)) here
  formula_here-passes w (t.eq_set a b) s here = here_lemma (t.of_truth (t.eq_set a b)) (t.of_truth s) (eq_set_with (λ a' b'. related_set a w p a' && related_set b w p b') (seen w s)) here
  formula_here-passes w (t.less a b) s here = here_lemma (t.of_truth (t.less a b)) (t.of_truth s) (less_with (λ a' b'. related_int a w p a' && related_int b w p b') (seen w s)) here
  formula_here-passes w (t.less_equal a b) s here = here_lemma (t.of_truth (t.less_equal a b)) (t.of_truth s) (less_equal_with (λ a' b'. related_int a w p a' && related_int b w p b') (seen w s)) here
  formula_here-passes w (t.divides z a) s here = here_lemma (t.of_truth (t.divides z a)) (t.of_truth s) (divides_with (λ z' a'. int_eq z z' && related_int a w p a') (seen w s)) here
  formula_here-passes w (t.member a b) s here = here_lemma (t.of_truth (t.member a b)) (t.of_truth s) (member_with (λ a' b'. related_term a w p a' && related_set b w p b') (seen w s)) here
  formula_here-passes w (t.subset a b) s here = here_lemma (t.of_truth (t.subset a b)) (t.of_truth s) (subset_with (λ a' b'. related_set a w p a' && related_set b w p b') (seen w s)) here
  formula_here-passes w (t.reach fs a b) s here = here_lemma (t.of_truth (t.reach fs a b)) (t.of_truth s) (reach_with (λ fs' a' b'. related_fields fs w p fs' && related_term a w p a' && related_term b w p b') (seen w s)) here
  formula_here-passes w (t.tree fs) s here = here_lemma (t.of_truth (t.tree fs)) (t.of_truth s) (tree_with (λ fs'. related_fields fs w p fs') (seen w s)) here
  formula_here-passes w (t.mark k a) s here = here_lemma (t.of_truth (t.mark k a)) (t.of_truth s) (by_labels w (mark_with (λ k' a'. mark_equal k k' && related_formula a w p a') (seen w s)) (related_formula a w p (seen w s))) here

  mutual
    unfolding related_term related_int related_set related_field related_value related_formula related_fields bound_with free_object_with null_with read_object_with const_with free_number_with read_number_with add_with sub_with neg_with scale_with card_with free_set_with read_set_with empty_with univ_with single_with union_with inter_with diff_with compl_with compr_with free_field_with update_with of_object_with of_number_with of_truth_with of_set_with of_field_with true_formula_with false_formula_with free_truth_with read_truth_with negation_with and_with or_with implies_with iff_with all_with ex_with eq_object_with eq_number_with eq_set_with less_with less_equal_with divides_with member_with subset_with reach_with tree_with mark_with none_with more_with

    pub term-passes : (a s : TermTree) → TermsRelated X a s → related_term a true p s ≡ true
    term-passes _ _ (r.term_here a s x) = term_here-passes true a s x
    term-passes _ _ (r.bound k) = or-right (p (t.of_object (t.bound k)) (t.of_object (t.bound k))) (nat_eq k k) (eq-eqb k k refl)
    term-passes _ _ (r.free_object x) = or-right (p (t.of_object (t.free_object x)) (t.of_object (t.free_object x))) (name_equal x x) (name_equal-same x x refl)
    term-passes _ _ r.null = or-right (p (t.of_object t.null) (t.of_object t.null)) (true) refl
    term-passes _ _ (r.read_object a a' b b' h0 h1) = or-right (p (t.of_object (t.read_object a b)) (t.of_object (t.read_object a' b'))) (related_field a true p a' && related_term b true p b') (both (related_field a true p a') (related_term b true p b') (field-passes a a' h0) (term-passes b b' h1))

    pub int-passes : (a s : IntTree) → IntsRelated X a s → related_int a true p s ≡ true
    int-passes _ _ (r.int_here a s x) = int_here-passes true a s x
    int-passes _ _ (r.const z) = or-right (p (t.of_number (t.const z)) (t.of_number (t.const z))) (int_eq z z) (int_eq-same z)
    int-passes _ _ (r.free_number x) = or-right (p (t.of_number (t.free_number x)) (t.of_number (t.free_number x))) (name_equal x x) (name_equal-same x x refl)
    int-passes _ _ (r.read_number a a' b b' h0 h1) = or-right (p (t.of_number (t.read_number a b)) (t.of_number (t.read_number a' b'))) (related_field a true p a' && related_term b true p b') (both (related_field a true p a') (related_term b true p b') (field-passes a a' h0) (term-passes b b' h1))
    int-passes _ _ (r.add a a' b b' h0 h1) = or-right (p (t.of_number (t.add a b)) (t.of_number (t.add a' b'))) (related_int a true p a' && related_int b true p b') (both (related_int a true p a') (related_int b true p b') (int-passes a a' h0) (int-passes b b' h1))
    int-passes _ _ (r.sub a a' b b' h0 h1) = or-right (p (t.of_number (t.sub a b)) (t.of_number (t.sub a' b'))) (related_int a true p a' && related_int b true p b') (both (related_int a true p a') (related_int b true p b') (int-passes a a' h0) (int-passes b b' h1))
    int-passes _ _ (r.neg a a' h0) = or-right (p (t.of_number (t.neg a)) (t.of_number (t.neg a'))) (related_int a true p a') (int-passes a a' h0)
    int-passes _ _ (r.scale z a a' h1) = or-right (p (t.of_number (t.scale z a)) (t.of_number (t.scale z a'))) (int_eq z z && related_int a true p a') (both (int_eq z z) (related_int a true p a') (int_eq-same z) (int-passes a a' h1))
    int-passes _ _ (r.card a a' h0) = or-right (p (t.of_number (t.card a)) (t.of_number (t.card a'))) (related_set a true p a') (set-passes a a' h0)

    pub set-passes : (a s : SetTree) → SetsRelated X a s → related_set a true p s ≡ true
    set-passes _ _ (r.set_here a s x) = set_here-passes true a s x
    set-passes _ _ (r.free_set x) = or-right (p (t.of_set (t.free_set x)) (t.of_set (t.free_set x))) (name_equal x x) (name_equal-same x x refl)
    set-passes _ _ (r.read_set a a' b b' h0 h1) = or-right (p (t.of_set (t.read_set a b)) (t.of_set (t.read_set a' b'))) (related_field a true p a' && related_term b true p b') (both (related_field a true p a') (related_term b true p b') (field-passes a a' h0) (term-passes b b' h1))
    set-passes _ _ r.empty = or-right (p (t.of_set t.empty) (t.of_set t.empty)) (true) refl
    set-passes _ _ r.univ = or-right (p (t.of_set t.univ) (t.of_set t.univ)) (true) refl
    set-passes _ _ (r.single a a' h0) = or-right (p (t.of_set (t.single a)) (t.of_set (t.single a'))) (related_term a true p a') (term-passes a a' h0)
    set-passes _ _ (r.union a a' b b' h0 h1) = or-right (p (t.of_set (t.union a b)) (t.of_set (t.union a' b'))) (related_set a true p a' && related_set b true p b') (both (related_set a true p a') (related_set b true p b') (set-passes a a' h0) (set-passes b b' h1))
    set-passes _ _ (r.inter a a' b b' h0 h1) = or-right (p (t.of_set (t.inter a b)) (t.of_set (t.inter a' b'))) (related_set a true p a' && related_set b true p b') (both (related_set a true p a') (related_set b true p b') (set-passes a a' h0) (set-passes b b' h1))
    set-passes _ _ (r.diff a a' b b' h0 h1) = or-right (p (t.of_set (t.diff a b)) (t.of_set (t.diff a' b'))) (related_set a true p a' && related_set b true p b') (both (related_set a true p a') (related_set b true p b') (set-passes a a' h0) (set-passes b b' h1))
    set-passes _ _ (r.compl a a' h0) = or-right (p (t.of_set (t.compl a)) (t.of_set (t.compl a'))) (related_set a true p a') (set-passes a a' h0)
    set-passes _ _ (r.compr a a' h0) = or-right (p (t.of_set (t.compr a)) (t.of_set (t.compr a'))) (related_formula a true p a') (formula-passes a a' h0)

    pub field-passes : (a s : FieldTree) → FieldsRelated X a s → related_field a true p s ≡ true
    field-passes _ _ (r.field_here a s x) = field_here-passes true a s x
    field-passes _ _ (r.free_field x) = or-right (p (t.of_field (t.free_field x)) (t.of_field (t.free_field x))) (name_equal x x) (name_equal-same x x refl)
    field-passes _ _ (r.update a a' b b' c c' h0 h1 h2) = or-right (p (t.of_field (t.update a b c)) (t.of_field (t.update a' b' c'))) (related_field a true p a' && related_term b true p b' && related_value c true p c') (both (related_field a true p a' && related_term b true p b') (related_value c true p c') (both (related_field a true p a') (related_term b true p b') (field-passes a a' h0) (term-passes b b' h1)) (value-passes c c' h2))

    pub value-passes : (a s : ValueTree) → ValuesRelated X a s → related_value a true p s ≡ true
    value-passes _ _ (r.of_object a a' h0) = (term-passes a a' h0)
    value-passes _ _ (r.of_number a a' h0) = (int-passes a a' h0)
    value-passes _ _ (r.of_truth a a' h0) = (formula-passes a a' h0)
    value-passes _ _ (r.of_set a a' h0) = (set-passes a a' h0)
    value-passes _ _ (r.of_field a a' h0) = (field-passes a a' h0)

    pub formula-passes : (a s : FormulaTree) → FormulasRelated X a s → related_formula a true p s ≡ true
    formula-passes _ _ (r.formula_here a s x) = formula_here-passes true a s x
    formula-passes _ _ r.true_formula = or-right (p (t.of_truth t.true_formula) (t.of_truth t.true_formula)) (true) refl
    formula-passes _ _ r.false_formula = or-right (p (t.of_truth t.false_formula) (t.of_truth t.false_formula)) (true) refl
    formula-passes _ _ (r.free_truth x) = or-right (p (t.of_truth (t.free_truth x)) (t.of_truth (t.free_truth x))) (name_equal x x) (name_equal-same x x refl)
    formula-passes _ _ (r.read_truth a a' b b' h0 h1) = or-right (p (t.of_truth (t.read_truth a b)) (t.of_truth (t.read_truth a' b'))) (related_field a true p a' && related_term b true p b') (both (related_field a true p a') (related_term b true p b') (field-passes a a' h0) (term-passes b b' h1))
    formula-passes _ _ (r.negation a a' h0) = or-right (p (t.of_truth (t.negation a)) (t.of_truth (t.negation a'))) (related_formula a true p a') (formula-passes a a' h0)
    formula-passes _ _ (r.and a a' b b' h0 h1) = or-right (p (t.of_truth (t.and a b)) (t.of_truth (t.and a' b'))) (related_formula a true p a' && related_formula b true p b') (both (related_formula a true p a') (related_formula b true p b') (formula-passes a a' h0) (formula-passes b b' h1))
    formula-passes _ _ (r.or a a' b b' h0 h1) = or-right (p (t.of_truth (t.or a b)) (t.of_truth (t.or a' b'))) (related_formula a true p a' && related_formula b true p b') (both (related_formula a true p a') (related_formula b true p b') (formula-passes a a' h0) (formula-passes b b' h1))
    formula-passes _ _ (r.implies a a' b b' h0 h1) = or-right (p (t.of_truth (t.implies a b)) (t.of_truth (t.implies a' b'))) (related_formula a true p a' && related_formula b true p b') (both (related_formula a true p a') (related_formula b true p b') (formula-passes a a' h0) (formula-passes b b' h1))
    formula-passes _ _ (r.iff a a' b b' h0 h1) = or-right (p (t.of_truth (t.iff a b)) (t.of_truth (t.iff a' b'))) (related_formula a true p a' && related_formula b true p b') (both (related_formula a true p a') (related_formula b true p b') (formula-passes a a' h0) (formula-passes b b' h1))
    formula-passes _ _ (r.all a a' h0) = or-right (p (t.of_truth (t.all a)) (t.of_truth (t.all a'))) (related_formula a true p a') (formula-passes a a' h0)
    formula-passes _ _ (r.ex a a' h0) = or-right (p (t.of_truth (t.ex a)) (t.of_truth (t.ex a'))) (related_formula a true p a') (formula-passes a a' h0)
    formula-passes _ _ (r.eq_object a a' b b' h0 h1) = or-right (p (t.of_truth (t.eq_object a b)) (t.of_truth (t.eq_object a' b'))) (related_term a true p a' && related_term b true p b') (both (related_term a true p a') (related_term b true p b') (term-passes a a' h0) (term-passes b b' h1))
    formula-passes _ _ (r.eq_number a a' b b' h0 h1) = or-right (p (t.of_truth (t.eq_number a b)) (t.of_truth (t.eq_number a' b'))) (related_int a true p a' && related_int b true p b') (both (related_int a true p a') (related_int b true p b') (int-passes a a' h0) (int-passes b b' h1))
    formula-passes _ _ (r.eq_set a a' b b' h0 h1) = or-right (p (t.of_truth (t.eq_set a b)) (t.of_truth (t.eq_set a' b'))) (related_set a true p a' && related_set b true p b') (both (related_set a true p a') (related_set b true p b') (set-passes a a' h0) (set-passes b b' h1))
    formula-passes _ _ (r.less a a' b b' h0 h1) = or-right (p (t.of_truth (t.less a b)) (t.of_truth (t.less a' b'))) (related_int a true p a' && related_int b true p b') (both (related_int a true p a') (related_int b true p b') (int-passes a a' h0) (int-passes b b' h1))
    formula-passes _ _ (r.less_equal a a' b b' h0 h1) = or-right (p (t.of_truth (t.less_equal a b)) (t.of_truth (t.less_equal a' b'))) (related_int a true p a' && related_int b true p b') (both (related_int a true p a') (related_int b true p b') (int-passes a a' h0) (int-passes b b' h1))
    formula-passes _ _ (r.divides z a a' h1) = or-right (p (t.of_truth (t.divides z a)) (t.of_truth (t.divides z a'))) (int_eq z z && related_int a true p a') (both (int_eq z z) (related_int a true p a') (int_eq-same z) (int-passes a a' h1))
    formula-passes _ _ (r.member a a' b b' h0 h1) = or-right (p (t.of_truth (t.member a b)) (t.of_truth (t.member a' b'))) (related_term a true p a' && related_set b true p b') (both (related_term a true p a') (related_set b true p b') (term-passes a a' h0) (set-passes b b' h1))
    formula-passes _ _ (r.subset a a' b b' h0 h1) = or-right (p (t.of_truth (t.subset a b)) (t.of_truth (t.subset a' b'))) (related_set a true p a' && related_set b true p b') (both (related_set a true p a') (related_set b true p b') (set-passes a a' h0) (set-passes b b' h1))
    formula-passes _ _ (r.reach fs fs' a a' b b' h0 h1 h2) = or-right (p (t.of_truth (t.reach fs a b)) (t.of_truth (t.reach fs' a' b'))) (related_fields fs true p fs' && related_term a true p a' && related_term b true p b') (both (related_fields fs true p fs' && related_term a true p a') (related_term b true p b') (both (related_fields fs true p fs') (related_term a true p a') (fields-passes fs fs' h0) (term-passes a a' h1)) (term-passes b b' h2))
    formula-passes _ _ (r.tree fs fs' h0) = or-right (p (t.of_truth (t.tree fs)) (t.of_truth (t.tree fs'))) (related_fields fs true p fs') (fields-passes fs fs' h0)
    formula-passes _ _ (r.mark k a a' h1) = or-right (p (t.of_truth (t.mark k a)) (t.of_truth (t.mark k a'))) (mark_equal k k && related_formula a true p a') (both (mark_equal k k) (related_formula a true p a') (mark_equal-same k k refl) (formula-passes a a' h1))

    pub fields-passes : (a s : FieldTrees) → ListsRelated X a s → related_fields a true p s ≡ true
    fields-passes _ _ r.none = refl
    fields-passes _ _ (r.more f f' fs fs' h0 h1) = (both (related_field f true p f') (related_fields fs true p fs') (field-passes f f' h0) (fields-passes fs fs' h1))

-- nothing may be exchanged
abbrev pub never : ValueTree → ValueTree → Type 0
never u v = ⊥

mutual
  pub term-equal : (a s : TermTree) → TermsRelated never a s → a ≡ s
  term-equal _ _ (r.term_here a s x) = absurd x
  term-equal _ _ (r.bound k) = refl
  term-equal _ _ (r.free_object x) = refl
  term-equal _ _ r.null = refl
  term-equal _ _ (r.read_object a a' b b' h0 h1) = λ i. t.read_object (field-equal a a' h0 i) (term-equal b b' h1 i)

  pub int-equal : (a s : IntTree) → IntsRelated never a s → a ≡ s
  int-equal _ _ (r.int_here a s x) = absurd x
  int-equal _ _ (r.const z) = refl
  int-equal _ _ (r.free_number x) = refl
  int-equal _ _ (r.read_number a a' b b' h0 h1) = λ i. t.read_number (field-equal a a' h0 i) (term-equal b b' h1 i)
  int-equal _ _ (r.add a a' b b' h0 h1) = λ i. t.add (int-equal a a' h0 i) (int-equal b b' h1 i)
  int-equal _ _ (r.sub a a' b b' h0 h1) = λ i. t.sub (int-equal a a' h0 i) (int-equal b b' h1 i)
  int-equal _ _ (r.neg a a' h0) = λ i. t.neg (int-equal a a' h0 i)
  int-equal _ _ (r.scale z a a' h1) = λ i. t.scale z (int-equal a a' h1 i)
  int-equal _ _ (r.card a a' h0) = λ i. t.card (set-equal a a' h0 i)

  pub set-equal : (a s : SetTree) → SetsRelated never a s → a ≡ s
  set-equal _ _ (r.set_here a s x) = absurd x
  set-equal _ _ (r.free_set x) = refl
  set-equal _ _ (r.read_set a a' b b' h0 h1) = λ i. t.read_set (field-equal a a' h0 i) (term-equal b b' h1 i)
  set-equal _ _ r.empty = refl
  set-equal _ _ r.univ = refl
  set-equal _ _ (r.single a a' h0) = λ i. t.single (term-equal a a' h0 i)
  set-equal _ _ (r.union a a' b b' h0 h1) = λ i. t.union (set-equal a a' h0 i) (set-equal b b' h1 i)
  set-equal _ _ (r.inter a a' b b' h0 h1) = λ i. t.inter (set-equal a a' h0 i) (set-equal b b' h1 i)
  set-equal _ _ (r.diff a a' b b' h0 h1) = λ i. t.diff (set-equal a a' h0 i) (set-equal b b' h1 i)
  set-equal _ _ (r.compl a a' h0) = λ i. t.compl (set-equal a a' h0 i)
  set-equal _ _ (r.compr a a' h0) = λ i. t.compr (formula-equal a a' h0 i)

  pub field-equal : (a s : FieldTree) → FieldsRelated never a s → a ≡ s
  field-equal _ _ (r.field_here a s x) = absurd x
  field-equal _ _ (r.free_field x) = refl
  field-equal _ _ (r.update a a' b b' c c' h0 h1 h2) = λ i. t.update (field-equal a a' h0 i) (term-equal b b' h1 i) (value-equal c c' h2 i)

  pub value-equal : (a s : ValueTree) → ValuesRelated never a s → a ≡ s
  value-equal _ _ (r.of_object a a' h0) = λ i. t.of_object (term-equal a a' h0 i)
  value-equal _ _ (r.of_number a a' h0) = λ i. t.of_number (int-equal a a' h0 i)
  value-equal _ _ (r.of_truth a a' h0) = λ i. t.of_truth (formula-equal a a' h0 i)
  value-equal _ _ (r.of_set a a' h0) = λ i. t.of_set (set-equal a a' h0 i)
  value-equal _ _ (r.of_field a a' h0) = λ i. t.of_field (field-equal a a' h0 i)

  pub formula-equal : (a s : FormulaTree) → FormulasRelated never a s → a ≡ s
  formula-equal _ _ (r.formula_here a s x) = absurd x
  formula-equal _ _ r.true_formula = refl
  formula-equal _ _ r.false_formula = refl
  formula-equal _ _ (r.free_truth x) = refl
  formula-equal _ _ (r.read_truth a a' b b' h0 h1) = λ i. t.read_truth (field-equal a a' h0 i) (term-equal b b' h1 i)
  formula-equal _ _ (r.negation a a' h0) = λ i. t.negation (formula-equal a a' h0 i)
  formula-equal _ _ (r.and a a' b b' h0 h1) = λ i. t.and (formula-equal a a' h0 i) (formula-equal b b' h1 i)
  formula-equal _ _ (r.or a a' b b' h0 h1) = λ i. t.or (formula-equal a a' h0 i) (formula-equal b b' h1 i)
  formula-equal _ _ (r.implies a a' b b' h0 h1) = λ i. t.implies (formula-equal a a' h0 i) (formula-equal b b' h1 i)
  formula-equal _ _ (r.iff a a' b b' h0 h1) = λ i. t.iff (formula-equal a a' h0 i) (formula-equal b b' h1 i)
  formula-equal _ _ (r.all a a' h0) = λ i. t.all (formula-equal a a' h0 i)
  formula-equal _ _ (r.ex a a' h0) = λ i. t.ex (formula-equal a a' h0 i)
  formula-equal _ _ (r.eq_object a a' b b' h0 h1) = λ i. t.eq_object (term-equal a a' h0 i) (term-equal b b' h1 i)
  formula-equal _ _ (r.eq_number a a' b b' h0 h1) = λ i. t.eq_number (int-equal a a' h0 i) (int-equal b b' h1 i)
  formula-equal _ _ (r.eq_set a a' b b' h0 h1) = λ i. t.eq_set (set-equal a a' h0 i) (set-equal b b' h1 i)
  formula-equal _ _ (r.less a a' b b' h0 h1) = λ i. t.less (int-equal a a' h0 i) (int-equal b b' h1 i)
  formula-equal _ _ (r.less_equal a a' b b' h0 h1) = λ i. t.less_equal (int-equal a a' h0 i) (int-equal b b' h1 i)
  formula-equal _ _ (r.divides z a a' h1) = λ i. t.divides z (int-equal a a' h1 i)
  formula-equal _ _ (r.member a a' b b' h0 h1) = λ i. t.member (term-equal a a' h0 i) (set-equal b b' h1 i)
  formula-equal _ _ (r.subset a a' b b' h0 h1) = λ i. t.subset (set-equal a a' h0 i) (set-equal b b' h1 i)
  formula-equal _ _ (r.reach fs fs' a a' b b' h0 h1 h2) = λ i. t.reach (fields-equal fs fs' h0 i) (term-equal a a' h1 i) (term-equal b b' h2 i)
  formula-equal _ _ (r.tree fs fs' h0) = λ i. t.tree (fields-equal fs fs' h0 i)
  formula-equal _ _ (r.mark k a a' h1) = λ i. t.mark k (formula-equal a a' h1 i)

  pub fields-equal : (a s : FieldTrees) → ListsRelated never a s → a ≡ s
  fields-equal _ _ r.none = refl
  fields-equal _ _ (r.more f f' fs fs' h0 h1) = λ i. t.more (field-equal f f' h0 i) (fields-equal fs fs' h1 i)

module _ (X : ValueTree → ValueTree → Type 0) where
  mutual
    pub term-itself : (a : TermTree) → TermsRelated X a a
    term-itself (t.bound k) = r.bound k
    term-itself (t.free_object x) = r.free_object x
    term-itself t.null = r.null
    term-itself (t.read_object a b) = r.read_object a a b b (field-itself a) (term-itself b)

    pub int-itself : (a : IntTree) → IntsRelated X a a
    int-itself (t.const z) = r.const z
    int-itself (t.free_number x) = r.free_number x
    int-itself (t.read_number a b) = r.read_number a a b b (field-itself a) (term-itself b)
    int-itself (t.add a b) = r.add a a b b (int-itself a) (int-itself b)
    int-itself (t.sub a b) = r.sub a a b b (int-itself a) (int-itself b)
    int-itself (t.neg a) = r.neg a a (int-itself a)
    int-itself (t.scale z a) = r.scale z a a (int-itself a)
    int-itself (t.card a) = r.card a a (set-itself a)

    pub set-itself : (a : SetTree) → SetsRelated X a a
    set-itself (t.free_set x) = r.free_set x
    set-itself (t.read_set a b) = r.read_set a a b b (field-itself a) (term-itself b)
    set-itself t.empty = r.empty
    set-itself t.univ = r.univ
    set-itself (t.single a) = r.single a a (term-itself a)
    set-itself (t.union a b) = r.union a a b b (set-itself a) (set-itself b)
    set-itself (t.inter a b) = r.inter a a b b (set-itself a) (set-itself b)
    set-itself (t.diff a b) = r.diff a a b b (set-itself a) (set-itself b)
    set-itself (t.compl a) = r.compl a a (set-itself a)
    set-itself (t.compr a) = r.compr a a (formula-itself a)

    pub field-itself : (a : FieldTree) → FieldsRelated X a a
    field-itself (t.free_field x) = r.free_field x
    field-itself (t.update a b c) = r.update a a b b c c (field-itself a) (term-itself b) (value-itself c)

    pub value-itself : (a : ValueTree) → ValuesRelated X a a
    value-itself (t.of_object a) = r.of_object a a (term-itself a)
    value-itself (t.of_number a) = r.of_number a a (int-itself a)
    value-itself (t.of_truth a) = r.of_truth a a (formula-itself a)
    value-itself (t.of_set a) = r.of_set a a (set-itself a)
    value-itself (t.of_field a) = r.of_field a a (field-itself a)

    pub formula-itself : (a : FormulaTree) → FormulasRelated X a a
    formula-itself t.true_formula = r.true_formula
    formula-itself t.false_formula = r.false_formula
    formula-itself (t.free_truth x) = r.free_truth x
    formula-itself (t.read_truth a b) = r.read_truth a a b b (field-itself a) (term-itself b)
    formula-itself (t.negation a) = r.negation a a (formula-itself a)
    formula-itself (t.and a b) = r.and a a b b (formula-itself a) (formula-itself b)
    formula-itself (t.or a b) = r.or a a b b (formula-itself a) (formula-itself b)
    formula-itself (t.implies a b) = r.implies a a b b (formula-itself a) (formula-itself b)
    formula-itself (t.iff a b) = r.iff a a b b (formula-itself a) (formula-itself b)
    formula-itself (t.all a) = r.all a a (formula-itself a)
    formula-itself (t.ex a) = r.ex a a (formula-itself a)
    formula-itself (t.eq_object a b) = r.eq_object a a b b (term-itself a) (term-itself b)
    formula-itself (t.eq_number a b) = r.eq_number a a b b (int-itself a) (int-itself b)
    formula-itself (t.eq_set a b) = r.eq_set a a b b (set-itself a) (set-itself b)
    formula-itself (t.less a b) = r.less a a b b (int-itself a) (int-itself b)
    formula-itself (t.less_equal a b) = r.less_equal a a b b (int-itself a) (int-itself b)
    formula-itself (t.divides z a) = r.divides z a a (int-itself a)
    formula-itself (t.member a b) = r.member a a b b (term-itself a) (set-itself b)
    formula-itself (t.subset a b) = r.subset a a b b (set-itself a) (set-itself b)
    formula-itself (t.reach fs a b) = r.reach fs fs a a b b (fields-itself fs) (term-itself a) (term-itself b)
    formula-itself (t.tree fs) = r.tree fs fs (fields-itself fs)
    formula-itself (t.mark k a) = r.mark k a a (formula-itself a)

    pub fields-itself : (a : FieldTrees) → ListsRelated X a a
    fields-itself t.none = r.none
    fields-itself (t.more f fs) = r.more f f fs fs (field-itself f) (fields-itself fs)
