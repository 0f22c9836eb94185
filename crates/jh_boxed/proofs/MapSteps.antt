-- The mapped tree at each constructor.
use Rattle.std.proofs.Common.{◌≡◌, refl, ℕ, ◌+◌, ℤ}
use Rattle.jh_name.specs.declared.naming.Name.{Name}
use Rattle.jh_form.specs.declared.mark.Mark.{Mark}
use Rattle.jh_form.specs.Tree.{TermTree, IntTree, SetTree, FieldTree, ValueTree, FormulaTree, FieldTrees}
use Rattle.jh_form.specs.Tree as t
use Rattle.jh_boxed.specs.Mapped.{LeafMap, mapped_term, mapped_int, mapped_set, mapped_field, mapped_value, mapped_formula, mapped_fields}

pub mapped_term-bound : (k : ℕ) (l : LeafMap) (d : ℕ) → mapped_term (t.bound k) l d ≡ l.bound_at k d
unfolding mapped_term
mapped_term-bound k l d = refl

pub mapped_term-free_object : (x : Name) (l : LeafMap) (d : ℕ) → mapped_term (t.free_object x) l d ≡ l.object_at x d
unfolding mapped_term
mapped_term-free_object x l d = refl

pub mapped_term-null : (l : LeafMap) (d : ℕ) → mapped_term t.null l d ≡ t.null
unfolding mapped_term
mapped_term-null l d = refl

pub mapped_term-read_object : (a : FieldTree) (b : TermTree) (l : LeafMap) (d : ℕ) → mapped_term (t.read_object a b) l d ≡ t.read_object (mapped_field a l d) (mapped_term b l d)
unfolding mapped_term
mapped_term-read_object a b l d = refl

pub mapped_int-const : (z : ℤ) (l : LeafMap) (d : ℕ) → mapped_int (t.const z) l d ≡ t.const z
unfolding mapped_int
mapped_int-const z l d = refl

pub mapped_int-free_number : (x : Name) (l : LeafMap) (d : ℕ) → mapped_int (t.free_number x) l d ≡ l.number_at x d
unfolding mapped_int
mapped_int-free_number x l d = refl

pub mapped_int-read_number : (a : FieldTree) (b : TermTree) (l : LeafMap) (d : ℕ) → mapped_int (t.read_number a b) l d ≡ t.read_number (mapped_field a l d) (mapped_term b l d)
unfolding mapped_int
mapped_int-read_number a b l d = refl

pub mapped_int-add : (a : IntTree) (b : IntTree) (l : LeafMap) (d : ℕ) → mapped_int (t.add a b) l d ≡ t.add (mapped_int a l d) (mapped_int b l d)
unfolding mapped_int
mapped_int-add a b l d = refl

pub mapped_int-sub : (a : IntTree) (b : IntTree) (l : LeafMap) (d : ℕ) → mapped_int (t.sub a b) l d ≡ t.sub (mapped_int a l d) (mapped_int b l d)
unfolding mapped_int
mapped_int-sub a b l d = refl

pub mapped_int-neg : (a : IntTree) (l : LeafMap) (d : ℕ) → mapped_int (t.neg a) l d ≡ t.neg (mapped_int a l d)
unfolding mapped_int
mapped_int-neg a l d = refl

pub mapped_int-scale : (z : ℤ) (a : IntTree) (l : LeafMap) (d : ℕ) → mapped_int (t.scale z a) l d ≡ t.scale z (mapped_int a l d)
unfolding mapped_int
mapped_int-scale z a l d = refl

pub mapped_int-card : (a : SetTree) (l : LeafMap) (d : ℕ) → mapped_int (t.card a) l d ≡ t.card (mapped_set a l d)
unfolding mapped_int
mapped_int-card a l d = refl

pub mapped_set-free_set : (x : Name) (l : LeafMap) (d : ℕ) → mapped_set (t.free_set x) l d ≡ l.set_at x d
unfolding mapped_set
mapped_set-free_set x l d = refl

pub mapped_set-read_set : (a : FieldTree) (b : TermTree) (l : LeafMap) (d : ℕ) → mapped_set (t.read_set a b) l d ≡ t.read_set (mapped_field a l d) (mapped_term b l d)
unfolding mapped_set
mapped_set-read_set a b l d = refl

pub mapped_set-empty : (l : LeafMap) (d : ℕ) → mapped_set t.empty l d ≡ t.empty
unfolding mapped_set
mapped_set-empty l d = refl

pub mapped_set-univ : (l : LeafMap) (d : ℕ) → mapped_set t.univ l d ≡ t.univ
unfolding mapped_set
mapped_set-univ l d = refl

pub mapped_set-single : (a : TermTree) (l : LeafMap) (d : ℕ) → mapped_set (t.single a) l d ≡ t.single (mapped_term a l d)
unfolding mapped_set
mapped_set-single a l d = refl

pub mapped_set-union : (a : SetTree) (b : SetTree) (l : LeafMap) (d : ℕ) → mapped_set (t.union a b) l d ≡ t.union (mapped_set a l d) (mapped_set b l d)
unfolding mapped_set
mapped_set-union a b l d = refl

pub mapped_set-inter : (a : SetTree) (b : SetTree) (l : LeafMap) (d : ℕ) → mapped_set (t.inter a b) l d ≡ t.inter (mapped_set a l d) (mapped_set b l d)
unfolding mapped_set
mapped_set-inter a b l d = refl

pub mapped_set-diff : (a : SetTree) (b : SetTree) (l : LeafMap) (d : ℕ) → mapped_set (t.diff a b) l d ≡ t.diff (mapped_set a l d) (mapped_set b l d)
unfolding mapped_set
mapped_set-diff a b l d = refl

pub mapped_set-compl : (a : SetTree) (l : LeafMap) (d : ℕ) → mapped_set (t.compl a) l d ≡ t.compl (mapped_set a l d)
unfolding mapped_set
mapped_set-compl a l d = refl

pub mapped_set-compr : (a : FormulaTree) (l : LeafMap) (d : ℕ) → mapped_set (t.compr a) l d ≡ t.compr (mapped_formula a l (d + 1))
unfolding mapped_set
mapped_set-compr a l d = refl

pub mapped_field-free_field : (x : Name) (l : LeafMap) (d : ℕ) → mapped_field (t.free_field x) l d ≡ l.field_at x d
unfolding mapped_field
mapped_field-free_field x l d = refl

pub mapped_field-update : (a : FieldTree) (b : TermTree) (c : ValueTree) (l : LeafMap) (d : ℕ) → mapped_field (t.update a b c) l d ≡ t.update (mapped_field a l d) (mapped_term b l d) (mapped_value c l d)
unfolding mapped_field
mapped_field-update a b c l d = refl

pub mapped_value-of_object : (a : TermTree) (l : LeafMap) (d : ℕ) → mapped_value (t.of_object a) l d ≡ t.of_object (mapped_term a l d)
unfolding mapped_value
mapped_value-of_object a l d = refl

pub mapped_value-of_number : (a : IntTree) (l : LeafMap) (d : ℕ) → mapped_value (t.of_number a) l d ≡ t.of_number (mapped_int a l d)
unfolding mapped_value
mapped_value-of_number a l d = refl

pub mapped_value-of_truth : (a : FormulaTree) (l : LeafMap) (d : ℕ) → mapped_value (t.of_truth a) l d ≡ t.of_truth (mapped_formula a l d)
unfolding mapped_value
mapped_value-of_truth a l d = refl

pub mapped_value-of_set : (a : SetTree) (l : LeafMap) (d : ℕ) → mapped_value (t.of_set a) l d ≡ t.of_set (mapped_set a l d)
unfolding mapped_value
mapped_value-of_set a l d = refl

pub mapped_value-of_field : (a : FieldTree) (l : LeafMap) (d : ℕ) → mapped_value (t.of_field a) l d ≡ t.of_field (mapped_field a l d)
unfolding mapped_value
mapped_value-of_field a l d = refl

pub mapped_formula-true_formula : (l : LeafMap) (d : ℕ) → mapped_formula t.true_formula l d ≡ t.true_formula
unfolding mapped_formula
mapped_formula-true_formula l d = refl

pub mapped_formula-false_formula : (l : LeafMap) (d : ℕ) → mapped_formula t.false_formula l d ≡ t.false_formula
unfolding mapped_formula
mapped_formula-false_formula l d = refl

pub mapped_formula-free_truth : (x : Name) (l : LeafMap) (d : ℕ) → mapped_formula (t.free_truth x) l d ≡ l.truth_at x d
unfolding mapped_formula
mapped_formula-free_truth x l d = refl

pub mapped_formula-read_truth : (a : FieldTree) (b : TermTree) (l : LeafMap) (d : ℕ) → mapped_formula (t.read_truth a b) l d ≡ t.read_truth (mapped_field a l d) (mapped_term b l d)
unfolding mapped_formula
mapped_formula-read_truth a b l d = refl

pub mapped_formula-negation : (a : FormulaTree) (l : LeafMap) (d : ℕ) → mapped_formula (t.negation a) l d ≡ t.negation (mapped_formula a l d)
unfolding mapped_formula
mapped_formula-negation a l d = refl

pub mapped_formula-and : (a : FormulaTree) (b : FormulaTree) (l : LeafMap) (d : ℕ) → mapped_formula (t.and a b) l d ≡ t.and (mapped_formula a l d) (mapped_formula b l d)
unfolding mapped_formula
mapped_formula-and a b l d = refl

pub mapped_formula-or : (a : FormulaTree) (b : FormulaTree) (l : LeafMap) (d : ℕ) → mapped_formula (t.or a b) l d ≡ t.or (mapped_formula a l d) (mapped_formula b l d)
unfolding mapped_formula
mapped_formula-or a b l d = refl

pub mapped_formula-implies : (a : FormulaTree) (b : FormulaTree) (l : LeafMap) (d : ℕ) → mapped_formula (t.implies a b) l d ≡ t.implies (mapped_formula a l d) (mapped_formula b l d)
unfolding mapped_formula
mapped_formula-implies a b l d = refl

pub mapped_formula-iff : (a : FormulaTree) (b : FormulaTree) (l : LeafMap) (d : ℕ) → mapped_formula (t.iff a b) l d ≡ t.iff (mapped_formula a l d) (mapped_formula b l d)
unfolding mapped_formula
mapped_formula-iff a b l d = refl

pub mapped_formula-all : (a : FormulaTree) (l : LeafMap) (d : ℕ) → mapped_formula (t.all a) l d ≡ t.all (mapped_formula a l (d + 1))
unfolding mapped_formula
mapped_formula-all a l d = refl

pub mapped_formula-ex : (a : FormulaTree) (l : LeafMap) (d : ℕ) → mapped_formula (t.ex a) l d ≡ t.ex (mapped_formula a l (d + 1))
unfolding mapped_formula
mapped_formula-ex a l d = refl

pub mapped_formula-eq_object : (a : TermTree) (b : TermTree) (l : LeafMap) (d : ℕ) → mapped_formula (t.eq_object a b) l d ≡ t.eq_object (mapped_term a l d) (mapped_term b l d)
unfolding mapped_formula
mapped_formula-eq_object a b l d = refl

pub mapped_formula-eq_number : (a : IntTree) (b : IntTree) (l : LeafMap) (d : ℕ) → mapped_formula (t.eq_number a b) l d ≡ t.eq_number (mapped_int a l d) (mapped_int b l d)
unfolding mapped_formula
mapped_formula-eq_number a b l d = refl

pub mapped_formula-eq_set : (a : SetTree) (b : SetTree) (l : LeafMap) (d : ℕ) → mapped_formula (t.eq_set a b) l d ≡ t.eq_set (mapped_set a l d) (mapped_set b l d)
unfolding mapped_formula
mapped_formula-eq_set a b l d = refl

pub mapped_formula-less : (a : IntTree) (b : IntTree) (l : LeafMap) (d : ℕ) → mapped_formula (t.less a b) l d ≡ t.less (mapped_int a l d) (mapped_int b l d)
unfolding mapped_formula
mapped_formula-less a b l d = refl

pub mapped_formula-less_equal : (a : IntTree) (b : IntTree) (l : LeafMap) (d : ℕ) → mapped_formula (t.less_equal a b) l d ≡ t.less_equal (mapped_int a l d) (mapped_int b l d)
unfolding mapped_formula
mapped_formula-less_equal a b l d = refl

pub mapped_formula-divides : (z : ℤ) (a : IntTree) (l : LeafMap) (d : ℕ) → mapped_formula (t.divides z a) l d ≡ t.divides z (mapped_int a l d)
unfolding mapped_formula
mapped_formula-divides z a l d = refl

pub mapped_formula-member : (a : TermTree) (b : SetTree) (l : LeafMap) (d : ℕ) → mapped_formula (t.member a b) l d ≡ t.member (mapped_term a l d) (mapped_set b l d)
unfolding mapped_formula
mapped_formula-member a b l d = refl

pub mapped_formula-subset : (a : SetTree) (b : SetTree) (l : LeafMap) (d : ℕ) → mapped_formula (t.subset a b) l d ≡ t.subset (mapped_set a l d) (mapped_set b l d)
unfolding mapped_formula
mapped_formula-subset a b l d = refl

pub mapped_formula-reach : (fs : FieldTrees) (a : TermTree) (b : TermTree) (l : LeafMap) (d : ℕ) → mapped_formula (t.reach fs a b) l d ≡ t.reach (mapped_fields fs l d) (mapped_term a l d) (mapped_term b l d)
unfolding mapped_formula
mapped_formula-reach fs a b l d = refl

pub mapped_formula-tree : (fs : FieldTrees) (l : LeafMap) (d : ℕ) → mapped_formula (t.tree fs) l d ≡ t.tree (mapped_fields fs l d)
unfolding mapped_formula
mapped_formula-tree fs l d = refl

pub mapped_formula-mark : (k : Mark) (a : FormulaTree) (l : LeafMap) (d : ℕ) → mapped_formula (t.mark k a) l d ≡ t.mark k (mapped_formula a l d)
unfolding mapped_formula
mapped_formula-mark k a l d = refl

pub mapped_fields-none : (l : LeafMap) (d : ℕ) → mapped_fields t.none l d ≡ t.none
unfolding mapped_fields
mapped_fields-none l d = refl

pub mapped_fields-more : (f : FieldTree) (fs : FieldTrees) (l : LeafMap) (d : ℕ) → mapped_fields (t.more f fs) l d ≡ t.more (mapped_field f l d) (mapped_fields fs l d)
unfolding mapped_fields
mapped_fields-more f fs l d = refl

pub ruleset map_steps = (mapped_term-bound, mapped_term-free_object, mapped_term-null, mapped_term-read_object, mapped_int-const, mapped_int-free_number, mapped_int-read_number, mapped_int-add, mapped_int-sub, mapped_int-neg, mapped_int-scale, mapped_int-card, mapped_set-free_set, mapped_set-read_set, mapped_set-empty, mapped_set-univ, mapped_set-single, mapped_set-union, mapped_set-inter, mapped_set-diff, mapped_set-compl, mapped_set-compr, mapped_field-free_field, mapped_field-update, mapped_value-of_object, mapped_value-of_number, mapped_value-of_truth, mapped_value-of_set, mapped_value-of_field, mapped_formula-true_formula, mapped_formula-false_formula, mapped_formula-free_truth, mapped_formula-read_truth, mapped_formula-negation, mapped_formula-and, mapped_formula-or, mapped_formula-implies, mapped_formula-iff, mapped_formula-all, mapped_formula-ex, mapped_formula-eq_object, mapped_formula-eq_number, mapped_formula-eq_set, mapped_formula-less, mapped_formula-less_equal, mapped_formula-divides, mapped_formula-member, mapped_formula-subset, mapped_formula-reach, mapped_formula-tree, mapped_formula-mark, mapped_fields-none, mapped_fields-more)
