-- Closedness at each constructor.
use Rattle.std.proofs.Common.{◌≡◌, refl, ◌&&◌, true, nat_lt, ℕ, ◌+◌, ℤ}
use Rattle.jh_name.specs.declared.naming.Name.{Name}
use Rattle.jh_form.specs.declared.mark.Mark.{Mark}
use Rattle.jh_form.specs.Tree.{TermTree, IntTree, SetTree, FieldTree, ValueTree, FormulaTree, FieldTrees}
use Rattle.jh_form.specs.Tree as t
use Rattle.jh_form.specs.Closed.{is_closed_term, is_closed_int, is_closed_set, is_closed_field, is_closed_value, is_closed_formula, is_closed_fields}

pub is_closed_term-bound : (k : ℕ) (d : ℕ) → is_closed_term (t.bound k) d ≡ nat_lt k d
unfolding is_closed_term
is_closed_term-bound k d = refl

pub is_closed_term-free_object : (x : Name) (d : ℕ) → is_closed_term (t.free_object x) d ≡ true
unfolding is_closed_term
is_closed_term-free_object x d = refl

pub is_closed_term-null : (d : ℕ) → is_closed_term t.null d ≡ true
unfolding is_closed_term
is_closed_term-null d = refl

pub is_closed_term-read_object : (a : FieldTree) (b : TermTree) (d : ℕ) → is_closed_term (t.read_object a b) d ≡ is_closed_field a d && is_closed_term b d
unfolding is_closed_term
is_closed_term-read_object a b d = refl

pub is_closed_int-const : (z : ℤ) (d : ℕ) → is_closed_int (t.const z) d ≡ true
unfolding is_closed_int
is_closed_int-const z d = refl

pub is_closed_int-free_number : (x : Name) (d : ℕ) → is_closed_int (t.free_number x) d ≡ true
unfolding is_closed_int
is_closed_int-free_number x d = refl

pub is_closed_int-read_number : (a : FieldTree) (b : TermTree) (d : ℕ) → is_closed_int (t.read_number a b) d ≡ is_closed_field a d && is_closed_term b d
unfolding is_closed_int
is_closed_int-read_number a b d = refl

pub is_closed_int-add : (a : IntTree) (b : IntTree) (d : ℕ) → is_closed_int (t.add a b) d ≡ is_closed_int a d && is_closed_int b d
unfolding is_closed_int
is_closed_int-add a b d = refl

pub is_closed_int-sub : (a : IntTree) (b : IntTree) (d : ℕ) → is_closed_int (t.sub a b) d ≡ is_closed_int a d && is_closed_int b d
unfolding is_closed_int
is_closed_int-sub a b d = refl

pub is_closed_int-neg : (a : IntTree) (d : ℕ) → is_closed_int (t.neg a) d ≡ is_closed_int a d
unfolding is_closed_int
is_closed_int-neg a d = refl

pub is_closed_int-scale : (z : ℤ) (a : IntTree) (d : ℕ) → is_closed_int (t.scale z a) d ≡ is_closed_int a d
unfolding is_closed_int
is_closed_int-scale z a d = refl

pub is_closed_int-card : (a : SetTree) (d : ℕ) → is_closed_int (t.card a) d ≡ is_closed_set a d
unfolding is_closed_int
is_closed_int-card a d = refl

pub is_closed_set-free_set : (x : Name) (d : ℕ) → is_closed_set (t.free_set x) d ≡ true
unfolding is_closed_set
is_closed_set-free_set x d = refl

pub is_closed_set-read_set : (a : FieldTree) (b : TermTree) (d : ℕ) → is_closed_set (t.read_set a b) d ≡ is_closed_field a d && is_closed_term b d
unfolding is_closed_set
is_closed_set-read_set a b d = refl

pub is_closed_set-empty : (d : ℕ) → is_closed_set t.empty d ≡ true
unfolding is_closed_set
is_closed_set-empty d = refl

pub is_closed_set-univ : (d : ℕ) → is_closed_set t.univ d ≡ true
unfolding is_closed_set
is_closed_set-univ d = refl

pub is_closed_set-single : (a : TermTree) (d : ℕ) → is_closed_set (t.single a) d ≡ is_closed_term a d
unfolding is_closed_set
is_closed_set-single a d = refl

pub is_closed_set-union : (a : SetTree) (b : SetTree) (d : ℕ) → is_closed_set (t.union a b) d ≡ is_closed_set a d && is_closed_set b d
unfolding is_closed_set
is_closed_set-union a b d = refl

pub is_closed_set-inter : (a : SetTree) (b : SetTree) (d : ℕ) → is_closed_set (t.inter a b) d ≡ is_closed_set a d && is_closed_set b d
unfolding is_closed_set
is_closed_set-inter a b d = refl

pub is_closed_set-diff : (a : SetTree) (b : SetTree) (d : ℕ) → is_closed_set (t.diff a b) d ≡ is_closed_set a d && is_closed_set b d
unfolding is_closed_set
is_closed_set-diff a b d = refl

pub is_closed_set-compl : (a : SetTree) (d : ℕ) → is_closed_set (t.compl a) d ≡ is_closed_set a d
unfolding is_closed_set
is_closed_set-compl a d = refl

pub is_closed_set-compr : (a : FormulaTree) (d : ℕ) → is_closed_set (t.compr a) d ≡ is_closed_formula a (d + 1)
unfolding is_closed_set
is_closed_set-compr a d = refl

pub is_closed_field-free_field : (x : Name) (d : ℕ) → is_closed_field (t.free_field x) d ≡ true
unfolding is_closed_field
is_closed_field-free_field x d = refl

pub is_closed_field-update : (a : FieldTree) (b : TermTree) (c : ValueTree) (d : ℕ) → is_closed_field (t.update a b c) d ≡ is_closed_field a d && is_closed_term b d && is_closed_value c d
unfolding is_closed_field
is_closed_field-update a b c d = refl

pub is_closed_value-of_object : (a : TermTree) (d : ℕ) → is_closed_value (t.of_object a) d ≡ is_closed_term a d
unfolding is_closed_value
is_closed_value-of_object a d = refl

pub is_closed_value-of_number : (a : IntTree) (d : ℕ) → is_closed_value (t.of_number a) d ≡ is_closed_int a d
unfolding is_closed_value
is_closed_value-of_number a d = refl

pub is_closed_value-of_truth : (a : FormulaTree) (d : ℕ) → is_closed_value (t.of_truth a) d ≡ is_closed_formula a d
unfolding is_closed_value
is_closed_value-of_truth a d = refl

pub is_closed_value-of_set : (a : SetTree) (d : ℕ) → is_closed_value (t.of_set a) d ≡ is_closed_set a d
unfolding is_closed_value
is_closed_value-of_set a d = refl

pub is_closed_value-of_field : (a : FieldTree) (d : ℕ) → is_closed_value (t.of_field a) d ≡ is_closed_field a d
unfolding is_closed_value
is_closed_value-of_field a d = refl

pub is_closed_formula-true_formula : (d : ℕ) → is_closed_formula t.true_formula d ≡ true
unfolding is_closed_formula
is_closed_formula-true_formula d = refl

pub is_closed_formula-false_formula : (d : ℕ) → is_closed_formula t.false_formula d ≡ true
unfolding is_closed_formula
is_closed_formula-false_formula d = refl

pub is_closed_formula-free_truth : (x : Name) (d : ℕ) → is_closed_formula (t.free_truth x) d ≡ true
unfolding is_closed_formula
is_closed_formula-free_truth x d = refl

pub is_closed_formula-read_truth : (a : FieldTree) (b : TermTree) (d : ℕ) → is_closed_formula (t.read_truth a b) d ≡ is_closed_field a d && is_closed_term b d
unfolding is_closed_formula
is_closed_formula-read_truth a b d = refl

pub is_closed_formula-negation : (a : FormulaTree) (d : ℕ) → is_closed_formula (t.negation a) d ≡ is_closed_formula a d
unfolding is_closed_formula
is_closed_formula-negation a d = refl

pub is_closed_formula-and : (a : FormulaTree) (b : FormulaTree) (d : ℕ) → is_closed_formula (t.and a b) d ≡ is_closed_formula a d && is_closed_formula b d
unfolding is_closed_formula
is_closed_formula-and a b d = refl

pub is_closed_formula-or : (a : FormulaTree) (b : FormulaTree) (d : ℕ) → is_closed_formula (t.or a b) d ≡ is_closed_formula a d && is_closed_formula b d
unfolding is_closed_formula
is_closed_formula-or a b d = refl

pub is_closed_formula-implies : (a : FormulaTree) (b : FormulaTree) (d : ℕ) → is_closed_formula (t.implies a b) d ≡ is_closed_formula a d && is_closed_formula b d
unfolding is_closed_formula
is_closed_formula-implies a b d = refl

pub is_closed_formula-iff : (a : FormulaTree) (b : FormulaTree) (d : ℕ) → is_closed_formula (t.iff a b) d ≡ is_closed_formula a d && is_closed_formula b d
unfolding is_closed_formula
is_closed_formula-iff a b d = refl

pub is_closed_formula-all : (a : FormulaTree) (d : ℕ) → is_closed_formula (t.all a) d ≡ is_closed_formula a (d + 1)
unfolding is_closed_formula
is_closed_formula-all a d = refl

pub is_closed_formula-ex : (a : FormulaTree) (d : ℕ) → is_closed_formula (t.ex a) d ≡ is_closed_formula a (d + 1)
unfolding is_closed_formula
is_closed_formula-ex a d = refl

pub is_closed_formula-eq_object : (a : TermTree) (b : TermTree) (d : ℕ) → is_closed_formula (t.eq_object a b) d ≡ is_closed_term a d && is_closed_term b d
unfolding is_closed_formula
is_closed_formula-eq_object a b d = refl

pub is_closed_formula-eq_number : (a : IntTree) (b : IntTree) (d : ℕ) → is_closed_formula (t.eq_number a b) d ≡ is_closed_int a d && is_closed_int b d
unfolding is_closed_formula
is_closed_formula-eq_number a b d = refl

pub is_closed_formula-eq_set : (a : SetTree) (b : SetTree) (d : ℕ) → is_closed_formula (t.eq_set a b) d ≡ is_closed_set a d && is_closed_set b d
unfolding is_closed_formula
is_closed_formula-eq_set a b d = refl

pub is_closed_formula-less : (a : IntTree) (b : IntTree) (d : ℕ) → is_closed_formula (t.less a b) d ≡ is_closed_int a d && is_closed_int b d
unfolding is_closed_formula
is_closed_formula-less a b d = refl

pub is_closed_formula-less_equal : (a : IntTree) (b : IntTree) (d : ℕ) → is_closed_formula (t.less_equal a b) d ≡ is_closed_int a d && is_closed_int b d
unfolding is_closed_formula
is_closed_formula-less_equal a b d = refl

pub is_closed_formula-divides : (z : ℤ) (a : IntTree) (d : ℕ) → is_closed_formula (t.divides z a) d ≡ is_closed_int a d
unfolding is_closed_formula
is_closed_formula-divides z a d = refl

pub is_closed_formula-member : (a : TermTree) (b : SetTree) (d : ℕ) → is_closed_formula (t.member a b) d ≡ is_closed_term a d && is_closed_set b d
unfolding is_closed_formula
is_closed_formula-member a b d = refl

pub is_closed_formula-subset : (a : SetTree) (b : SetTree) (d : ℕ) → is_closed_formula (t.subset a b) d ≡ is_closed_set a d && is_closed_set b d
unfolding is_closed_formula
is_closed_formula-subset a b d = refl

pub is_closed_formula-reach : (fs : FieldTrees) (a : TermTree) (b : TermTree) (d : ℕ) → is_closed_formula (t.reach fs a b) d ≡ is_closed_fields fs d && is_closed_term a d && is_closed_term b d
unfolding is_closed_formula
is_closed_formula-reach fs a b d = refl

pub is_closed_formula-tree : (fs : FieldTrees) (d : ℕ) → is_closed_formula (t.tree fs) d ≡ is_closed_fields fs d
unfolding is_closed_formula
is_closed_formula-tree fs d = refl

pub is_closed_formula-mark : (k : Mark) (a : FormulaTree) (d : ℕ) → is_closed_formula (t.mark k a) d ≡ is_closed_formula a d
unfolding is_closed_formula
is_closed_formula-mark k a d = refl

pub is_closed_fields-none : (d : ℕ) → is_closed_fields t.none d ≡ true
unfolding is_closed_fields
is_closed_fields-none d = refl

pub is_closed_fields-more : (f : FieldTree) (fs : FieldTrees) (d : ℕ) → is_closed_fields (t.more f fs) d ≡ is_closed_field f d && is_closed_fields fs d
unfolding is_closed_fields
is_closed_fields-more f fs d = refl

pub ruleset closed_steps = (is_closed_term-bound, is_closed_term-free_object, is_closed_term-null, is_closed_term-read_object, is_closed_int-const, is_closed_int-free_number, is_closed_int-read_number, is_closed_int-add, is_closed_int-sub, is_closed_int-neg, is_closed_int-scale, is_closed_int-card, is_closed_set-free_set, is_closed_set-read_set, is_closed_set-empty, is_closed_set-univ, is_closed_set-single, is_closed_set-union, is_closed_set-inter, is_closed_set-diff, is_closed_set-compl, is_closed_set-compr, is_closed_field-free_field, is_closed_field-update, is_closed_value-of_object, is_closed_value-of_number, is_closed_value-of_truth, is_closed_value-of_set, is_closed_value-of_field, is_closed_formula-true_formula, is_closed_formula-false_formula, is_closed_formula-free_truth, is_closed_formula-read_truth, is_closed_formula-negation, is_closed_formula-and, is_closed_formula-or, is_closed_formula-implies, is_closed_formula-iff, is_closed_formula-all, is_closed_formula-ex, is_closed_formula-eq_object, is_closed_formula-eq_number, is_closed_formula-eq_set, is_closed_formula-less, is_closed_formula-less_equal, is_closed_formula-divides, is_closed_formula-member, is_closed_formula-subset, is_closed_formula-reach, is_closed_formula-tree, is_closed_formula-mark, is_closed_fields-none, is_closed_fields-more)
