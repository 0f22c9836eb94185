-- The size and the depth at each constructor.
use Rattle.std.proofs.Common.{◌≡◌, refl, ℕ, ◌+◌, max, ℤ}
use Rattle.jh_name.specs.declared.naming.Name.{Name}
use Rattle.jh_form.specs.declared.mark.Mark.{Mark}
use Rattle.jh_form.specs.Tree.{TermTree, IntTree, SetTree, FieldTree, ValueTree, FormulaTree, FieldTrees}
use Rattle.jh_form.specs.Tree as t
use Rattle.jh_boxed.specs.Sizes.{term_size, int_size, set_size, field_size, value_size, formula_size, fields_size, term_depth, int_depth, set_depth, field_depth, value_depth, formula_depth, fields_depth}

pub term_size-bound : (k : ℕ) → term_size (t.bound k) ≡ 1
unfolding term_size
term_size-bound k = refl

pub term_size-free_object : (x : Name) → term_size (t.free_object x) ≡ 1
unfolding term_size
term_size-free_object x = refl

pub term_size-null : term_size t.null ≡ 1
unfolding term_size
term_size-null = refl

pub term_size-read_object : (a : FieldTree) (b : TermTree) → term_size (t.read_object a b) ≡ 1 + field_size a + term_size b
unfolding term_size
term_size-read_object a b = refl

pub int_size-const : (z : ℤ) → int_size (t.const z) ≡ 1
unfolding int_size
int_size-const z = refl

pub int_size-free_number : (x : Name) → int_size (t.free_number x) ≡ 1
unfolding int_size
int_size-free_number x = refl

pub int_size-read_number : (a : FieldTree) (b : TermTree) → int_size (t.read_number a b) ≡ 1 + field_size a + term_size b
unfolding int_size
int_size-read_number a b = refl

pub int_size-add : (a : IntTree) (b : IntTree) → int_size (t.add a b) ≡ 1 + int_size a + int_size b
unfolding int_size
int_size-add a b = refl

pub int_size-sub : (a : IntTree) (b : IntTree) → int_size (t.sub a b) ≡ 1 + int_size a + int_size b
unfolding int_size
int_size-sub a b = refl

pub int_size-neg : (a : IntTree) → int_size (t.neg a) ≡ 1 + int_size a
unfolding int_size
int_size-neg a = refl

pub int_size-scale : (z : ℤ) (a : IntTree) → int_size (t.scale z a) ≡ 1 + int_size a
unfolding int_size
int_size-scale z a = refl

pub int_size-card : (a : SetTree) → int_size (t.card a) ≡ 1 + set_size a
unfolding int_size
int_size-card a = refl

pub set_size-free_set : (x : Name) → set_size (t.free_set x) ≡ 1
unfolding set_size
set_size-free_set x = refl

pub set_size-read_set : (a : FieldTree) (b : TermTree) → set_size (t.read_set a b) ≡ 1 + field_size a + term_size b
unfolding set_size
set_size-read_set a b = refl

pub set_size-empty : set_size t.empty ≡ 1
unfolding set_size
set_size-empty = refl

pub set_size-univ : set_size t.univ ≡ 1
unfolding set_size
set_size-univ = refl

pub set_size-single : (a : TermTree) → set_size (t.single a) ≡ 1 + term_size a
unfolding set_size
set_size-single a = refl

pub set_size-union : (a : SetTree) (b : SetTree) → set_size (t.union a b) ≡ 1 + set_size a + set_size b
unfolding set_size
set_size-union a b = refl

pub set_size-inter : (a : SetTree) (b : SetTree) → set_size (t.inter a b) ≡ 1 + set_size a + set_size b
unfolding set_size
set_size-inter a b = refl

pub set_size-diff : (a : SetTree) (b : SetTree) → set_size (t.diff a b) ≡ 1 + set_size a + set_size b
unfolding set_size
set_size-diff a b = refl

pub set_size-compl : (a : SetTree) → set_size (t.compl a) ≡ 1 + set_size a
unfolding set_size
set_size-compl a = refl

pub set_size-compr : (a : FormulaTree) → set_size (t.compr a) ≡ 1 + formula_size a
unfolding set_size
set_size-compr a = refl

pub field_size-free_field : (x : Name) → field_size (t.free_field x) ≡ 1
unfolding field_size
field_size-free_field x = refl

pub field_size-update : (a : FieldTree) (b : TermTree) (c : ValueTree) → field_size (t.update a b c) ≡ 1 + field_size a + term_size b + value_size c
unfolding field_size
field_size-update a b c = refl

pub value_size-of_object : (a : TermTree) → value_size (t.of_object a) ≡ term_size a
unfolding value_size
value_size-of_object a = refl

pub value_size-of_number : (a : IntTree) → value_size (t.of_number a) ≡ int_size a
unfolding value_size
value_size-of_number a = refl

pub value_size-of_truth : (a : FormulaTree) → value_size (t.of_truth a) ≡ formula_size a
unfolding value_size
value_size-of_truth a = refl

pub value_size-of_set : (a : SetTree) → value_size (t.of_set a) ≡ set_size a
unfolding value_size
value_size-of_set a = refl

pub value_size-of_field : (a : FieldTree) → value_size (t.of_field a) ≡ field_size a
unfolding value_size
value_size-of_field a = refl

pub formula_size-true_formula : formula_size t.true_formula ≡ 1
unfolding formula_size
formula_size-true_formula = refl

pub formula_size-false_formula : formula_size t.false_formula ≡ 1
unfolding formula_size
formula_size-false_formula = refl

pub formula_size-free_truth : (x : Name) → formula_size (t.free_truth x) ≡ 1
unfolding formula_size
formula_size-free_truth x = refl

pub formula_size-read_truth : (a : FieldTree) (b : TermTree) → formula_size (t.read_truth a b) ≡ 1 + field_size a + term_size b
unfolding formula_size
formula_size-read_truth a b = refl

pub formula_size-negation : (a : FormulaTree) → formula_size (t.negation a) ≡ 1 + formula_size a
unfolding formula_size
formula_size-negation a = refl

pub formula_size-and : (a : FormulaTree) (b : FormulaTree) → formula_size (t.and a b) ≡ 1 + formula_size a + formula_size b
unfolding formula_size
formula_size-and a b = refl

pub formula_size-or : (a : FormulaTree) (b : FormulaTree) → formula_size (t.or a b) ≡ 1 + formula_size a + formula_size b
unfolding formula_size
formula_size-or a b = refl

pub formula_size-implies : (a : FormulaTree) (b : FormulaTree) → formula_size (t.implies a b) ≡ 1 + formula_size a + formula_size b
unfolding formula_size
formula_size-implies a b = refl

pub formula_size-iff : (a : FormulaTree) (b : FormulaTree) → formula_size (t.iff a b) ≡ 1 + formula_size a + formula_size b
unfolding formula_size
formula_size-iff a b = refl

pub formula_size-all : (a : FormulaTree) → formula_size (t.all a) ≡ 1 + formula_size a
unfolding formula_size
formula_size-all a = refl

pub formula_size-ex : (a : FormulaTree) → formula_size (t.ex a) ≡ 1 + formula_size a
unfolding formula_size
formula_size-ex a = refl

pub formula_size-eq_object : (a : TermTree) (b : TermTree) → formula_size (t.eq_object a b) ≡ 1 + term_size a + term_size b
unfolding formula_size
formula_size-eq_object a b = refl

pub formula_size-eq_number : (a : IntTree) (b : IntTree) → formula_size (t.eq_number a b) ≡ 1 + int_size a + int_size b
unfolding formula_size
formula_size-eq_number a b = refl

pub formula_size-eq_set : (a : SetTree) (b : SetTree) → formula_size (t.eq_set a b) ≡ 1 + set_size a + set_size b
unfolding formula_size
formula_size-eq_set a b = refl

pub formula_size-less : (a : IntTree) (b : IntTree) → formula_size (t.less a b) ≡ 1 + int_size a + int_size b
unfolding formula_size
formula_size-less a b = refl

pub formula_size-less_equal : (a : IntTree) (b : IntTree) → formula_size (t.less_equal a b) ≡ 1 + int_size a + int_size b
unfolding formula_size
formula_size-less_equal a b = refl

pub formula_size-divides : (z : ℤ) (a : IntTree) → formula_size (t.divides z a) ≡ 1 + int_size a
unfolding formula_size
formula_size-divides z a = refl

pub formula_size-member : (a : TermTree) (b : SetTree) → formula_size (t.member a b) ≡ 1 + term_size a + set_size b
unfolding formula_size
formula_size-member a b = refl

pub formula_size-subset : (a : SetTree) (b : SetTree) → formula_size (t.subset a b) ≡ 1 + set_size a + set_size b
unfolding formula_size
formula_size-subset a b = refl

pub formula_size-reach : (fs : FieldTrees) (a : TermTree) (b : TermTree) → formula_size (t.reach fs a b) ≡ 1 + fields_size fs + term_size a + term_size b
unfolding formula_size
formula_size-reach fs a b = refl

pub formula_size-tree : (fs : FieldTrees) → formula_size (t.tree fs) ≡ 1 + fields_size fs
unfolding formula_size
formula_size-tree fs = refl

pub formula_size-mark : (k : Mark) (a : FormulaTree) → formula_size (t.mark k a) ≡ 1 + formula_size a
unfolding formula_size
formula_size-mark k a = refl

pub fields_size-none : fields_size t.none ≡ 0
unfolding fields_size
fields_size-none = refl

pub fields_size-more : (f : FieldTree) (fs : FieldTrees) → fields_size (t.more f fs) ≡ field_size f + fields_size fs
unfolding fields_size
fields_size-more f fs = refl

pub term_depth-bound : (k : ℕ) → term_depth (t.bound k) ≡ 1
unfolding term_depth
term_depth-bound k = refl

pub term_depth-free_object : (x : Name) → term_depth (t.free_object x) ≡ 1
unfolding term_depth
term_depth-free_object x = refl

pub term_depth-null : term_depth t.null ≡ 1
unfolding term_depth
term_depth-null = refl

pub term_depth-read_object : (a : FieldTree) (b : TermTree) → term_depth (t.read_object a b) ≡ 1 + max (field_depth a) (term_depth b)
unfolding term_depth
term_depth-read_object a b = refl

pub int_depth-const : (z : ℤ) → int_depth (t.const z) ≡ 1
unfolding int_depth
int_depth-const z = refl

pub int_depth-free_number : (x : Name) → int_depth (t.free_number x) ≡ 1
unfolding int_depth
int_depth-free_number x = refl

pub int_depth-read_number : (a : FieldTree) (b : TermTree) → int_depth (t.read_number a b) ≡ 1 + max (field_depth a) (term_depth b)
unfolding int_depth
int_depth-read_number a b = refl

pub int_depth-add : (a : IntTree) (b : IntTree) → int_depth (t.add a b) ≡ 1 + max (int_depth a) (int_depth b)
unfolding int_depth
int_depth-add a b = refl

pub int_depth-sub : (a : IntTree) (b : IntTree) → int_depth (t.sub a b) ≡ 1 + max (int_depth a) (int_depth b)
unfolding int_depth
int_depth-sub a b = refl

pub int_depth-neg : (a : IntTree) → int_depth (t.neg a) ≡ 1 + int_depth a
unfolding int_depth
int_depth-neg a = refl

pub int_depth-scale : (z : ℤ) (a : IntTree) → int_depth (t.scale z a) ≡ 1 + int_depth a
unfolding int_depth
int_depth-scale z a = refl

pub int_depth-card : (a : SetTree) → int_depth (t.card a) ≡ 1 + set_depth a
unfolding int_depth
int_depth-card a = refl

pub set_depth-free_set : (x : Name) → set_depth (t.free_set x) ≡ 1
unfolding set_depth
set_depth-free_set x = refl

pub set_depth-read_set : (a : FieldTree) (b : TermTree) → set_depth (t.read_set a b) ≡ 1 + max (field_depth a) (term_depth b)
unfolding set_depth
set_depth-read_set a b = refl

pub set_depth-empty : set_depth t.empty ≡ 1
unfolding set_depth
set_depth-empty = refl

pub set_depth-univ : set_depth t.univ ≡ 1
unfolding set_depth
set_depth-univ = refl

pub set_depth-single : (a : TermTree) → set_depth (t.single a) ≡ 1 + term_depth a
unfolding set_depth
set_depth-single a = refl

pub set_depth-union : (a : SetTree) (b : SetTree) → set_depth (t.union a b) ≡ 1 + max (set_depth a) (set_depth b)
unfolding set_depth
set_depth-union a b = refl

pub set_depth-inter : (a : SetTree) (b : SetTree) → set_depth (t.inter a b) ≡ 1 + max (set_depth a) (set_depth b)
unfolding set_depth
set_depth-inter a b = refl

pub set_depth-diff : (a : SetTree) (b : SetTree) → set_depth (t.diff a b) ≡ 1 + max (set_depth a) (set_depth b)
unfolding set_depth
set_depth-diff a b = refl

pub set_depth-compl : (a : SetTree) → set_depth (t.compl a) ≡ 1 + set_depth a
unfolding set_depth
set_depth-compl a = refl

pub set_depth-compr : (a : FormulaTree) → set_depth (t.compr a) ≡ 1 + formula_depth a
unfolding set_depth
set_depth-compr a = refl

pub field_depth-free_field : (x : Name) → field_depth (t.free_field x) ≡ 1
unfolding field_depth
field_depth-free_field x = refl

pub field_depth-update : (a : FieldTree) (b : TermTree) (c : ValueTree) → field_depth (t.update a b c) ≡ 1 + max (field_depth a) (max (term_depth b) (value_depth c))
unfolding field_depth
field_depth-update a b c = refl

pub value_depth-of_object : (a : TermTree) → value_depth (t.of_object a) ≡ term_depth a
unfolding value_depth
value_depth-of_object a = refl

pub value_depth-of_number : (a : IntTree) → value_depth (t.of_number a) ≡ int_depth a
unfolding value_depth
value_depth-of_number a = refl

pub value_depth-of_truth : (a : FormulaTree) → value_depth (t.of_truth a) ≡ formula_depth a
unfolding value_depth
value_depth-of_truth a = refl

pub value_depth-of_set : (a : SetTree) → value_depth (t.of_set a) ≡ set_depth a
unfolding value_depth
value_depth-of_set a = refl

pub value_depth-of_field : (a : FieldTree) → value_depth (t.of_field a) ≡ field_depth a
unfolding value_depth
value_depth-of_field a = refl

pub formula_depth-true_formula : formula_depth t.true_formula ≡ 1
unfolding formula_depth
formula_depth-true_formula = refl

pub formula_depth-false_formula : formula_depth t.false_formula ≡ 1
unfolding formula_depth
formula_depth-false_formula = refl

pub formula_depth-free_truth : (x : Name) → formula_depth (t.free_truth x) ≡ 1
unfolding formula_depth
formula_depth-free_truth x = refl

pub formula_depth-read_truth : (a : FieldTree) (b : TermTree) → formula_depth (t.read_truth a b) ≡ 1 + max (field_depth a) (term_depth b)
unfolding formula_depth
formula_depth-read_truth a b = refl

pub formula_depth-negation : (a : FormulaTree) → formula_depth (t.negation a) ≡ 1 + formula_depth a
unfolding formula_depth
formula_depth-negation a = refl

pub formula_depth-and : (a : FormulaTree) (b : FormulaTree) → formula_depth (t.and a b) ≡ 1 + max (formula_depth a) (formula_depth b)
unfolding formula_depth
formula_depth-and a b = refl

pub formula_depth-or : (a : FormulaTree) (b : FormulaTree) → formula_depth (t.or a b) ≡ 1 + max (formula_depth a) (formula_depth b)
unfolding formula_depth
formula_depth-or a b = refl

pub formula_depth-implies : (a : FormulaTree) (b : FormulaTree) → formula_depth (t.implies a b) ≡ 1 + max (formula_depth a) (formula_depth b)
unfolding formula_depth
formula_depth-implies a b = refl

pub formula_depth-iff : (a : FormulaTree) (b : FormulaTree) → formula_depth (t.iff a b) ≡ 1 + max (formula_depth a) (formula_depth b)
unfolding formula_depth
formula_depth-iff a b = refl

pub formula_depth-all : (a : FormulaTree) → formula_depth (t.all a) ≡ 1 + formula_depth a
unfolding formula_depth
formula_depth-all a = refl

pub formula_depth-ex : (a : FormulaTree) → formula_depth (t.ex a) ≡ 1 + formula_depth a
unfolding formula_depth
formula_depth-ex a = refl

pub formula_depth-eq_object : (a : TermTree) (b : TermTree) → formula_depth (t.eq_object a b) ≡ 1 + max (term_depth a) (term_depth b)
unfolding formula_depth
formula_depth-eq_object a b = refl

pub formula_depth-eq_number : (a : IntTree) (b : IntTree) → formula_depth (t.eq_number a b) ≡ 1 + max (int_depth a) (int_depth b)
unfolding formula_depth
formula_depth-eq_number a b = refl

pub formula_depth-eq_set : (a : SetTree) (b : SetTree) → formula_depth (t.eq_set a b) ≡ 1 + max (set_depth a) (set_depth b)
unfolding formula_depth
formula_depth-eq_set a b = refl

pub formula_depth-less : (a : IntTree) (b : IntTree) → formula_depth (t.less a b) ≡ 1 + max (int_depth a) (int_depth b)
unfolding formula_depth
formula_depth-less a b = refl

pub formula_depth-less_equal : (a : IntTree) (b : IntTree) → formula_depth (t.less_equal a b) ≡ 1 + max (int_depth a) (int_depth b)
unfolding formula_depth
formula_depth-less_equal a b = refl

pub formula_depth-divides : (z : ℤ) (a : IntTree) → formula_depth (t.divides z a) ≡ 1 + int_depth a
unfolding formula_depth
formula_depth-divides z a = refl

pub formula_depth-member : (a : TermTree) (b : SetTree) → formula_depth (t.member a b) ≡ 1 + max (term_depth a) (set_depth b)
unfolding formula_depth
formula_depth-member a b = refl

pub formula_depth-subset : (a : SetTree) (b : SetTree) → formula_depth (t.subset a b) ≡ 1 + max (set_depth a) (set_depth b)
unfolding formula_depth
formula_depth-subset a b = refl

pub formula_depth-reach : (fs : FieldTrees) (a : TermTree) (b : TermTree) → formula_depth (t.reach fs a b) ≡ 1 + max (fields_depth fs) (max (term_depth a) (term_depth b))
unfolding formula_depth
formula_depth-reach fs a b = refl

pub formula_depth-tree : (fs : FieldTrees) → formula_depth (t.tree fs) ≡ 1 + fields_depth fs
unfolding formula_depth
formula_depth-tree fs = refl

pub formula_depth-mark : (k : Mark) (a : FormulaTree) → formula_depth (t.mark k a) ≡ 1 + formula_depth a
unfolding formula_depth
formula_depth-mark k a = refl

pub fields_depth-none : fields_depth t.none ≡ 0
unfolding fields_depth
fields_depth-none = refl

pub fields_depth-more : (f : FieldTree) (fs : FieldTrees) → fields_depth (t.more f fs) ≡ max (field_depth f) (fields_depth fs)
unfolding fields_depth
fields_depth-more f fs = refl

pub ruleset size_steps = (term_size-bound, term_size-free_object, term_size-null, term_size-read_object, int_size-const, int_size-free_number, int_size-read_number, int_size-add, int_size-sub, int_size-neg, int_size-scale, int_size-card, set_size-free_set, set_size-read_set, set_size-empty, set_size-univ, set_size-single, set_size-union, set_size-inter, set_size-diff, set_size-compl, set_size-compr, field_size-free_field, field_size-update, value_size-of_object, value_size-of_number, value_size-of_truth, value_size-of_set, value_size-of_field, formula_size-true_formula, formula_size-false_formula, formula_size-free_truth, formula_size-read_truth, formula_size-negation, formula_size-and, formula_size-or, formula_size-implies, formula_size-iff, formula_size-all, formula_size-ex, formula_size-eq_object, formula_size-eq_number, formula_size-eq_set, formula_size-less, formula_size-less_equal, formula_size-divides, formula_size-member, formula_size-subset, formula_size-reach, formula_size-tree, formula_size-mark, fields_size-none, fields_size-more, term_depth-bound, term_depth-free_object, term_depth-null, term_depth-read_object, int_depth-const, int_depth-free_number, int_depth-read_number, int_depth-add, int_depth-sub, int_depth-neg, int_depth-scale, int_depth-card, set_depth-free_set, set_depth-read_set, set_depth-empty, set_depth-univ, set_depth-single, set_depth-union, set_depth-inter, set_depth-diff, set_depth-compl, set_depth-compr, field_depth-free_field, field_depth-update, value_depth-of_object, value_depth-of_number, value_depth-of_truth, value_depth-of_set, value_depth-of_field, formula_depth-true_formula, formula_depth-false_formula, formula_depth-free_truth, formula_depth-read_truth, formula_depth-negation, formula_depth-and, formula_depth-or, formula_depth-implies, formula_depth-iff, formula_depth-all, formula_depth-ex, formula_depth-eq_object, formula_depth-eq_number, formula_depth-eq_set, formula_depth-less, formula_depth-less_equal, formula_depth-divides, formula_depth-member, formula_depth-subset, formula_depth-reach, formula_depth-tree, formula_depth-mark, fields_depth-none, fields_depth-more)
