-- A test over the free names at each constructor.
use Rattle.std.proofs.Common.{◌≡◌, refl, ◌&&◌, Bool, true, ℕ, ℤ}
use Rattle.jh_name.specs.declared.naming.Name.{Name}
use Rattle.jh_name.specs.declared.place.Sort as place
use Rattle.jh_name.specs.declared.place.Sort.TheVariants as Sort
use Rattle.jh_form.specs.declared.mark.Mark.{Mark}
use Rattle.jh_form.specs.Tree.{TermTree, IntTree, SetTree, FieldTree, ValueTree, FormulaTree, FieldTrees}
use Rattle.jh_form.specs.Tree as t
use Rattle.jh_form.specs.Passing.{term_passes, int_passes, set_passes, field_passes, value_passes, formula_passes, fields_passes}

pub term_passes-bound : (k : ℕ) (p : Name → place.Sort → Bool) → term_passes (t.bound k) p ≡ true
unfolding term_passes
term_passes-bound k p = refl

pub term_passes-free_object : (x : Name) (p : Name → place.Sort → Bool) → term_passes (t.free_object x) p ≡ p x Sort.Obj
unfolding term_passes
term_passes-free_object x p = refl

pub term_passes-null : (p : Name → place.Sort → Bool) → term_passes t.null p ≡ true
unfolding term_passes
term_passes-null p = refl

pub term_passes-read_object : (a : FieldTree) (b : TermTree) (p : Name → place.Sort → Bool) → term_passes (t.read_object a b) p ≡ field_passes a p && term_passes b p
unfolding term_passes
term_passes-read_object a b p = refl

pub int_passes-const : (z : ℤ) (p : Name → place.Sort → Bool) → int_passes (t.const z) p ≡ true
unfolding int_passes
int_passes-const z p = refl

pub int_passes-free_number : (x : Name) (p : Name → place.Sort → Bool) → int_passes (t.free_number x) p ≡ p x Sort.Int
unfolding int_passes
int_passes-free_number x p = refl

pub int_passes-read_number : (a : FieldTree) (b : TermTree) (p : Name → place.Sort → Bool) → int_passes (t.read_number a b) p ≡ field_passes a p && term_passes b p
unfolding int_passes
int_passes-read_number a b p = refl

pub int_passes-add : (a : IntTree) (b : IntTree) (p : Name → place.Sort → Bool) → int_passes (t.add a b) p ≡ int_passes a p && int_passes b p
unfolding int_passes
int_passes-add a b p = refl

pub int_passes-sub : (a : IntTree) (b : IntTree) (p : Name → place.Sort → Bool) → int_passes (t.sub a b) p ≡ int_passes a p && int_passes b p
unfolding int_passes
int_passes-sub a b p = refl

pub int_passes-neg : (a : IntTree) (p : Name → place.Sort → Bool) → int_passes (t.neg a) p ≡ int_passes a p
unfolding int_passes
int_passes-neg a p = refl

pub int_passes-scale : (z : ℤ) (a : IntTree) (p : Name → place.Sort → Bool) → int_passes (t.scale z a) p ≡ int_passes a p
unfolding int_passes
int_passes-scale z a p = refl

pub int_passes-card : (a : SetTree) (p : Name → place.Sort → Bool) → int_passes (t.card a) p ≡ set_passes a p
unfolding int_passes
int_passes-card a p = refl

pub set_passes-free_set : (x : Name) (p : Name → place.Sort → Bool) → set_passes (t.free_set x) p ≡ p x Sort.Set
unfolding set_passes
set_passes-free_set x p = refl

pub set_passes-read_set : (a : FieldTree) (b : TermTree) (p : Name → place.Sort → Bool) → set_passes (t.read_set a b) p ≡ field_passes a p && term_passes b p
unfolding set_passes
set_passes-read_set a b p = refl

pub set_passes-empty : (p : Name → place.Sort → Bool) → set_passes t.empty p ≡ true
unfolding set_passes
set_passes-empty p = refl

pub set_passes-univ : (p : Name → place.Sort → Bool) → set_passes t.univ p ≡ true
unfolding set_passes
set_passes-univ p = refl

pub set_passes-single : (a : TermTree) (p : Name → place.Sort → Bool) → set_passes (t.single a) p ≡ term_passes a p
unfolding set_passes
set_passes-single a p = refl

pub set_passes-union : (a : SetTree) (b : SetTree) (p : Name → place.Sort → Bool) → set_passes (t.union a b) p ≡ set_passes a p && set_passes b p
unfolding set_passes
set_passes-union a b p = refl

pub set_passes-inter : (a : SetTree) (b : SetTree) (p : Name → place.Sort → Bool) → set_passes (t.inter a b) p ≡ set_passes a p && set_passes b p
unfolding set_passes
set_passes-inter a b p = refl

pub set_passes-diff : (a : SetTree) (b : SetTree) (p : Name → place.Sort → Bool) → set_passes (t.diff a b) p ≡ set_passes a p && set_passes b p
unfolding set_passes
set_passes-diff a b p = refl

pub set_passes-compl : (a : SetTree) (p : Name → place.Sort → Bool) → set_passes (t.compl a) p ≡ set_passes a p
unfolding set_passes
set_passes-compl a p = refl

pub set_passes-compr : (a : FormulaTree) (p : Name → place.Sort → Bool) → set_passes (t.compr a) p ≡ formula_passes a p
unfolding set_passes
set_passes-compr a p = refl

pub field_passes-free_field : (x : Name) (p : Name → place.Sort → Bool) → field_passes (t.free_field x) p ≡ p x Sort.Field
unfolding field_passes
field_passes-free_field x p = refl

pub field_passes-update : (a : FieldTree) (b : TermTree) (c : ValueTree) (p : Name → place.Sort → Bool) → field_passes (t.update a b c) p ≡ field_passes a p && term_passes b p && value_passes c p
unfolding field_passes
field_passes-update a b c p = refl

pub value_passes-of_object : (a : TermTree) (p : Name → place.Sort → Bool) → value_passes (t.of_object a) p ≡ term_passes a p
unfolding value_passes
value_passes-of_object a p = refl

pub value_passes-of_number : (a : IntTree) (p : Name → place.Sort → Bool) → value_passes (t.of_number a) p ≡ int_passes a p
unfolding value_passes
value_passes-of_number a p = refl

pub value_passes-of_truth : (a : FormulaTree) (p : Name → place.Sort → Bool) → value_passes (t.of_truth a) p ≡ formula_passes a p
unfolding value_passes
value_passes-of_truth a p = refl

pub value_passes-of_set : (a : SetTree) (p : Name → place.Sort → Bool) → value_passes (t.of_set a) p ≡ set_passes a p
unfolding value_passes
value_passes-of_set a p = refl

pub value_passes-of_field : (a : FieldTree) (p : Name → place.Sort → Bool) → value_passes (t.of_field a) p ≡ field_passes a p
unfolding value_passes
value_passes-of_field a p = refl

pub formula_passes-true_formula : (p : Name → place.Sort → Bool) → formula_passes t.true_formula p ≡ true
unfolding formula_passes
formula_passes-true_formula p = refl

pub formula_passes-false_formula : (p : Name → place.Sort → Bool) → formula_passes t.false_formula p ≡ true
unfolding formula_passes
formula_passes-false_formula p = refl

pub formula_passes-free_truth : (x : Name) (p : Name → place.Sort → Bool) → formula_passes (t.free_truth x) p ≡ p x Sort.Bool
unfolding formula_passes
formula_passes-free_truth x p = refl

pub formula_passes-read_truth : (a : FieldTree) (b : TermTree) (p : Name → place.Sort → Bool) → formula_passes (t.read_truth a b) p ≡ field_passes a p && term_passes b p
unfolding formula_passes
formula_passes-read_truth a b p = refl

pub formula_passes-negation : (a : FormulaTree) (p : Name → place.Sort → Bool) → formula_passes (t.negation a) p ≡ formula_passes a p
unfolding formula_passes
formula_passes-negation a p = refl

pub formula_passes-and : (a : FormulaTree) (b : FormulaTree) (p : Name → place.Sort → Bool) → formula_passes (t.and a b) p ≡ formula_passes a p && formula_passes b p
unfolding formula_passes
formula_passes-and a b p = refl

pub formula_passes-or : (a : FormulaTree) (b : FormulaTree) (p : Name → place.Sort → Bool) → formula_passes (t.or a b) p ≡ formula_passes a p && formula_passes b p
unfolding formula_passes
formula_passes-or a b p = refl

pub formula_passes-implies : (a : FormulaTree) (b : FormulaTree) (p : Name → place.Sort → Bool) → formula_passes (t.implies a b) p ≡ formula_passes a p && formula_passes b p
unfolding formula_passes
formula_passes-implies a b p = refl

pub formula_passes-iff : (a : FormulaTree) (b : FormulaTree) (p : Name → place.Sort → Bool) → formula_passes (t.iff a b) p ≡ formula_passes a p && formula_passes b p
unfolding formula_passes
formula_passes-iff a b p = refl

pub formula_passes-all : (a : FormulaTree) (p : Name → place.Sort → Bool) → formula_passes (t.all a) p ≡ formula_passes a p
unfolding formula_passes
formula_passes-all a p = refl

pub formula_passes-ex : (a : FormulaTree) (p : Name → place.Sort → Bool) → formula_passes (t.ex a) p ≡ formula_passes a p
unfolding formula_passes
formula_passes-ex a p = refl

pub formula_passes-eq_object : (a : TermTree) (b : TermTree) (p : Name → place.Sort → Bool) → formula_passes (t.eq_object a b) p ≡ term_passes a p && term_passes b p
unfolding formula_passes
formula_passes-eq_object a b p = refl

pub formula_passes-eq_number : (a : IntTree) (b : IntTree) (p : Name → place.Sort → Bool) → formula_passes (t.eq_number a b) p ≡ int_passes a p && int_passes b p
unfolding formula_passes
formula_passes-eq_number a b p = refl

pub formula_passes-eq_set : (a : SetTree) (b : SetTree) (p : Name → place.Sort → Bool) → formula_passes (t.eq_set a b) p ≡ set_passes a p && set_passes b p
unfolding formula_passes
formula_passes-eq_set a b p = refl

pub formula_passes-less : (a : IntTree) (b : IntTree) (p : Name → place.Sort → Bool) → formula_passes (t.less a b) p ≡ int_passes a p && int_passes b p
unfolding formula_passes
formula_passes-less a b p = refl

pub formula_passes-less_equal : (a : IntTree) (b : IntTree) (p : Name → place.Sort → Bool) → formula_passes (t.less_equal a b) p ≡ int_passes a p && int_passes b p
unfolding formula_passes
formula_passes-less_equal a b p = refl

pub formula_passes-divides : (z : ℤ) (a : IntTree) (p : Name → place.Sort → Bool) → formula_passes (t.divides z a) p ≡ int_passes a p
unfolding formula_passes
formula_passes-divides z a p = refl

pub formula_passes-member : (a : TermTree) (b : SetTree) (p : Name → place.Sort → Bool) → formula_passes (t.member a b) p ≡ term_passes a p && set_passes b p
unfolding formula_passes
formula_passes-member a b p = refl

pub formula_passes-subset : (a : SetTree) (b : SetTree) (p : Name → place.Sort → Bool) → formula_passes (t.subset a b) p ≡ set_passes a p && set_passes b p
unfolding formula_passes
formula_passes-subset a b p = refl

pub formula_passes-reach : (fs : FieldTrees) (a : TermTree) (b : TermTree) (p : Name → place.Sort → Bool) → formula_passes (t.reach fs a b) p ≡ fields_passes fs p && term_passes a p && term_passes b p
unfolding formula_passes
formula_passes-reach fs a b p = refl

pub formula_passes-tree : (fs : FieldTrees) (p : Name → place.Sort → Bool) → formula_passes (t.tree fs) p ≡ fields_passes fs p
unfolding formula_passes
formula_passes-tree fs p = refl

pub formula_passes-mark : (k : Mark) (a : FormulaTree) (p : Name → place.Sort → Bool) → formula_passes (t.mark k a) p ≡ formula_passes a p
unfolding formula_passes
formula_passes-mark k a p = refl

pub fields_passes-none : (p : Name → place.Sort → Bool) → fields_passes t.none p ≡ true
unfolding fields_passes
fields_passes-none p = refl

pub fields_passes-more : (f : FieldTree) (fs : FieldTrees) (p : Name → place.Sort → Bool) → fields_passes (t.more f fs) p ≡ field_passes f p && fields_passes fs p
unfolding fields_passes
fields_passes-more f fs p = refl

pub ruleset pass_steps = (term_passes-bound, term_passes-free_object, term_passes-null, term_passes-read_object, int_passes-const, int_passes-free_number, int_passes-read_number, int_passes-add, int_passes-sub, int_passes-neg, int_passes-scale, int_passes-card, set_passes-free_set, set_passes-read_set, set_passes-empty, set_passes-univ, set_passes-single, set_passes-union, set_passes-inter, set_passes-diff, set_passes-compl, set_passes-compr, field_passes-free_field, field_passes-update, value_passes-of_object, value_passes-of_number, value_passes-of_truth, value_passes-of_set, value_passes-of_field, formula_passes-true_formula, formula_passes-false_formula, formula_passes-free_truth, formula_passes-read_truth, formula_passes-negation, formula_passes-and, formula_passes-or, formula_passes-implies, formula_passes-iff, formula_passes-all, formula_passes-ex, formula_passes-eq_object, formula_passes-eq_number, formula_passes-eq_set, formula_passes-less, formula_passes-less_equal, formula_passes-divides, formula_passes-member, formula_passes-subset, formula_passes-reach, formula_passes-tree, formula_passes-mark, fields_passes-none, fields_passes-more)
