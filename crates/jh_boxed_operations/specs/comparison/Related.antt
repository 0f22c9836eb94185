-- Written by tools/compare.py.
-- One tree with some parts exchanged for others.
use Rattle.std.specs.Prelude.{ℕ, ℤ}
use Rattle.jh_boxed.specs.jh_name.declared.naming.Name.{Name}
use Rattle.jh_form.specs.declared.mark.Mark.{Mark}
use Rattle.jh_form.specs.Tree.{TermTree, IntTree, SetTree, FieldTree, ValueTree, FormulaTree, FieldTrees}
use Rattle.jh_form.specs.Tree as t

-- The second tree is the first with some parts exchanged: a part for one that X allows in its place.
-- Labels are compared.
mutual
  pub data TermsRelated (X : ValueTree → ValueTree → Type 0) : TermTree → TermTree → Type 0 where
    term_here : (a b : TermTree) → X (t.of_object a) (t.of_object b) → TermsRelated X a b
    bound : (k : ℕ) → TermsRelated X (t.bound k) (t.bound k)
    free_object : (x : Name) → TermsRelated X (t.free_object x) (t.free_object x)
    null : TermsRelated X t.null t.null
    read_object : (a a' : FieldTree) (b b' : TermTree) → FieldsRelated X a a' → TermsRelated X b b' → TermsRelated X (t.read_object a b) (t.read_object a' b')

  pub data IntsRelated (X : ValueTree → ValueTree → Type 0) : IntTree → IntTree → Type 0 where
    int_here : (a b : IntTree) → X (t.of_number a) (t.of_number b) → IntsRelated X a b
    const : (z : ℤ) → IntsRelated X (t.const z) (t.const z)
    free_number : (x : Name) → IntsRelated X (t.free_number x) (t.free_number x)
    read_number : (a a' : FieldTree) (b b' : TermTree) → FieldsRelated X a a' → TermsRelated X b b' → IntsRelated X (t.read_number a b) (t.read_number a' b')
    add : (a a' : IntTree) (b b' : IntTree) → IntsRelated X a a' → IntsRelated X b b' → IntsRelated X (t.add a b) (t.add a' b')
    sub : (a a' : IntTree) (b b' : IntTree) → IntsRelated X a a' → IntsRelated X b b' → IntsRelated X (t.sub a b) (t.sub a' b')
    neg : (a a' : IntTree) → IntsRelated X a a' → IntsRelated X (t.neg a) (t.neg a')
    scale : (z : ℤ) (a a' : IntTree) → IntsRelated X a a' → IntsRelated X (t.scale z a) (t.scale z a')
    card : (a a' : SetTree) → SetsRelated X a a' → IntsRelated X (t.card a) (t.card a')

  pub data SetsRelated (X : ValueTree → ValueTree → Type 0) : SetTree → SetTree → Type 0 where
    set_here : (a b : SetTree) → X (t.of_set a) (t.of_set b) → SetsRelated X a b
    free_set : (x : Name) → SetsRelated X (t.free_set x) (t.free_set x)
    read_set : (a a' : FieldTree) (b b' : TermTree) → FieldsRelated X a a' → TermsRelated X b b' → SetsRelated X (t.read_set a b) (t.read_set a' b')
    empty : SetsRelated X t.empty t.empty
    univ : SetsRelated X t.univ t.univ
    single : (a a' : TermTree) → TermsRelated X a a' → SetsRelated X (t.single a) (t.single a')
    union : (a a' : SetTree) (b b' : SetTree) → SetsRelated X a a' → SetsRelated X b b' → SetsRelated X (t.union a b) (t.union a' b')
    inter : (a a' : SetTree) (b b' : SetTree) → SetsRelated X a a' → SetsRelated X b b' → SetsRelated X (t.inter a b) (t.inter a' b')
    diff : (a a' : SetTree) (b b' : SetTree) → SetsRelated X a a' → SetsRelated X b b' → SetsRelated X (t.diff a b) (t.diff a' b')
    compl : (a a' : SetTree) → SetsRelated X a a' → SetsRelated X (t.compl a) (t.compl a')
    compr : (a a' : FormulaTree) → FormulasRelated X a a' → SetsRelated X (t.compr a) (t.compr a')

  pub data FieldsRelated (X : ValueTree → ValueTree → Type 0) : FieldTree → FieldTree → Type 0 where
    field_here : (a b : FieldTree) → X (t.of_field a) (t.of_field b) → FieldsRelated X a b
    free_field : (x : Name) → FieldsRelated X (t.free_field x) (t.free_field x)
    update : (a a' : FieldTree) (b b' : TermTree) (c c' : ValueTree) → FieldsRelated X a a' → TermsRelated X b b' → ValuesRelated X c c' → FieldsRelated X (t.update a b c) (t.update a' b' c')

  pub data ValuesRelated (X : ValueTree → ValueTree → Type 0) : ValueTree → ValueTree → Type 0 where
    of_object : (a a' : TermTree) → TermsRelated X a a' → ValuesRelated X (t.of_object a) (t.of_object a')
    of_number : (a a' : IntTree) → IntsRelated X a a' → ValuesRelated X (t.of_number a) (t.of_number a')
    of_truth : (a a' : FormulaTree) → FormulasRelated X a a' → ValuesRelated X (t.of_truth a) (t.of_truth a')
    of_set : (a a' : SetTree) → SetsRelated X a a' → ValuesRelated X (t.of_set a) (t.of_set a')
    of_field : (a a' : FieldTree) → FieldsRelated X a a' → ValuesRelated X (t.of_field a) (t.of_field a')

  pub data FormulasRelated (X : ValueTree → ValueTree → Type 0) : FormulaTree → FormulaTree → Type 0 where
    formula_here : (a b : FormulaTree) → X (t.of_truth a) (t.of_truth b) → FormulasRelated X a b
    true_formula : FormulasRelated X t.true_formula t.true_formula
    false_formula : FormulasRelated X t.false_formula t.false_formula
    free_truth : (x : Name) → FormulasRelated X (t.free_truth x) (t.free_truth x)
    read_truth : (a a' : FieldTree) (b b' : TermTree) → FieldsRelated X a a' → TermsRelated X b b' → FormulasRelated X (t.read_truth a b) (t.read_truth a' b')
    negation : (a a' : FormulaTree) → FormulasRelated X a a' → FormulasRelated X (t.negation a) (t.negation a')
    and : (a a' : FormulaTree) (b b' : FormulaTree) → FormulasRelated X a a' → FormulasRelated X b b' → FormulasRelated X (t.and a b) (t.and a' b')
    or : (a a' : FormulaTree) (b b' : FormulaTree) → FormulasRelated X a a' → FormulasRelated X b b' → FormulasRelated X (t.or a b) (t.or a' b')
    implies : (a a' : FormulaTree) (b b' : FormulaTree) → FormulasRelated X a a' → FormulasRelated X b b' → FormulasRelated X (t.implies a b) (t.implies a' b')
    iff : (a a' : FormulaTree) (b b' : FormulaTree) → FormulasRelated X a a' → FormulasRelated X b b' → FormulasRelated X (t.iff a b) (t.iff a' b')
    all : (a a' : FormulaTree) → FormulasRelated X a a' → FormulasRelated X (t.all a) (t.all a')
    ex : (a a' : FormulaTree) → FormulasRelated X a a' → FormulasRelated X (t.ex a) (t.ex a')
    eq_object : (a a' : TermTree) (b b' : TermTree) → TermsRelated X a a' → TermsRelated X b b' → FormulasRelated X (t.eq_object a b) (t.eq_object a' b')
    eq_number : (a a' : IntTree) (b b' : IntTree) → IntsRelated X a a' → IntsRelated X b b' → FormulasRelated X (t.eq_number a b) (t.eq_number a' b')
    eq_set : (a a' : SetTree) (b b' : SetTree) → SetsRelated X a a' → SetsRelated X b b' → FormulasRelated X (t.eq_set a b) (t.eq_set a' b')
    less : (a a' : IntTree) (b b' : IntTree) → IntsRelated X a a' → IntsRelated X b b' → FormulasRelated X (t.less a b) (t.less a' b')
    less_equal : (a a' : IntTree) (b b' : IntTree) → IntsRelated X a a' → IntsRelated X b b' → FormulasRelated X (t.less_equal a b) (t.less_equal a' b')
    divides : (z : ℤ) (a a' : IntTree) → IntsRelated X a a' → FormulasRelated X (t.divides z a) (t.divides z a')
    member : (a a' : TermTree) (b b' : SetTree) → TermsRelated X a a' → SetsRelated X b b' → FormulasRelated X (t.member a b) (t.member a' b')
    subset : (a a' : SetTree) (b b' : SetTree) → SetsRelated X a a' → SetsRelated X b b' → FormulasRelated X (t.subset a b) (t.subset a' b')
    reach : (fs fs' : FieldTrees) (a a' : TermTree) (b b' : TermTree) → ListsRelated X fs fs' → TermsRelated X a a' → TermsRelated X b b' → FormulasRelated X (t.reach fs a b) (t.reach fs' a' b')
    tree : (fs fs' : FieldTrees) → ListsRelated X fs fs' → FormulasRelated X (t.tree fs) (t.tree fs')
    mark : (k : Mark) (a a' : FormulaTree) → FormulasRelated X a a' → FormulasRelated X (t.mark k a) (t.mark k a')

  pub data ListsRelated (X : ValueTree → ValueTree → Type 0) : FieldTrees → FieldTrees → Type 0 where
    none : ListsRelated X t.none t.none
    more : (f f' : FieldTree) (fs fs' : FieldTrees) → FieldsRelated X f f' → ListsRelated X fs fs' → ListsRelated X (t.more f fs) (t.more f' fs')
