-- The trees of formulas: the program's values without memory. Two formulas are the same where their
-- trees are, labels included. A bound variable is the number of binders between it and its own.
use Rattle.std.specs.Prelude.{ℕ, ℤ}
use Rattle.jh_name.specs.declared.naming.Name.{Name}
use Rattle.jh_form.specs.declared.mark.Mark.{Mark}

mutual
  pub data TermTree : Type 0 where
    bound : ℕ → TermTree
    free_object : Name → TermTree
    null : TermTree
    read_object : FieldTree → TermTree → TermTree

  pub data IntTree : Type 0 where
    const : ℤ → IntTree
    free_number : Name → IntTree
    read_number : FieldTree → TermTree → IntTree
    add : IntTree → IntTree → IntTree
    sub : IntTree → IntTree → IntTree
    neg : IntTree → IntTree
    scale : ℤ → IntTree → IntTree
    card : SetTree → IntTree

  pub data SetTree : Type 0 where
    free_set : Name → SetTree
    read_set : FieldTree → TermTree → SetTree
    empty : SetTree
    univ : SetTree
    single : TermTree → SetTree
    union : SetTree → SetTree → SetTree
    inter : SetTree → SetTree → SetTree
    diff : SetTree → SetTree → SetTree
    compl : SetTree → SetTree
    compr : FormulaTree → SetTree

  pub data FieldTree : Type 0 where
    free_field : Name → FieldTree
    update : FieldTree → TermTree → ValueTree → FieldTree

  pub data ValueTree : Type 0 where
    of_object : TermTree → ValueTree
    of_number : IntTree → ValueTree
    of_truth : FormulaTree → ValueTree
    of_set : SetTree → ValueTree
    of_field : FieldTree → ValueTree

  pub data FormulaTree : Type 0 where
    true_formula : FormulaTree
    false_formula : FormulaTree
    free_truth : Name → FormulaTree
    read_truth : FieldTree → TermTree → FormulaTree
    negation : FormulaTree → FormulaTree
    and : FormulaTree → FormulaTree → FormulaTree
    or : FormulaTree → FormulaTree → FormulaTree
    implies : FormulaTree → FormulaTree → FormulaTree
    iff : FormulaTree → FormulaTree → FormulaTree
    all : FormulaTree → FormulaTree
    ex : FormulaTree → FormulaTree
    eq_object : TermTree → TermTree → FormulaTree
    eq_number : IntTree → IntTree → FormulaTree
    eq_set : SetTree → SetTree → FormulaTree
    less : IntTree → IntTree → FormulaTree
    less_equal : IntTree → IntTree → FormulaTree
    divides : ℤ → IntTree → FormulaTree
    member : TermTree → SetTree → FormulaTree
    subset : SetTree → SetTree → FormulaTree
    reach : FieldTrees → TermTree → TermTree → FormulaTree
    tree : FieldTrees → FormulaTree
    mark : Mark → FormulaTree → FormulaTree

  pub data FieldTrees : Type 0 where
    none : FieldTrees
    more : FieldTree → FieldTrees → FieldTrees
