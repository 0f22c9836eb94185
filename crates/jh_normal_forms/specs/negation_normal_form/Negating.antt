-- What the walk to negation normal form comes to.
use Rattle.std.specs.Prelude.{◌≡◌, ℕ, Bool, true, false, List, Option, Some, slice_get}
use Rattle.jh_form.specs.Tree.{FormulaTree, ValueTree, of_truth}
use Rattle.jh_form.specs.Tree as t
use Rattle.jh_arena.specs.table.Entries.{is_truth, the_truth}
use Rattle.jh_normal_forms.specs.declared.negation_normal_form.memo.Signed.{Signed}
use Rattle.jh_normal_forms.specs.negation_normal_form.Normal.{normal}

-- The tree at place n is the negation normal form of the formula at place k, or of its negation.
pub record IsNormalised (ts : List ValueTree) (k : ℕ) (s : Bool) (n : ℕ) : Type 0 where
  pub there : is_truth (slice_get ts k) ≡ true
  pub is : slice_get ts n ≡ Some (of_truth (normal (the_truth (slice_get ts k)) s))

-- Each answer of the memo is right.
pub record HoldsNormal (ts : List ValueTree) (find : Signed → Option ℕ) : Type 0 where
  pub at : (k : Signed) (n : ℕ) → find k ≡ Some n → IsNormalised ts k.node k.positive n

-- two formulas joined by And or by Or
abbrev pub joined : Bool → FormulaTree → FormulaTree → FormulaTree
joined true a b = t.and a b
joined false a b = t.or a b

-- a formula said of all objects, or of some object
abbrev pub quantified : Bool → FormulaTree → FormulaTree
quantified true a = t.all a
quantified false a = t.ex a

-- the second part of an equivalence that is opened, or of its negation
abbrev pub opened_second : FormulaTree → FormulaTree → Bool → FormulaTree
opened_second a b true = t.or (normal b false) (normal a true)
opened_second a b false = t.or (normal a false) (normal b false)

-- a formula, or its negation
abbrev pub literal : FormulaTree → Bool → FormulaTree
literal a true = a
literal a false = t.negation a
