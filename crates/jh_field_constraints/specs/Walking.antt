-- What the walk over a formula comes to.
use Rattle.std.specs.Prelude.{◌≡◌, ℕ, Bool, true, false, not, List, Option, Some, slice_get}
use Rattle.jh_form.specs.Tree.{TermTree, FormulaTree, ValueTree, of_truth}
use Rattle.jh_form.specs.Tree as t
use Rattle.jh_boxed.specs.Mapped.{mapped_term}
use Rattle.jh_arena.specs.table.Entries.{the_truth}
use Rattle.jh_substitution.specs.simultaneous.Lifted.{lifting}
use Rattle.jh_substitution.specs.instantiation.Putting.{put}
use Rattle.jh_fca.specs.elimination.Constraints.{Constraint}
use Rattle.jh_fca.specs.elimination.Exchanged.{eliminated}
use Rattle.jh_field_constraints.specs.declared.formulas.Connective.{Connective}
use Rattle.jh_field_constraints.specs.declared.formulas.Connective.TheVariants as connective
use Rattle.jh_field_constraints.specs.declared.memo.Signed.{Signed}
use Rattle.jh_field_constraints.specs.Reading.{IsLocalAt}

-- FC(t, y), where y is the variable of one more binder
abbrev pub said_of : FormulaTree → TermTree → FormulaTree
said_of says a = put (put says (t.bound 1)) (mapped_term a (lifting 1) 0)

-- `ALL y. FC --> P` where it stands positively, `EX y. FC & P` where negatively
abbrev pub around : Bool → FormulaTree → FormulaTree → FormulaTree
around true q p = t.all (t.implies q p)
around false q p = t.ex (t.and q p)

-- two formulas joined
abbrev pub joined : Connective → FormulaTree → FormulaTree → FormulaTree
joined connective.And a b = t.and a b
joined connective.Or a b = t.or a b
joined connective.Implies a b = t.implies a b

-- a formula said of all objects, or of some object
abbrev pub quantified_by : Bool → FormulaTree → FormulaTree
quantified_by true a = t.all a
quantified_by false a = t.ex a

-- the two implications of an equivalence
abbrev pub both_ways : Constraint → FormulaTree → FormulaTree → Bool → FormulaTree
both_ways c a b s = t.and (t.implies (eliminated c a (not s)) (eliminated c b s)) (t.implies (eliminated c b (not s)) (eliminated c a s))

-- The formula at place n is that at place k without reads of the field, where that stands so.
pub record IsEliminated (c : Constraint) (ts : List ValueTree) (k : ℕ) (s : Bool) (n : ℕ) : Type 0 where
  pub there : IsLocalAt ts k
  pub is : slice_get ts n ≡ Some (of_truth (eliminated c (the_truth (slice_get ts k)) s))

-- Each answer of the memo is right.
pub record HoldsEliminated (c : Constraint) (ts : List ValueTree) (find : Signed → Option ℕ) : Type 0 where
  pub at : (k : Signed) (n : ℕ) → find k ≡ Some n → IsEliminated c ts k.node k.positive n
