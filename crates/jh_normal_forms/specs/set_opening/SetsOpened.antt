-- Sets are opened: what is said of sets is said of each object, until a set is a name or a read.
use Rattle.jh_form.specs.Tree.{TermTree, SetTree, FormulaTree}
use Rattle.jh_form.specs.Tree as t
use Rattle.jh_boxed.specs.Mapped.{mapped_term, mapped_set}
use Rattle.jh_normal_forms.specs.declared.rebuilding.polarity.Polarity.TheVariants as pol
use Rattle.jh_normal_forms.specs.rebuilding.Built.{Rule, built_formula}
use Rattle.jh_substitution.specs.simultaneous.Lifted.{lifting}
use Rattle.jh_substitution.specs.instantiation.Putting.{put}

-- that the variable of one more binder is in a set: of a comprehension its body
unfoldable pub body : SetTree → FormulaTree
body (t.compr a) = a
body a = t.member (t.bound 0) (mapped_set a (lifting 1) 0)

-- An operation on sets is the comprehension of what it says of an object: for example `A Un {a}` is `{v. v : A | v = a}`.
unfoldable pub as_comprehension : SetTree → SetTree
as_comprehension t.empty = t.compr t.false_formula
as_comprehension t.univ = t.compr t.true_formula
as_comprehension (t.single a) = t.compr (t.eq_object (t.bound 0) (mapped_term a (lifting 1) 0))
as_comprehension (t.union a b) = t.compr (t.or (body a) (body b))
as_comprehension (t.inter a b) = t.compr (t.and (body a) (body b))
as_comprehension (t.diff a b) = t.compr (t.and (body a) (t.negation (body b)))
as_comprehension (t.compl a) = t.compr (t.negation (body a))
as_comprehension a = a

-- that x is in a set: of a comprehension its body with x for the variable
unfoldable pub is_in : TermTree → SetTree → FormulaTree
is_in x (t.compr a) = put a x
is_in x a = t.member x a

-- `A = B` is `ALL v. v : A iff v : B`, and `A <= B` is `ALL v. v : A --> v : B`.
unfoldable pub relation : FormulaTree → FormulaTree
relation (t.eq_set a b) = t.all (t.iff (body a) (body b))
relation (t.subset a b) = t.all (t.implies (body a) (body b))
relation (t.member x a) = is_in x a
relation a = a

-- From below: the sets in a relation are names, reads and comprehensions in which sets were opened.
abbrev pub opening_sets : Rule
opening_sets = record { object = λ a. a; number = λ a. a; set = as_comprehension; field = λ a. a; truth = λ a s. relation a }

unfoldable pub sets_opened : FormulaTree → FormulaTree
sets_opened a = built_formula a opening_sets pol.Both
