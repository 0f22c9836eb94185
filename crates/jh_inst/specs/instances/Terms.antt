-- The object terms of formulas in negation normal form that have local shape.
use Rattle.std.specs.Prelude.{Bool, if◌then◌else◌, List, [], ◌∷◌, ◌++◌, filter}
use Rattle.std.specs.List.{list_any}
use Rattle.jh_form.specs.Tree.{TermTree, IntTree, SetTree, FormulaTree, of_object}
use Rattle.jh_form.specs.Tree as t
use Rattle.jh_form.specs.Closed.{is_closed_term}
use Rattle.jh_boxed_operations.specs.comparison.Exchanged.{equal_trees}

-- a term and those inside it, an outer one before those inside it
abbrev pub terms_in : TermTree → List TermTree
terms_in (t.read_object f a) = t.read_object f a ∷ terms_in a
terms_in a = a ∷ []

abbrev pub number_terms : IntTree → List TermTree
number_terms (t.read_number f a) = terms_in a
number_terms _ = []

abbrev pub set_terms : SetTree → List TermTree
set_terms (t.read_set f a) = terms_in a
set_terms _ = []

-- each object term as often as it stands, in the order of the text
abbrev pub object_terms : FormulaTree → List TermTree
object_terms (t.negation a) = object_terms a
object_terms (t.and a b) = object_terms a ++ object_terms b
object_terms (t.or a b) = object_terms a ++ object_terms b
object_terms (t.all a) = object_terms a
object_terms (t.ex a) = object_terms a
object_terms (t.read_truth f a) = terms_in a
object_terms (t.eq_object a b) = terms_in a ++ terms_in b
object_terms (t.eq_number a b) = number_terms a ++ number_terms b
object_terms (t.member a b) = terms_in a ++ set_terms b
object_terms (t.reach fs a b) = terms_in a ++ terms_in b
object_terms _ = []

-- those that have no bound variable
abbrev pub closed_terms : FormulaTree → List TermTree
closed_terms a = filter (λ b. is_closed_term b 0) (object_terms a)

abbrev pub is_among : TermTree → List TermTree → Bool
is_among a ts = list_any (λ b. equal_trees (of_object a) (of_object b)) ts

-- a list of terms with one more behind it, where it isn't there yet; and with several, one after another
abbrev pub with_term : List TermTree → TermTree → List TermTree
with_term ts a = if is_among a ts then ts else ts ++ (a ∷ [])

abbrev pub with_terms : List TermTree → List TermTree → List TermTree
with_terms ts [] = ts
with_terms ts (a ∷ more) = with_terms (with_term ts a) more

-- with the closed terms of formulas, in their order
abbrev pub with_terms_of : List TermTree → List FormulaTree → List TermTree
with_terms_of ts [] = ts
with_terms_of ts (a ∷ more) = with_terms_of (with_terms ts (closed_terms a)) more
