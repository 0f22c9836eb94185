-- Derived fields: fields that a hypothesis constrains, and that no `reach` and no `tree` goes along. What is said of such a field
-- can be said without it.
use Rattle.std.specs.Prelude.{Bool, false, not, ◌||◌, if◌then◌else◌, List, [], ◌∷◌, filter, Option, None, Some}
use Rattle.std.specs.List.{list_any, flat_map}
use Rattle.jh_name.specs.declared.naming.Name.{Name}
use Rattle.jh_form.specs.Tree.{ValueTree, FormulaTree}
use Rattle.jh_form.specs.Tree as t
use Rattle.jh_form.specs.Passing.{name_equal, fields_passes}
use Rattle.jh_normal_forms.specs.declared.parts.order.Order.TheVariants as order
use Rattle.jh_normal_forms.specs.parts.Standing.{formula_parts}
use Rattle.jh_seq.specs.sequent.Sequents.{HypTree, SequentTree}
use Rattle.jh_fca.specs.elimination.Constraints.{Constraint, other_than, constraint_in}

-- ---- fields along which a formula reaches

-- whether a field stands in the list of a `reach` or a `tree`
unfoldable pub goes_along : Name → ValueTree → Bool
goes_along f (t.of_truth (t.reach fs a b)) = not (fields_passes fs (other_than f))
goes_along f (t.of_truth (t.tree fs)) = not (fields_passes fs (other_than f))
goes_along f v = false

unfoldable pub is_listed : Name → FormulaTree → Bool
is_listed f a = list_any (goes_along f) (formula_parts a order.InnerFirst)

unfoldable pub is_listed_in : Name → SequentTree → Bool
is_listed_in f s = list_any (λ h. is_listed f h.fact) s.hyps || is_listed f s.goal

-- ---- the constraints of a sequent

unfoldable pub fields_of : Option Constraint → List Name
fields_of None = []
fields_of (Some c) = c.field ∷ []

-- the fields that hypotheses constrain, one after another
abbrev pub constrained : List HypTree → List Name
constrained hs = flat_map (λ h. fields_of (constraint_in h.fact)) hs

-- each once, where it stands first
unfoldable pub names_once : List Name → List Name
names_once [] = []
names_once (x ∷ xs) = x ∷ filter (λ y. not (name_equal x y)) (names_once xs)

-- The derived fields of a sequent, each once, in the order of the first hypotheses that constrain them.
unfoldable pub derived : SequentTree → List Name
derived s = filter (λ f. not (is_listed_in f s)) (names_once (constrained s.hyps))

unfoldable pub is_of : Name → Option Constraint → Bool
is_of f None = false
is_of f (Some c) = name_equal c.field f

-- the first hypothesis that constrains a field, as a constraint
unfoldable pub first_for : Name → List HypTree → Option Constraint
first_for f [] = None
first_for f (h ∷ hs) = if is_of f (constraint_in h.fact) then constraint_in h.fact else first_for f hs

-- the hypotheses without that one
unfoldable pub without_first : Name → List HypTree → List HypTree
without_first f [] = []
without_first f (h ∷ hs) = if is_of f (constraint_in h.fact) then hs else h ∷ without_first f hs
