-- What it is for fields to be the edges of a forest, as goals of their own. The fields have no loose bound variables.
use Rattle.std.specs.Prelude.{List, [], ◌∷◌, ◌++◌}
use Rattle.jh_form.specs.Tree.{FormulaTree, FieldTree, FieldTrees}
use Rattle.jh_form.specs.Tree as t

-- no object but null is reached along the fields from its value at f
abbrev pub no_cycle_at : FieldTrees → FieldTree → FormulaTree
no_cycle_at fs f = t.all (t.implies (t.negation (t.eq_object (t.bound 0) t.null)) (t.negation (t.reach fs (t.read_object f (t.bound 0)) (t.bound 0))))

-- no two objects have the same value at f, but null
abbrev pub one_source : FieldTree → FormulaTree
one_source f =
    t.all (t.all (t.implies
    (t.and (t.eq_object (t.read_object f (t.bound 1)) (t.read_object f (t.bound 0))) (t.negation (t.eq_object (t.read_object f (t.bound 1)) t.null)))
    (t.eq_object (t.bound 1) (t.bound 0))))

-- f and g have no value in common, but null
abbrev pub apart : FieldTree → FieldTree → FormulaTree
apart f g =
    t.all (t.all (t.implies (t.eq_object (t.read_object f (t.bound 1)) (t.read_object g (t.bound 0))) (t.eq_object (t.read_object f (t.bound 1)) t.null)))

-- for each field of a list
abbrev pub no_cycles : FieldTrees → FieldTrees → List FormulaTree
no_cycles all t.none = []
no_cycles all (t.more f fs) = no_cycle_at all f ∷ no_cycles all fs

abbrev pub one_sources : FieldTrees → List FormulaTree
one_sources t.none = []
one_sources (t.more f fs) = one_source f ∷ one_sources fs

-- for each two fields of a list, the earlier one first
abbrev pub apart_from : FieldTree → FieldTrees → List FormulaTree
apart_from f t.none = []
apart_from f (t.more g gs) = apart f g ∷ apart_from f gs

abbrev pub all_apart : FieldTrees → List FormulaTree
all_apart t.none = []
all_apart (t.more f fs) = apart_from f fs ++ all_apart fs

-- the goals of `tree` along these fields
abbrev pub forest_goals : FieldTrees → List FormulaTree
forest_goals fs = no_cycles fs fs ++ (one_sources fs ++ all_apart fs)
