-- Formulas in negation normal form that have no labels, and those of them that have no quantifier.
use Rattle.std.specs.Prelude.{Bool, true, false, ◌&&◌}
use Rattle.jh_form.specs.Tree.{FormulaTree}
use Rattle.jh_form.specs.Tree as t
use Rattle.jh_normal_forms.specs.negation_normal_form.Normal.{is_atom}

-- And, Or and quantifiers over atoms and negated atoms
abbrev pub is_plain : FormulaTree → Bool
is_plain (t.negation a) = is_atom a
is_plain (t.and a b) = is_plain a && is_plain b
is_plain (t.or a b) = is_plain a && is_plain b
is_plain (t.implies a b) = false
is_plain (t.iff a b) = false
is_plain (t.all a) = is_plain a
is_plain (t.ex a) = is_plain a
is_plain (t.mark k a) = false
is_plain _ = true

-- And and Or over atoms and negated atoms
abbrev pub are_literals : FormulaTree → Bool
are_literals (t.negation a) = is_atom a
are_literals (t.and a b) = are_literals a && are_literals b
are_literals (t.or a b) = are_literals a && are_literals b
are_literals a = is_atom a
