-- Connectives of which True and False are folded away, by the truths that their operands are at sight.
use Rattle.std.specs.Prelude.{Bool, true, false, Option, Some, None}
use Rattle.jh_form.specs.Tree.{FormulaTree}
use Rattle.jh_form.specs.Tree as t
use Rattle.jh_approx.specs.definition.Shown.{and_of, or_of, implies_of, iff_of}
use Rattle.jh_query_names.specs.declared.visible_part.folding.Connective.{Connective}
use Rattle.jh_query_names.specs.declared.visible_part.folding.Connective.TheVariants as c
use Rattle.jh_query_names.specs.declared.visible_part.folding.Rest.{Rest}
use Rattle.jh_query_names.specs.declared.visible_part.folding.Rest.TheVariants as f

-- the truth that a formula is at sight
unfoldable pub constant : FormulaTree → Option Bool
constant t.true_formula = Some true
constant t.false_formula = Some false
constant a = None

abbrev pub folded_and : Option Bool → Option Bool → Rest
folded_and (Some true) r = f.Right
folded_and (Some false) r = f.False
folded_and None (Some true) = f.Left
folded_and None (Some false) = f.False
folded_and None None = f.Both

abbrev pub folded_or : Option Bool → Option Bool → Rest
folded_or (Some true) r = f.True
folded_or (Some false) r = f.Right
folded_or None (Some true) = f.True
folded_or None (Some false) = f.Left
folded_or None None = f.Both

abbrev pub folded_implies : Option Bool → Option Bool → Rest
folded_implies (Some true) r = f.Right
folded_implies (Some false) r = f.True
folded_implies None (Some true) = f.True
folded_implies None (Some false) = f.NotLeft
folded_implies None None = f.Both

abbrev pub folded_iff : Option Bool → Option Bool → Rest
folded_iff (Some true) r = f.Right
folded_iff (Some false) (Some true) = f.False
folded_iff (Some false) (Some false) = f.True
folded_iff (Some false) None = f.NotRight
folded_iff None (Some true) = f.Left
folded_iff None (Some false) = f.NotLeft
folded_iff None None = f.Both

abbrev pub folded : Connective → Option Bool → Option Bool → Rest
folded c.And l r = folded_and l r
folded c.Or l r = folded_or l r
folded c.Implies l r = folded_implies l r
folded c.Iff l r = folded_iff l r

-- two formulas joined as they stand
abbrev pub both : Connective → FormulaTree → FormulaTree → FormulaTree
both c.And a b = t.and a b
both c.Or a b = t.or a b
both c.Implies a b = t.implies a b
both c.Iff a b = t.iff a b

-- two formulas of which this is left
abbrev pub left_of : Rest → Connective → FormulaTree → FormulaTree → FormulaTree
left_of f.True k a b = t.true_formula
left_of f.False k a b = t.false_formula
left_of f.Left k a b = a
left_of f.Right k a b = b
left_of f.NotLeft k a b = t.negation a
left_of f.NotRight k a b = t.negation b
left_of f.Both k a b = both k a b

-- two formulas joined, where True and False are folded away
abbrev pub joined : Connective → FormulaTree → FormulaTree → FormulaTree
joined c.And a b = and_of a b
joined c.Or a b = or_of a b
joined c.Implies a b = implies_of a b
joined c.Iff a b = iff_of a b
