-- What has no local form is cut: False stands for it where it stands positively in the sequent, as the goal does, and True
-- where it stands negatively, as the hypotheses do. So the local form asks for more, and knows less.
use Rattle.std.specs.Prelude.{Bool, true, false, not, ◌&&◌, ◌||◌, if◌then◌else◌}
use Rattle.std.specs.List.{list_any}
use Rattle.jh_form.specs.declared.mark.Mark.{Mark}
use Rattle.jh_form.specs.Tree.{IntTree, ValueTree, FormulaTree}
use Rattle.jh_form.specs.Tree as t
use Rattle.jh_normal_forms.specs.declared.parts.order.Order.TheVariants as order
use Rattle.jh_normal_forms.specs.parts.Standing.{formula_parts}
use Rattle.jh_normal_forms.specs.declared.rebuilding.polarity.Polarity.{Polarity}
use Rattle.jh_normal_forms.specs.declared.rebuilding.polarity.Polarity.TheVariants as pol
use Rattle.jh_normal_forms.specs.rebuilding.Built.{Rule, built_formula}
use Rattle.jh_approx.specs.definition.Shown.{negation_of, and_of, or_of, implies_of, iff_of}

-- a constant, a name or a read
unfoldable pub is_simple : IntTree → Bool
is_simple (t.const z) = true
is_simple (t.free_number x) = true
is_simple (t.read_number f a) = true
is_simple a = false

-- What has no local form: updates, orders of numbers, Divides, and equations of other numbers than constants, names and reads.
unfoldable pub is_foreign : ValueTree → Bool
is_foreign (t.of_field (t.update f a v)) = true
is_foreign (t.of_truth (t.less a b)) = true
is_foreign (t.of_truth (t.less_equal a b)) = true
is_foreign (t.of_truth (t.divides z a)) = true
is_foreign (t.of_truth (t.eq_number a b)) = not (is_simple a && is_simple b)
is_foreign v = false

-- whether it, or a part of it, has none
unfoldable pub holds_foreign : FormulaTree → Bool
holds_foreign a = list_any is_foreign (formula_parts a order.InnerFirst)

-- An equivalence round such a part has it on both sides of an implication: it is two implications first.
unfoldable pub two_ways : FormulaTree → FormulaTree
two_ways (t.iff a b) = if holds_foreign a || holds_foreign b then t.and (t.implies a b) (t.implies b a) else t.iff a b
two_ways a = a

abbrev pub opening_iffs : Rule
opening_iffs = record { object = λ a. a; number = λ a. a; set = λ a. a; field = λ a. a; truth = λ a s. two_ways a }

unfoldable pub iffs_opened : FormulaTree → FormulaTree
iffs_opened a = built_formula a opening_iffs pol.Both

-- what stands for an atom that is cut; where it stands both ways it isn't
unfoldable pub instead_of : FormulaTree → Polarity → FormulaTree
instead_of a pol.Positive = t.false_formula
instead_of a pol.Negative = t.true_formula
instead_of a pol.Both = a

-- True and False say the same under a quantifier or a label as without it.
unfoldable pub all_of : FormulaTree → FormulaTree
all_of t.true_formula = t.true_formula
all_of t.false_formula = t.false_formula
all_of a = t.all a

unfoldable pub ex_of : FormulaTree → FormulaTree
ex_of t.true_formula = t.true_formula
ex_of t.false_formula = t.false_formula
ex_of a = t.ex a

unfoldable pub mark_of : Mark → FormulaTree → FormulaTree
mark_of m t.true_formula = t.true_formula
mark_of m t.false_formula = t.false_formula
mark_of m a = t.mark m a

-- A formula over parts that are cut, with True and False folded away; an atom is cut where a part of it has no local form.
unfoldable pub cut_once : FormulaTree → Polarity → FormulaTree
cut_once (t.negation a) s = negation_of a
cut_once (t.and a b) s = and_of a b
cut_once (t.or a b) s = or_of a b
cut_once (t.implies a b) s = implies_of a b
cut_once (t.iff a b) s = iff_of a b
cut_once (t.all a) s = all_of a
cut_once (t.ex a) s = ex_of a
cut_once (t.mark m a) s = mark_of m a
cut_once a s = if holds_foreign a then instead_of a s else a

abbrev pub cutting : Rule
cutting = record { object = λ a. a; number = λ a. a; set = λ a. a; field = λ a. a; truth = cut_once }

-- For example the hypothesis `p | i < j` becomes True, and the goal `p | i < j` becomes `p`.
unfoldable pub cut : FormulaTree → Polarity → FormulaTree
cut a s = built_formula (iffs_opened a) cutting s
