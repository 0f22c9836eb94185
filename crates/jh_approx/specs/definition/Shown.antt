-- What a query can say of a formula.
use Rattle.std.specs.Prelude.{Bool, true, false, not, ◌&&◌, if◌then◌else◌}
use Rattle.jh_form.specs.Tree.{FormulaTree}
use Rattle.jh_form.specs.Tree as t
use Rattle.jh_query.specs.queries.Named.{is_divisor}

-- What stands for a part of which a query can't speak: False where the part stands positively in the sequent, as its goal
-- does, and True where it stands negatively, as its hypotheses do. So the query asks for more, and knows less.
abbrev pub replacement : Bool → FormulaTree
replacement true = t.false_formula
replacement false = t.true_formula

-- connectives of which True and False are folded away
unfoldable pub negation_of : FormulaTree → FormulaTree
negation_of t.true_formula = t.false_formula
negation_of t.false_formula = t.true_formula
negation_of a = t.negation a

unfoldable pub and_before : FormulaTree → FormulaTree → FormulaTree
and_before a t.true_formula = a
and_before a t.false_formula = t.false_formula
and_before a b = t.and a b

unfoldable pub and_of : FormulaTree → FormulaTree → FormulaTree
and_of t.true_formula b = b
and_of t.false_formula b = t.false_formula
and_of a b = and_before a b

unfoldable pub or_before : FormulaTree → FormulaTree → FormulaTree
or_before a t.true_formula = t.true_formula
or_before a t.false_formula = a
or_before a b = t.or a b

unfoldable pub or_of : FormulaTree → FormulaTree → FormulaTree
or_of t.true_formula b = t.true_formula
or_of t.false_formula b = b
or_of a b = or_before a b

unfoldable pub implies_before : FormulaTree → FormulaTree → FormulaTree
implies_before a t.true_formula = t.true_formula
implies_before a t.false_formula = negation_of a
implies_before a b = t.implies a b

unfoldable pub implies_of : FormulaTree → FormulaTree → FormulaTree
implies_of t.true_formula b = b
implies_of t.false_formula b = t.true_formula
implies_of a b = implies_before a b

unfoldable pub iff_before : FormulaTree → FormulaTree → FormulaTree
iff_before a t.true_formula = a
iff_before a t.false_formula = negation_of a
iff_before a b = t.iff a b

unfoldable pub iff_of : FormulaTree → FormulaTree → FormulaTree
iff_of t.true_formula b = b
iff_of t.false_formula b = negation_of b
iff_of a b = iff_before a b

-- Whether a query can say all parts of a formula. It has no words for what is said of all objects or of some, for
-- reachability and trees, and for dividing by a number below 1.
unfoldable pub is_sayable : FormulaTree → Bool
is_sayable (t.negation a) = is_sayable a
is_sayable (t.and a b) = is_sayable a && is_sayable b
is_sayable (t.or a b) = is_sayable a && is_sayable b
is_sayable (t.implies a b) = is_sayable a && is_sayable b
is_sayable (t.iff a b) = is_sayable a && is_sayable b
is_sayable (t.mark k a) = is_sayable a
is_sayable (t.all a) = false
is_sayable (t.ex a) = false
is_sayable (t.reach fs a b) = false
is_sayable (t.tree fs) = false
is_sayable (t.divides z a) = is_divisor z
is_sayable a = true

-- The formula, without labels, with each part replaced that a query can't say; the flag says whether it stands positively
-- in its sequent. An equivalence round such a part is two implications first. True and False are folded away.
unfoldable pub shown : FormulaTree → Bool → FormulaTree
shown (t.negation a) s = negation_of (shown a (not s))
shown (t.and a b) s = and_of (shown a s) (shown b s)
shown (t.or a b) s = or_of (shown a s) (shown b s)
shown (t.implies a b) s = implies_of (shown a (not s)) (shown b s)
shown (t.iff a b) s =
    if is_sayable a && is_sayable b then iff_of (shown a s) (shown b s)
    else and_of (implies_of (shown a (not s)) (shown b s)) (implies_of (shown b (not s)) (shown a s))
shown (t.mark k a) s = shown a s
shown (t.all a) s = replacement s
shown (t.ex a) s = replacement s
shown (t.reach fs a b) s = replacement s
shown (t.tree fs) s = replacement s
shown (t.divides z a) s = if is_divisor z then t.divides z a else replacement s
shown a s = a
