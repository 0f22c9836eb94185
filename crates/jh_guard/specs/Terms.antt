-- What expressions are in formulas, and what is checked for them: one fact for each dereference, in the order of evaluation, at the
-- first token of its receiver.
use Rattle.std.specs.Prelude.{Bool, true, false, List, [], ◌∷◌, ◌++◌, map}
use Rattle.jh_name.specs.declared.place.Place.{Place}
use Rattle.jh_form.specs.Tree.{TermTree, IntTree, FormulaTree, ValueTree}
use Rattle.jh_form.specs.Tree as t
use Rattle.jh_semantics.specs.Code.{ObjectCode, NumberCode, TruthCode, AnyCode}
use Rattle.jh_semantics.specs.Code as c
use Rattle.jh_semantics.specs.State.{named, this_name}

abbrev pub object_term : ObjectCode → TermTree
object_term c.null = t.null
object_term c.this = t.free_object this_name
object_term (c.object x) = t.free_object (named x)
object_term (c.read_object f r p) = t.read_object (t.free_field (named f)) (object_term r)

abbrev pub number_term : NumberCode → IntTree
number_term (c.const z) = t.const z
number_term (c.number x) = t.free_number (named x)
number_term (c.read_number f r p) = t.read_number (t.free_field (named f)) (object_term r)
number_term (c.add p a b) = t.add (number_term a) (number_term b)
number_term (c.sub p a b) = t.sub (number_term a) (number_term b)
number_term (c.minus p a) = t.neg (number_term a)
number_term (c.times p z a) = t.scale z (number_term a)

abbrev pub literal_formula : Bool → FormulaTree
literal_formula true = t.true_formula
literal_formula false = t.false_formula

abbrev pub truth_formula : TruthCode → FormulaTree
truth_formula (c.literal b) = literal_formula b
truth_formula (c.truth x) = t.free_truth (named x)
truth_formula (c.read_truth f r p) = t.read_truth (t.free_field (named f)) (object_term r)
truth_formula (c.negation a) = t.negation (truth_formula a)
truth_formula (c.both a b) = t.and (truth_formula a) (truth_formula b)
truth_formula (c.either a b) = t.or (truth_formula a) (truth_formula b)
truth_formula (c.same_object a b) = t.eq_object (object_term a) (object_term b)
truth_formula (c.same_number a b) = t.eq_number (number_term a) (number_term b)
truth_formula (c.same_truth a b) = t.iff (truth_formula a) (truth_formula b)
truth_formula (c.less a b) = t.less (number_term a) (number_term b)
truth_formula (c.less_equal a b) = t.less_equal (number_term a) (number_term b)
truth_formula (c.greater a b) = t.less (number_term b) (number_term a)
truth_formula (c.greater_equal a b) = t.less_equal (number_term b) (number_term a)

abbrev pub value_term : AnyCode → ValueTree
value_term (c.an_object a) = t.of_object (object_term a)
value_term (c.a_number a) = t.of_number (number_term a)
value_term (c.a_truth a) = t.of_truth (truth_formula a)

-- a fact that is checked, and where
pub record Check : Type 0 where
  pub place : Place
  pub fact : FormulaTree

abbrev pub is_not_null : TermTree → FormulaTree
is_not_null a = t.negation (t.eq_object a t.null)

-- that a receiver is not null; `this` needs no check
abbrev pub receiver_checks : ObjectCode → Place → List Check
receiver_checks c.this p = []
receiver_checks r p = record { place = p; fact = is_not_null (object_term r) } ∷ []

-- the checks of a read: those of its receiver, and that the receiver is not null
abbrev pub object_checks : ObjectCode → List Check
object_checks (c.read_object f r p) = object_checks r ++ receiver_checks r p
object_checks _ = []

abbrev pub read_checks : ObjectCode → Place → List Check
read_checks r p = object_checks r ++ receiver_checks r p

abbrev pub number_checks : NumberCode → List Check
number_checks (c.const z) = []
number_checks (c.number x) = []
number_checks (c.read_number f r p) = read_checks r p
number_checks (c.add p a b) = number_checks a ++ number_checks b
number_checks (c.sub p a b) = number_checks a ++ number_checks b
number_checks (c.minus p a) = number_checks a
number_checks (c.times p z a) = number_checks a

-- what is checked only where a formula is true
abbrev pub guarded : FormulaTree → Check → Check
guarded f check = record { place = check.place; fact = t.implies f check.fact }

-- under the right operand of `&&` checks ask for the left one, of `||` for its opposite
abbrev pub truth_checks : TruthCode → List Check
truth_checks (c.literal b) = []
truth_checks (c.truth x) = []
truth_checks (c.read_truth f r p) = read_checks r p
truth_checks (c.negation a) = truth_checks a
truth_checks (c.both a b) = truth_checks a ++ map (guarded (truth_formula a)) (truth_checks b)
truth_checks (c.either a b) = truth_checks a ++ map (guarded (t.negation (truth_formula a))) (truth_checks b)
truth_checks (c.same_object a b) = object_checks a ++ object_checks b
truth_checks (c.same_number a b) = number_checks a ++ number_checks b
truth_checks (c.same_truth a b) = truth_checks a ++ truth_checks b
truth_checks (c.less a b) = number_checks a ++ number_checks b
truth_checks (c.less_equal a b) = number_checks a ++ number_checks b
truth_checks (c.greater a b) = number_checks a ++ number_checks b
truth_checks (c.greater_equal a b) = number_checks a ++ number_checks b

abbrev pub value_checks : AnyCode → List Check
value_checks (c.an_object a) = object_checks a
value_checks (c.a_number a) = number_checks a
value_checks (c.a_truth a) = truth_checks a
