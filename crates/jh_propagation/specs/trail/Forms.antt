-- What an instance is: known, a literal, or two instances joined by And or Or.
use Rattle.std.specs.Prelude.{◌≡◌, ◌<◌, ℕ, Bool, true, false, List, Option, Some, None}
use Rattle.jh_form.specs.Tree.{FormulaTree, ValueTree}
use Rattle.jh_form.specs.Tree as t
use Rattle.jh_closure.specs.structures.Literals.{LiteralTree}
use Rattle.jh_models.specs.ground_models.Atoms.{literal}
use Rattle.jh_propagation.specs.declared.trail.forms.Form.{Form}
use Rattle.jh_propagation.specs.declared.trail.forms.Form.TheVariants as form
use Rattle.jh_propagation.specs.trail.Saying.{truth_at, IsTruth, literal_tree_at}

-- True and False are known, and so are their negations
abbrev pub known_denied : FormulaTree → Option Bool
known_denied t.true_formula = Some false
known_denied t.false_formula = Some true
known_denied a = None

abbrev pub known_of : FormulaTree → Option Bool
known_of t.true_formula = Some true
known_of t.false_formula = Some false
known_of (t.negation a) = known_denied a
known_of a = None

-- the literal that a formula is, or its negation
abbrev pub denied_literal : FormulaTree → Option LiteralTree
denied_literal t.true_formula = None
denied_literal t.false_formula = None
denied_literal a = Some (literal a false)

abbrev pub literal_of : FormulaTree → Option LiteralTree
literal_of t.true_formula = None
literal_of t.false_formula = None
literal_of (t.and a b) = None
literal_of (t.or a b) = None
literal_of (t.negation a) = denied_literal a
literal_of a = Some (literal a true)

-- a formula is of this form, where its parts are nodes
abbrev pub IsForm : List ValueTree → FormulaTree → Form → Type 0
IsForm ts i (form.Known b) = known_of i ≡ Some b
IsForm ts i (form.Literal l) = literal_of i ≡ Some (literal_tree_at ts l)
IsForm ts i (form.And a b) = i ≡ t.and (truth_at ts a) (truth_at ts b)
IsForm ts i (form.Or a b) = i ≡ t.or (truth_at ts a) (truth_at ts b)

-- two nodes that are formulas, before a node
pub record AreTwoParts (ts : List ValueTree) (n a b : ℕ) : Type 0 where
  pub left : IsTruth ts a
  pub right : IsTruth ts b
  pub left_below : a < n
  pub right_below : b < n

-- the parts of a node of this form are formulas
abbrev pub HasParts : List ValueTree → ℕ → Form → Type 0
HasParts ts n (form.Known b) = Unit {0}
HasParts ts n (form.Literal l) = IsTruth ts l.atom
HasParts ts n (form.And a b) = AreTwoParts ts n a b
HasParts ts n (form.Or a b) = AreTwoParts ts n a b
