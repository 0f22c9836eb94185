-- What the arms of the code cite: an equation for each expression, and the nodes of its parts.
use Rattle.std.proofs.Common.{◌≡◌, refl, ℤ, Bool}
use Rattle.std.specs.declared.alloc.Global.{Global}
use Rattle.std.specs.declared.boxed.Box.{Box}
use Rattle.jh_name.specs.declared.naming.Name.{Name}
use Rattle.jh_name.specs.declared.place.Place.{Place}
use Rattle.jh_semantics.specs.Code as c
use Rattle.jh_semantics.specs.declared.typed_code.code.ObjectCode.{ObjectCode}
use Rattle.jh_semantics.specs.declared.typed_code.code.ObjectCode.TheVariants as x
use Rattle.jh_semantics.specs.declared.typed_code.code.NumberCode.{NumberCode}
use Rattle.jh_semantics.specs.declared.typed_code.code.NumberCode.TheVariants as n
use Rattle.jh_semantics.specs.declared.typed_code.code.TruthCode.{TruthCode}
use Rattle.jh_semantics.specs.declared.typed_code.code.TruthCode.TheVariants as t
use Rattle.jh_semantics.specs.typed_code.Codes.{object_code, number_code, truth_code}
use Rattle.jh_semantics.specs.State.{named}
use Rattle.jh_arena.proofs.table.NodeSteps.{fits-Null, tree-Null, fits-FreeObject, tree-FreeObject, fits-ReadObject, tree-ReadObject, fits-Const, tree-Const, fits-FreeNumber, tree-FreeNumber, fits-ReadNumber, tree-ReadNumber, fits-Add, tree-Add, fits-Sub, tree-Sub, fits-Neg, tree-Neg, fits-Scale, tree-Scale, fits-FreeField, tree-FreeField, fits-True, tree-True, fits-False, tree-False, fits-FreeTruth, tree-FreeTruth, fits-ReadTruth, tree-ReadTruth, fits-Negation, tree-Negation, fits-And, tree-And, fits-Or, tree-Or, fits-Iff, tree-Iff, fits-EqObject, tree-EqObject, fits-EqNumber, tree-EqNumber, fits-Less, tree-Less, fits-LessEqual, tree-LessEqual}

-- a name at turn 0 is that of its text
pub plain-name : (y : Name) → y.turn ≡ 0 → y ≡ named y.text
plain-name y h = λ i. record { text = y.text; turn = h i }

pub object_code-Null : object_code x.Null ≡ c.null
unfolding object_code
object_code-Null = refl

pub object_code-This : object_code x.This ≡ c.this
unfolding object_code
object_code-This = refl

pub object_code-Name : (y : Name) → object_code (x.Name y) ≡ c.object y.text
unfolding object_code
object_code-Name y = refl

pub object_code-Read : (f : Name) (r : Box ObjectCode Global) (q : Place) → object_code (x.Read f r q) ≡ c.read_object f.text (object_code r.value) q
unfolding object_code
object_code-Read f r q = refl

pub number_code-Const : (z : ℤ) → number_code (n.Const z) ≡ c.const z
unfolding number_code
number_code-Const z = refl

pub number_code-Name : (y : Name) → number_code (n.Name y) ≡ c.number y.text
unfolding number_code
number_code-Name y = refl

pub number_code-Read : (f : Name) (r : ObjectCode) (q : Place) → number_code (n.Read f r q) ≡ c.read_number f.text (object_code r) q
unfolding number_code
number_code-Read f r q = refl

pub number_code-Add : (q : Place) (u v : Box NumberCode Global) → number_code (n.Add q u v) ≡ c.add q (number_code u.value) (number_code v.value)
unfolding number_code
number_code-Add q u v = refl

pub number_code-Sub : (q : Place) (u v : Box NumberCode Global) → number_code (n.Sub q u v) ≡ c.sub q (number_code u.value) (number_code v.value)
unfolding number_code
number_code-Sub q u v = refl

pub number_code-Minus : (q : Place) (u : Box NumberCode Global) → number_code (n.Minus q u) ≡ c.minus q (number_code u.value)
unfolding number_code
number_code-Minus q u = refl

pub number_code-Times : (q : Place) (z : ℤ) (u : Box NumberCode Global) → number_code (n.Times q z u) ≡ c.times q z (number_code u.value)
unfolding number_code
number_code-Times q z u = refl

pub truth_code-Literal : (b : Bool) → truth_code (t.Literal b) ≡ c.literal b
unfolding truth_code
truth_code-Literal b = refl

pub truth_code-Name : (y : Name) → truth_code (t.Name y) ≡ c.truth y.text
unfolding truth_code
truth_code-Name y = refl

pub truth_code-Read : (f : Name) (r : ObjectCode) (q : Place) → truth_code (t.Read f r q) ≡ c.read_truth f.text (object_code r) q
unfolding truth_code
truth_code-Read f r q = refl

pub truth_code-Not : (u : Box TruthCode Global) → truth_code (t.Not u) ≡ c.negation (truth_code u.value)
unfolding truth_code
truth_code-Not u = refl

pub truth_code-And : (u v : Box TruthCode Global) → truth_code (t.And u v) ≡ c.both (truth_code u.value) (truth_code v.value)
unfolding truth_code
truth_code-And u v = refl

pub truth_code-Or : (u v : Box TruthCode Global) → truth_code (t.Or u v) ≡ c.either (truth_code u.value) (truth_code v.value)
unfolding truth_code
truth_code-Or u v = refl

pub truth_code-SameObject : (u v : ObjectCode) → truth_code (t.SameObject u v) ≡ c.same_object (object_code u) (object_code v)
unfolding truth_code
truth_code-SameObject u v = refl

pub truth_code-SameNumber : (u v : NumberCode) → truth_code (t.SameNumber u v) ≡ c.same_number (number_code u) (number_code v)
unfolding truth_code
truth_code-SameNumber u v = refl

pub truth_code-SameTruth : (u v : Box TruthCode Global) → truth_code (t.SameTruth u v) ≡ c.same_truth (truth_code u.value) (truth_code v.value)
unfolding truth_code
truth_code-SameTruth u v = refl

pub truth_code-Less : (u v : NumberCode) → truth_code (t.Less u v) ≡ c.less (number_code u) (number_code v)
unfolding truth_code
truth_code-Less u v = refl

pub truth_code-LessEq : (u v : NumberCode) → truth_code (t.LessEq u v) ≡ c.less_equal (number_code u) (number_code v)
unfolding truth_code
truth_code-LessEq u v = refl

pub truth_code-Greater : (u v : NumberCode) → truth_code (t.Greater u v) ≡ c.greater (number_code u) (number_code v)
unfolding truth_code
truth_code-Greater u v = refl

pub truth_code-GreaterEq : (u v : NumberCode) → truth_code (t.GreaterEq u v) ≡ c.greater_equal (number_code u) (number_code v)
unfolding truth_code
truth_code-GreaterEq u v = refl

pub ruleset name_steps = (plain-name, fits-FreeObject, tree-FreeObject, fits-FreeNumber, tree-FreeNumber, fits-FreeTruth, tree-FreeTruth, fits-FreeField, tree-FreeField)

pub ruleset object_steps = (object_code-Null, object_code-This, object_code-Name, object_code-Read, fits-Null, tree-Null, fits-ReadObject, tree-ReadObject)

pub ruleset number_steps = (number_code-Const, number_code-Name, number_code-Read, number_code-Add, number_code-Sub, number_code-Minus, number_code-Times, fits-Const, tree-Const, fits-ReadNumber, tree-ReadNumber, fits-Add, tree-Add, fits-Sub, tree-Sub, fits-Neg, tree-Neg, fits-Scale, tree-Scale)

pub ruleset truth_steps = (truth_code-Literal, truth_code-Name, truth_code-Read, truth_code-Not, truth_code-And, truth_code-Or, truth_code-SameObject, truth_code-SameNumber, truth_code-SameTruth, truth_code-Less, truth_code-LessEq, truth_code-Greater, truth_code-GreaterEq, fits-True, tree-True, fits-False, tree-False, fits-ReadTruth, tree-ReadTruth, fits-Negation, tree-Negation, fits-And, tree-And, fits-Or, tree-Or, fits-Iff, tree-Iff, fits-EqObject, tree-EqObject, fits-EqNumber, tree-EqNumber, fits-Less, tree-Less, fits-LessEqual, tree-LessEqual)
