-- What code stands for, without memory.
use Rattle.jh_semantics.specs.Code as c
use Rattle.jh_semantics.specs.declared.typed_code.code.ObjectCode.{ObjectCode}
use Rattle.jh_semantics.specs.declared.typed_code.code.ObjectCode.TheVariants as x
use Rattle.jh_semantics.specs.declared.typed_code.code.NumberCode.{NumberCode}
use Rattle.jh_semantics.specs.declared.typed_code.code.NumberCode.TheVariants as n
use Rattle.jh_semantics.specs.declared.typed_code.code.TruthCode.{TruthCode}
use Rattle.jh_semantics.specs.declared.typed_code.code.TruthCode.TheVariants as t
use Rattle.jh_semantics.specs.declared.typed_code.code.AnyCode.{AnyCode}
use Rattle.jh_semantics.specs.declared.typed_code.code.AnyCode.TheVariants as a

unfoldable pub object_code : ObjectCode → c.ObjectCode
object_code x.Null = c.null
object_code x.This = c.this
object_code (x.Name y) = c.object y.text
object_code (x.Read' f i r q) = c.read_object f.text (object_code r) q

unfoldable pub number_code : NumberCode → c.NumberCode
number_code (n.Const z) = c.const z
number_code (n.Name y) = c.number y.text
number_code (n.Read f r q) = c.read_number f.text (object_code r) q
number_code (n.Add' q i u j v) = c.add q (number_code u) (number_code v)
number_code (n.Sub' q i u j v) = c.sub q (number_code u) (number_code v)
number_code (n.Minus' q i u) = c.minus q (number_code u)
number_code (n.Times' q z i u) = c.times q z (number_code u)

unfoldable pub truth_code : TruthCode → c.TruthCode
truth_code (t.Literal b) = c.literal b
truth_code (t.Name y) = c.truth y.text
truth_code (t.Read f r q) = c.read_truth f.text (object_code r) q
truth_code (t.Not' i u) = c.negation (truth_code u)
truth_code (t.And' i u j v) = c.both (truth_code u) (truth_code v)
truth_code (t.Or' i u j v) = c.either (truth_code u) (truth_code v)
truth_code (t.SameObject u v) = c.same_object (object_code u) (object_code v)
truth_code (t.SameNumber u v) = c.same_number (number_code u) (number_code v)
truth_code (t.SameTruth' i u j v) = c.same_truth (truth_code u) (truth_code v)
truth_code (t.Less u v) = c.less (number_code u) (number_code v)
truth_code (t.LessEq u v) = c.less_equal (number_code u) (number_code v)
truth_code (t.Greater u v) = c.greater (number_code u) (number_code v)
truth_code (t.GreaterEq u v) = c.greater_equal (number_code u) (number_code v)

unfoldable pub any_code : AnyCode → c.AnyCode
any_code (a.Object u) = c.an_object (object_code u)
any_code (a.Number u) = c.a_number (number_code u)
any_code (a.Truth u) = c.a_truth (truth_code u)
