-- Which expression of `jh_semantics` one over numbers of names is, and that its numbers are those of names at turn 0.
use Rattle.std.specs.Prelude.{◌≡◌, ℕ, List, [], Some, slice_get}
use Rattle.std.specs.Option.{option_map_or}
use Rattle.jh_name.specs.declared.naming.Name.{Name}
use Rattle.jh_semantics.specs.Code as c
use Rattle.jh_semantics.specs.State.{named, this_name}
use Rattle.jh_operands.specs.declared.exprs.ObjectExpr.{ObjectExpr}
use Rattle.jh_operands.specs.declared.exprs.ObjectExpr.TheVariants as x
use Rattle.jh_operands.specs.declared.exprs.NumberExpr.{NumberExpr}
use Rattle.jh_operands.specs.declared.exprs.NumberExpr.TheVariants as n
use Rattle.jh_operands.specs.declared.exprs.TruthExpr.{TruthExpr}
use Rattle.jh_operands.specs.declared.exprs.TruthExpr.TheVariants as t
use Rattle.jh_operands.specs.declared.exprs.AnyExpr.{AnyExpr}
use Rattle.jh_operands.specs.declared.exprs.AnyExpr.TheVariants as a

module _ (names : List Name) where
  -- the text of the name of a number
  abbrev pub text_at : ℕ → c.Text
  text_at k = option_map_or (λ (y : Name). y.text) (slice_get names k) []

  -- a number is that of a name at turn 0
  abbrev pub IsPlain : ℕ → Type 0
  IsPlain k = slice_get names k ≡ Some (named (text_at k))

  unfoldable pub object_in : ObjectExpr → c.ObjectCode
  object_in x.Null = c.null
  object_in (x.This k) = c.this
  object_in (x.Name k) = c.object (text_at k)
  object_in (x.Read' k i r q) = c.read_object (text_at k) (object_in r) q

  unfoldable pub number_in : NumberExpr → c.NumberCode
  number_in (n.Const z) = c.const z
  number_in (n.Name k) = c.number (text_at k)
  number_in (n.Read k r q) = c.read_number (text_at k) (object_in r) q
  number_in (n.Add' q i u j v) = c.add q (number_in u) (number_in v)
  number_in (n.Sub' q i u j v) = c.sub q (number_in u) (number_in v)
  number_in (n.Minus' q i u) = c.minus q (number_in u)
  number_in (n.Times' q z i u) = c.times q z (number_in u)

  unfoldable pub truth_in : TruthExpr → c.TruthCode
  truth_in (t.Literal b) = c.literal b
  truth_in (t.Name k) = c.truth (text_at k)
  truth_in (t.Read k r q) = c.read_truth (text_at k) (object_in r) q
  truth_in (t.Not' i u) = c.negation (truth_in u)
  truth_in (t.And' i u j v) = c.both (truth_in u) (truth_in v)
  truth_in (t.Or' i u j v) = c.either (truth_in u) (truth_in v)
  truth_in (t.SameObject u v) = c.same_object (object_in u) (object_in v)
  truth_in (t.SameNumber u v) = c.same_number (number_in u) (number_in v)
  truth_in (t.SameTruth' i u j v) = c.same_truth (truth_in u) (truth_in v)
  truth_in (t.Less u v) = c.less (number_in u) (number_in v)
  truth_in (t.LessEq u v) = c.less_equal (number_in u) (number_in v)
  truth_in (t.Greater u v) = c.greater (number_in u) (number_in v)
  truth_in (t.GreaterEq u v) = c.greater_equal (number_in u) (number_in v)

  unfoldable pub any_in : AnyExpr → c.AnyCode
  any_in (a.Object u) = c.an_object (object_in u)
  any_in (a.Number u) = c.a_number (number_in u)
  any_in (a.Truth u) = c.a_truth (truth_in u)

  -- all numbers in an expression are those of names
  unfoldable pub ObjectFits : ObjectExpr → Type 0
  ObjectFits x.Null = Unit {0}
  ObjectFits (x.This k) = slice_get names k ≡ Some this_name
  ObjectFits (x.Name k) = IsPlain k
  ObjectFits (x.Read' k i r q) = IsPlain k × ObjectFits r

  unfoldable pub NumberFits : NumberExpr → Type 0
  NumberFits (n.Const z) = Unit {0}
  NumberFits (n.Name k) = IsPlain k
  NumberFits (n.Read k r q) = IsPlain k × ObjectFits r
  NumberFits (n.Add' q i u j v) = NumberFits u × NumberFits v
  NumberFits (n.Sub' q i u j v) = NumberFits u × NumberFits v
  NumberFits (n.Minus' q i u) = NumberFits u
  NumberFits (n.Times' q z i u) = NumberFits u

  unfoldable pub TruthFits : TruthExpr → Type 0
  TruthFits (t.Literal b) = Unit {0}
  TruthFits (t.Name k) = IsPlain k
  TruthFits (t.Read k r q) = IsPlain k × ObjectFits r
  TruthFits (t.Not' i u) = TruthFits u
  TruthFits (t.And' i u j v) = TruthFits u × TruthFits v
  TruthFits (t.Or' i u j v) = TruthFits u × TruthFits v
  TruthFits (t.SameObject u v) = ObjectFits u × ObjectFits v
  TruthFits (t.SameNumber u v) = NumberFits u × NumberFits v
  TruthFits (t.SameTruth' i u j v) = TruthFits u × TruthFits v
  TruthFits (t.Less u v) = NumberFits u × NumberFits v
  TruthFits (t.LessEq u v) = NumberFits u × NumberFits v
  TruthFits (t.Greater u v) = NumberFits u × NumberFits v
  TruthFits (t.GreaterEq u v) = NumberFits u × NumberFits v

  unfoldable pub AnyFits : AnyExpr → Type 0
  AnyFits (a.Object u) = ObjectFits u
  AnyFits (a.Number u) = NumberFits u
  AnyFits (a.Truth u) = TruthFits u
