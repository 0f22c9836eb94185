-- The value of an expression in a state: a value, or Null at a place. Operands are taken from the left, and the first Null is the
-- answer; the right operand of `&&` and `||` is taken only where the left one doesn't decide.
use Rattle.std.specs.Prelude.{ℕ, zero, suc, ℤ, ◌+ℤ◌, ◌-ℤ◌, ◌*ℤ◌, neg_ℤ, int_lt, int_le, Bool, true, false, not, ◌==◌, if◌then◌else◌}
use Rattle.std.specs.Ordering.{int_eq}
use Rattle.jh_name.specs.declared.place.Place.{Place}
use Rattle.jh_form.specs.Meaning.{Datum, agree}
use Rattle.jh_form.specs.Meaning as m
use Rattle.jh_semantics.specs.Code.{ObjectCode, NumberCode, TruthCode, AnyCode}
use Rattle.jh_semantics.specs.Code as c
use Rattle.jh_semantics.specs.State.{State, named, this_name}

pub data Value (X : Type 0) : Type 0 where
  value : X → Value X
  null_at : Place → Value X

-- what comes of a value, unless it is Null
abbrev pub then_value : {X Y : Type 0} → Value X → (X → Value Y) → Value Y
then_value (value x) next = next x
then_value (null_at p) next = null_at p

-- The object of a receiver, which something is asked of, or Null at its place where it is null. `this` is never null.
abbrev pub dereferenced : ObjectCode → Place → ℕ → Value ℕ
dereferenced c.this p a = value a
dereferenced r p zero = null_at p
dereferenced r p (suc a) = value (suc a)

-- what a field has at a receiver
abbrev pub read_at : {X : Type 0} → ObjectCode → Place → Value ℕ → (ℕ → X) → Value X
read_at r p v f = then_value v (λ a. then_value (dereferenced r p a) (λ b. value (f b)))

abbrev pub object_of : ObjectCode → State → Value ℕ
object_of c.null s = value 0
object_of c.this s = value (s.object this_name)
object_of (c.object x) s = value (s.object (named x))
object_of (c.read_object f r p) s = read_at r p (object_of r s) (s.field (named f)).objects

-- both operands, from the left
abbrev pub both_values : {X Y : Type 0} → Value X → Value X → (X → X → Y) → Value Y
both_values a b joined = then_value a (λ x. then_value b (λ y. value (joined x y)))

abbrev pub number_of : NumberCode → State → Value ℤ
number_of (c.const z) s = value z
number_of (c.number x) s = value (s.number (named x))
number_of (c.read_number f r p) s = read_at r p (object_of r s) (s.field (named f)).numbers
number_of (c.add q a b) s = both_values (number_of a s) (number_of b s) (λ x y. x +ℤ y)
number_of (c.sub q a b) s = both_values (number_of a s) (number_of b s) (λ x y. x -ℤ y)
number_of (c.minus q a) s = then_value (number_of a s) (λ x. value (neg_ℤ x))
number_of (c.times q z a) s = then_value (number_of a s) (λ x. value (z *ℤ x))

abbrev pub truth_of : TruthCode → State → Value Bool
truth_of (c.literal b) s = value b
truth_of (c.truth x) s = value (s.truth (named x))
truth_of (c.read_truth f r p) s = read_at r p (object_of r s) (s.field (named f)).truths
truth_of (c.negation a) s = then_value (truth_of a s) (λ x. value (not x))
truth_of (c.both a b) s = then_value (truth_of a s) (λ x. if x then truth_of b s else value false)
truth_of (c.either a b) s = then_value (truth_of a s) (λ x. if x then value true else truth_of b s)
truth_of (c.same_object a b) s = both_values (object_of a s) (object_of b s) (λ x y. x == y)
truth_of (c.same_number a b) s = both_values (number_of a s) (number_of b s) (λ x y. int_eq x y)
truth_of (c.same_truth a b) s = both_values (truth_of a s) (truth_of b s) (λ x y. agree x y)
truth_of (c.less a b) s = both_values (number_of a s) (number_of b s) (λ x y. int_lt x y)
truth_of (c.less_equal a b) s = both_values (number_of a s) (number_of b s) (λ x y. int_le x y)
truth_of (c.greater a b) s = both_values (number_of a s) (number_of b s) (λ x y. int_lt y x)
truth_of (c.greater_equal a b) s = both_values (number_of a s) (number_of b s) (λ x y. int_le y x)

abbrev pub value_of : AnyCode → State → Value Datum
value_of (c.an_object a) s = then_value (object_of a s) (λ x. value (m.an_object x))
value_of (c.a_number a) s = then_value (number_of a s) (λ x. value (m.a_number x))
value_of (c.a_truth a) s = then_value (truth_of a s) (λ x. value (m.a_truth x))
