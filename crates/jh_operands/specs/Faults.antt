-- Why an expression has no value in a run, whose numbers are in `i64`.
use Rattle.std.specs.Prelude.{◌≡◌, ◌⊎◌, ℕ, zero, suc, ℤ, true, false, FitsSigned}
use Rattle.std.specs.Int.{w64}
use Rattle.jh_name.specs.declared.place.Place.{Place}
use Rattle.jh_semantics.specs.Code.{ObjectCode, NumberCode, TruthCode, AnyCode}
use Rattle.jh_semantics.specs.Code as c
use Rattle.jh_semantics.specs.State.{State}
use Rattle.jh_semantics.specs.Values.{Value, value, null_at, then_value, dereferenced, object_of, number_of, truth_of, value_of}
use Rattle.jh_operands.specs.declared.fault.Fault.{Fault}
use Rattle.jh_operands.specs.declared.fault.Fault.TheVariants as f

-- some value, and not Null
abbrev pub HasValue : {X : Type 0} → Value X → Type 0
HasValue {X} v = (x : X) × (v ≡ value x)

-- the arithmetic at a place has an exact value that is none of `i64`
abbrev pub IsBeyond : Place → Place → Value ℤ → Type 0
IsBeyond p q v = (p ≡ q) × ((z : ℤ) × (v ≡ value z) × (FitsSigned w64 z → ⊥))

-- The arithmetic at a place, in an expression, is taken in a state, and its exact value is none of `i64`. What is taken goes from the
-- left: the right operand only where the left one has a value, of `&&` and `||` only where the left one doesn't decide.
unfoldable pub NumberOverflows : Place → NumberCode → State → Type 0
NumberOverflows p (c.add q a b) s = IsBeyond p q (number_of (c.add q a b) s) ⊎ (NumberOverflows p a s ⊎ (HasValue (number_of a s) × NumberOverflows p b s))
NumberOverflows p (c.sub q a b) s = IsBeyond p q (number_of (c.sub q a b) s) ⊎ (NumberOverflows p a s ⊎ (HasValue (number_of a s) × NumberOverflows p b s))
NumberOverflows p (c.minus q a) s = IsBeyond p q (number_of (c.minus q a) s) ⊎ NumberOverflows p a s
NumberOverflows p (c.times q z a) s = IsBeyond p q (number_of (c.times q z a) s) ⊎ NumberOverflows p a s
NumberOverflows p (c.const z) s = ⊥
NumberOverflows p (c.number x) s = ⊥
NumberOverflows p (c.read_number x r q) s = ⊥

-- in one of two numbers
abbrev pub EitherOverflows : Place → NumberCode → NumberCode → State → Type 0
EitherOverflows p a b s = NumberOverflows p a s ⊎ (HasValue (number_of a s) × NumberOverflows p b s)

unfoldable pub TruthOverflows : Place → TruthCode → State → Type 0
TruthOverflows p (c.negation a) s = TruthOverflows p a s
TruthOverflows p (c.both a b) s = TruthOverflows p a s ⊎ ((truth_of a s ≡ value true) × TruthOverflows p b s)
TruthOverflows p (c.either a b) s = TruthOverflows p a s ⊎ ((truth_of a s ≡ value false) × TruthOverflows p b s)
TruthOverflows p (c.same_truth a b) s = TruthOverflows p a s ⊎ (HasValue (truth_of a s) × TruthOverflows p b s)
TruthOverflows p (c.same_number a b) s = EitherOverflows p a b s
TruthOverflows p (c.less a b) s = EitherOverflows p a b s
TruthOverflows p (c.less_equal a b) s = EitherOverflows p a b s
TruthOverflows p (c.greater a b) s = EitherOverflows p a b s
TruthOverflows p (c.greater_equal a b) s = EitherOverflows p a b s
TruthOverflows p (c.same_object a b) s = ⊥
TruthOverflows p (c.literal b) s = ⊥
TruthOverflows p (c.truth x) s = ⊥
TruthOverflows p (c.read_truth x r q) s = ⊥

unfoldable pub AnyOverflows : Place → AnyCode → State → Type 0
AnyOverflows p (c.an_object a) s = ⊥
AnyOverflows p (c.a_number a) s = NumberOverflows p a s
AnyOverflows p (c.a_truth a) s = TruthOverflows p a s

-- A fault is right: the value is Null at that place, or arithmetic overflows there.
unfoldable pub IsFault : {X : Type 0} → Value X → (Place → Type 0) → Fault → Type 0
IsFault v Overflows (f.Null p) = v ≡ null_at p
IsFault v Overflows (f.Overflow p) = Overflows p

abbrev pub Never : Place → Type 0
Never p = ⊥

-- what a receiver is, where it isn't null
abbrev pub receiver_of : ObjectCode → Place → State → Value ℕ
receiver_of r p s = then_value (object_of r s) (dereferenced r p)

-- an object that isn't null
abbrev pub unless_null : Place → ℕ → Value ℕ
unless_null p zero = null_at p
unless_null p (suc a) = value (suc a)

-- that a fault is that of an expression
abbrev pub ObjectFault : ObjectCode → State → Fault → Type 0
ObjectFault a s e = IsFault (object_of a s) Never e

abbrev pub NumberFault : NumberCode → State → Fault → Type 0
NumberFault a s e = IsFault (number_of a s) (λ p. NumberOverflows p a s) e

abbrev pub TruthFault : TruthCode → State → Fault → Type 0
TruthFault a s e = IsFault (truth_of a s) (λ p. TruthOverflows p a s) e

abbrev pub AnyFault : AnyCode → State → Fault → Type 0
AnyFault a s e = IsFault (value_of a s) (λ p. AnyOverflows p a s) e

-- that it is that of the first or the second of two numbers
abbrev pub TwoFault : NumberCode → NumberCode → State → Fault → Type 0
TwoFault a b s e = IsFault (then_value (number_of a s) (λ y. number_of b s)) (λ p. EitherOverflows p a b s) e

-- that it is that of a receiver
abbrev pub ReceiverFault : ObjectCode → Place → State → Fault → Type 0
ReceiverFault r p s e = IsFault (receiver_of r p s) Never e

-- that it is that of the first or the second of two objects
abbrev pub TwoObjectFault : ObjectCode → ObjectCode → State → Fault → Type 0
TwoObjectFault a b s e = IsFault (then_value (object_of a s) (λ y. object_of b s)) Never e
