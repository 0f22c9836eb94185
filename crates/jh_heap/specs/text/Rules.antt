-- Which rule a line of a heap text breaks: 1, an object beyond the greatest, or null in a class; 2, an object of two classes; 3, an unknown
-- class, static, field or parameter; 4, a value of another kind; 5, an object outside the type of what has it; 6, a field at an object
-- outside its class; 7, what was given before; 8, a `this` that isn't wanted or is outside its class. Of several the least.
use Rattle.std.specs.Prelude.{ℕ, suc, ◌==◌, ◌&&◌, ◌||◌, not, nat_lt, Bool, true, false, if◌then◌else◌, List, length, take, drop, Option, None, Some, slice_get}
use Rattle.std.specs.List.{list_any}
use Rattle.std.specs.Option.{option_map_or, is_some}
use Rattle.jh_name.specs.declared.place.Kind.{Kind}
use Rattle.jh_name.specs.declared.place.Kind.TheVariants as k
use Rattle.jh_rules.specs.declared.types.Ty.{Ty}
use Rattle.jh_rules.specs.declared.types.Ty.TheVariants as ty
use Rattle.jh_semantics.specs.Heaps.{Cell, is_in}
use Rattle.jh_heap.specs.lines.Lines.{Value, Line}
use Rattle.jh_heap.specs.lines.Lines as l
use Rattle.jh_heap.specs.text.Outlines.{Holder, Outline}
use Rattle.jh_heap.specs.text.Drafts.{Draft, place_of, texts_of, natural_in}

-- whether something was given at a place
abbrev pub is_given : {X : Type 0} → List (Option X) → ℕ → Bool
is_given given i = option_map_or is_some (slice_get given i) false

-- an object of the class of a number, of some class, and of a class other than that of a number
abbrev pub has_object : ℕ → Option (List ℕ) → Bool
has_object a given = option_map_or (is_in a) given false

abbrev pub is_of : List (Option (List ℕ)) → ℕ → ℕ → Bool
is_of classes i a = option_map_or (has_object a) (slice_get classes i) false

abbrev pub is_of_some : List (Option (List ℕ)) → ℕ → Bool
is_of_some classes a = list_any (has_object a) classes

abbrev pub is_elsewhere : List (Option (List ℕ)) → ℕ → ℕ → Bool
is_elsewhere classes i a = is_of_some (take i classes) a || is_of_some (drop (suc i) classes) a

-- an object lies in a type
abbrev pub lies_in : Draft → Ty → ℕ → Bool
lies_in d (ty.Class n) a = a == 0 || is_of d.classes n a
lies_in d ty.Object a = a == 0 || is_of_some d.classes a
lies_in d type a = true

-- a value has the kind that is asked for
abbrev pub fits : Kind → Value → Bool
fits k.Obj (l.number z) = is_some (natural_in z)
fits k.Int (l.number z) = true
fits k.Bool (l.truth_value b) = true
fits k.Set (l.objects xs) = true
fits kind v = false

abbrev pub is_obj : Kind → Bool
is_obj k.Obj = true
is_obj kind = false

-- an object of a value is beyond the greatest
abbrev pub is_beyond : ℕ → Kind → Value → Bool
is_beyond n kind (l.number z) = is_obj kind && option_map_or (nat_lt n) (natural_in z) false
is_beyond n kind (l.objects xs) = list_any (nat_lt n) xs
is_beyond n kind (l.truth_value b) = false

-- a value is an object outside its type
abbrev pub strays : Draft → Option Ty → Value → Bool
strays d (Some type) (l.number z) = option_map_or (λ a. not (lies_in d type a)) (natural_in z) false
strays d type v = false

-- The rule that a value breaks, 0 being none. A number is an object only where the kind says so, so of what is unknown only the objects
-- of sets are looked at.
abbrev pub value_rule : Draft → Option Holder → Value → ℕ
value_rule d None v = if is_beyond d.greatest k.Set v then 1 else 3
value_rule d (Some h) v =
    if is_beyond d.greatest h.kind v then 1 else (if not (fits h.kind v) then 4 else (if strays d h.type v then 5 else 0))

-- the lesser one of two rules, and a rule where a test says so
abbrev pub least : ℕ → ℕ → ℕ
least a b = if a == 0 then b else (if b == 0 then a else (if nat_lt a b then a else b))

abbrev pub broken : Bool → ℕ → ℕ
broken test rule = if test then rule else 0

-- no object of a class
abbrev pub is_no_object : ℕ → ℕ → Bool
is_no_object greatest a = a == 0 || nat_lt greatest a

-- whether a field was given at an object
abbrev pub is_field_given : List (List (Option Cell)) → ℕ → ℕ → Bool
is_field_given rows i a = option_map_or (λ row. is_given row a) (slice_get rows i) false

module _ (o : Outline) where
  abbrev pub class_rule : Draft → ℕ → List ℕ → ℕ
  class_rule d i xs =
      if list_any (is_no_object d.greatest) xs then 1
      else (if list_any (is_elsewhere d.classes i) xs then 2
      else (if i == length o.classes then 3 else broken (is_given d.classes i) 7))

  abbrev pub static_rule : Draft → ℕ → Value → ℕ
  static_rule d i v = least (value_rule d (slice_get o.statics i) v) (broken (is_given d.statics i) 7)

  -- whether an object is of the class of a field
  abbrev pub has_field : Draft → Option Holder → ℕ → Bool
  has_field d None a = false
  has_field d (Some h) a = is_of d.classes (place_of o.classes h.class) a

  abbrev pub field_place_rule : Draft → ℕ → ℕ → ℕ
  field_place_rule d i a = least (broken (not (has_field d (slice_get o.fields i) a)) 6) (broken (is_field_given d.fields i a) 7)

  abbrev pub field_rule : Draft → ℕ → ℕ → Value → ℕ
  field_rule d i a v = least (broken (nat_lt d.greatest a) 1) (least (value_rule d (slice_get o.fields i) v) (field_place_rule d i a))

  -- whether `this` is wanted, and of its class
  abbrev pub may_be_this : Draft → ℕ → Bool
  may_be_this d a = option_map_or (λ n. is_of d.classes n a) o.this false

  abbrev pub this_rule : Draft → ℕ → ℕ
  this_rule d a = least (broken (nat_lt d.greatest a) 1) (least (broken (is_some d.this) 7) (broken (not (may_be_this d a)) 8))

  abbrev pub argument_rule : Draft → ℕ → Value → ℕ
  argument_rule d i v = least (value_rule d (slice_get o.params i) v) (broken (is_given d.arguments i) 7)

  abbrev pub rule_of : Draft → Line → ℕ
  rule_of d (l.universe n) = 0
  rule_of d (l.class c xs) = class_rule d (place_of o.classes c) xs
  rule_of d (l.static_value x v) = static_rule d (place_of (texts_of o.statics) x) v
  rule_of d (l.field_value x a v) = field_rule d (place_of (texts_of o.fields) x) a v
  rule_of d (l.this a) = this_rule d a
  rule_of d (l.argument x v) = argument_rule d (place_of (texts_of o.params) x) v
