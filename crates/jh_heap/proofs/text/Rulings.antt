-- What holds where a line breaks no rule.
use Rattle.std.proofs.Common.{◌≡◌, refl, sym, ap, ◌∙◌, arith, ℕ, suc, ◌==◌, ◌||◌, not, nat_lt, Bool, true, false, if◌then◌else◌, List, [], ◌∷◌, length, Option, Some, slice_get}
use Rattle.std.specs.List.{list_any}
use Rattle.std.specs.Option.{is_some}
use Rattle.std.proofs.lemmas.Bool.{true≢false, eqb-true}
use Rattle.jh_heap.specs.lines.Lines.{Value}
use Rattle.jh_heap.specs.text.Outlines.{Holder, Outline}
use Rattle.jh_heap.specs.text.Drafts.{Draft}
use Rattle.jh_heap.specs.text.Rules.{is_beyond, fits, strays, value_rule, least, broken, is_no_object, is_elsewhere, is_given, class_rule, static_rule, field_rule, field_place_rule, this_rule, argument_rule, may_be_this}

-- the lesser of two rules is none where both are
zero-not : (b : ℕ) → (b == 0) ≡ false → b ≡ 0 → ⊥
zero-not b f e = true≢false (sym (ap (λ x. x == 0) e) ∙ f)

least-first : (a b : ℕ) → least a b ≡ 0 → a ≡ 0
least-first a b h = by (a == 0) (b == 0) (nat_lt a b) refl refl h
  where
    by : (t u v : Bool) → (a == 0) ≡ t → (b == 0) ≡ u → (if t then b else (if u then a else (if v then a else b))) ≡ 0 → a ≡ 0
    by true u v e f h = eqb-true a 0 e
    by false true v e f h = h
    by false false true e f h = h
    by false false false e f h = absurd (zero-not b f h)

least-second : (a b : ℕ) → least a b ≡ 0 → b ≡ 0
least-second a b h = by (a == 0) (b == 0) (nat_lt a b) refl refl h
  where
    by : (t u v : Bool) → (a == 0) ≡ t → (b == 0) ≡ u → (if t then b else (if u then a else (if v then a else b))) ≡ 0 → b ≡ 0
    by true u v e f h = h
    by false true v e f h = eqb-true b 0 f
    by false false true e f h = absurd (zero-not a e h)
    by false false false e f h = h

-- a test whose rule isn't broken is false
if-none : (t : Bool) (n m : ℕ) → (if t then suc n else m) ≡ 0 → t ≡ false
if-none true n m h = absurd (omega (arith, h))
if-none false n m h = refl

-- no object of a value that breaks no rule is beyond the greatest
pub value_inside : (d : Draft) (slot : Option Holder) (v : Value) → value_rule d slot v ≡ 0 → (h : Holder) → slot ≡ Some h → is_beyond d.greatest h.kind v ≡ false
value_inside d slot v e h there = if-none (is_beyond d.greatest h.kind v) 0 (if not (fits h.kind v) then 4 else (if strays d h.type v then 5 else 0)) (ap (λ x. value_rule d x v) (sym there) ∙ e)

pub static_inside : (o : Outline) (d : Draft) (i : ℕ) (v : Value) → static_rule o d i v ≡ 0 → (h : Holder) → slice_get o.statics i ≡ Some h → is_beyond d.greatest h.kind v ≡ false
static_inside o d i v e = value_inside d (slice_get o.statics i) v (least-first (value_rule d (slice_get o.statics i) v) (broken (is_given d.statics i) 7) e)

pub argument_inside : (o : Outline) (d : Draft) (i : ℕ) (v : Value) → argument_rule o d i v ≡ 0 → (h : Holder) → slice_get o.params i ≡ Some h → is_beyond d.greatest h.kind v ≡ false
argument_inside o d i v e = value_inside d (slice_get o.params i) v (least-first (value_rule d (slice_get o.params i) v) (broken (is_given d.arguments i) 7) e)

-- a field at an object that breaks no rule has a value that breaks none
pub field_value : (o : Outline) (d : Draft) (i a : ℕ) (v : Value) → field_rule o d i a v ≡ 0 → value_rule d (slice_get o.fields i) v ≡ 0
field_value o d i a v e =
    least-first (value_rule d (slice_get o.fields i) v) (field_place_rule o d i a)
    (least-second (broken (nat_lt d.greatest a) 1) (least (value_rule d (slice_get o.fields i) v) (field_place_rule o d i a)) e)

any-beyond : (n : ℕ) (xs : List ℕ) → list_any (is_no_object n) xs ≡ false → list_any (nat_lt n) xs ≡ false
any-beyond n [] h = refl
any-beyond n (a ∷ xs) h = by (a == 0) (nat_lt n a) h (λ e. any-beyond n xs e)
  where
    by : (t u : Bool) → ((t || u) || list_any (is_no_object n) xs) ≡ false → (list_any (is_no_object n) xs ≡ false → list_any (nat_lt n) xs ≡ false) → (u || list_any (nat_lt n) xs) ≡ false
    by true u e more = absurd (true≢false e)
    by false true e more = absurd (true≢false e)
    by false false e more = more e

pub class_inside : (o : Outline) (d : Draft) (i : ℕ) (xs : List ℕ) → class_rule o d i xs ≡ 0 → list_any (nat_lt d.greatest) xs ≡ false
class_inside o d i xs e =
    any-beyond d.greatest xs (if-none (list_any (is_no_object d.greatest) xs) 0 (if list_any (is_elsewhere d.classes i) xs then 2 else (if i == length o.classes then 3 else broken (is_given d.classes i) 7)) e)

pub this_inside : (o : Outline) (d : Draft) (a : ℕ) → this_rule o d a ≡ 0 → nat_lt d.greatest a ≡ false
this_inside o d a e = if-none (nat_lt d.greatest a) 0 0 (least-first (broken (nat_lt d.greatest a) 1) (least (broken (is_some d.this) 7) (broken (not (may_be_this o d a)) 8)) e)
