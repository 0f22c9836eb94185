-- What the tests of equality of names, labels and lists say, and where a key stands in a list without
-- equal ones.
use Rattle.std.proofs.Common.{◌≡◌, refl, sym, ap, ◌∙◌, ℕ, zero, suc, ◌<◌, ◌≤◌, Bool, true, false, ◌&&◌, List, [], ◌∷◌, length, slice_get, Some, None, nat_eq, nat_lt, not, cond, get_or, position, rules, arith}
use Rattle.std.specs.Prelude.{Option}
use Rattle.std.specs.Bool.{Decides}
use Rattle.std.specs.List.{IsDistinct, position_or_len}
use Rattle.std.specs.Cmp.Lexicographic.{pointwise, pointwise_decides}
use Rattle.std.specs.Option.{option_eq}
use Rattle.std.proofs.lemmas.Bool.{true≢false, ltb-true, ltb-false}
use Rattle.std.proofs.lemmas.Option.{slice_get_within, get_or_from_slice_get, slice_get-get_or}
use Rattle.std.proofs.lemmas.List.Sums.{position_or_len_is, passes_at_first, prefix_len-le-length}
use Rattle.std.proofs.lemmas.Map.Keys.{apart_from_distinct}
use Rattle.jh_boxed.specs.jh_name.declared.naming.Name.{Name}
use Rattle.jh_boxed.specs.jh_name.contracts.naming.NamePartialEq.TheImpl as name
use Rattle.jh_form.specs.declared.mark.Mark.{Mark}
use Rattle.jh_boxed.specs.jh_name.declared.place.Place.{Place}
use Rattle.jh_boxed.specs.jh_name.contracts.place.PlacePartialEq.TheImpl as place
use Rattle.jh_form.proofs.ClosedLemmas.{both-left, both-right}
use Rattle.jh_form.specs.declared.mark.MarkKind.{MarkKind}
use Rattle.jh_form.specs.declared.mark.MarkKind.TheVariants as k
use Rattle.jh_form.specs.contracts.mark.MarkKindPartialEq.TheImpl as kind
use Rattle.jh_form.specs.contracts.mark.MarkPartialEq.TheImpl as mark

pub name_eq-true : (x y : Name) → name.ghosts.eq x y ≡ true → x ≡ y
name_eq-true x y h = search rules

pub name_eq-same : (x : Name) → name.ghosts.eq x x ≡ true
name_eq-same x = search rules

kind_eq-true : (x y : MarkKind) → kind.ghosts.eq x y ≡ true → x ≡ y
kind_eq-true k.Null k.Null h = refl
kind_eq-true k.Null _ h = absurd (true≢false (sym h))
kind_eq-true k.Pre k.Pre h = refl
kind_eq-true k.Pre _ h = absurd (true≢false (sym h))
kind_eq-true k.Post k.Post h = refl
kind_eq-true k.Post _ h = absurd (true≢false (sym h))
kind_eq-true k.Inv k.Inv h = refl
kind_eq-true k.Inv _ h = absurd (true≢false (sym h))
kind_eq-true k.LoopEntry k.LoopEntry h = refl
kind_eq-true k.LoopEntry _ h = absurd (true≢false (sym h))
kind_eq-true k.LoopKept k.LoopKept h = refl
kind_eq-true k.LoopKept _ h = absurd (true≢false (sym h))
kind_eq-true k.Frame k.Frame h = refl
kind_eq-true k.Frame _ h = absurd (true≢false (sym h))
kind_eq-true k.Assert k.Assert h = refl
kind_eq-true k.Assert _ h = absurd (true≢false (sym h))
kind_eq-true k.Note k.Note h = refl
kind_eq-true k.Note _ h = absurd (true≢false (sym h))
kind_eq-true k.Fact k.Fact h = refl
kind_eq-true k.Fact _ h = absurd (true≢false (sym h))

kind_eq-same : (x : MarkKind) → kind.ghosts.eq x x ≡ true
kind_eq-same k.Null = refl
kind_eq-same k.Pre = refl
kind_eq-same k.Post = refl
kind_eq-same k.Inv = refl
kind_eq-same k.LoopEntry = refl
kind_eq-same k.LoopKept = refl
kind_eq-same k.Frame = refl
kind_eq-same k.Assert = refl
kind_eq-same k.Note = refl
kind_eq-same k.Fact = refl

place_eq-true : (x y : Place) → place.ghosts.eq x y ≡ true → x ≡ y
place_eq-true x y h = search rules

place_eq-same : (x : Place) → place.ghosts.eq x x ≡ true
place_eq-same x = search rules

name_eq-decides : (x y : Name) → Decides (name.ghosts.eq x y) (x ≡ y)
name_eq-decides x y = (name_eq-true x y, λ e. ap (name.ghosts.eq x) (sym e) ∙ name_eq-same x)

names_eq-decides : (xs ys : List Name) → Decides (pointwise name.ghosts.eq xs ys) (xs ≡ ys)
names_eq-decides xs ys = pointwise_decides name_eq-decides xs ys

optional_eq-true : (x y : Option Name) → option_eq name.ghosts.eq x y ≡ true → x ≡ y
optional_eq-true None None h = refl
optional_eq-true (Some x) (Some y) h = ap (λ z. Some z) (name_eq-true x y h)
optional_eq-true None (Some y) h = absurd (true≢false (sym h))
optional_eq-true (Some x) None h = absurd (true≢false (sym h))

optional_eq-same : (x : Option Name) → option_eq name.ghosts.eq x x ≡ true
optional_eq-same None = refl
optional_eq-same (Some x) = name_eq-same x

pub mark_eq-true : (x y : Mark) → mark.ghosts.eq x y ≡ true → x ≡ y
mark_eq-true x y h =
    let q = kind.ghosts.eq x.kind y.kind in
    let p = place.ghosts.eq x.place y.place in
    let n = option_eq name.ghosts.eq x.name y.name in
    let f = pointwise name.ghosts.eq x.from y.from in
    let rest : (p && (n && f)) ≡ true = both-right q (p && (n && f)) h in
    let last : (n && f) ≡ true = both-right p (n && f) rest in
    let ek = kind_eq-true x.kind y.kind (both-left q (p && (n && f)) h) in
    let ep = place_eq-true x.place y.place (both-left p (n && f) rest) in
    let en = optional_eq-true x.name y.name (both-left n f last) in
    let ef = (names_eq-decides x.from y.from).0 (both-right n f last) in
    λ i. record { kind = ek i; place = ep i; name = en i; from = ef i }

pub mark_eq-same : (x : Mark) → mark.ghosts.eq x x ≡ true
mark_eq-same x = λ i. kind_eq-same x.kind i && (place_eq-same x.place i && (optional_eq-same x.name i && (names_eq-decides x.from x.from).1 refl i))

pub nat_eq-decides : (x y : ℕ) → Decides (nat_eq x y) (x ≡ y)
nat_eq-decides x y = search rules

pub list_eq-true : (x y : List ℕ) → pointwise nat_eq x y ≡ true → x ≡ y
list_eq-true x y h = (pointwise_decides nat_eq-decides x y).0 h

pub list_eq-same : (x : List ℕ) → pointwise nat_eq x x ≡ true
list_eq-same x = (pointwise_decides nat_eq-decides x x).1 refl

-- where `eq` says true of each key and itself and of no two others
module _ {K : Type 0} (eq : K → K → Bool) (same : (x y : K) → eq x y ≡ true → x ≡ y) (itself : (x : K) → eq x x ≡ true) where
  pub flips : (x y : K) → eq y x ≡ false → eq x y ≡ false
  flips x y h = by (eq x y) refl
    where
      by : (b : Bool) → eq x y ≡ b → eq x y ≡ false
      by false e = e
      by true e = absurd (true≢false (sym (itself x) ∙ ap (λ z. eq z x) (same x y e) ∙ h))

  pub position-is : (xs : List K) (n : ℕ) (x : K) → IsDistinct eq xs → slice_get xs n ≡ Some x → position_or_len (eq x) xs ≡ n
  position-is xs n x apart h =
      let within : n < length xs = slice_get_within xs n x h in
      let at : get_or xs n x ≡ x = get_or_from_slice_get xs n x x h in
      position_or_len_is (eq x) xs n x (omega arith)
      (λ k lt. flips x (get_or xs k x) (ap (λ z. eq (get_or xs k x) z) (sym at) ∙ apart_from_distinct eq xs k n x apart lt within))
      (λ lt. ap (eq x) at ∙ itself x)

  pub position-holds : (xs : List K) (n : ℕ) (x : K) → position_or_len (eq x) xs ≡ n → n < length xs → slice_get xs n ≡ Some x
  position-holds xs n x e within =
      let place : position_or_len (eq x) xs < length xs = omega arith in
      let is : x ≡ get_or xs n x = same x (get_or xs n x) (ap (λ k. eq x (get_or xs k x)) (sym e) ∙ passes_at_first (eq x) xs x place) in
      slice_get-get_or xs n x within ∙ ap (λ v. Some v) (sym is)

  pub position-found : (xs : List K) (n : ℕ) (x : K) → Some n ≡ position (eq x) xs → slice_get xs n ≡ Some x
  position-found xs n x h = by (nat_lt (position_or_len (eq x) xs) (length xs)) refl h
    where
      by : (b : Bool) → nat_lt (position_or_len (eq x) xs) (length xs) ≡ b → Some n ≡ cond b (Some (position_or_len (eq x) xs)) None → slice_get xs n ≡ Some x
      by true e k =
          let at : position_or_len (eq x) xs ≡ n = cc in
          let within : position_or_len (eq x) xs < length xs = ltb-true (position_or_len (eq x) xs) (length xs) e in
          position-holds xs n x at (omega arith)
      by false e k = cc

  -- a key that is not found has the length for its position
  pub position-none : (xs : List K) (x : K) → None ≡ position (eq x) xs → position_or_len (eq x) xs ≡ length xs
  position-none xs x h = by (nat_lt (position_or_len (eq x) xs) (length xs)) refl h
    where
      by : (b : Bool) → nat_lt (position_or_len (eq x) xs) (length xs) ≡ b → None ≡ cond b (Some (position_or_len (eq x) xs)) None → position_or_len (eq x) xs ≡ length xs
      by true e k = cc
      by false e k =
          let past : length xs ≤ position_or_len (eq x) xs = ltb-false (position_or_len (eq x) xs) (length xs) e in
          omega (arith, prefix_len-le-length (λ y. not (eq x y)) xs)

  -- a key that stands in the list has a position in it
  pub position-reaches : (xs : List K) (n : ℕ) (x : K) → slice_get xs n ≡ Some x → position_or_len (eq x) xs < length xs
  position-reaches [] n x h = cc
  position-reaches (y ∷ ys) zero x h =
      let here : eq x y ≡ true = ap (eq x) (let e : y ≡ x = cc in e) ∙ itself x in
      rw here (omega arith)
  position-reaches (y ∷ ys) (suc n) x h = by (eq x y) refl (position-reaches ys n x h)
    where
      by : (b : Bool) → eq x y ≡ b → position_or_len (eq x) ys < length ys → position_or_len (eq x) (y ∷ ys) < length (y ∷ ys)
      by true e rest = rw e (omega arith)
      by false e rest = rw e (omega arith)

  pub stands-not : (xs : List K) (n : ℕ) (x : K) → None ≡ position (eq x) xs → slice_get xs n ≡ Some x → ⊥
  stands-not xs n x none h =
      let past : position_or_len (eq x) xs ≡ length xs = position-none xs x none in
      let within : position_or_len (eq x) xs < length xs = position-reaches xs n x h in
      absurd (omega arith)
