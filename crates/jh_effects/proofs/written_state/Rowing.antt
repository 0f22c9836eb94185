-- Rows, where a place is put at the end of one.
use Rattle.std.proofs.Common.{◌≡◌, refl, sym, ap, ◌∙◌, ℕ, ◌+◌, ◌-◌, ◌<◌, ◌≤◌, ◌||◌, Bool, true, false, if◌then◌else◌, nat_eq, List, [], ◌∷◌, ◌++◌, map, option_map, length, length-append, take, get_or, slice_get, slice_set, Option, Some, None, arith}
use Rattle.std.specs.List.{list_any}
use Rattle.std.specs.Option.{option_map_or}
use Rattle.std.specs.declared.alloc.Global.{Global}
use Rattle.std.specs.declared.vec.Vec.{Vec}
use Rattle.std.proofs.lemmas.Bool.Decides.{nat_tests}
use Rattle.std.proofs.lemmas.List.{take_more, take_all}
use Rattle.std.proofs.lemmas.List.Folds.{list_any-append}
use Rattle.std.proofs.lemmas.Option.{slice_get-map}
use Rattle.jh_containers.specs.transitive_closure.Spreads.{items_of, passed_to}
use Rattle.jh_containers.proofs.transitive_closure.Places.{set-here, set-other}
use Rattle.jh_effects.specs.written_state.Chosen.{ends_with, put_last}

pub same-test : (a b : ℕ) (t : Bool) → nat_eq a b ≡ t → t ≡ true → a ≡ b
same-test a b t e h = grind (arith, nat_tests)

pub other-test : (a b : ℕ) (t : Bool) → nat_eq a b ≡ t → t ≡ false → a ≡ b → ⊥
other-test a b t e h same = grind (arith, nat_tests)

pub nat-same : (a : ℕ) → nat_eq a a ≡ true
nat-same a = by (nat_eq a a) refl
  where
    by : (t : Bool) → nat_eq a a ≡ t → nat_eq a a ≡ true
    by true e = e
    by false e = absurd (other-test a a false e refl refl)

pub nat-other : (a b : ℕ) → (a ≡ b → ⊥) → nat_eq a b ≡ false
nat-other a b h = by (nat_eq a b) refl
  where
    by : (t : Bool) → nat_eq a b ≡ t → nat_eq a b ≡ false
    by true e = absurd (h (same-test a b true e refl))
    by false e = e

row-at : (rows : List (Vec ℕ Global)) (n : ℕ) → passed_to (map items_of rows) n ≡ option_map_or items_of (slice_get rows n) []
row-at rows n = ap (λ o. option_map_or (λ ms. ms) o []) (slice_get-map items_of rows n) ∙ by (slice_get rows n)
  where
    by : (o : Option (Vec ℕ Global)) → option_map_or (λ ms. ms) (option_map items_of o) [] ≡ option_map_or items_of o []
    by None = refl
    by (Some row) = refl

-- a place is put at the end of one row of all
module _ (rows : List (Vec ℕ Global)) (thing place : ℕ) (old new : Vec ℕ Global) (inside : thing < length rows) (there : slice_get rows thing ≡ Some old) (is : new.items ≡ put_last place old.items) where
  abbrev Before : ℕ → List ℕ
  Before n = passed_to (map items_of rows) n

  abbrev After : ℕ → List ℕ
  After n = passed_to (map items_of (slice_set rows thing new)) n

  here : After thing ≡ put_last place (Before thing)
  here =
      row-at (slice_set rows thing new) thing ∙ ap (λ o. option_map_or items_of o []) (set-here rows thing new inside) ∙ is
      ∙ ap (put_last place) (sym (row-at rows thing ∙ ap (λ o. option_map_or items_of o []) there))

  other : (n : ℕ) → (n ≡ thing → ⊥) → After n ≡ Before n
  other n h = row-at (slice_set rows thing new) n ∙ ap (λ o. option_map_or items_of o []) (set-other rows thing new n h) ∙ sym (row-at rows n)

  pub put-is : (n : ℕ) → After n ≡ (if nat_eq n thing then put_last place (Before n) else Before n)
  put-is n = by (nat_eq n thing) refl
    where
      by : (b : Bool) → nat_eq n thing ≡ b → After n ≡ (if b then put_last place (Before n) else Before n)
      by true e = let same = same-test n thing true e refl in ap After same ∙ here ∙ ap (λ m. put_last place (Before m)) (sym same)
      by false e = other n (other-test n thing false e refl)

-- rows that are all empty
pub rows-empty : (rows : List (Vec ℕ Global)) → ((i : ℕ) (row : Vec ℕ Global) → slice_get rows i ≡ Some row → row.items ≡ []) → (n : ℕ) → passed_to (map items_of rows) n ≡ []
rows-empty rows h n = row-at rows n ∙ by (slice_get rows n) refl
  where
    by : (o : Option (Vec ℕ Global)) → slice_get rows n ≡ o → option_map_or items_of o [] ≡ []
    by None e = refl
    by (Some row) e = h n row e

-- What is put at the end stands at the end.
last-stands : (row : List ℕ) (place : ℕ) → slice_get (row ++ place ∷ []) (length row) ≡ Some place
last-stands [] place = refl
last-stands (x ∷ row) place = last-stands row place

put-ends : (place : ℕ) (row : List ℕ) → ends_with place (row ++ place ∷ []) ≡ true
put-ends place row =
    let long : length (row ++ place ∷ []) - 1 ≡ length row = omega (arith, length-append row (place ∷ [])) in
    ap (λ i. option_map_or (nat_eq place) (slice_get (row ++ place ∷ []) i) false) long ∙ ap (λ o. option_map_or (nat_eq place) o false) (last-stands row place) ∙ nat-same place

pub put-twice : (place : ℕ) (row : List ℕ) → put_last place (put_last place row) ≡ put_last place row
put-twice place row = by (ends_with place row) refl
  where
    by : (b : Bool) → ends_with place row ≡ b → put_last place (if b then row else row ++ place ∷ []) ≡ (if b then row else row ++ place ∷ [])
    by true e = ap (λ b. if b then row else row ++ place ∷ []) e
    by false e = ap (λ b. if b then row ++ place ∷ [] else (row ++ place ∷ []) ++ place ∷ []) (put-ends place row)

-- a place is put once at the end of a row, however often
put-both : (place : ℕ) (row : List ℕ) (a b : Bool) → (if b then put_last place (if a then put_last place row else row) else (if a then put_last place row else row)) ≡ (if a || b then put_last place row else row)
put-both place row true true = put-twice place row
put-both place row true false = refl
put-both place row false true = refl
put-both place row false false = refl

or-false : (b : Bool) → (b || false) ≡ b
or-false true = refl
or-false false = refl

pub put-next : (place other : ℕ) (things : List ℕ) (i t d : ℕ) (first old new : List ℕ) → i < length things → t ≡ get_or things i d → old ≡ (if list_any (nat_eq other) (take i things) then put_last place first else first) → new ≡ (if nat_eq other t then put_last place old else old) →
    new ≡ (if list_any (nat_eq other) (take (i + 1) things) then put_last place first else first)
put-next place other things i t d first old new lt at was is =
    is ∙ ap (λ row. if nat_eq other t then put_last place row else row) was ∙ put-both place first (list_any (nat_eq other) (take i things)) (nat_eq other t)
    ∙ ap (λ b. if b then put_last place first else first) (sym any)
  where
    any : list_any (nat_eq other) (take (i + 1) things) ≡ (list_any (nat_eq other) (take i things) || nat_eq other t)
    any =
        ap (list_any (nat_eq other)) (take_more things i d lt ∙ ap (λ x. take i things ++ x ∷ []) (sym at))
        ∙ list_any-append (nat_eq other) (take i things) (t ∷ [])
        ∙ ap (λ b. list_any (nat_eq other) (take i things) || b) (or-false (nat_eq other t))

pub put-end : (place other : ℕ) (things : List ℕ) (i : ℕ) (first new : List ℕ) → length things ≤ i → new ≡ (if list_any (nat_eq other) (take i things) then put_last place first else first) → new ≡ (if list_any (nat_eq other) things then put_last place first else first)
put-end place other things i first new le is = is ∙ ap (λ xs. if list_any (nat_eq other) xs then put_last place first else first) (take_all i things le)
