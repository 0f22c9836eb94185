-- Names of a list without equal ones: each stands at one place.
use Rattle.std.proofs.Common.{rules, ◌≡◌, refl, sym, ap, ◌∙◌, ℕ, zero, suc, ◌<◌, Bool, true, false, if◌then◌else◌, ◌==◌, List, [], ◌∷◌, ◌++◌, length, get_or, slice_get, Some, position, arith}
use Rattle.std.specs.List.{IsDistinct, list_any}
use Rattle.indexmap.specs.IndexSet.{insert_key}
use Rattle.std.proofs.lemmas.List.Quantifiers.{position-Some}
use Rattle.std.proofs.lemmas.Bool.{true≢false}
use Rattle.std.proofs.lemmas.Bool.Decides.{nat_tests}
use Rattle.std.proofs.lemmas.Option.{slice_get_within, get_or_from_slice_get, slice_get-get_or}
use Rattle.std.proofs.lemmas.Map.Keys.{apart_from_distinct, IsDistinct-tail}
use Rattle.jh_name.specs.declared.naming.Name.{Name}
use Rattle.jh_name.specs.contracts.naming.NamePartialEq.TheImpl as name
use Rattle.jh_form.specs.Passing.{name_equal}
use Rattle.jh_form.proofs.Names.{name_equal-same, name_equal-true}
use Rattle.jh_store.specs.memory.Held.{place, AreApart}
use Rattle.jh_store.proofs.memory.Puts.{same-number}

-- a name's first place holds the name
pub place-holds : (names : List Name) (x : Name) → place names x < length names → slice_get names (place names x) ≡ Some x
unfolding place
place-holds [] x lt = absurd (omega arith)
place-holds (y ∷ ys) x lt = by (λ h. place-holds ys x h) (name_equal x y) refl lt
  where
    by : (place ys x < length ys → slice_get ys (place ys x) ≡ Some x) → (t : Bool) → name_equal x y ≡ t → (if t then 0 else suc (place ys x)) < suc (length ys) → slice_get (y ∷ ys) (if t then 0 else suc (place ys x)) ≡ Some x
    by rest true e h = ap (λ z. Some z) (sym (name_equal-true x y e))
    by rest false e h = rest (omega arith)

-- where no name stands twice, only the name of a place stands there
pub place_is : (names : List Name) (i : ℕ) (x : Name) → AreApart names → slice_get names i ≡ Some x → (y : Name) → (place names y == i) ≡ name_equal y x
place_is names i x apart at y = by (name_equal y x) refl
  where
    there : (t : Bool) → name_equal y x ≡ t → t ≡ true → (place names y == i) ≡ true
    there t e h =
        let same : y ≡ x = name_equal-true y x (e ∙ h) in
        let here : place names y ≡ i = ap (place names) same ∙ apart i x at in
        grind (arith, nat_tests)

    other : (t : Bool) → (place names y == i) ≡ t → name_equal y x ≡ false → (place names y == i) ≡ false
    other false h e = h
    other true h e =
        let here : place names y ≡ i = same-number (place names y) i h in
        let within : i < length names = slice_get_within names i x at in
        let holds : slice_get names i ≡ Some y = ap (slice_get names) (sym here) ∙ place-holds names y (omega arith) in
        let same : x ≡ y = cc in
        absurd (true≢false (sym (name_equal-same y x (sym same)) ∙ e))

    by : (t : Bool) → name_equal y x ≡ t → (place names y == i) ≡ t
    by true e = there true e refl
    by false e = other (place names y == i) refl e

none-before : (y : Name) (ys : List Name) (i : ℕ) (x : Name) → IsDistinct name.ghosts.eq (y ∷ ys) → slice_get ys i ≡ Some x → name.ghosts.eq y x ≡ false
none-before y ys i x apart at =
    let within : i < length ys = slice_get_within ys i x at in
    let here : get_or ys i x ≡ x = get_or_from_slice_get ys i x x at in
    ap (name.ghosts.eq y) (sym here) ∙ apart_from_distinct name.ghosts.eq (y ∷ ys) 0 (suc i) x apart (omega arith) (omega arith)

name-eq-same : (x : Name) → name.ghosts.eq x x ≡ true
name-eq-same x = search rules

-- names without equal ones are apart
pub are_apart : (names : List Name) → IsDistinct name.ghosts.eq names → AreApart names
unfolding place
are_apart [] apart i x at = cc
are_apart (y ∷ ys) apart zero x at = let e : x ≡ y = cc in rw (name_equal-same x y e) refl
are_apart (y ∷ ys) apart (suc i) x at = by (name_equal x y) refl (are_apart ys (IsDistinct-tail name.ghosts.eq y ys apart) i x at)
  where
    by : (t : Bool) → name_equal x y ≡ t → place ys x ≡ i → (if t then 0 else suc (place ys x)) ≡ suc i
    by false e rest = ap suc rest
    by true e rest =
        let same : x ≡ y = name_equal-true x y e in
        let no : name.ghosts.eq y x ≡ false = none-before y ys i x apart at in
        absurd (true≢false (sym (name-eq-same y) ∙ ap (name.ghosts.eq y) (sym same) ∙ no))

name-eq-true : (x y : Name) → name.ghosts.eq x y ≡ true → x ≡ y
name-eq-true x y h = search rules

-- a name that is found stands where it was found
pub found-there : (names : List Name) (x : Name) (i : ℕ) → Some i ≡ position (name.ghosts.eq x) names → slice_get names i ≡ Some x
found-there names x i h =
    let all = position-Some (name.ghosts.eq x) names i x (sym h) in
    let same : x ≡ get_or names i x = name-eq-true x (get_or names i x) all.1 in
    slice_get-get_or names i x all.0 ∙ ap (λ z. Some z) (sym same)

-- names stay where they are when another is put in
pub stays : (names : List Name) (y : Name) (i : ℕ) (x : Name) → slice_get names i ≡ Some x → slice_get (insert_key name.ghosts.eq names y) i ≡ Some x
stays names y i x at = by (list_any (name.ghosts.eq y) names)
  where
    by : (t : Bool) → slice_get (if t then names else names ++ (y ∷ [])) i ≡ Some x
    by true = at
    by false = ahead names i at
      where
        ahead : (zs : List Name) (k : ℕ) → slice_get zs k ≡ Some x → slice_get (zs ++ (y ∷ [])) k ≡ Some x
        ahead [] k h = cc
        ahead (z ∷ zs) zero h = h
        ahead (z ∷ zs) (suc k) h = ahead zs k h
