-- What spreads over the numbers of keys is what arises, and stands at the places that are chosen.
use Rattle.std.proofs.Common.{◌≡◌, refl, sym, ap, subst, ◌∙◌, ◌⊎◌, inl, inr, ◌↔◌, ℕ, zero, suc, ◌<◌, ◌≤◌, ◌||◌, ◌&&◌, Bool, true, false, nat_eq, if◌then◌else◌, rules, List, [], ◌∷◌, ◌++◌, length, slice_get, Option, Some, None, arith}
use Rattle.std.specs.List.{list_any, IsDistinct}
use Rattle.std.specs.Option.{option_map_or}
use Rattle.std.proofs.lemmas.Bool.{true≢false}
use Rattle.std.proofs.lemmas.Map.Keys.{apart_from_distinct}
use Rattle.std.proofs.lemmas.Option.{slice_get_within, get_or_from_slice_get}
use Rattle.jh_containers.specs.declared.transitive_closure.facts.Fact.{Fact}
use Rattle.jh_containers.specs.transitive_closure.Spreads.{IsIn, Spreads, given, passed, passed_to}
use Rattle.jh_effects.specs.declared.written_state.flow.Key.{Key}
use Rattle.jh_effects.specs.declared.written_state.flow.Given.{Given}
use Rattle.jh_effects.specs.declared.written_state.flow.Link.{Link}
use Rattle.jh_effects.specs.contracts.written_state.flow.KeyPartialEq.TheImpl as key
use Rattle.jh_effects.specs.written_state.Arising as a
use Rattle.jh_effects.specs.written_state.Arising.{Arises, ArePlaces, AreTold, AreNumbers, passes_at}
use Rattle.jh_effects.specs.written_state.Chosen.{places_below, IsChosen}
use Rattle.jh_effects.proofs.written_state.Numbers.{told-of, told-from, number-at, numbers-long}
use Rattle.jh_effects.proofs.written_state.Rowing.{same-test, nat-same}

some-is : {X : Type 0} (x y : X) → Some x ≡ Some y → x ≡ y
some-is x y e = cc

pub key-true : (x y : Key) → key.ghosts.eq x y ≡ true → x ≡ y
key-true x y h = search rules

pub key-same : (x : Key) → key.ghosts.eq x x ≡ true
key-same x = search rules

either : (i j : ℕ) → (i < j) ⊎ (j ≤ i)
either zero zero = inr (omega arith)
either zero (suc j) = inl (omega arith)
either (suc i) zero = inr (omega arith)
either (suc i) (suc j) = next (either i j)
  where
    next : (i < j) ⊎ (j ≤ i) → (suc i < suc j) ⊎ (suc j ≤ suc i)
    next (inl l) = inl (omega arith)
    next (inr l) = inr (omega arith)

order : (i j : ℕ) → (i < j) ⊎ ((j < i) ⊎ (i ≡ j))
order i j = by (either i j) (either j i)
  where
    by : (i < j) ⊎ (j ≤ i) → (j < i) ⊎ (i ≤ j) → (i < j) ⊎ ((j < i) ⊎ (i ≡ j))
    by (inl l) _ = inl l
    by (inr l) (inl g) = inr (inl g)
    by (inr l) (inr g) = inr (inr (omega arith))

-- keys of which no two are equal stand once
apart : (keys : List Key) → IsDistinct key.ghosts.eq keys → (i j : ℕ) (x : Key) → i < j → slice_get keys i ≡ Some x → slice_get keys j ≡ Some x → ⊥
apart keys distinct i j x lt ei ej =
    true≢false
    (sym (key-same x) ∙ (λ t. key.ghosts.eq (sym (get_or_from_slice_get keys i x x ei) t) (sym (get_or_from_slice_get keys j x x ej) t))
    ∙ apart_from_distinct key.ghosts.eq keys i j x distinct lt (slice_get_within keys j x ej))

once : (keys : List Key) → IsDistinct key.ghosts.eq keys → (i j : ℕ) (x : Key) → slice_get keys i ≡ Some x → slice_get keys j ≡ Some x → i ≡ j
once keys distinct i j x ei ej = by (order i j)
  where
    by : (i < j) ⊎ ((j < i) ⊎ (i ≡ j)) → i ≡ j
    by (inl l) = absurd (apart keys distinct i j x l ei ej)
    by (inr (inl l)) = absurd (apart keys distinct j i x l ej ei)
    by (inr (inr s)) = s

any-is : {X : Type 0} (p : X → Bool) (xs : List X) → list_any p xs ≡ true → (x : X) × IsIn xs x × (p x ≡ true)
any-is p [] h = absurd (true≢false (sym h))
any-is p (x ∷ xs) h = by (p x) refl h (any-is p xs)
  where
    by : (b : Bool) → p x ≡ b → (b || list_any p xs) ≡ true → (list_any p xs ≡ true → (y : _) × IsIn xs y × (p y ≡ true)) → (y : _) × IsIn (x ∷ xs) y × (p y ≡ true)
    by true e g rest = (x, (0, refl), e)
    by false e g rest = let w = rest g in (w.0, (suc (w.1).0, (w.1).1), w.2)

is-any : {X : Type 0} (p : X → Bool) (xs : List X) (x : X) (i : ℕ) → slice_get xs i ≡ Some x → p x ≡ true → list_any p xs ≡ true
is-any p [] x zero e h = cc
is-any p [] x (suc i) e h = cc
is-any p (y ∷ xs) x zero e h = ap (λ b. b || list_any p xs) (ap p (some-is y x e) ∙ h)
is-any p (y ∷ xs) x (suc i) e h = by (p y) (is-any p xs x i e h)
  where
    by : (b : Bool) → list_any p xs ≡ true → (b || list_any p xs) ≡ true
    by true rest = refl
    by false rest = rest

both : (b c : Bool) → (b && c) ≡ true → (b ≡ true) × (c ≡ true)
both true c h = (refl, h)
both false c h = absurd (true≢false (sym h))

pub same-bool : (b c : Bool) → (b ≡ true → c ≡ true) → (c ≡ true → b ≡ true) → b ≡ c
same-bool true c f g = sym (f refl)
same-bool false true f g = g refl
same-bool false false f g = refl

pub places-same : (s t : ℕ → Bool) (n : ℕ) → ((j : ℕ) → j < n → s j ≡ t j) → places_below s n ≡ places_below t n
unfolding places_below
places-same s t zero h = refl
places-same s t (suc n) h =
    let here : s n ≡ t n = h n (omega arith) in
    let rest = places-same s t n (λ j lt. h j (omega arith)) in
    λ i. rest i ++ (if here i then n ∷ [] else [])

get-at : {X : Type 0} (xs : List X) (i : ℕ) → i < length xs → (x : X) × (slice_get xs i ≡ Some x)
get-at [] i lt = absurd (omega arith)
get-at (x ∷ xs) zero lt = (x, refl)
get-at (x ∷ xs) (suc i) lt = get-at xs i (omega arith)

-- what was spread has the numbers of what was given
pub spread-inside : (facts : List Fact) (edges : List (List ℕ)) (n : ℕ) → ((f : Fact) → IsIn facts f → f.what < n) → (f : Fact) → Spreads facts edges f → f.what < n
spread-inside facts edges n inside f (given _ h) = inside f h
spread-inside facts edges n inside _ (passed m f h s) = spread-inside facts edges n inside f s

module _ (keys : List Key) (facts : List Fact) (gs : List Given) (told : AreTold keys facts gs) (edges : List (List ℕ)) (links : List Link) (linked : (from to : ℕ) → IsIn (passed_to edges from) to ↔ IsIn links (record { from = from; to = to })) where
  arises-of : (f : Fact) → Spreads facts edges f → (x : Key) × (slice_get keys f.what ≡ Some x) × Arises gs links f.of x
  arises-of f (given _ h) = let w = told-of keys facts gs f told h in ((w.0).what, w.2, a.itself f.of (w.0).what (subst (λ (n : ℕ). IsIn gs (record { of = n; what = (w.0).what })) (sym w.3) w.1))
  arises-of _ (passed m f h s) = let w = arises-of f s in (w.0, w.1, a.passed f.of m w.0 ((linked f.of m).0 h) w.2)

  spreads-of : (n : ℕ) (x : Key) → Arises gs links n x → (k : ℕ) × (slice_get keys k ≡ Some x) × Spreads facts edges (record { of = n; what = k })
  spreads-of n x (a.itself _ _ h) =
      let w = told-from keys facts gs (record { of = n; what = x }) told h in
      ((w.0).what, w.2, subst (λ (m : ℕ). Spreads facts edges (record { of = m; what = (w.0).what })) w.3 (given (w.0) w.1))
  spreads-of n x (a.passed m _ _ h s) = let w = spreads-of m x s in (w.0, w.1, passed n (record { of = m; what = w.0 }) ((linked m n).1 h) w.2)

  module _ (spread : List Fact) (exact : (f : Fact) → IsIn spread f ↔ Spreads facts edges f) (n : ℕ) where
    pub spread-arises : (k : ℕ) (x : Key) → slice_get keys k ≡ Some x → IsIn spread (record { of = n; what = k }) → Arises gs links n x
    spread-arises k x at h =
        let s = arises-of (record { of = n; what = k }) ((exact (record { of = n; what = k })).0 h) in
        subst (λ (y : Key). Arises gs links n y) (some-is s.0 x (sym s.1 ∙ at)) s.2

    pub arises-spread : (x : Key) → Arises gs links n x → (k : ℕ) × (slice_get keys k ≡ Some x) × IsIn spread (record { of = n; what = k })
    arises-spread x h = let w = spreads-of n x h in (w.0, w.1, (exact (record { of = n; what = w.0 })).1 w.2)

-- facts that are exact for a thing, over the numbers of keys
module _ (keys : List Key) (distinct : IsDistinct key.ghosts.eq keys) (spread : List Fact) (n : ℕ) (holds : Key → Type 0)
    (sound : (k : ℕ) (x : Key) → slice_get keys k ≡ Some x → IsIn spread (record { of = n; what = k }) → holds x)
    (complete : (x : Key) → holds x → (k : ℕ) × (slice_get keys k ≡ Some x) × IsIn spread (record { of = n; what = k })) where
  -- whether a thing has a key
  abbrev is_of : Key → Fact → Bool
  is_of x f = nat_eq n f.of && option_map_or (key.ghosts.eq x) (slice_get keys f.what) false

  abbrev has : Key → Bool
  has x = list_any (is_of x) spread

  key-found : (x : Key) (o : Option Key) → option_map_or (key.ghosts.eq x) o false ≡ true → o ≡ Some x
  key-found x None h = absurd (true≢false (sym h))
  key-found x (Some y) h = ap Some (sym (key-true x y h))

  has-fact : (x : Key) → has x ≡ true → (k : ℕ) × (slice_get keys k ≡ Some x) × IsIn spread (record { of = n; what = k })
  has-fact x h =
      let w = any-is (is_of x) spread h in
      let s = both (nat_eq n (w.0).of) (option_map_or (key.ghosts.eq x) (slice_get keys (w.0).what) false) w.2 in
      let same : n ≡ (w.0).of = same-test n (w.0).of (nat_eq n (w.0).of) refl s.0 in
      ((w.0).what, key-found x (slice_get keys (w.0).what) s.1, subst (λ (m : ℕ). IsIn spread (record { of = m; what = (w.0).what })) (sym same) w.1)

  fact-has : (x : Key) (k : ℕ) → slice_get keys k ≡ Some x → IsIn spread (record { of = n; what = k }) → has x ≡ true
  fact-has x k at h = is-any (is_of x) spread (record { of = n; what = k }) h.0 h.1 (λ i. nat-same n i && (ap (λ o. option_map_or (key.ghosts.eq x) o false) at ∙ key-same x) i)

  has-holds : (x : Key) → has x ≡ true → holds x
  has-holds x h = let w = has-fact x h in sound w.0 x w.1 w.2

  holds-has : (x : Key) → holds x → has x ≡ true
  holds-has x h = let w = complete x h in fact-has x w.0 w.1 w.2

  pub places-are : (numbers : List ℕ) (list : List Key) (row : List ℕ) → AreNumbers keys numbers list → IsChosen spread numbers n row → ArePlaces holds list row
  places-are numbers list row are chosen = record {
    test = has;
    exact = λ x. (has-holds x, holds-has x);
    is = chosen.is ∙ ap (places_below chosen.test) (numbers-long keys numbers list are) ∙ places-same chosen.test (passes_at has list) (length list) same;
  }
    where
      same : (j : ℕ) → j < length list → chosen.test j ≡ passes_at has list j
      same j lt = by (get-at list j lt)
        where
          by : ((x : Key) × (slice_get list j ≡ Some x)) → chosen.test j ≡ passes_at has list j
          by w =
              let m = number-at keys numbers list j w.0 are w.1 in
              same-bool (chosen.test j) (has w.0)
              (λ t. fact-has w.0 m.0 m.2 ((chosen.exact j m.0 m.1).0 t))
              (λ t.
              let f = has-fact w.0 t in
              (chosen.exact j m.0 m.1).1 (subst (λ (k : ℕ). IsIn spread (record { of = n; what = k })) (once keys distinct f.0 m.0 w.0 f.1 m.2) f.2))
              ∙ sym (ap (λ o. option_map_or has o false) w.1)
