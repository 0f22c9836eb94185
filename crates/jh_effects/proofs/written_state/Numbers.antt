-- Keys by their numbers, as more keys get one.
use Rattle.std.proofs.Common.{◌≡◌, refl, sym, ap, ◌∙◌, ℕ, zero, suc, ◌<◌, List, [], ◌∷◌, ◌++◌, map, length, option_map, slice_get, Option, Some, None}
use Rattle.std.proofs.lemmas.List.{length-map}
use Rattle.std.proofs.lemmas.Option.{slice_get_within}
use Rattle.jh_containers.specs.declared.transitive_closure.facts.Fact.{Fact}
use Rattle.jh_containers.specs.transitive_closure.Spreads.{IsIn}
use Rattle.jh_effects.specs.declared.written_state.flow.Key.{Key}
use Rattle.jh_effects.specs.declared.written_state.flow.Given.{Given}
use Rattle.jh_effects.specs.written_state.Arising.{AreTold, AreNumbers, given_of}

some-is : {X : Type 0} (a b : X) → Some a ≡ Some b → a ≡ b
some-is a b e = cc

none-some : {X : Type 0} (a : X) → None ≡ Some a → ⊥
none-some a e = cc

head-is : {X : Type 0} (x y : X) (xs ys : List X) → x ∷ xs ≡ y ∷ ys → x ≡ y
head-is x y xs ys e = cc

tail-is : {X : Type 0} (x y : X) (xs ys : List X) → x ∷ xs ≡ y ∷ ys → xs ≡ ys
tail-is x y xs ys e = cc

map-append : {X Y : Type 0} (f : X → Y) (xs ys : List X) → map f (xs ++ ys) ≡ map f xs ++ map f ys
map-append f [] ys = refl
map-append f (x ∷ xs) ys = ap (λ zs. f x ∷ zs) (map-append f xs ys)

-- where each answer of f is one of g, what was answered stays
answers-stay : {X Y : Type 0} (f g : X → Option Y) → ((x : X) (y : Y) → f x ≡ Some y → g x ≡ Some y) → (xs : List X) (ys : List Y) → map f xs ≡ map (λ y. Some y) ys → map g xs ≡ map (λ y. Some y) ys
answers-stay f g stays [] [] e = refl
answers-stay f g stays [] (y ∷ ys) e = cc
answers-stay f g stays (x ∷ xs) [] e = cc
answers-stay f g stays (x ∷ xs) (y ∷ ys) e =
    let first = stays x y (head-is (f x) (Some y) (map f xs) (map (λ z. Some z) ys) e) in
    let rest = answers-stay f g stays xs ys (tail-is (f x) (Some y) (map f xs) (map (λ z. Some z) ys) e) in
    λ i. first i ∷ rest i

answers-push : {X Y : Type 0} (f : X → Option Y) (xs : List X) (ys : List Y) (x : X) (y : Y) → f x ≡ Some y → map f xs ≡ map (λ z. Some z) ys → map f (xs ++ x ∷ []) ≡ map (λ z. Some z) (ys ++ y ∷ [])
answers-push f xs ys x y here e = map-append f xs (x ∷ []) ∙ (λ i. e i ++ here i ∷ []) ∙ sym (map-append (λ z. Some z) ys (y ∷ []))

-- what is answered of one of a list is one of the other, and the other way round
answered : {X Y : Type 0} (f : X → Option Y) (xs : List X) (ys : List Y) (x : X) (i : ℕ) → map f xs ≡ map (λ z. Some z) ys → slice_get xs i ≡ Some x → (y : Y) × (slice_get ys i ≡ Some y) × (f x ≡ Some y)
answered f [] ys x zero e h = cc
answered f [] ys x (suc i) e h = cc
answered f (z ∷ xs) [] x i e h = cc
answered f (z ∷ xs) (y ∷ ys) x zero e h = (y, refl, ap f (sym (some-is z x h)) ∙ head-is (f z) (Some y) (map f xs) (map (λ v. Some v) ys) e)
answered f (z ∷ xs) (y ∷ ys) x (suc i) e h = answered f xs ys x i (tail-is (f z) (Some y) (map f xs) (map (λ v. Some v) ys) e) h

asked : {X Y : Type 0} (f : X → Option Y) (xs : List X) (ys : List Y) (y : Y) (i : ℕ) → map f xs ≡ map (λ z. Some z) ys → slice_get ys i ≡ Some y → (x : X) × (slice_get xs i ≡ Some x) × (f x ≡ Some y)
asked f xs [] y zero e h = cc
asked f xs [] y (suc i) e h = cc
asked f [] (z ∷ ys) y i e h = cc
asked f (x ∷ xs) (z ∷ ys) y zero e h = (x, refl, head-is (f x) (Some z) (map f xs) (map (λ v. Some v) ys) e ∙ h)
asked f (x ∷ xs) (z ∷ ys) y (suc i) e h = asked f xs ys y i (tail-is (f x) (Some z) (map f xs) (map (λ v. Some v) ys) e) h

given-cases : (of : ℕ) (o : Option Key) (g : Given) → option_map (λ (x : Key). record { of = of; what = x }) o ≡ Some g → (o ≡ Some g.what) × (of ≡ g.of)
given-cases of None g e = absurd (none-some g e)
given-cases of (Some x) g e = let same : record { of = of; what = x } ≡ g = some-is (record { of = of; what = x }) g e in (ap (λ (h : Given). Some h.what) same, ap (λ (h : Given). h.of) same)

module _ (keys : List Key) where
  pub given-is : (f : Fact) (g : Given) → given_of keys f ≡ Some g → (slice_get keys f.what ≡ Some g.what) × (f.of ≡ g.of)
  given-is f g e = given-cases f.of (slice_get keys f.what) g e

  pub told-push : (facts : List Fact) (given : List Given) (of what : ℕ) (x : Key) → slice_get keys what ≡ Some x → AreTold keys facts given → AreTold keys (facts ++ record { of = of; what = what } ∷ []) (given ++ record { of = of; what = x } ∷ [])
  told-push facts given of what x at e = answers-push (given_of keys) facts given (record { of = of; what = what }) (record { of = of; what = x }) (ap (option_map (λ y. record { of = of; what = y })) at) e

  pub numbers-push : (numbers : List ℕ) (list : List Key) (n : ℕ) (x : Key) → slice_get keys n ≡ Some x → AreNumbers keys numbers list → AreNumbers keys (numbers ++ n ∷ []) (list ++ x ∷ [])
  numbers-push numbers list n x at e = answers-push (slice_get keys) numbers list n x at e

  pub told-of : (facts : List Fact) (given : List Given) (f : Fact) → AreTold keys facts given → IsIn facts f → (g : Given) × IsIn given g × (slice_get keys f.what ≡ Some g.what) × (f.of ≡ g.of)
  told-of facts given f e h = let w = answered (given_of keys) facts given f h.0 e h.1 in let s = given-is f w.0 w.2 in (w.0, (h.0, w.1), s.0, s.1)

  pub told-from : (facts : List Fact) (given : List Given) (g : Given) → AreTold keys facts given → IsIn given g → (f : Fact) × IsIn facts f × (slice_get keys f.what ≡ Some g.what) × (f.of ≡ g.of)
  told-from facts given g e h = let w = asked (given_of keys) facts given g h.0 e h.1 in let s = given-is w.0 g w.2 in (w.0, (h.0, w.1), s.0, s.1)

  pub told-inside : (facts : List Fact) (given : List Given) → AreTold keys facts given → (f : Fact) → IsIn facts f → f.what < length keys
  told-inside facts given e f h = let w = told-of facts given f e h in slice_get_within keys f.what (w.0).what w.2

  pub number-at : (numbers : List ℕ) (list : List Key) (j : ℕ) (x : Key) → AreNumbers keys numbers list → slice_get list j ≡ Some x → (n : ℕ) × (slice_get numbers j ≡ Some n) × (slice_get keys n ≡ Some x)
  number-at numbers list j x e h = asked (slice_get keys) numbers list x j e h

  pub numbers-long : (numbers : List ℕ) (list : List Key) → AreNumbers keys numbers list → length numbers ≡ length list
  numbers-long numbers list e = sym (length-map numbers (slice_get keys)) ∙ ap length e ∙ length-map list (λ x. Some x)

-- the keys of one list keep their numbers in another
abbrev pub Keep : List Key → List Key → Type 0
Keep old new = (n : ℕ) (x : Key) → slice_get old n ≡ Some x → slice_get new n ≡ Some x

module _ (old new : List Key) (keep : Keep old new) where
  given-keeps : (f : Fact) (g : Given) → given_of old f ≡ Some g → given_of new f ≡ Some g
  given-keeps f g e = let s = given-is old f g e in ap (option_map (λ y. record { of = f.of; what = y })) (keep f.what g.what s.0) ∙ (λ i. Some (record { of = s.1 i; what = g.what }))

  pub told-keeps : (facts : List Fact) (given : List Given) → AreTold old facts given → AreTold new facts given
  told-keeps facts given e = answers-stay (given_of old) (given_of new) given-keeps facts given e

  pub numbers-keep : (numbers : List ℕ) (list : List Key) → AreNumbers old numbers list → AreNumbers new numbers list
  numbers-keep numbers list e = answers-stay (slice_get old) (slice_get new) keep numbers list e
