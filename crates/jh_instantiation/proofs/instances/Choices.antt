-- The choices of a universal that are left come to those of the definition.
use Rattle.std.proofs.Common.{◌≡◌, refl, sym, ap, ◌∙◌, ℕ, zero, suc, Bool, true, false, not, ◌&&◌, ◌||◌, if◌then◌else◌, List, [], ◌∷◌, ◌++◌, map, filter}
use Rattle.std.specs.List.{flat_map}
use Rattle.jh_form.specs.Tree.{TermTree}
use Rattle.jh_inst.specs.instances.Terms.{is_among}
use Rattle.jh_inst.specs.instances.Choices.{choices, is_old, new_choices}
use Rattle.jh_instantiation.specs.instances.Choosing.{choices_from}

append-nil : {X : Type 0} (xs : List X) → xs ++ [] ≡ xs
append-nil [] = refl
append-nil (x ∷ xs) = ap (λ ys. x ∷ ys) (append-nil xs)

pub one-more : {X : Type 0} (xs ys : List X) (a : X) → (xs ++ (a ∷ [])) ++ ys ≡ xs ++ (a ∷ ys)
one-more [] ys a = refl
one-more (x ∷ xs) ys a = ap (λ zs. x ∷ zs) (one-more xs ys a)

map-if : {X Y : Type 0} (f : X → Y) (b : Bool) (x : X) (xs : List X) → map f (if b then x ∷ xs else xs) ≡ (if b then f x ∷ map f xs else map f xs)
map-if f true x xs = refl
map-if f false x xs = refl

filter-map : {X Y : Type 0} (p : Y → Bool) (f : X → Y) (xs : List X) → filter p (map f xs) ≡ map f (filter (λ x. p (f x)) xs)
filter-map p f [] = refl
filter-map p f (x ∷ xs) = ap (λ ys. if p (f x) then f x ∷ ys else ys) (filter-map p f xs) ∙ sym (map-if f (p (f x)) x (filter (λ y. p (f y)) xs))

if-append : {X : Type 0} (b : Bool) (x : X) (xs ys : List X) → (if b then x ∷ xs else xs) ++ ys ≡ (if b then x ∷ (xs ++ ys) else xs ++ ys)
if-append true x xs ys = refl
if-append false x xs ys = refl

pub filter-both : {X : Type 0} (p : X → Bool) (xs ys : List X) → filter p (xs ++ ys) ≡ filter p xs ++ filter p ys
filter-both p [] ys = refl
filter-both p (x ∷ xs) ys = ap (λ zs. if p x then x ∷ zs else zs) (filter-both p xs ys) ∙ sym (if-append (p x) x (filter p xs) (filter p ys))

map-both : {X Y : Type 0} (f : X → Y) (xs ys : List X) → map f (xs ++ ys) ≡ map f xs ++ map f ys
map-both f [] ys = refl
map-both f (x ∷ xs) ys = ap (λ zs. f x ∷ zs) (map-both f xs ys)

map-map : {X Y Z : Type 0} (f : Y → Z) (g : X → Y) (xs : List X) → map f (map g xs) ≡ map (λ x. f (g x)) xs
map-map f g [] = refl
map-map f g (x ∷ xs) = ap (λ zs. f (g x) ∷ zs) (map-map f g xs)

-- a choice is new where its first term is, or its other ones are
first-new : (b p q : Bool) → (b || not p) || not q ≡ b || not (p && q)
first-new true p q = refl
first-new false true q = refl
first-new false false q = refl

last-new : (b : Bool) (c : List TermTree) → (if b then c ∷ [] else []) ≡ map (λ ws. c ++ ws) (filter (λ (ws : List TermTree). b || false) ([] ∷ []))
last-new true c = ap (λ z. z ∷ []) (sym (append-nil c))
last-new false c = refl

-- the test that a choice has a new term, or that one was chosen before
abbrev has_new : Bool → List TermTree → List TermTree → Bool
has_new b old ws = b || not (is_old old ws)

module _ (ts old : List TermTree) where
  -- that so many choices are those of the definition, whatever was chosen before
  abbrev Right : ℕ → Type 0
  Right m = (c : List TermTree) (b : Bool) → choices_from c b m ts old ≡ map (λ ws. c ++ ws) (filter (has_new b old) (choices m ts))

  one-choices : (m : ℕ) → Right m → (c : List TermTree) (b : Bool) (a : TermTree) →
      choices_from (c ++ (a ∷ [])) (b || not (is_among a old)) m ts old ≡ map (λ ws. c ++ ws) (filter (has_new b old) (map (λ ws. a ∷ ws) (choices m ts)))
  one-choices m right c b a =
      right (c ++ (a ∷ [])) (b || not (is_among a old))
      ∙ (λ i. map (λ ws. one-more c ws a i) (filter (λ ws. first-new b (is_among a old) (is_old old ws) i) (choices m ts)))
      ∙ sym (map-map (λ ws. c ++ ws) (λ ws. a ∷ ws) (filter (λ ws. has_new b old (a ∷ ws)) (choices m ts)))
      ∙ ap (map (λ ws. c ++ ws)) (sym (filter-map (has_new b old) (λ ws. a ∷ ws) (choices m ts)))

  each-choices : (m : ℕ) → Right m → (c : List TermTree) (b : Bool) (xs : List TermTree) →
      flat_map (λ a. choices_from (c ++ (a ∷ [])) (b || not (is_among a old)) m ts old) xs ≡ map (λ ws. c ++ ws) (filter (has_new b old) (flat_map (λ a. map (λ ws. a ∷ ws) (choices m ts)) xs))
  each-choices m right c b [] = refl
  each-choices m right c b (a ∷ xs) =
      let here = map (λ ws. a ∷ ws) (choices m ts) in
      let later = flat_map (λ z. map (λ ws. z ∷ ws) (choices m ts)) xs in
      (λ i. one-choices m right c b a i ++ each-choices m right c b xs i)
      ∙ sym (map-both (λ ws. c ++ ws) (filter (has_new b old) here) (filter (has_new b old) later))
      ∙ ap (map (λ ws. c ++ ws)) (sym (filter-both (has_new b old) here later))

  rest-choices : (m : ℕ) → Right m
  rest-choices zero c b = last-new b c
  rest-choices (suc m) c b = each-choices m (rest-choices m) c b ts

map-same : {X : Type 0} (xs : List X) → map (λ x. x) xs ≡ xs
map-same [] = refl
map-same (x ∷ xs) = ap (λ ys. x ∷ ys) (map-same xs)

-- where none was chosen yet, those that are left are the new ones
pub all-choices : (m : ℕ) (ts old : List TermTree) → choices_from [] false m ts old ≡ new_choices m ts old
all-choices m ts old = rest-choices ts old m [] false ∙ map-same (filter (has_new false old) (choices m ts))
