-- What is chosen of a list, one item after another.
use Rattle.std.proofs.Common.{◌≡◌, refl, sym, ap, ◌∙◌, append-nil, append_assoc, Bool, true, false, List, [], ◌∷◌, ◌++◌, filter, map}
use Rattle.std.proofs.lemmas.List.Elements.{filter-append}

chosen-one : {X : Type 0} (test : X → Bool) (x : X) → test x ≡ true → filter test (x ∷ []) ≡ x ∷ []
chosen-one test x e = rw e refl

chosen-none : {X : Type 0} (test : X → Bool) (x : X) → test x ≡ false → filter test (x ∷ []) ≡ []
chosen-none test x e = rw e refl

pub chosen-more : {X : Type 0} (test : X → Bool) (xs : List X) (x : X) → test x ≡ true → filter test (xs ++ x ∷ []) ≡ filter test xs ++ x ∷ []
chosen-more test xs x e = filter-append test xs (x ∷ []) ∙ ap (λ zs. filter test xs ++ zs) (chosen-one test x e)

pub chosen-still : {X : Type 0} (test : X → Bool) (xs : List X) (x : X) → test x ≡ false → filter test (xs ++ x ∷ []) ≡ filter test xs
chosen-still test xs x e = filter-append test xs (x ∷ []) ∙ ap (λ zs. filter test xs ++ zs) (chosen-none test x e) ∙ append-nil (filter test xs)

-- what is made of a list's chosen images, one item more
module _ {X Y Z : Type 0} (g : X → Y) (test : Y → Bool) (f : Y → Z) (made : List Z) (xs rest : List X) (all : List Z) (x : X) (before : made ++ map f (filter test (map g xs)) ≡ all) (left : xs ≡ x ∷ rest) where
  pub one-kept : test (g x) ≡ true → (z : Z) → z ≡ f (g x) → (made ++ z ∷ []) ++ map f (filter test (map g rest)) ≡ all
  one-kept e z is =
      append_assoc made (z ∷ []) (map f (filter test (map g rest))) ∙ ap (λ y. made ++ y ∷ map f (filter test (map g rest))) is ∙ ap (λ ys. made ++ map f ys) (sym kept) ∙ ap (λ ys. made ++ map f (filter test (map g ys))) (sym left) ∙ before
    where
      kept : filter test (g x ∷ map g rest) ≡ g x ∷ filter test (map g rest)
      kept = rw e refl

  pub one-passed : test (g x) ≡ false → made ++ map f (filter test (map g rest)) ≡ all
  one-passed e = ap (λ ys. made ++ map f ys) (sym passed) ∙ ap (λ ys. made ++ map f (filter test (map g ys))) (sym left) ∙ before
    where
      passed : filter test (g x ∷ map g rest) ≡ filter test (map g rest)
      passed = rw e refl
