-- Names of invariants, one after the other.
use Rattle.std.proofs.Common.{◌≡◌, refl, sym, ap, ◌∙◌, ℕ, ◌+◌, ◌≤◌, ◌<◌, ◌||◌, Bool, true, false, List, [], ◌∷◌, ◌++◌, map, length, drop, get_or, Option, Some, is_some, if◌then◌else◌}
use Rattle.std.specs.List.{list_any, flat_map}
use Rattle.std.specs.Cmp.Lexicographic.{bytes_decides}
use Rattle.std.proofs.lemmas.List.{drop_all}
use Rattle.jh_rules.specs.Words.{same_text, is_one_of}
use Rattle.jh_symbols.proofs.scopes.Lists.{drop-at}

or-false : (a : Bool) → a || false ≡ a
or-false true = refl
or-false false = refl

or-true : (a : Bool) → a || true ≡ true
or-true true = refl
or-true false = refl

or-assoc : (a b c : Bool) → (a || b) || c ≡ a || (b || c)
or-assoc true b c = refl
or-assoc false b c = refl

any-append : {A : Type 0} (t : A → Bool) (xs ys : List A) → list_any t (xs ++ ys) ≡ list_any t xs || list_any t ys
any-append t [] ys = refl
any-append t (x ∷ xs) ys = ap (λ b. t x || b) (any-append t xs ys) ∙ sym (or-assoc (t x) (list_any t xs) (list_any t ys))

both-ways : (a b : Bool) → (a ≡ true → b ≡ true) → (b ≡ true → a ≡ true) → a ≡ b
both-ways true true h k = refl
both-ways true false h k = sym (h refl)
both-ways false true h k = k refl
both-ways false false h k = refl

same-back : (x y : List ℕ) → same_text x y ≡ same_text y x
same-back x y = both-ways (same_text x y) (same_text y x) (λ e. (bytes_decides y x).1 (sym ((bytes_decides x y).0 e))) (λ e. (bytes_decides x y).1 (sym ((bytes_decides y x).0 e)))

label-if : {X : Type 0} (b : Bool) (v : X) (o : Option X) → is_some (if b then Some v else o) ≡ is_some o || b
label-if true v o = sym (or-true (is_some o))
label-if false v o = sym (or-false (is_some o))

pub one-label : {X : Type 0} (old new : List ℕ → Option X) (w : List ℕ) (v : X) → ((x : List ℕ) → new x ≡ (if same_text w x then Some v else old x)) → (x : List ℕ) → is_some (new x) ≡ is_some (old x) || is_one_of x (w ∷ [])
one-label old new w v h x = ap is_some (h x) ∙ label-if (same_text w x) v (old x) ∙ ap (λ b. is_some (old x) || b) (same-back w x ∙ sym (or-false (same_text x w)))

pub no-label : {X : Type 0} (old : List ℕ → Option X) (x : List ℕ) → is_some (old x) ≡ is_some (old x) || is_one_of x []
no-label old x = sym (or-false (is_some (old x)))

module _ {A X : Type 0} (f : A → List (List ℕ)) where
  -- what is there and the rest give what all give
  abbrev pub Labels : (List ℕ → Option X) → (List ℕ → Option X) → List A → ℕ → Type 0
  Labels old cur xs i = (x : List ℕ) → is_some (cur x) || is_one_of x (flat_map f (drop i xs)) ≡ is_some (old x) || is_one_of x (flat_map f xs)

  pub labels-next : (old cur new : List ℕ → Option X) (xs : List A) (i : ℕ) (a : A) → i < length xs → a ≡ get_or xs i a → ((x : List ℕ) → is_some (new x) ≡ is_some (cur x) || is_one_of x (f a)) → Labels old cur xs i → Labels old new xs (i + 1)
  labels-next old cur new xs i a lt e h k x =
      ap (λ b. b || is_one_of x (flat_map f (drop (i + 1) xs))) (h x) ∙ or-assoc (is_some (cur x)) (is_one_of x (f a)) (is_one_of x (flat_map f (drop (i + 1) xs)))
      ∙ ap (λ b. is_some (cur x) || b) (sym (any-append (same_text x) (f a) (flat_map f (drop (i + 1) xs))))
      ∙ ap (λ ys. is_some (cur x) || is_one_of x (flat_map f ys)) (sym (drop-at xs i a lt e)) ∙ k x

  pub labels-end : (old cur : List ℕ → Option X) (xs : List A) (i : ℕ) → length xs ≤ i → Labels old cur xs i → (x : List ℕ) → is_some (cur x) ≡ is_some (old x) || is_one_of x (flat_map f xs)
  labels-end old cur xs i le k x = sym (or-false (is_some (cur x))) ∙ ap (λ ys. is_some (cur x) || is_one_of x (flat_map f ys)) (sym (drop_all i xs le)) ∙ k x

pub flat-mapped : {A B C : Type 0} (f : B → List C) (t : A → B) (xs : List A) → flat_map f (map t xs) ≡ flat_map (λ a. f (t a)) xs
flat-mapped f t [] = refl
flat-mapped f t (x ∷ xs) = ap (λ ys. f (t x) ++ ys) (flat-mapped f t xs)
