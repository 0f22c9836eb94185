-- Lists of names that loops make.
use Rattle.std.proofs.Common.{◌≡◌, refl, sym, ap, ◌∙◌, ℕ, zero, suc, ◌+◌, ◌≤◌, Bool, true, false, if◌then◌else◌, List, [], ◌∷◌, ◌++◌, map, filter, length, drop, slice_get, Some, None, add-one}
use Rattle.std.specs.Option.{option_map_or}
use Rattle.std.proofs.lemmas.List.{drop_all}
use Rattle.jh_state_facts.specs.declared.well_formedness.state.Known.{Known}
use Rattle.jh_state_facts.specs.well_formedness.States.{local_of}
use Rattle.jh_guard.specs.Items.{Sorted, sorted_local}
use Rattle.jh_state_facts.specs.changes.Added.{sorted_in, sorted_of}
use Rattle.jh_state_facts.specs.declared.changes.names.SortedName.{SortedName}
use Rattle.jh_loop_targets.specs.Gathering.{with_one, with_all}

nothing : {X : Type 0} (xs : List X) → xs ++ [] ≡ xs
nothing [] = refl
nothing (x ∷ xs) = ap (λ ys. x ∷ ys) (nothing xs)

regroup : {X : Type 0} (xs ys zs : List X) → (xs ++ ys) ++ zs ≡ xs ++ (ys ++ zs)
regroup [] ys zs = refl
regroup (x ∷ xs) ys zs = ap (λ us. x ∷ us) (regroup xs ys zs)

-- what stands at a place, and what stands behind it
drop-here : {X : Type 0} (xs : List X) (i : ℕ) (x : X) → slice_get xs i ≡ Some x → drop i xs ≡ x ∷ drop (i + 1) xs
drop-here [] zero x e = cc
drop-here [] (suc i) x e = cc
drop-here (y ∷ xs) zero x e = let same : y ≡ x = cc in ap (λ z. z ∷ xs) same
drop-here (y ∷ xs) (suc i) x e = drop-here xs i x e ∙ ap (λ n. x ∷ drop n xs) (add-one i) ∙ ap (λ n. x ∷ drop n (y ∷ xs)) (sym (add-one (suc i)))

-- one more local of the scope
pub scope-next : (scope : List Known) (i : ℕ) (k : Known) (xs ys : List Sorted) → slice_get scope i ≡ Some k → ys ≡ with_one xs (sorted_local (local_of k)) → with_all ys (map local_of (drop (i + 1) scope)) ≡ with_all xs (map local_of (drop i scope))
unfolding with_all
scope-next scope i k xs ys is e = ap (λ zs. with_all zs (map local_of (drop (i + 1) scope))) e ∙ sym (ap (λ ks. with_all xs (map local_of ks)) (drop-here scope i k is))

pub scope-end : (scope : List Known) (i : ℕ) (xs : List Sorted) → length scope ≤ i → xs ≡ with_all xs (map local_of (drop i scope))
unfolding with_all
scope-end scope i xs le = sym (ap (λ ks. with_all xs (map local_of ks)) (drop_all i scope le))

push-sorted : (xs : List SortedName) (x : SortedName) → sorted_in (xs ++ x ∷ []) ≡ sorted_in xs ++ sorted_of x ∷ []
push-sorted [] x = refl
push-sorted (y ∷ xs) x = ap (λ zs. sorted_of y ∷ zs) (push-sorted xs x)

-- one more name, which a test keeps or leaves out
module _ (test : Sorted → Bool) (states made : List SortedName) (i : ℕ) (x : SortedName) (is : slice_get states i ≡ Some x) where
  at-turn : (b : Bool) → test (sorted_of x) ≡ b → filter test (sorted_in (drop i states)) ≡ (if b then sorted_of x ∷ filter test (sorted_in (drop (i + 1) states)) else filter test (sorted_in (drop (i + 1) states)))
  at-turn b e = ap (λ ks. filter test (sorted_in ks)) (drop-here states i x is) ∙ ap (λ t. if t then sorted_of x ∷ filter test (sorted_in (drop (i + 1) states)) else filter test (sorted_in (drop (i + 1) states))) e

  pub held-next : (more : List SortedName) → test (sorted_of x) ≡ true → more ≡ made ++ x ∷ [] → sorted_in more ++ filter test (sorted_in (drop (i + 1) states)) ≡ sorted_in made ++ filter test (sorted_in (drop i states))
  held-next more e p =
      ap (λ ms. sorted_in ms ++ filter test (sorted_in (drop (i + 1) states))) p
      ∙ ap (λ us. us ++ filter test (sorted_in (drop (i + 1) states))) (push-sorted made x)
      ∙ regroup (sorted_in made) (sorted_of x ∷ []) (filter test (sorted_in (drop (i + 1) states)))
      ∙ ap (λ us. sorted_in made ++ us) (sym (at-turn true e))

  pub held-left : test (sorted_of x) ≡ false → sorted_in made ++ filter test (sorted_in (drop (i + 1) states)) ≡ sorted_in made ++ filter test (sorted_in (drop i states))
  held-left e = ap (λ us. sorted_in made ++ us) (sym (at-turn false e))

pub held-end : (test : Sorted → Bool) (states made : List SortedName) (i : ℕ) → length states ≤ i → sorted_in made ≡ sorted_in made ++ filter test (sorted_in (drop i states))
held-end test states made i le = sym (nothing (sorted_in made)) ∙ ap (λ ks. sorted_in made ++ filter test (sorted_in ks)) (sym (drop_all i states le))

-- what stands at a place of a list, and what stands behind it
drop-split : (xs : List Sorted) (i : ℕ) → drop i xs ≡ option_map_or (λ x. x ∷ []) (slice_get xs i) [] ++ drop (suc i) xs
drop-split [] zero = refl
drop-split [] (suc i) = refl
drop-split (x ∷ xs) zero = refl
drop-split (x ∷ xs) (suc i) = drop-split xs i

-- one more local
pub local-next : (locals made more : List Sorted) (i : ℕ) → more ≡ made ++ option_map_or (λ x. x ∷ []) (slice_get locals i) [] → more ++ drop (i + 1) locals ≡ made ++ drop i locals
local-next locals made more i e =
    ap (λ us. us ++ drop (i + 1) locals) e
    ∙ regroup made (option_map_or (λ x. x ∷ []) (slice_get locals i) []) (drop (i + 1) locals)
    ∙ (λ j. made ++ (option_map_or (λ x. x ∷ []) (slice_get locals i) [] ++ drop (add-one i j) locals))
    ∙ ap (λ us. made ++ us) (sym (drop-split locals i))

pub local-end : (locals made : List Sorted) (i : ℕ) → length locals ≤ i → made ≡ made ++ drop i locals
local-end locals made i le = sym (nothing made) ∙ ap (λ us. made ++ us) (sym (drop_all i locals le))

-- where a place has nothing, nothing is added
pub nothing-more : (locals made : List Sorted) (i : ℕ) → slice_get locals i ≡ None → made ≡ made ++ option_map_or (λ x. x ∷ []) (slice_get locals i) []
nothing-more locals made i e = sym (nothing made) ∙ ap (λ o. made ++ option_map_or (λ x. x ∷ []) o []) (sym e)

-- where it has a name, that name is added
pub push-more : (locals : List Sorted) (made more : List SortedName) (i : ℕ) (x : SortedName) → slice_get locals i ≡ Some (sorted_of x) → more ≡ made ++ x ∷ [] → sorted_in more ≡ sorted_in made ++ option_map_or (λ x. x ∷ []) (slice_get locals i) []
push-more locals made more i x e p = ap sorted_in p ∙ push-sorted made x ∙ ap (λ o. sorted_in made ++ option_map_or (λ x. x ∷ []) o []) (sym e)

pub length-map : {X Y : Type 0} (f : X → Y) (xs : List X) → length (map f xs) ≡ length xs
length-map f [] = refl
length-map f (x ∷ xs) = ap suc (length-map f xs)
