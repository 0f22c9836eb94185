-- What is inserted one after another into none stands there each once, where it comes first.
use Rattle.std.proofs.Common.{◌≡◌, refl, sym, ap, ◌∙◌, Bool, true, false, not, ◌&&◌, ◌||◌, if◌then◌else◌, List, [], ◌∷◌, ◌++◌, append_assoc, append-nil, ◌⊎◌, inl, inr}
use Rattle.std.specs.Prelude.{filter}
use Rattle.std.specs.List.{list_any}
use Rattle.std.proofs.lemmas.List.Folds.{list_any-append}
use Rattle.std.proofs.lemmas.Bool.{true≢false}
use Rattle.indexmap.specs.IndexSet.{insert_key, insert_all}
use Rattle.jh_name.specs.declared.naming.Name.{Name}
use Rattle.jh_form.specs.Tree.{TermTree, of_object}
use Rattle.jh_form.specs.Passing.{name_equal}
use Rattle.jh_form.proofs.Names.{name_equal-same, name_equal-true}
use Rattle.jh_boxed_operations.specs.comparison.Exchanged.{equal_trees}
use Rattle.jh_boxed_operations.proofs.comparison.Equalities.{equal_trees-true, equal_trees-same}
use Rattle.jh_fca.specs.elimination.Derived.{names_once}
use Rattle.jh_fca.specs.elimination.Exchanged.{terms_once}

sure : (b : Bool) → (b ≡ true) ⊎ (b ≡ false)
sure true = inl refl
sure false = inr refl

same : (p q : Bool) → (p ≡ true → q ≡ true) → (q ≡ true → p ≡ true) → p ≡ q
same true q h k = sym (h refl)
same false true h k = k refl
same false false h k = refl

filter-same : {X : Type 0} (p q : X → Bool) → ((v : X) → p v ≡ q v) → (xs : List X) → filter p xs ≡ filter q xs
filter-same p q h [] = refl
filter-same p q h (x ∷ xs) = λ i. if h x i then x ∷ filter-same p q h xs i else filter-same p q h xs i

filter-chosen : {X : Type 0} (p : X → Bool) (b : Bool) (x : X) (xs : List X) → filter p (if b then x ∷ xs else xs) ≡ (if b && p x then x ∷ filter p xs else filter p xs)
filter-chosen p true x xs = refl
filter-chosen p false x xs = refl

-- a filter of what a filter keeps
filter-twice : {X : Type 0} (p q : X → Bool) (xs : List X) → filter p (filter q xs) ≡ filter (λ v. q v && p v) xs
filter-twice p q [] = refl
filter-twice p q (x ∷ xs) = filter-chosen p (q x) x (filter q xs) ∙ ap (λ ys. if q x && p x then x ∷ ys else ys) (filter-twice p q xs)

filter-all : {X : Type 0} (xs : List X) → filter (λ v. true) xs ≡ xs
filter-all [] = refl
filter-all (x ∷ xs) = ap (λ ys. x ∷ ys) (filter-all xs)

apart : (a b : Bool) → (not a && not b) ≡ not (b || (a || false))
apart true true = refl
apart true false = refl
apart false true = refl
apart false false = refl

module _ {X : Type 0} (eq : X → X → Bool) (sound : (x y : X) → eq x y ≡ true → x ≡ y) (whole : (x y : X) → x ≡ y → eq x y ≡ true) where
  -- each once, where it stands first
  abbrev once_by : List X → List X
  once_by [] = []
  once_by (x ∷ xs) = x ∷ filter (λ y. not (eq x y)) (once_by xs)

  turned : (v w : X) → eq w v ≡ eq v w
  turned v w = same (eq w v) (eq v w) (λ h. whole v w (sym (sound w v h))) (λ h. whole w v (sym (sound v w h)))

  -- a test that is false at v leaves v out as well
  without : (p : X → Bool) (v : X) → p v ≡ false → (w : X) → (not (eq v w) && p w) ≡ p w
  without p v h w = elim (sure (eq v w)) [
    | inl e ↦ (λ i. not (e i) && p w) ∙ sym (ap p (sym (sound v w e)) ∙ h)
    | inr e ↦ (λ i. not (e i) && p w)
  ]

  one-more : (known : List X) (v w : X) → (not (eq v w) && not (list_any (eq w) known)) ≡ not (list_any (eq w) (known ++ v ∷ []))
  one-more known v w = apart (eq v w) (list_any (eq w) known) ∙ ap (λ b. not (list_any (eq w) known || (b || false))) (sym (turned v w)) ∙ ap not (sym (list_any-append (eq w) known (v ∷ [])))

  chosen-new : (b : Bool) (known : List X) (v : X) (vs : List X) → list_any (eq v) known ≡ b →
      ((xs : List X) → insert_all eq xs vs ≡ xs ++ filter (λ w. not (list_any (eq w) xs)) (once_by vs)) →
      insert_all eq (if b then known else known ++ v ∷ []) vs ≡ known ++ (if not b then v ∷ filter (λ w. not (eq v w) && not (list_any (eq w) known)) (once_by vs) else filter (λ w. not (eq v w) && not (list_any (eq w) known)) (once_by vs))
  chosen-new true known v vs e rest = rest known ∙ ap (λ ys. known ++ ys) (sym (filter-same (λ w. not (eq v w) && not (list_any (eq w) known)) (λ w. not (list_any (eq w) known)) (without (λ w. not (list_any (eq w) known)) v (ap not e)) (once_by vs)))
  chosen-new false known v vs e rest =
      rest (known ++ v ∷ [])
      ∙ append_assoc known (v ∷ []) (filter (λ w. not (list_any (eq w) (known ++ v ∷ []))) (once_by vs))
      ∙ ap (λ ys. known ++ v ∷ ys) (sym (filter-same (λ w. not (eq v w) && not (list_any (eq w) known)) (λ w. not (list_any (eq w) (known ++ v ∷ []))) (one-more known v) (once_by vs)))

  -- what is added is what is new, each once
  with-new : (vs known : List X) → insert_all eq known vs ≡ known ++ filter (λ w. not (list_any (eq w) known)) (once_by vs)
  with-new [] known = sym (append-nil known)
  with-new (v ∷ vs) known =
      chosen-new (list_any (eq v) known) known v vs refl (with-new vs)
      ∙ ap (λ ys. known ++ (if not (list_any (eq v) known) then v ∷ ys else ys)) (sym (filter-twice (λ w. not (list_any (eq w) known)) (λ w. not (eq v w)) (once_by vs)))

  pub inserted-once : (vs : List X) → insert_all eq [] vs ≡ once_by vs
  inserted-once vs = with-new vs [] ∙ filter-all (once_by vs)

-- ---- names and terms

names-by : (xs : List Name) → once_by name_equal name_equal-true name_equal-same xs ≡ names_once xs
unfolding names_once
names-by [] = refl
names-by (x ∷ xs) = ap (λ ys. x ∷ filter (λ y. not (name_equal x y)) ys) (names-by xs)

pub names-inserted : (xs : List Name) → insert_all name_equal [] xs ≡ names_once xs
names-inserted xs = inserted-once name_equal name_equal-true name_equal-same xs ∙ names-by xs

abbrev pub equal_terms : TermTree → TermTree → Bool
equal_terms a b = equal_trees (of_object a) (of_object b)

object-same : (a b : TermTree) → of_object a ≡ of_object b → a ≡ b
object-same a b e = cc

pub terms-sound : (a b : TermTree) → equal_terms a b ≡ true → a ≡ b
terms-sound a b h = object-same a b (equal_trees-true (of_object a) (of_object b) h)

pub terms-whole : (a b : TermTree) → a ≡ b → equal_terms a b ≡ true
terms-whole a b e = equal_trees-same (of_object a) (of_object b) (ap of_object e)

terms-by : (xs : List TermTree) → once_by equal_terms terms-sound terms-whole xs ≡ terms_once xs
unfolding terms_once
terms-by [] = refl
terms-by (x ∷ xs) = ap (λ ys. x ∷ filter (λ y. not (equal_terms x y)) ys) (terms-by xs)

pub terms-inserted : (xs : List TermTree) → insert_all equal_terms [] xs ≡ terms_once xs
terms-inserted xs = inserted-once equal_terms terms-sound terms-whole xs ∙ terms-by xs
