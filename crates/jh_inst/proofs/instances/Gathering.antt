-- The closed terms that can come of a formula where terms are put for its variables. For each binder round a term, the innermost
-- first, there is the list of what may be put; null is put for a variable of no binder.
use Rattle.std.proofs.Common.{◌≡◌, refl, sym, ap, ◌∙◌, subst, ℕ, zero, suc, ◌+◌, ◌*◌, ◌^◌, ◌≤◌, arith, length, true, ◌&&◌, List, [], ◌∷◌, ◌++◌, ◌⊎◌, inl, inr, slice_index, pow-suc}
use native.Mathlib.Nat.{pow-zero}
use Rattle.std.proofs.lemmas.Bool.{true≢false}
use Rattle.jh_form.specs.Tree.{TermTree, IntTree, SetTree, FieldTree, FormulaTree}
use Rattle.jh_form.specs.Tree as t
use Rattle.jh_form.specs.Closed.{is_closed_term, is_closed_field}
use Rattle.jh_form.proofs.ClosedLemmas.{both-left, both-right}
use Rattle.jh_seq.specs.splitting.Local.{is_field_name, are_field_names, is_local_term, is_local_number, is_local_set, has_local_shape}
use Rattle.jh_inst.specs.instances.Witnesses.{witnesses}
use Rattle.jh_inst.specs.instances.Prenex.{in_front}
use Rattle.jh_inst.specs.instances.Terms.{terms_in, number_terms, set_terms, object_terms}
use Rattle.jh_inst.specs.instances.Count.{total, term_weight, weight}
use Rattle.jh_inst.proofs.instances.Lengths.{length-both, In, in-left, in-right, in-both}

abbrev pub Fills : Type 0
Fills = List (List TermTree)

abbrev pub fill_at : Fills → ℕ → List TermTree
fill_at [] k = t.null ∷ []
fill_at (x ∷ xs) zero = x
fill_at (x ∷ xs) (suc k) = fill_at xs k

abbrev pub read_each : FieldTree → List TermTree → List TermTree
read_each f [] = []
read_each f (a ∷ more) = t.read_object f a ∷ read_each f more

-- what a term becomes; and what it and the terms inside it do
abbrev pub itself : Fills → TermTree → List TermTree
itself fs (t.bound k) = fill_at fs k
itself fs (t.read_object f a) = read_each f (itself fs a)
itself fs a = a ∷ []

abbrev pub all_of : Fills → TermTree → List TermTree
all_of fs (t.bound k) = fill_at fs k
all_of fs (t.read_object f a) = read_each f (itself fs a) ++ all_of fs a
all_of fs a = a ∷ []

-- the same without those that were closed
abbrev pub filled : Fills → TermTree → List TermTree
filled fs (t.bound k) = fill_at fs k
filled fs (t.read_object f a) = read_each f (filled fs a)
filled fs a = []

abbrev pub all_filled : Fills → TermTree → List TermTree
all_filled fs (t.bound k) = fill_at fs k
all_filled fs (t.read_object f a) = read_each f (filled fs a) ++ all_filled fs a
all_filled fs a = []

module _ (g : Fills → TermTree → List TermTree) where
  abbrev pub of_number : Fills → IntTree → List TermTree
  of_number fs (t.read_number f a) = g fs a
  of_number fs _ = []

  abbrev pub of_set : Fills → SetTree → List TermTree
  of_set fs (t.read_set f a) = g fs a
  of_set fs _ = []

  -- Under an `all` nothing is put for the variables of binders.
  abbrev pub gather_under : FormulaTree → Fills → List TermTree
  gather_under (t.negation a) fs = gather_under a fs
  gather_under (t.and a b) fs = gather_under a fs ++ gather_under b fs
  gather_under (t.or a b) fs = gather_under a fs ++ gather_under b fs
  gather_under (t.all a) fs = gather_under a ([] ∷ fs)
  gather_under (t.ex a) fs = gather_under a ([] ∷ fs)
  gather_under (t.read_truth f a) fs = g fs a
  gather_under (t.eq_object a b) fs = g fs a ++ g fs b
  gather_under (t.eq_number a b) fs = of_number fs a ++ of_number fs b
  gather_under (t.member a b) fs = g fs a ++ of_set fs b
  gather_under (t.reach hs a b) fs = g fs a ++ g fs b
  gather_under _ fs = []

  -- Under no `all`, the variable of `ex` number j becomes one of its constants.
  abbrev pub gather_top : (ℕ → List TermTree) → FormulaTree → Fills → ℕ → List TermTree
  gather_top cs (t.and a b) fs j = gather_top cs a fs j ++ gather_top cs b fs (j + witnesses a)
  gather_top cs (t.or a b) fs j = gather_top cs a fs j ++ gather_top cs b fs (j + witnesses a)
  gather_top cs (t.ex a) fs j = gather_top cs a (cs j ∷ fs) (suc j)
  gather_top cs a fs j = gather_under a fs

  -- For each variable in front one of some terms is put.
  abbrev pub gather_front : (ℕ → List TermTree) → List TermTree → FormulaTree → Fills → List TermTree
  gather_front cs ts (t.all a) fs = gather_front cs ts a (ts ∷ fs)
  gather_front cs ts a fs = gather_top cs a fs 0

-- How many there are at most.
pub total-both : {X : Type 0} (f : X → ℕ) (xs ys : List X) → total f (xs ++ ys) ≡ total f xs + total f ys
total-both f [] ys = omega arith
total-both f (x ∷ xs) ys = let more : total f (xs ++ ys) ≡ total f xs + total f ys = total-both f xs ys in omega (arith, more)

read-length : (f : FieldTree) (xs : List TermTree) → length (read_each f xs) ≡ length xs
read-length f [] = refl
read-length f (a ∷ more) = ap suc (read-length f more)

module _ (n : ℕ) where
  -- for each binder there are at most as many terms as it counts for
  abbrev pub Fit : Fills → List ℕ → Type 0
  Fit [] [] = Unit {0}
  Fit [] (p ∷ ps) = ⊥
  Fit (x ∷ xs) [] = ⊥
  Fit (x ∷ xs) (p ∷ ps) = (length x ≤ n ^ p) × Fit xs ps

  fit-at : (fs : Fills) (ps : List ℕ) (k : ℕ) → Fit fs ps → length (fill_at fs k) ≤ n ^ slice_index ps k
  fit-at [] [] k h = let one : n ^ 0 ≡ 1 = pow-zero n in omega (arith, one)
  fit-at [] (p ∷ ps) k h = absurd h
  fit-at (x ∷ xs) [] k h = absurd h
  fit-at (x ∷ xs) (p ∷ ps) zero h = h.0
  fit-at (x ∷ xs) (p ∷ ps) (suc k) h = fit-at xs ps k h.1

  filled-length : (fs : Fills) (ps : List ℕ) (a : TermTree) → Fit fs ps → length (filled fs a) ≤ term_weight n ps a
  filled-length fs ps (t.bound k) h = fit-at fs ps k h
  filled-length fs ps (t.read_object f a) h = omega (arith, read-length f (filled fs a), filled-length fs ps a h)
  filled-length fs ps (t.free_object x) h = omega arith
  filled-length fs ps t.null h = omega arith

  all-filled-length : (fs : Fills) (ps : List ℕ) (a : TermTree) → Fit fs ps → length (all_filled fs a) ≤ total (term_weight n ps) (terms_in a)
  all-filled-length fs ps (t.bound k) h = omega (arith, fit-at fs ps k h)
  all-filled-length fs ps (t.read_object f a) h = omega (arith, length-both (read_each f (filled fs a)) (all_filled fs a), read-length f (filled fs a), filled-length fs ps a h, all-filled-length fs ps a h)
  all-filled-length fs ps (t.free_object x) h = omega arith
  all-filled-length fs ps t.null h = omega arith

  number-length : (fs : Fills) (ps : List ℕ) (a : IntTree) → Fit fs ps → length (of_number all_filled fs a) ≤ total (term_weight n ps) (number_terms a)
  number-length fs ps (t.read_number f a) h = all-filled-length fs ps a h
  number-length fs ps _ h = omega arith

  set-length : (fs : Fills) (ps : List ℕ) (a : SetTree) → Fit fs ps → length (of_set all_filled fs a) ≤ total (term_weight n ps) (set_terms a)
  set-length fs ps (t.read_set f a) h = all-filled-length fs ps a h
  set-length fs ps _ h = omega arith

  sum-length : (xs ys : List TermTree) (vs ws : List TermTree) (ps : List ℕ) → length xs ≤ total (term_weight n ps) vs → length ys ≤ total (term_weight n ps) ws → length (xs ++ ys) ≤ total (term_weight n ps) (vs ++ ws)
  sum-length xs ys vs ws ps h k = omega (arith, h, k, length-both xs ys, total-both (term_weight n ps) vs ws)

  under-length : (a : FormulaTree) (fs : Fills) (ps : List ℕ) (m : ℕ) → Fit fs ps → length (gather_under all_filled a fs) ≤ weight n a ps m
  under-length (t.negation a) fs ps m h = under-length a fs ps m h
  under-length (t.and a b) fs ps m h = omega (arith, length-both (gather_under all_filled a fs) (gather_under all_filled b fs), under-length a fs ps m h, under-length b fs ps m h)
  under-length (t.or a b) fs ps m h = omega (arith, length-both (gather_under all_filled a fs) (gather_under all_filled b fs), under-length a fs ps m h, under-length b fs ps m h)
  under-length (t.all a) fs ps m h = under-length a ([] ∷ fs) (1 ∷ ps) (suc m) (omega arith, h)
  under-length (t.ex a) fs ps m h = under-length a ([] ∷ fs) (m ∷ ps) m (omega arith, h)
  under-length (t.read_truth f a) fs ps m h = all-filled-length fs ps a h
  under-length (t.eq_object a b) fs ps m h = sum-length (all_filled fs a) (all_filled fs b) (terms_in a) (terms_in b) ps (all-filled-length fs ps a h) (all-filled-length fs ps b h)
  under-length (t.eq_number a b) fs ps m h = sum-length (of_number all_filled fs a) (of_number all_filled fs b) (number_terms a) (number_terms b) ps (number-length fs ps a h) (number-length fs ps b h)
  under-length (t.member a b) fs ps m h = sum-length (all_filled fs a) (of_set all_filled fs b) (terms_in a) (set_terms b) ps (all-filled-length fs ps a h) (set-length fs ps b h)
  under-length (t.reach hs a b) fs ps m h = sum-length (all_filled fs a) (all_filled fs b) (terms_in a) (terms_in b) ps (all-filled-length fs ps a h) (all-filled-length fs ps b h)
  under-length _ fs ps m h = omega arith

  module _ (cs : ℕ → List TermTree) (v : ℕ) (few : (j : ℕ) → length (cs j) ≤ n ^ v) where
    top-length : (a : FormulaTree) (fs : Fills) (ps : List ℕ) (j : ℕ) → Fit fs ps → length (gather_top all_filled cs a fs j) ≤ weight n a ps v
    top-length (t.and a b) fs ps j h = omega (arith, length-both (gather_top all_filled cs a fs j) (gather_top all_filled cs b fs (j + witnesses a)), top-length a fs ps j h, top-length b fs ps (j + witnesses a) h)
    top-length (t.or a b) fs ps j h = omega (arith, length-both (gather_top all_filled cs a fs j) (gather_top all_filled cs b fs (j + witnesses a)), top-length a fs ps j h, top-length b fs ps (j + witnesses a) h)
    top-length (t.ex a) fs ps j h = top-length a (cs j ∷ fs) (v ∷ ps) (suc j) (few j, h)
    top-length a fs ps j h = under-length a fs ps v h

    pub front-length : (ts : List TermTree) → length ts ≤ n → (a : FormulaTree) (fs : Fills) (ps : List ℕ) (m : ℕ) → m + in_front a ≡ v → Fit fs ps → length (gather_front all_filled cs ts a fs) ≤ weight n a ps m
    front-length ts le (t.all a) fs ps m e h = front-length ts le a (ts ∷ fs) (1 ∷ ps) (suc m) (omega (arith, e)) (once, h)
      where
        once : length ts ≤ n ^ 1
        once = let one : n ^ 0 ≡ 1 = pow-zero n in let step : n ^ suc 0 ≡ n ^ 0 * n = pow-suc n 0 in let all : n ^ 0 * n ≡ n = rw one (omega arith) in omega (arith, le, step, all)
    front-length ts le a fs ps m e h =
        let same : v ≡ m = omega (arith, e) in
        subst (λ z. length (gather_top all_filled cs a fs 0) ≤ weight n a ps z) same (top-length a fs ps 0 h)

-- What a term becomes was closed, or is filled in.
abbrev pub IsClosed : TermTree → Type 0
IsClosed a = is_closed_term a 0 ≡ true

in-read : (f : FieldTree) (x : TermTree) (xs : List TermTree) → In x xs → In (t.read_object f x) (read_each f xs)
in-read f x [] h = absurd h
in-read f x (a ∷ more) (inl e) = inl (ap (λ z. t.read_object f z) e)
in-read f x (a ∷ more) (inr h) = inr (in-read f x more h)

abbrev pub IsRead : FieldTree → List TermTree → TermTree → Type 0
IsRead f xs x = (y : TermTree) × (x ≡ t.read_object f y) × In y xs

pub read-in : (f : FieldTree) (x : TermTree) (xs : List TermTree) → In x (read_each f xs) → IsRead f xs x
read-in f x [] h = absurd h
read-in f x (a ∷ more) (inl e) = (a, e, inl refl)
read-in f x (a ∷ more) (inr h) = let found = read-in f x more h in (found.0, found.1, inr found.2)

pub read-of : (f : FieldTree) (x : TermTree) (xs : List TermTree) → IsRead f xs x → In x (read_each f xs)
read-of f x xs r = subst (λ z. In z (read_each f xs)) (sym r.1) (in-read f r.0 xs r.2)

name-closed : (f : FieldTree) → is_field_name f ≡ true → is_closed_field f 0 ≡ true
unfolding is_closed_field
name-closed (t.free_field x) h = refl
name-closed (t.update f a v) h = absurd (true≢false (sym h))

read-closed : (f : FieldTree) (a : TermTree) → is_field_name f ≡ true → IsClosed a → IsClosed (t.read_object f a)
unfolding is_closed_term
read-closed f a h c = λ i. name-closed f h i && c i

itself-closed : (fs : Fills) (a : TermTree) → is_local_term a ≡ true → (x : TermTree) → In x (itself fs a) → ((x ≡ a) × IsClosed a) ⊎ In x (filled fs a)
unfolding is_closed_term
itself-closed fs (t.bound k) l x h = inr h
itself-closed fs (t.free_object y) l x (inl e) = inl (e, refl)
itself-closed fs (t.free_object y) l x (inr h) = absurd h
itself-closed fs t.null l x (inl e) = inl (e, refl)
itself-closed fs t.null l x (inr h) = absurd h
itself-closed fs (t.read_object f a) l x h =
    let found = read-in f x (itself fs a) h in
    elim (itself-closed fs a (both-right (is_field_name f) (is_local_term a) l) found.0 found.2) [
      | inl c ↦ inl (found.1 ∙ ap (λ z. t.read_object f z) c.0, read-closed f a (both-left (is_field_name f) (is_local_term a) l) c.1)
      | inr g ↦ inr (read-of f x (filled fs a) (found.0, found.1, g))
    ]

-- a closed term of a list
abbrev pub ClosedIn : List TermTree → TermTree → Type 0
ClosedIn ts x = In x ts × IsClosed x

pub all-closed : (fs : Fills) (a : TermTree) → is_local_term a ≡ true → (x : TermTree) → In x (all_of fs a) → ClosedIn (terms_in a) x ⊎ In x (all_filled fs a)
unfolding is_closed_term
all-closed fs (t.bound k) l x h = inr h
all-closed fs (t.free_object y) l x (inl e) = inl (inl e, ap (λ z. is_closed_term z 0) e)
all-closed fs (t.free_object y) l x (inr h) = absurd h
all-closed fs t.null l x (inl e) = inl (inl e, ap (λ z. is_closed_term z 0) e)
all-closed fs t.null l x (inr h) = absurd h
all-closed fs (t.read_object f a) l x h =
    elim (in-both x (read_each f (itself fs a)) (all_of fs a) h) [
      | inl here ↦ elim (itself-closed fs (t.read_object f a) l x here) [
        | inl c ↦ inl (inl c.0, ap (λ z. is_closed_term z 0) c.0 ∙ c.1)
        | inr g ↦ inr (in-left x (read_each f (filled fs a)) (all_filled fs a) g)
      ]
      | inr inside ↦ elim (all-closed fs a (both-right (is_field_name f) (is_local_term a) l) x inside) [
        | inl c ↦ inl (inr c.0, c.1)
        | inr g ↦ inr (in-right x (read_each f (filled fs a)) (all_filled fs a) g)
      ]
    ]

-- the same of formulas
module _ (x : TermTree) where
  abbrev Parted : List TermTree → List TermTree → List TermTree → Type 0
  Parted xs vs gs = In x xs → ClosedIn vs x ⊎ In x gs

  parted-both : (xs ys vs ws gs hs : List TermTree) → Parted xs vs gs → Parted ys ws hs → Parted (xs ++ ys) (vs ++ ws) (gs ++ hs)
  parted-both xs ys vs ws gs hs p q h =
      elim (in-both x xs ys h) [
        | inl l ↦ elim (p l) [
          | inl c ↦ inl (in-left x vs ws c.0, c.1)
          | inr g ↦ inr (in-left x gs hs g)
        ]
        | inr r ↦ elim (q r) [
          | inl c ↦ inl (in-right x vs ws c.0, c.1)
          | inr g ↦ inr (in-right x gs hs g)
        ]
      ]

  number-parted : (fs : Fills) (a : IntTree) → is_local_number a ≡ true → Parted (of_number all_of fs a) (number_terms a) (of_number all_filled fs a)
  number-parted fs (t.read_number f a) l h = all-closed fs a (both-right (is_field_name f) (is_local_term a) l) x h
  number-parted fs _ l h = absurd h

  set-parted : (fs : Fills) (a : SetTree) → is_local_set a ≡ true → Parted (of_set all_of fs a) (set_terms a) (of_set all_filled fs a)
  set-parted fs (t.read_set f a) l h = all-closed fs a (both-right (is_field_name f) (is_local_term a) l) x h
  set-parted fs _ l h = absurd h

  two-terms : (fs : Fills) (a b : TermTree) → is_local_term a ≡ true → is_local_term b ≡ true → Parted (all_of fs a ++ all_of fs b) (terms_in a ++ terms_in b) (all_filled fs a ++ all_filled fs b)
  two-terms fs a b la lb h = parted-both (all_of fs a) (all_of fs b) (terms_in a) (terms_in b) (all_filled fs a) (all_filled fs b) (λ g. all-closed fs a la x g) (λ g. all-closed fs b lb x g) h

  under-parted : (a : FormulaTree) (fs : Fills) → has_local_shape a ≡ true → Parted (gather_under all_of a fs) (object_terms a) (gather_under all_filled a fs)
  under-parted (t.negation a) fs l h = under-parted a fs l h
  under-parted (t.and a b) fs l h =
      parted-both (gather_under all_of a fs) (gather_under all_of b fs) (object_terms a) (object_terms b) (gather_under all_filled a fs) (gather_under all_filled b fs)
      (under-parted a fs (both-left (has_local_shape a) (has_local_shape b) l)) (under-parted b fs (both-right (has_local_shape a) (has_local_shape b) l)) h
  under-parted (t.or a b) fs l h =
      parted-both (gather_under all_of a fs) (gather_under all_of b fs) (object_terms a) (object_terms b) (gather_under all_filled a fs) (gather_under all_filled b fs)
      (under-parted a fs (both-left (has_local_shape a) (has_local_shape b) l)) (under-parted b fs (both-right (has_local_shape a) (has_local_shape b) l)) h
  under-parted (t.all a) fs l h = under-parted a ([] ∷ fs) l h
  under-parted (t.ex a) fs l h = under-parted a ([] ∷ fs) l h
  under-parted (t.read_truth f a) fs l h = all-closed fs a (both-right (is_field_name f) (is_local_term a) l) x h
  under-parted (t.eq_object a b) fs l h = two-terms fs a b (both-left (is_local_term a) (is_local_term b) l) (both-right (is_local_term a) (is_local_term b) l) h
  under-parted (t.eq_number a b) fs l h =
      parted-both (of_number all_of fs a) (of_number all_of fs b) (number_terms a) (number_terms b) (of_number all_filled fs a) (of_number all_filled fs b)
      (number-parted fs a (both-left (is_local_number a) (is_local_number b) l)) (number-parted fs b (both-right (is_local_number a) (is_local_number b) l)) h
  under-parted (t.member a b) fs l h =
      parted-both (all_of fs a) (of_set all_of fs b) (terms_in a) (set_terms b) (all_filled fs a) (of_set all_filled fs b)
      (λ g. all-closed fs a (both-left (is_local_term a) (is_local_set b) l) x g) (set-parted fs b (both-right (is_local_term a) (is_local_set b) l)) h
  under-parted (t.reach hs a b) fs l h =
      two-terms fs a b (both-right (are_field_names hs) (is_local_term a) (both-left (are_field_names hs && is_local_term a) (is_local_term b) l)) (both-right (are_field_names hs && is_local_term a) (is_local_term b) l) h
  under-parted _ fs l h = absurd h

  top-parted : (cs : ℕ → List TermTree) (a : FormulaTree) (fs : Fills) (j : ℕ) → has_local_shape a ≡ true → Parted (gather_top all_of cs a fs j) (object_terms a) (gather_top all_filled cs a fs j)
  top-parted cs (t.and a b) fs j l h =
      parted-both (gather_top all_of cs a fs j) (gather_top all_of cs b fs (j + witnesses a)) (object_terms a) (object_terms b) (gather_top all_filled cs a fs j) (gather_top all_filled cs b fs (j + witnesses a))
      (top-parted cs a fs j (both-left (has_local_shape a) (has_local_shape b) l)) (top-parted cs b fs (j + witnesses a) (both-right (has_local_shape a) (has_local_shape b) l)) h
  top-parted cs (t.or a b) fs j l h =
      parted-both (gather_top all_of cs a fs j) (gather_top all_of cs b fs (j + witnesses a)) (object_terms a) (object_terms b) (gather_top all_filled cs a fs j) (gather_top all_filled cs b fs (j + witnesses a))
      (top-parted cs a fs j (both-left (has_local_shape a) (has_local_shape b) l)) (top-parted cs b fs (j + witnesses a) (both-right (has_local_shape a) (has_local_shape b) l)) h
  top-parted cs (t.ex a) fs j l h = top-parted cs a (cs j ∷ fs) (suc j) l h
  top-parted cs a fs j l h = under-parted a fs l h

  pub front-parted : (cs : ℕ → List TermTree) (ts : List TermTree) (a : FormulaTree) (fs : Fills) → has_local_shape a ≡ true → Parted (gather_front all_of cs ts a fs) (object_terms a) (gather_front all_filled cs ts a fs)
  front-parted cs ts (t.all a) fs l h = front-parted cs ts a (ts ∷ fs) l h
  front-parted cs ts a fs l h = top-parted cs a fs 0 l h
