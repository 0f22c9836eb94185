-- Gathering names one after another gives each once, where it stands first.
use Rattle.std.proofs.Common.{◌≡◌, refl, sym, ap, ◌∙◌, Bool, true, false, not, ◌&&◌, ◌||◌, if◌then◌else◌, List, [], ◌∷◌, ◌++◌, append_assoc, append-nil, ◌⊎◌, inl, inr}
use Rattle.std.specs.Prelude.{filter}
use Rattle.std.proofs.lemmas.Bool.{true≢false}
use Rattle.jh_form.specs.Tree.{ValueTree}
use Rattle.jh_boxed_operations.specs.comparison.Exchanged.{equal_trees}
use Rattle.jh_boxed_operations.proofs.comparison.Equalities.{equal_trees-true, equal_trees-same}
use Rattle.jh_approx.specs.definition.Names.{without_repeats}
use Rattle.jh_query_names.specs.query_names.Gathered.{has_name, with_name, with_names}

sure : (b : Bool) → (b ≡ true) ⊎ (b ≡ false)
sure true = inl refl
sure false = inr refl

either : (p q : Bool) → (p || q) ≡ true → (p ≡ true) ⊎ (q ≡ true)
either true q h = inl refl
either false q h = inr h

or-right : (p q : Bool) → q ≡ true → (p || q) ≡ true
or-right true q h = refl
or-right false q h = h

-- ---- what a list has

has-append : (xs ys : List ValueTree) (v : ValueTree) → has_name (xs ++ ys) v ≡ (has_name xs v || has_name ys v)
has-append [] ys v = refl
has-append (x ∷ xs) ys v = ap (λ b. equal_trees v x || b) (has-append xs ys v) ∙ grouped (equal_trees v x) (has_name xs v) (has_name ys v)
  where
    grouped : (a b c : Bool) → (a || (b || c)) ≡ ((a || b) || c)
    grouped true b c = refl
    grouped false b c = refl

in-front : (p q : Bool) → p ≡ true → (p || q) ≡ true
in-front true q h = refl
in-front false q h = absurd (true≢false (sym h))

chosen-keeps : (b : Bool) (known : List ValueTree) (v w : ValueTree) → has_name known w ≡ true → has_name (if b then known else known ++ v ∷ []) w ≡ true
chosen-keeps true known v w h = h
chosen-keeps false known v w h = has-append known (v ∷ []) w ∙ in-front (has_name known w) (has_name (v ∷ []) w) h

-- what is in a list stays in it
pub with-keeps : (vs known : List ValueTree) (w : ValueTree) → has_name known w ≡ true → has_name (with_names known vs) w ≡ true
with-keeps [] known w h = h
with-keeps (v ∷ vs) known w h = with-keeps vs (with_name known v) w (chosen-keeps (has_name known v) known v w h)

chosen-has : (b : Bool) (known : List ValueTree) (v : ValueTree) → has_name known v ≡ b → has_name (if b then known else known ++ v ∷ []) v ≡ true
chosen-has true known v h = h
chosen-has false known v h = has-append known (v ∷ []) v ∙ or-right (has_name known v) (has_name (v ∷ []) v) (in-front (equal_trees v v) false (equal_trees-same v v refl))

-- what is added is in it
pub with-has : (vs known : List ValueTree) (w : ValueTree) → has_name vs w ≡ true → has_name (with_names known vs) w ≡ true
with-has [] known w h = absurd (true≢false (sym h))
with-has (v ∷ vs) known w h =
    elim (either (equal_trees w v) (has_name vs w) h) [
      | inl e ↦ with-keeps vs (with_name known v) w (ap (λ x. has_name (with_name known v) x) (equal_trees-true w v e) ∙ chosen-has (has_name known v) known v refl)
      | inr k ↦ with-has vs (with_name known v) w k
    ]

-- what is in it already changes nothing
pub with-known : (vs known : List ValueTree) → ((w : ValueTree) → has_name vs w ≡ true → has_name known w ≡ true) → with_names known vs ≡ known
with-known [] known h = refl
with-known (v ∷ vs) known h =
    ap (λ xs. with_names xs vs) (ap (λ b. if b then known else known ++ v ∷ []) (h v (in-front (equal_trees v v) (has_name vs v) (equal_trees-same v v refl))))
    ∙ with-known vs known (λ w k. h w (or-right (equal_trees w v) (has_name vs w) k))

pub with-append : (xs ys known : List ValueTree) → with_names known (xs ++ ys) ≡ with_names (with_names known xs) ys
with-append [] ys known = refl
with-append (x ∷ xs) ys known = with-append xs ys (with_name known x)

-- ---- filters

filter-same : (p q : ValueTree → Bool) → ((v : ValueTree) → p v ≡ q v) → (xs : List ValueTree) → filter p xs ≡ filter q xs
filter-same p q h [] = refl
filter-same p q h (x ∷ xs) = λ i. if h x i then x ∷ filter-same p q h xs i else filter-same p q h xs i

filter-chosen : (p : ValueTree → Bool) (b : Bool) (x : ValueTree) (xs : List ValueTree) → filter p (if b then x ∷ xs else xs) ≡ (if b && p x then x ∷ filter p xs else filter p xs)
filter-chosen p true x xs = refl
filter-chosen p false x xs = refl

-- a filter of what a filter keeps
filter-twice : (p q : ValueTree → Bool) (xs : List ValueTree) → filter p (filter q xs) ≡ filter (λ v. q v && p v) xs
filter-twice p q [] = refl
filter-twice p q (x ∷ xs) = filter-chosen p (q x) x (filter q xs) ∙ ap (λ ys. if q x && p x then x ∷ ys else ys) (filter-twice p q xs)

filter-all : (xs : List ValueTree) → filter (λ v. true) xs ≡ xs
filter-all [] = refl
filter-all (x ∷ xs) = ap (λ ys. x ∷ ys) (filter-all xs)

swapped : (a b : Bool) → (a && b) ≡ (b && a)
swapped true true = refl
swapped true false = refl
swapped false true = refl
swapped false false = refl

-- a test that is false at v leaves v out as well
without : (p : ValueTree → Bool) (v : ValueTree) → p v ≡ false → (w : ValueTree) → (not (equal_trees v w) && p w) ≡ p w
without p v h w = elim (sure (equal_trees v w)) [
  | inl e ↦ (λ i. not (e i) && p w) ∙ sym (ap p (sym (equal_trees-true v w e)) ∙ h)
  | inr e ↦ (λ i. not (e i) && p w)
]

-- ---- each once

new-names : List ValueTree → ValueTree → Bool
new-names known w = not (has_name known w)

one-more : (known : List ValueTree) (v w : ValueTree) → (not (equal_trees v w) && not (has_name known w)) ≡ not (has_name (known ++ v ∷ []) w)
one-more known v w = apart (equal_trees v w) (has_name known w) ∙ ap not (sym (has-append known (v ∷ []) w ∙ (λ i. has_name known w || (turned i || false)) ∙ ap (λ b. has_name known w || b) (or-nothing (equal_trees v w))))
  where
    apart : (a b : Bool) → (not a && not b) ≡ not (b || a)
    apart true true = refl
    apart true false = refl
    apart false true = refl
    apart false false = refl

    or-nothing : (a : Bool) → (a || false) ≡ a
    or-nothing true = refl
    or-nothing false = refl

    same : (p q : Bool) → (p ≡ true → q ≡ true) → (q ≡ true → p ≡ true) → p ≡ q
    same true q h k = sym (h refl)
    same false true h k = k refl
    same false false h k = refl

    turned : equal_trees w v ≡ equal_trees v w
    turned = same (equal_trees w v) (equal_trees v w) (λ h. equal_trees-same v w (sym (equal_trees-true w v h))) (λ h. equal_trees-same w v (sym (equal_trees-true v w h)))

-- one step of `with-new`
chosen-new : (b : Bool) (known : List ValueTree) (v : ValueTree) (vs : List ValueTree) → has_name known v ≡ b →
    ((xs : List ValueTree) → with_names xs vs ≡ xs ++ filter (λ w. not (has_name xs w)) (without_repeats vs)) →
    with_names (if b then known else known ++ v ∷ []) vs ≡ known ++ (if not b then v ∷ filter (λ w. not (equal_trees v w) && not (has_name known w)) (without_repeats vs) else filter (λ w. not (equal_trees v w) && not (has_name known w)) (without_repeats vs))
chosen-new true known v vs e rest = rest known ∙ ap (λ ys. known ++ ys) (sym (filter-same (λ w. not (equal_trees v w) && not (has_name known w)) (λ w. not (has_name known w)) (without (λ w. not (has_name known w)) v (ap not e)) (without_repeats vs)))
chosen-new false known v vs e rest =
    rest (known ++ v ∷ [])
    ∙ append_assoc known (v ∷ []) (filter (λ w. not (has_name (known ++ v ∷ []) w)) (without_repeats vs))
    ∙ ap (λ ys. known ++ v ∷ ys) (sym (filter-same (λ w. not (equal_trees v w) && not (has_name known w)) (λ w. not (has_name (known ++ v ∷ []) w)) (one-more known v) (without_repeats vs)))

-- what is added is what is new, each once
with-new : (vs known : List ValueTree) → with_names known vs ≡ known ++ filter (λ w. not (has_name known w)) (without_repeats vs)
unfolding without_repeats
with-new [] known = sym (append-nil known)
with-new (v ∷ vs) known =
    chosen-new (has_name known v) known v vs refl (with-new vs)
    ∙ ap (λ ys. known ++ (if not (has_name known v) then v ∷ ys else ys)) (sym (filter-twice (λ w. not (has_name known w)) (λ w. not (equal_trees v w)) (without_repeats vs)))

-- names that are gathered from none are each once
pub with-once : (vs : List ValueTree) → with_names [] vs ≡ without_repeats vs
with-once vs = with-new vs [] ∙ filter-all (without_repeats vs)

-- ---- each once, of one sort

chosen-once : (p : ValueTree → Bool) (b : Bool) (v : ValueTree) (vs : List ValueTree) → p v ≡ b → without_repeats (filter p vs) ≡ filter p (without_repeats vs) →
    without_repeats (if b then v ∷ filter p vs else filter p vs) ≡ (if b then v ∷ filter p (filter (λ w. not (equal_trees v w)) (without_repeats vs)) else filter p (filter (λ w. not (equal_trees v w)) (without_repeats vs)))
unfolding without_repeats
chosen-once p true v vs e rest =
    ap (λ ys. v ∷ filter (λ w. not (equal_trees v w)) ys) rest
    ∙ ap (λ ys. v ∷ ys) (filter-twice (λ w. not (equal_trees v w)) p (without_repeats vs) ∙ filter-same (λ w. p w && not (equal_trees v w)) (λ w. not (equal_trees v w) && p w) (λ w. swapped (p w) (not (equal_trees v w))) (without_repeats vs) ∙ sym (filter-twice p (λ w. not (equal_trees v w)) (without_repeats vs)))
chosen-once p false v vs e rest = rest ∙ sym (filter-twice p (λ w. not (equal_trees v w)) (without_repeats vs) ∙ filter-same (λ w. not (equal_trees v w) && p w) p (without p v e) (without_repeats vs))

-- the names of a sort, each once
pub once-filter : (p : ValueTree → Bool) (vs : List ValueTree) → without_repeats (filter p vs) ≡ filter p (without_repeats vs)
unfolding without_repeats
once-filter p [] = refl
once-filter p (v ∷ vs) = chosen-once p (p v) v vs refl (once-filter p vs)
