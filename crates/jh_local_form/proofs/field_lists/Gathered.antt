-- Lists that are gathered one after another are each there once, where they first come; those that come again change nothing.
use Rattle.std.proofs.Common.{◌≡◌, refl, sym, ap, ◌∙◌, ℕ, nat_lt, Bool, true, false, not, ◌&&◌, ◌||◌, if◌then◌else◌, ◌⊎◌, inl, inr, List, [], ◌∷◌, ◌++◌, append_assoc, append-nil, slice_set, length, Some, None}
use Rattle.std.specs.Prelude.{filter, nat_le}
use Rattle.std.specs.List.{list_any, list_all, flat_map}
use Rattle.std.proofs.lemmas.Bool.{true≢false}
use Rattle.std.proofs.lemmas.Grind.{flat_map-append}
use Rattle.std.proofs.lemmas.List.Folds.{list_all-append}
use Rattle.jh_form.specs.Tree.{FieldTree, FormulaTree, ValueTree}
use Rattle.jh_form.specs.Tree as t
use Rattle.jh_form.specs.Passing.{name_equal}
use Rattle.jh_form.proofs.ClosedLemmas.{both-left, both-right}
use Rattle.jh_form.proofs.Names.{name_equal-same, name_equal-true}
use Rattle.jh_boxed_operations.specs.comparison.Exchanged.{equal_trees}
use Rattle.jh_boxed_operations.proofs.comparison.Equalities.{equal_trees-true}
use Rattle.jh_normal_forms.specs.parts.Asked.{is_field_list}
use Rattle.jh_approx.specs.definition.Names.{without_repeats}
use Rattle.jh_reach.specs.Axioms.{BackboneTree}
use Rattle.jh_fca.specs.local_form.Named.{all_parts}
use Rattle.jh_fca.specs.local_form.Chains.{ChangeTree, is_name, are_one_name, are_different_names, has_axioms, place_of, same_list, base_at, backbone, led_from, lists_once, list_of, lists_in, backbones}
use Rattle.jh_local_form.specs.field_lists.Leading.{has_list, with_backbone, with_backbones, led_of}

sure : (b : Bool) → (b ≡ true) ⊎ (b ≡ false)
sure true = inl refl
sure false = inr refl

or-left : (p q : Bool) → p ≡ true → (p || q) ≡ true
or-left p q h = λ i. h i || q

or-right : (p q : Bool) → q ≡ true → (p || q) ≡ true
or-right true q h = refl
or-right false q h = h

-- ---- lists that are one

-- two lists are one where each name is the other's
pub same-lists : (fs gs : List FieldTree) → same_list fs gs ≡ true → fs ≡ gs
unfolding same_list are_one_name is_name
same-lists [] [] h = refl
same-lists [] (g ∷ gs) h = absurd (true≢false (sym h))
same-lists (f ∷ fs) [] h = absurd (true≢false (sym h))
same-lists (t.free_field x ∷ fs) (t.free_field y ∷ gs) h = λ i.
    t.free_field (sym (name_equal-true y x (both-left (name_equal y x) (same_list fs gs) h)) i) ∷ same-lists fs gs (both-right (name_equal y x) (same_list fs gs) h) i
same-lists (t.free_field x ∷ fs) (t.update f a v ∷ gs) h = absurd (true≢false (sym h))
same-lists (t.update f a v ∷ fs) (g ∷ gs) h = absurd (true≢false (sym h))

-- a list of names is one with itself
pub self-list : (fs : List FieldTree) → are_different_names fs ≡ true → same_list fs fs ≡ true
unfolding are_different_names same_list are_one_name is_name
self-list [] h = refl
self-list (t.free_field x ∷ fs) h = λ i. name_equal-same x x refl i && self-list fs (both-right (not (list_any (is_name x) fs)) (are_different_names fs) h) i
self-list (t.update f a v ∷ fs) h = absurd (true≢false (sym h))

-- ---- what a list has

has-append : (xs ys : List BackboneTree) (fs : List FieldTree) → has_list (xs ++ ys) fs ≡ (has_list xs fs || has_list ys fs)
has-append [] ys fs = refl
has-append (x ∷ xs) ys fs = ap (λ b. same_list x.fields fs || b) (has-append xs ys fs) ∙ grouped (same_list x.fields fs) (has_list xs fs) (has_list ys fs)
  where
    grouped : (a b c : Bool) → (a || (b || c)) ≡ ((a || b) || c)
    grouped true b c = refl
    grouped false b c = refl

keeps-if : (b : Bool) (known : List BackboneTree) (c : BackboneTree) (fs : List FieldTree) → has_list known fs ≡ true → has_list (if b then known else known ++ c ∷ []) fs ≡ true
keeps-if true known c fs h = h
keeps-if false known c fs h = has-append known (c ∷ []) fs ∙ or-left (has_list known fs) (has_list (c ∷ []) fs) h

has-if : (b : Bool) (known : List BackboneTree) (c : BackboneTree) → has_list known c.fields ≡ b → same_list c.fields c.fields ≡ true → has_list (if b then known else known ++ c ∷ []) c.fields ≡ true
has-if true known c e h = e
has-if false known c e h = has-append known (c ∷ []) c.fields ∙ or-right (has_list known c.fields) (has_list (c ∷ []) c.fields) (or-left (same_list c.fields c.fields) false h)

pub with-keeps : (cs known : List BackboneTree) (fs : List FieldTree) → has_list known fs ≡ true → has_list (with_backbones known cs) fs ≡ true
with-keeps [] known fs h = h
with-keeps (c ∷ cs) known fs h = with-keeps cs (with_backbone known c) fs (keeps-if (has_list known c.fields) known c fs h)

-- each of some lists is there
abbrev has_all : List BackboneTree → List BackboneTree → Bool
has_all known cs = list_all (λ c. has_list known c.fields) cs

all-keep : (cs ds known : List BackboneTree) → has_all known cs ≡ true → has_all (with_backbones known ds) cs ≡ true
all-keep [] ds known h = refl
all-keep (c ∷ cs) ds known h = λ i.
    with-keeps ds known c.fields (both-left (has_list known c.fields) (has_all known cs) h) i && all-keep cs ds known (both-right (has_list known c.fields) (has_all known cs) h) i

-- each is one with itself
abbrev all_self : List BackboneTree → Bool
all_self cs = list_all (λ c. same_list c.fields c.fields) cs

-- what is added is there
with-has : (cs known : List BackboneTree) → all_self cs ≡ true → has_all (with_backbones known cs) cs ≡ true
with-has [] known h = refl
with-has (c ∷ cs) known h = λ i.
    with-keeps cs (with_backbone known c) c.fields (has-if (has_list known c.fields) known c refl (both-left (same_list c.fields c.fields) (all_self cs) h)) i
    && with-has cs (with_backbone known c) (both-right (same_list c.fields c.fields) (all_self cs) h) i

-- what is there already changes nothing
pub with-known : (cs known : List BackboneTree) → has_all known cs ≡ true → with_backbones known cs ≡ known
with-known [] known h = refl
with-known (c ∷ cs) known h =
    ap (λ b. with_backbones (if b then known else known ++ c ∷ []) cs) (both-left (has_list known c.fields) (has_all known cs) h) ∙ with-known cs known (both-right (has_list known c.fields) (has_all known cs) h)

pub with-append : (xs ys known : List BackboneTree) → with_backbones known (xs ++ ys) ≡ with_backbones (with_backbones known xs) ys
with-append [] ys known = refl
with-append (x ∷ xs) ys known = with-append xs ys (with_backbone known x)

-- ---- filters

filter-same : (p q : BackboneTree → Bool) → ((c : BackboneTree) → p c ≡ q c) → (xs : List BackboneTree) → filter p xs ≡ filter q xs
filter-same p q h [] = refl
filter-same p q h (x ∷ xs) = λ i. if h x i then x ∷ filter-same p q h xs i else filter-same p q h xs i

filter-chosen : (p : BackboneTree → Bool) (b : Bool) (x : BackboneTree) (xs : List BackboneTree) → filter p (if b then x ∷ xs else xs) ≡ (if b && p x then x ∷ filter p xs else filter p xs)
filter-chosen p true x xs = refl
filter-chosen p false x xs = refl

filter-twice : (p q : BackboneTree → Bool) (xs : List BackboneTree) → filter p (filter q xs) ≡ filter (λ c. q c && p c) xs
filter-twice p q [] = refl
filter-twice p q (x ∷ xs) = filter-chosen p (q x) x (filter q xs) ∙ ap (λ ys. if q x && p x then x ∷ ys else ys) (filter-twice p q xs)

filter-all : (xs : List BackboneTree) → filter (λ c. true) xs ≡ xs
filter-all [] = refl
filter-all (x ∷ xs) = ap (λ ys. x ∷ ys) (filter-all xs)

-- ---- each once

-- a list that is there leaves out those that are one with it
without : (known : List BackboneTree) (c d : BackboneTree) → has_list known c.fields ≡ true → (not (same_list c.fields d.fields) && not (has_list known d.fields)) ≡ not (has_list known d.fields)
without known c d h =
    elim (sure (same_list c.fields d.fields)) [
      | inl e ↦ (λ i. not (e i) && not (has_list known d.fields)) ∙ sym (ap not (ap (has_list known) (sym (same-lists c.fields d.fields e)) ∙ h))
      | inr e ↦ λ i. not (e i) && not (has_list known d.fields)
    ]

one-more : (known : List BackboneTree) (c d : BackboneTree) → (not (same_list c.fields d.fields) && not (has_list known d.fields)) ≡ not (has_list (known ++ c ∷ []) d.fields)
one-more known c d = apart (same_list c.fields d.fields) (has_list known d.fields) ∙ ap not (sym (has-append known (c ∷ []) d.fields))
  where
    apart : (a b : Bool) → (not a && not b) ≡ not (b || (a || false))
    apart true true = refl
    apart true false = refl
    apart false true = refl
    apart false false = refl

new-one : (b : Bool) (known : List BackboneTree) (c : BackboneTree) (cs : List BackboneTree) → has_list known c.fields ≡ b →
    ((xs : List BackboneTree) → with_backbones xs cs ≡ xs ++ filter (λ d. not (has_list xs d.fields)) (lists_once cs)) →
    with_backbones (if b then known else known ++ c ∷ []) cs ≡ known ++ (if not b then c ∷ filter (λ d. not (same_list c.fields d.fields) && not (has_list known d.fields)) (lists_once cs) else filter (λ d. not (same_list c.fields d.fields) && not (has_list known d.fields)) (lists_once cs))
new-one true known c cs e rest =
    rest known ∙ ap (λ ys. known ++ ys) (sym (filter-same (λ d. not (same_list c.fields d.fields) && not (has_list known d.fields)) (λ d. not (has_list known d.fields)) (λ d. without known c d e) (lists_once cs)))
new-one false known c cs e rest =
    rest (known ++ c ∷ [])
    ∙ append_assoc known (c ∷ []) (filter (λ d. not (has_list (known ++ c ∷ []) d.fields)) (lists_once cs))
    ∙ ap (λ ys. known ++ c ∷ ys) (sym (filter-same (λ d. not (same_list c.fields d.fields) && not (has_list known d.fields)) (λ d. not (has_list (known ++ c ∷ []) d.fields)) (one-more known c) (lists_once cs)))

with-new : (cs known : List BackboneTree) → with_backbones known cs ≡ known ++ filter (λ d. not (has_list known d.fields)) (lists_once cs)
unfolding lists_once
with-new [] known = sym (append-nil known)
with-new (c ∷ cs) known =
    new-one (has_list known c.fields) known c cs refl (with-new cs)
    ∙ ap (λ ys. known ++ (if not (has_list known c.fields) then c ∷ ys else ys)) (sym (filter-twice (λ d. not (has_list known d.fields)) (λ d. not (same_list c.fields d.fields)) (lists_once cs)))

-- lists that are gathered from none are each there once
pub with-once : (cs : List BackboneTree) → with_backbones [] cs ≡ lists_once cs
with-once cs = with-new cs [] ∙ filter-all (lists_once cs)

-- ---- axioms are given for each list that is led to

axioms-self : (fs : List FieldTree) → has_axioms fs ≡ true → same_list fs fs ≡ true
unfolding has_axioms
axioms-self fs h = self-list fs (both-right (nat_le 1 (length fs) && nat_le (length fs) 4) (are_different_names fs) h)

last-self : (b : Bool) (fs : List FieldTree) → (b ≡ true → same_list fs fs ≡ true) → all_self (if b then backbone fs None ∷ [] else []) ≡ true
last-self true fs h = λ i. h refl i && true
last-self false fs h = refl

more-self : (b d : Bool) (fs : List FieldTree) (c : ChangeTree) (place : ℕ) (rest other : List BackboneTree) → (d ≡ true → same_list fs fs ≡ true) → all_self rest ≡ true → all_self other ≡ true →
    all_self (if b then (if d then backbone fs (Some (base_at c place)) ∷ rest else []) else other) ≡ true
more-self true true fs c place rest other h k l = λ i. h refl i && k i
more-self true false fs c place rest other h k l = refl
more-self false d fs c place rest other h k l = l

led-self : (cs : List ChangeTree) (fs : List FieldTree) → all_self (led_from fs cs) ≡ true
unfolding led_from
led-self [] fs = last-self (has_axioms fs) fs (axioms-self fs)
led-self (c ∷ cs) fs =
    more-self (nat_lt (place_of c.name fs) (length fs)) (has_axioms fs) fs c (place_of c.name fs) (led_from (slice_set fs (place_of c.name fs) c.field) cs) (led_from fs cs) (axioms-self fs) (led-self cs (slice_set fs (place_of c.name fs) c.field)) (led-self cs fs)

all-led : (cs : List ChangeTree) (ls : List (List FieldTree)) → all_self (flat_map (λ fs. led_from fs cs) ls) ≡ true
all-led cs [] = refl
all-led cs (fs ∷ ls) = list_all-append (λ (c : BackboneTree). same_list c.fields c.fields) (led_from fs cs) (flat_map (λ gs. led_from gs cs) ls) ∙ (λ i. led-self cs fs i && all-led cs ls i)

-- ---- lists of formulas, each formula once

module _ (cs : List ChangeTree) where
  abbrev of : ValueTree → List BackboneTree
  of v = led_of cs v

  skipped-if : (b : Bool) (x y : ValueTree) (ys : List ValueTree) (known : List BackboneTree) → equal_trees x y ≡ b → has_all known (of x) ≡ true →
      ((more : List BackboneTree) → has_all more (of x) ≡ true → with_backbones more (flat_map of ys) ≡ with_backbones more (flat_map of (filter (λ w. not (equal_trees x w)) ys))) →
      with_backbones known (of y ++ flat_map of ys) ≡ with_backbones known (flat_map of (if not b then y ∷ filter (λ w. not (equal_trees x w)) ys else filter (λ w. not (equal_trees x w)) ys))
  skipped-if true x y ys known e h rest =
      with-append (of y) (flat_map of ys) known
      ∙ ap (λ bs. with_backbones bs (flat_map of ys)) (ap (λ v. with_backbones known (of v)) (sym (equal_trees-true x y e)) ∙ with-known (of x) known h)
      ∙ rest known h
  skipped-if false x y ys known e h rest =
      with-append (of y) (flat_map of ys) known ∙ rest (with_backbones known (of y)) (all-keep (of x) (of y) known h) ∙ sym (with-append (of y) (flat_map of (filter (λ w. not (equal_trees x w)) ys)) known)

  -- where the lists of one are there, it can be left out
  skipped : (x : ValueTree) (ys : List ValueTree) (known : List BackboneTree) → has_all known (of x) ≡ true → with_backbones known (flat_map of ys) ≡ with_backbones known (flat_map of (filter (λ w. not (equal_trees x w)) ys))
  skipped x [] known h = refl
  skipped x (y ∷ ys) known h = skipped-if (equal_trees x y) x y ys known refl h (skipped x ys)

  each-once : (xs : List ValueTree) (known : List BackboneTree) → with_backbones known (flat_map of xs) ≡ with_backbones known (flat_map of (without_repeats xs))
  unfolding without_repeats
  each-once [] known = refl
  each-once (x ∷ xs) known =
      with-append (of x) (flat_map of xs) known
      ∙ each-once xs (with_backbones known (of x))
      ∙ skipped x (without_repeats xs) (with_backbones known (of x)) (with-has (of x) known (all-led cs (list_of x)))
      ∙ sym (with-append (of x) (flat_map of (filter (λ w. not (equal_trees x w)) (without_repeats xs))) known)

  -- what speaks of no list has none
  no-list : (v : ValueTree) → is_field_list v ≡ false → list_of v ≡ []
  unfolding is_field_list list_of
  no-list (t.of_truth (t.reach fs a b)) h = absurd (true≢false h)
  no-list (t.of_truth (t.tree fs)) h = absurd (true≢false h)
  no-list _ h = refl

  asked-if : (b : Bool) (v : ValueTree) (vs : List ValueTree) → is_field_list v ≡ b → flat_map of vs ≡ flat_map of (filter is_field_list vs) → of v ++ flat_map of vs ≡ flat_map of (if b then v ∷ filter is_field_list vs else filter is_field_list vs)
  asked-if true v vs e h = ap (λ bs. of v ++ bs) h
  asked-if false v vs e h = ap (λ ls. flat_map (λ fs. led_from fs cs) ls ++ flat_map of vs) (no-list v e) ∙ h

  asked : (vs : List ValueTree) → flat_map of vs ≡ flat_map of (filter is_field_list vs)
  asked [] = refl
  asked (v ∷ vs) = asked-if (is_field_list v) v vs refl (asked vs)

  joined : (vs : List ValueTree) → flat_map (λ fs. led_from fs cs) (flat_map list_of vs) ≡ flat_map of vs
  joined [] = refl
  joined (v ∷ vs) = flat_map-append (λ fs. led_from fs cs) (list_of v) (flat_map list_of vs) ∙ ap (λ bs. of v ++ bs) (joined vs)

  -- the backbones of formulas, by their parts that speak of lists, each once
  pub gathered : (facts : List FormulaTree) → with_backbones [] (flat_map of (without_repeats (filter is_field_list (all_parts facts)))) ≡ backbones facts cs
  gathered facts =
      sym (each-once (filter is_field_list (all_parts facts)) [])
      ∙ ap (with_backbones []) (sym (asked (all_parts facts)) ∙ sym (joined (all_parts facts)))
      ∙ with-once (flat_map (λ fs. led_from fs cs) (lists_in facts))
