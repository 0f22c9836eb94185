-- The updates of formulas: each holds no variable bound outside it, and stands there once.
use Rattle.std.proofs.Common.{◌≡◌, refl, sym, ap, subst, ◌∙◌, ℕ, zero, suc, ◌+◌, ◌<◌, Bool, true, false, not, ◌&&◌, ◌||◌, if◌then◌else◌, ◌⊎◌, inl, inr, List, [], ◌∷◌, ◌++◌, take, length, slice_get, Some, None, nat_eq, arith, add-one}
use Rattle.std.specs.Prelude.{filter}
use Rattle.std.specs.List.{list_any, list_all}
use Rattle.std.proofs.lemmas.Bool.{true≢false, eqb-true}
use Rattle.indexmap.specs.IndexSet.{insert_key}
use Rattle.jh_form.specs.Tree.{FormulaTree, ValueTree}
use Rattle.jh_boxed_operations.specs.comparison.Exchanged.{equal_trees}
use Rattle.jh_boxed_operations.proofs.comparison.Equalities.{equal_trees-true, equal_trees-same}
use Rattle.jh_arena.specs.table.Growth.{AreDifferent}
use Rattle.jh_approx.specs.definition.Names.{without_repeats, place_in}
use Rattle.jh_fca.specs.local_form.Named.{is_whole_update, updates, all_parts}
use Rattle.jh_fca.proofs.local_form.Among.{Among, among-filter, filter-passes}
use Rattle.jh_local_form.specs.updates.Updating.{AreValues, AreUpdates}
use Rattle.jh_local_form.proofs.updates.Places.{some-same, node-of, value-at, take-next}

none-some : {X : Type 0} (x : X) → None ≡ Some x → ⊥
none-some x e = cc

-- ---- each once

-- no value of the list stands behind itself
abbrev AllOnce : List ValueTree → Type 0
AllOnce [] = Unit {0}
AllOnce (v ∷ vs) = (Among v vs → ⊥) × AllOnce vs

once-if : (b : Bool) (p : ValueTree → Bool) (v : ValueTree) (vs : List ValueTree) → (Among v vs → ⊥) → AllOnce (filter p vs) → AllOnce (if b then v ∷ filter p vs else filter p vs)
once-if true p v vs away rest = (λ k. away (among-filter p v vs k), rest)
once-if false p v vs away rest = rest

filter-once : (p : ValueTree → Bool) (vs : List ValueTree) → AllOnce vs → AllOnce (filter p vs)
filter-once p [] h = tt
filter-once p (v ∷ vs) h = once-if (p v) p v vs h.0 (filter-once p vs h.1)

not-itself : (v : ValueTree) (vs : List ValueTree) → Among v (filter (λ w. not (equal_trees v w)) vs) → ⊥
not-itself v vs k = true≢false (sym (filter-passes (λ w. not (equal_trees v w)) v vs k) ∙ ap not (equal_trees-same v v refl))

all-once : (vs : List ValueTree) → AllOnce (without_repeats vs)
unfolding without_repeats
all-once [] = tt
all-once (v ∷ vs) = (not-itself v (without_repeats vs), filter-once (λ w. not (equal_trees v w)) (without_repeats vs) (all-once vs))

pub at-among : (vs : List ValueTree) (i : ℕ) (v : ValueTree) → slice_get vs i ≡ Some v → Among v vs
at-among [] i v at = absurd (none-some v at)
at-among (w ∷ vs) zero v at = inl (some-same w v at)
at-among (w ∷ vs) (suc i) v at = inr (at-among vs i v at)

pub among-at : (vs : List ValueTree) (v : ValueTree) → Among v vs → (i : ℕ) × (slice_get vs i ≡ Some v)
among-at [] v h = absurd h
among-at (w ∷ vs) v (inl e) = (zero, ap (λ u. Some u) e)
among-at (w ∷ vs) v (inr h) = let r = among-at vs v h in (suc r.0, r.1)

once-differ : (vs : List ValueTree) → AllOnce vs → AreDifferent vs
once-differ [] h i j v at same = absurd (none-some v at)
once-differ (w ∷ vs) h zero zero v at same = refl
once-differ (w ∷ vs) h zero (suc j) v at same = absurd (h.0 (subst (λ (u : ValueTree). Among u vs) (sym (some-same w v at)) (at-among vs j v same)))
once-differ (w ∷ vs) h (suc i) zero v at same = absurd (h.0 (subst (λ (u : ValueTree). Among u vs) (sym (some-same w v same)) (at-among vs i v at)))
once-differ (w ∷ vs) h (suc i) (suc j) v at same = ap suc (once-differ vs h.1 i j v at same)

-- ---- all pass

passing-if : (b : Bool) (q p : ValueTree → Bool) (v : ValueTree) (vs : List ValueTree) → (b ≡ true → q v ≡ true) → list_all q (filter p vs) ≡ true → list_all q (if b then v ∷ filter p vs else filter p vs) ≡ true
passing-if true q p v vs h rest = λ i. h refl i && rest i
passing-if false q p v vs h rest = rest

filter-all : (p : ValueTree → Bool) (vs : List ValueTree) → list_all p (filter p vs) ≡ true
filter-all p [] = refl
filter-all p (v ∷ vs) = passing-if (p v) p p v vs (λ e. e) (filter-all p vs)

and-left : (a b : Bool) → (a && b) ≡ true → a ≡ true
and-left true b h = refl
and-left false b h = h

and-right : (a b : Bool) → (a && b) ≡ true → b ≡ true
and-right true b h = h
and-right false b h = absurd (true≢false (sym h))

still-all : (q p : ValueTree → Bool) (vs : List ValueTree) → list_all q vs ≡ true → list_all q (filter p vs) ≡ true
still-all q p [] h = refl
still-all q p (v ∷ vs) h = passing-if (p v) q p v vs (λ e. and-left (q v) (list_all q vs) h) (still-all q p vs (and-right (q v) (list_all q vs) h))

once-passes : (q : ValueTree → Bool) (vs : List ValueTree) → list_all q vs ≡ true → list_all q (without_repeats vs) ≡ true
unfolding without_repeats
once-passes q [] h = refl
once-passes q (v ∷ vs) h = λ i. and-left (q v) (list_all q vs) h i && still-all q (λ w. not (equal_trees v w)) (without_repeats vs) (once-passes q vs (and-right (q v) (list_all q vs) h)) i

pub passes-at : (q : ValueTree → Bool) (vs : List ValueTree) (i : ℕ) (v : ValueTree) → list_all q vs ≡ true → slice_get vs i ≡ Some v → q v ≡ true
passes-at q [] i v h at = absurd (none-some v at)
passes-at q (w ∷ vs) zero v h at = ap q (sym (some-same w v at)) ∙ and-left (q w) (list_all q vs) h
passes-at q (w ∷ vs) (suc i) v h at = passes-at q vs i v (and-right (q w) (list_all q vs) h) at

-- the updates of formulas, by nodes at which they stand
pub updates-are : (ts : List ValueTree) (ns : List ℕ) (facts : List FormulaTree) → AreValues ts ns (without_repeats (filter is_whole_update (all_parts facts))) → AreUpdates ts ns (updates facts)
updates-are ts ns facts h = record {
  are = h;
  whole = once-passes is_whole_update (filter is_whole_update (all_parts facts)) (filter-all is_whole_update (all_parts facts));
  differ = once-differ (without_repeats (filter is_whole_update (all_parts facts))) (all-once (filter is_whole_update (all_parts facts)));
}

-- ---- places

place-if : (b : Bool) (n : ℕ) → b ≡ false → (if b then 0 else n + 1) ≡ suc n
place-if true n h = absurd (true≢false h)
place-if false n h = add-one n

differ-tail : (w : ValueTree) (vs : List ValueTree) → AreDifferent (w ∷ vs) → AreDifferent vs
differ-tail w vs h i j v at same = let e : suc i ≡ suc j = h (suc i) (suc j) v at same in omega (arith, e)

sure : (b : Bool) → (b ≡ true) ⊎ (b ≡ false)
sure true = inl refl
sure false = inr refl

zero-suc : (i : ℕ) → zero ≡ suc i → ⊥
zero-suc i e = omega (arith, e)

-- a value that stands once has the place at which it stands
pub place-is : (us : List ValueTree) (i : ℕ) (u : ValueTree) → AreDifferent us → slice_get us i ≡ Some u → place_in us u ≡ i
unfolding place_in
place-is [] i u h at = absurd (none-some u at)
place-is (w ∷ us) zero u h at = ap (λ b. if b then 0 else place_in us u + 1) (equal_trees-same w u (some-same w u at))
place-is (w ∷ us) (suc i) u h at =
    elim (sure (equal_trees w u)) [
      | inl e ↦ absurd (zero-suc i (h zero (suc i) u (ap (λ v. Some v) (equal_trees-true w u e)) at))
      | inr e ↦ place-if (equal_trees w u) (place_in us u) e ∙ ap suc (place-is us i u (differ-tail w us h) at)
    ]

-- nodes of values that differ differ
pub nodes-differ : (ts : List ValueTree) (ns : List ℕ) (us : List ValueTree) → AreValues ts ns us → AreDifferent us → (i j n : ℕ) → slice_get ns i ≡ Some n → slice_get ns j ≡ Some n → i ≡ j
nodes-differ ts ns us are differ i j n at same =
    let a = value-at ts ns us i n are at in
    let b = value-at ts ns us j n are same in
    differ i j a.0 a.1 (b.1 ∙ ap (λ v. Some v) (some-same b.0 a.0 (sym b.2 ∙ a.2)))

-- a node isn't among those before it
not-before : (ns : List ℕ) (i n : ℕ) → ((j k m : ℕ) → slice_get ns j ≡ Some m → slice_get ns k ≡ Some m → j ≡ k) → slice_get ns i ≡ Some n → list_any (nat_eq n) (take i ns) ≡ false
not-before ns zero n h at = refl
not-before [] (suc i) n h at = refl
not-before (m ∷ ns) (suc i) n h at =
    elim (sure (nat_eq n m)) [
      | inl e ↦ absurd (zero-suc i (h zero (suc i) n (ap (λ k. Some k) (sym (eqb-true n m e))) at))
      | inr e ↦ λ k. e k || not-before ns i n (λ j l x a b. let same : suc j ≡ suc l = h (suc j) (suc l) x a b in omega (arith, same)) at k
    ]

-- one more update behind those that were noted
pub noted-next : (ts : List ValueTree) (ns : List ℕ) (us : List ValueTree) (i n : ℕ) → AreValues ts ns us → AreDifferent us → slice_get ns i ≡ Some n → insert_key nat_eq (take i ns) n ≡ take (i + 1) ns
noted-next ts ns us i n are differ at =
    ap (λ b. if b then take i ns else take i ns ++ n ∷ []) (not-before ns i n (nodes-differ ts ns us are differ) at) ∙ sym (take-next ns i n at)
