-- What a formula speaks of, by the nodes of its free names.
use Rattle.std.proofs.Common.{◌≡◌, refl, sym, ap, ◌∙◌, ℕ, ◌<◌, Bool, true, false, not, ◌&&◌, ◌||◌, List, [], ◌∷◌, map, length, slice_get, Some, nat_eq, is_some}
use Rattle.std.specs.List.{list_any, list_all, filter}
use Rattle.std.proofs.lemmas.Bool.{true≢false, eqb-true, eq-eqb}
use Rattle.std.proofs.lemmas.Option.{slice_get_within}
use Rattle.jh_name.specs.declared.naming.Name.{Name}
use Rattle.jh_name.specs.declared.place.Sort as place
use Rattle.jh_form.specs.Tree.{FormulaTree, ValueTree}
use Rattle.jh_form.specs.Tree as t
use Rattle.jh_form.specs.Passing.{name_equal, value_passes, formula_passes}
use Rattle.jh_form.proofs.Names.{name_equal-same, name_equal-true}
use Rattle.jh_arena.specs.table.Entries.{Pools}
use Rattle.jh_arena.specs.table.Growth.{AreDifferent}
use Rattle.jh_arena.specs.table.Nodes.{shape_tree}
use Rattle.jh_arena.specs.declared.table.shapes.Shape.{Shape}
use Rattle.jh_arena.specs.declared.table.shapes.Shape.TheVariants as s
use Rattle.jh_arena.proofs.table.Children.{it-is-value}
use Rattle.jh_approx.specs.jh_normal_forms.parts.Asked.{is_free_name}
use Rattle.jh_approx.specs.jh_normal_forms.parts.Standing.{value_parts}
use Rattle.jh_approx.specs.jh_normal_forms.declared.parts.order.Order.TheVariants as order
use Rattle.jh_approx.specs.free_name_tests.Passing.{name_passes, FreeNamesDecide}
use Rattle.jh_approx.specs.definition.Links.{is_class_set, at_set, is_set_of_class, reads_set, reads_within, is_nameless}
use Rattle.jh_query_names.specs.query_names.Kinds.{value_at}
use Rattle.jh_query_names.specs.mentioned_names.Notes.{AreTrees, AreFree, AreInside}
use Rattle.jh_query_names.proofs.mentioned_names.Listings.{head-same, rest-same, value-is}
use Rattle.jh_abstraction.specs.choice_of_hypotheses.Choosing.{stands_within}
use Rattle.jh_abstraction.proofs.choice_of_hypotheses.Lists.{both-ways, any-alike, not-all, all-in, all-at, all-inserted}

nothing-some : {X : Type 0} (x : X) (xs : List X) → [] ≡ x ∷ xs → ⊥
nothing-some x xs e = cc

module _ (ts : List ValueTree) where
  trees-all : (f : ℕ → Bool) (q : ValueTree → Bool) → ((n : ℕ) (v : ValueTree) → slice_get ts n ≡ Some v → f n ≡ q v) → (ns : List ℕ) (vs : List ValueTree) → AreTrees ts ns vs → list_all f ns ≡ list_all q vs
  trees-all f q same [] [] are = refl
  trees-all f q same [] (v ∷ vs) are = absurd (nothing-some (Some v) (map (λ w. Some w) vs) are)
  trees-all f q same (n ∷ ns) [] are = absurd (nothing-some (slice_get ts n) (map (slice_get ts) ns) (sym are))
  trees-all f q same (n ∷ ns) (v ∷ vs) are = λ i.
      same n v (head-same (slice_get ts n) (Some v) (map (slice_get ts) ns) (map (λ w. Some w) vs) are) i
      && trees-all f q same ns vs (rest-same (slice_get ts n) (Some v) (map (slice_get ts) ns) (map (λ w. Some w) vs) are) i

  all-true : (vs : List ValueTree) → list_all (λ v. true) vs ≡ true
  all-true [] = refl
  all-true (v ∷ vs) = all-true vs

  free-all : (f : ℕ → Bool) (q : ValueTree → Bool) → ((n : ℕ) (v : ValueTree) → slice_get ts n ≡ Some v → f n ≡ q v) → (v : ValueTree) (ns : List ℕ) → AreFree ts v ns → list_all f ns ≡ list_all q (filter is_free_name (value_parts v order.OuterFirst))
  free-all f q same v ns h = ap (list_all f) h.added ∙ all-inserted f h.numbers [] ∙ trees-all f q same h.numbers (filter is_free_name (value_parts v order.OuterFirst)) h.are

  free-there : (v : ValueTree) (ns : List ℕ) → AreFree ts v ns → list_all (λ n. is_some (slice_get ts n)) ns ≡ true
  free-there v ns h = free-all (λ n. is_some (slice_get ts n)) (λ w. true) (λ n w e. ap is_some e) v ns h ∙ all-true (filter is_free_name (value_parts v order.OuterFirst))

  inside : (n : ℕ) → is_some (slice_get ts n) ≡ true → n < length ts
  inside n h = slice_get_within ts n (value_at ts n) (it-is-value (slice_get ts n) h)

  pub free-inside : (v : ValueTree) (ns : List ℕ) → AreFree ts v ns → AreInside ts ns
  free-inside v ns h i n at = inside n (all-at (λ m. is_some (slice_get ts m)) ns i n (free-there v ns h) at)

  module _ (law : FreeNamesDecide) where
    formula-decides : (p : Name → place.Sort → Bool) (a : FormulaTree) (ns : List ℕ) → AreFree ts (t.of_truth a) ns → formula_passes a p ≡ list_all (λ n. name_passes p (value_at ts n)) ns
    unfolding value_passes
    formula-decides p a ns h = law p (t.of_truth a) order.OuterFirst ∙ sym (free-all (λ n. name_passes p (value_at ts n)) (name_passes p) (λ n v e. ap (name_passes p) (value-is ts n v e)) (t.of_truth a) ns h)

    pub within-decides : (goal a : FormulaTree) (ns : List ℕ) → AreFree ts (t.of_truth a) ns → reads_within goal a ≡ list_all (λ n. name_passes (stands_within goal) (value_at ts n)) ns
    unfolding reads_within
    within-decides goal a ns h = formula-decides (stands_within goal) a ns h

    pub nameless-decides : (a : FormulaTree) (ns : List ℕ) → AreFree ts (t.of_truth a) ns → is_nameless a ≡ list_all (λ n. name_passes is_set_of_class (value_at ts n)) ns
    unfolding is_nameless
    nameless-decides a ns h = formula-decides is_set_of_class a ns h

    -- the names that aren't this set
    abbrev other_set : Name → Name → place.Sort → Bool
    other_set x y s = not (at_set s && name_equal x y)

    twice : (b : Bool) → not (not b) ≡ true → b ≡ true
    twice true h = refl
    twice false h = absurd (true≢false (sym h))

    only-set : (x : Name) (v : ValueTree) → not (name_passes (other_set x) v) ≡ true → v ≡ t.of_set (t.free_set x)
    unfolding name_passes at_set
    only-set x (t.of_set (t.free_set y)) h = ap (λ z. t.of_set (t.free_set z)) (sym (name_equal-true x y (twice (name_equal x y) h)))
    only-set x (t.of_object (t.free_object y)) h = absurd (true≢false (sym h))
    only-set x (t.of_number (t.free_number y)) h = absurd (true≢false (sym h))
    only-set x (t.of_truth (t.free_truth y)) h = absurd (true≢false (sym h))
    only-set x (t.of_field (t.free_field y)) h = absurd (true≢false (sym h))
    only-set x _ h = absurd (true≢false (sym h))

    that-set : (x : Name) (v : ValueTree) → v ≡ t.of_set (t.free_set x) → not (name_passes (other_set x) v) ≡ true
    unfolding name_passes at_set
    that-set x v e = ap (λ w. not (name_passes (other_set x) w)) e ∙ ap (λ b. not (not b)) (name_equal-same x x refl)

    -- a set is among the free names of a formula exactly where the formula reads it
    pub reads-has : AreDifferent ts → (goal : FormulaTree) (reads : List ℕ) → AreFree ts (t.of_truth goal) reads → (n : ℕ) (x : Name) → slice_get ts n ≡ Some (t.of_set (t.free_set x)) → list_any (nat_eq n) reads ≡ reads_set goal x
    unfolding reads_set
    reads-has different goal reads h n x at =
        sym (ap not (formula-decides (other_set x) goal reads h) ∙ not-all (λ m. name_passes (other_set x) (value_at ts m)) reads
        ∙ any-alike (λ m. not (name_passes (other_set x) (value_at ts m))) (nat_eq n) reads (λ m k.
        let there : slice_get ts m ≡ Some (value_at ts m) = it-is-value (slice_get ts m) (all-in (λ l. is_some (slice_get ts l)) reads m (free-there (t.of_truth goal) reads h) k) in
        both-ways (not (name_passes (other_set x) (value_at ts m))) (nat_eq n m)
        (λ l. eq-eqb n m (different n m (t.of_set (t.free_set x)) at (there ∙ ap (λ v. Some v) (only-set x (value_at ts m) l))))
        (λ l. that-set x (value_at ts m) (ap (value_at ts) (sym (eqb-true n m l)) ∙ value-is ts n (t.of_set (t.free_set x)) at))))

-- ---- free names by their shapes

pub set-stands : (goal : FormulaTree) (x : Name) → name_passes (stands_within goal) (t.of_set (t.free_set x)) ≡ (not (is_class_set x) || reads_set goal x)
unfolding name_passes at_set
set-stands goal x = refl

pub set-class : (x : Name) → name_passes is_set_of_class (t.of_set (t.free_set x)) ≡ is_class_set x
unfolding name_passes at_set
set-class x = refl

module _ (p : Pools) (ts : List ValueTree) where
  pub other-stands : (goal : FormulaTree) (x : Shape) → ((n : ℕ) → x ≡ s.FreeSet n → ⊥) → name_passes (stands_within goal) (shape_tree p ts x) ≡ true
  unfolding name_passes at_set shape_tree
  other-stands goal (s.FreeSet n) h = absurd (h n refl)
  other-stands goal (s.FreeObject n) h = refl
  other-stands goal (s.FreeNumber n) h = refl
  other-stands goal (s.FreeTruth n) h = refl
  other-stands goal (s.FreeField n) h = refl
  other-stands goal _ h = refl

  pub other-class : (x : Shape) → ((n : ℕ) → x ≡ s.FreeSet n → ⊥) → ((n : ℕ) → x ≡ s.FreeObject n → ⊥) → ((n : ℕ) → x ≡ s.FreeNumber n → ⊥) → ((n : ℕ) → x ≡ s.FreeTruth n → ⊥) → ((n : ℕ) → x ≡ s.FreeField n → ⊥) → name_passes is_set_of_class (shape_tree p ts x) ≡ true
  unfolding name_passes shape_tree
  other-class (s.FreeSet n) a b c d e = absurd (a n refl)
  other-class (s.FreeObject n) a b c d e = absurd (b n refl)
  other-class (s.FreeNumber n) a b c d e = absurd (c n refl)
  other-class (s.FreeTruth n) a b c d e = absurd (d n refl)
  other-class (s.FreeField n) a b c d e = absurd (e n refl)
  other-class _ a b c d e = refl
