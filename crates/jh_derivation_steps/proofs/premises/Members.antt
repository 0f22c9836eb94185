-- Fields at the nodes of a list, and which lists of fields have axioms.
use Rattle.std.proofs.Common.{◌≡◌, refl, sym, ap, subst, ◌∙◌, ℕ, zero, suc, ◌<◌, nat_le, nat_eq, Bool, true, false, not, ◌&&◌, ◌||◌, List, [], ◌∷◌, length, slice_get, is_some, Some, None, arith}
use Rattle.std.specs.List.{list_any}
use Rattle.std.proofs.lemmas.Bool.{true≢false, eqb-true, eq-eqb}
use Rattle.jh_form.specs.Tree.{FieldTree, ValueTree, of_field}
use Rattle.jh_form.proofs.ClosedLemmas.{both-left, both-right}
use Rattle.jh_boxed_operations.proofs.comparison.Equalities.{equal_trees-true, equal_trees-same}
use Rattle.jh_arena.specs.table.Entries.{Listing, is_field, the_list, the_truth, are_fields, fields_at}
use Rattle.jh_arena.specs.table.Growth.{AreDifferent}
use Rattle.jh_arena.specs.table.Nodes.{nodes, fits_in, tree_in, shape_tree}
use Rattle.jh_arena.specs.declared.table.shapes.Shape.{Shape}
use Rattle.jh_arena.specs.declared.table.shapes.Shape.TheVariants as s
use Rattle.jh_arena.proofs.table.Children.{it-is-field}
use Rattle.jh_arena.proofs.table.PartSteps.{part-Tree-l, part-Tree-fields}
use Rattle.jh_reach.specs.Standing.{AreFields}
use Rattle.jh_derivation_rules.specs.Cited.{members, are_one, all_differ, has_axioms}
use Rattle.jh_derivation_steps.specs.premises.Apart.{all_apart}
use Rattle.jh_derivation_steps.specs.premises.Nodes.{formula_at, forest_fields}
use Rattle.jh_derivation_steps.proofs.premises.Shaping.{fits-at, formula-at}

-- two truths are equal where each follows from the other
both-ways : (p q : Bool) → (p ≡ true → q ≡ true) → (q ≡ true → p ≡ true) → p ≡ q
both-ways true q h k = sym (h refl)
both-ways false true h k = k refl
both-ways false false h k = refl

some-same : (v w : ValueTree) → Some v ≡ Some w → v ≡ w
some-same v w e = cc

module _ (tab : Listing) (different : AreDifferent (nodes tab)) where
  -- two nodes are one exactly where their fields are
  pub one-node : (n m : ℕ) (f g : FieldTree) → slice_get (nodes tab) n ≡ Some (of_field f) → slice_get (nodes tab) m ≡ Some (of_field g) → nat_eq n m ≡ are_one f g
  one-node n m f g h k = both-ways (nat_eq n m) (are_one f g)
      (λ e. equal_trees-same (of_field f) (of_field g) (some-same (of_field f) (of_field g) (sym h ∙ ap (slice_get (nodes tab)) (eqb-true n m e) ∙ k)))
      (λ e. eq-eqb n m (different n m (of_field f) h (k ∙ ap (λ v. Some v) (sym (equal_trees-true (of_field f) (of_field g) e)))))

  among-fields : (n : ℕ) (f : FieldTree) (ns : List ℕ) (fs : List FieldTree) → slice_get (nodes tab) n ≡ Some (of_field f) → AreFields tab ns fs → list_any (nat_eq n) ns ≡ list_any (are_one f) fs
  unfolding AreFields
  among-fields n f [] [] h k = refl
  among-fields n f [] (g ∷ fs) h k = absurd k
  among-fields n f (m ∷ ns) [] h k = absurd k
  among-fields n f (m ∷ ns) (g ∷ fs) h k = λ i. one-node n m f g h k.0 i || among-fields n f ns fs h k.1 i

  apart-is : (ns : List ℕ) (fs : List FieldTree) → AreFields tab ns fs → all_apart ns ≡ all_differ fs
  unfolding AreFields all_differ
  apart-is [] [] h = refl
  apart-is [] (f ∷ fs) h = absurd h
  apart-is (n ∷ ns) [] h = absurd h
  apart-is (n ∷ ns) (f ∷ fs) h = λ i. not (among-fields n f ns fs h.0 h.1 i) && apart-is ns fs h.1 i

  fields-length : (ns : List ℕ) (fs : List FieldTree) → AreFields tab ns fs → length ns ≡ length fs
  unfolding AreFields
  fields-length [] [] h = refl
  fields-length [] (f ∷ fs) h = absurd h
  fields-length (n ∷ ns) [] h = absurd h
  fields-length (n ∷ ns) (f ∷ fs) h = ap suc (fields-length ns fs h.1)

  -- whether there are axioms of them
  axioms-are : (ns : List ℕ) (fs : List FieldTree) → AreFields tab ns fs → (nat_le 1 (length ns) && nat_le (length ns) 4 && all_apart ns) ≡ has_axioms fs
  unfolding has_axioms
  axioms-are ns fs h = λ i. nat_le 1 (fields-length ns fs h i) && nat_le (fields-length ns fs h i) 4 && apart-is ns fs h i

  -- by the two tests, the second where the first holds
  pub axioms-told : (ns : List ℕ) (fs : List FieldTree) (short told : Bool) → AreFields tab ns fs → short ≡ (nat_le 1 (length ns) && nat_le (length ns) 4) → short ≡ true → told ≡ all_apart ns → told ≡ has_axioms fs
  axioms-told ns fs short told h e is k = k ∙ ap (λ b. b && all_apart ns) (sym is ∙ e) ∙ axioms-are ns fs h

  pub axioms-untold : (ns : List ℕ) (fs : List FieldTree) (short : Bool) → AreFields tab ns fs → short ≡ (nat_le 1 (length ns) && nat_le (length ns) 4) → short ≡ false → short ≡ has_axioms fs
  axioms-untold ns fs short h e is = is ∙ ap (λ b. b && all_apart ns) (sym is ∙ e) ∙ axioms-are ns fs h

-- where there is no node there is no field
pub no-field : (tab : Listing) (ns : List ℕ) (fs : List FieldTree) (k : ℕ) → AreFields tab ns fs → slice_get ns k ≡ None → slice_get fs k ≡ None
unfolding AreFields
no-field tab [] [] k h e = refl
no-field tab [] (f ∷ fs) k h e = absurd h
no-field tab (n ∷ ns) [] k h e = refl
no-field tab (n ∷ ns) (f ∷ fs) zero h e = absurd (cc)
no-field tab (n ∷ ns) (f ∷ fs) (suc k) h e = no-field tab ns fs k h.1 e

-- the fields at the nodes of a list
members-at : (tab : Listing) (ns : List ℕ) → are_fields (nodes tab) ns ≡ true → AreFields tab ns (members (fields_at (nodes tab) ns))
unfolding AreFields are_fields fields_at members
members-at tab [] h = tt
members-at tab (n ∷ ns) h = (it-is-field (slice_get (nodes tab) n) (both-left (is_field (slice_get (nodes tab) n)) (are_fields (nodes tab) ns) h), members-at tab ns (both-right (is_field (slice_get (nodes tab) n)) (are_fields (nodes tab) ns) h))

inside-list : {X : Type 0} (xs : List X) (k : ℕ) → is_some (slice_get xs k) ≡ true → k < length xs
inside-list [] k h = absurd (true≢false (sym h))
inside-list (x ∷ xs) zero h = omega arith
inside-list (x ∷ xs) (suc k) h = let less : k < length xs = inside-list xs k h in omega (arith, less)

-- A node that says that some fields are a forest: the list of their nodes.
module _ (tab : Listing) (node l : ℕ) (x : Shape) (fits : fits_in tab x ≡ true) (is : x ≡ s.Tree l) where
  pub list-inside : l < length tab.pools.lists
  list-inside = inside-list tab.pools.lists l (part-Tree-l tab.pools (nodes tab) l (fits-at tab x (s.Tree l) fits is))

  pub forest-nodes : (ns : List ℕ) → slice_get (nodes tab) node ≡ Some (tree_in tab x) → slice_get tab.pools.lists l ≡ Some ns → AreFields tab ns (members (forest_fields (formula_at (nodes tab) node)))
  unfolding the_list the_truth shape_tree forest_fields
  forest-nodes ns tree at =
      let are : are_fields (nodes tab) ns ≡ true = sym (ap (λ o. are_fields (nodes tab) (the_list o)) at) ∙ part-Tree-fields tab.pools (nodes tab) l (fits-at tab x (s.Tree l) fits is) in
      let same : members (fields_at (nodes tab) ns) ≡ members (forest_fields (formula_at (nodes tab) node)) =
      sym (ap (λ o. members (fields_at (nodes tab) (the_list o))) at) ∙ sym (formula-at (λ a. members (forest_fields a)) tab node x (s.Tree l) tree is) in
      subst (λ (fs : List FieldTree). AreFields tab ns fs) same (members-at tab ns are)
