-- Tallies in which a name has another value, or is another name.
use Rattle.std.proofs.Common.{◌≡◌, refl, sym, ap, ◌∙◌, ℕ, zero, suc, ◌+◌, ◌*◌, ◌<◌, arith, Bool, true, false, List, [], ◌∷◌, length, Option, Some, None, slice_get, is_some}
use Rattle.std.proofs.lemmas.Bool.{true≢false}
use Rattle.jh_name.specs.declared.naming.Name.{Name}
use Rattle.jh_name.specs.declared.place.Sort.TheVariants as Sort
use Rattle.jh_form.specs.Tree.{ValueTree, FormulaTree, of_object, of_number, of_truth, of_set, of_field}
use Rattle.jh_form.specs.Tree as tree
use Rattle.jh_form.specs.Sorts.{tree_sort}
use Rattle.jh_arena.specs.table.Entries.{Listing, is_truth, the_truth, the_value}
use Rattle.jh_arena.specs.table.Growth.{Extends, AreDifferent, Grows}
use Rattle.jh_arena.specs.table.Nodes.{nodes}
use Rattle.jh_weakest.specs.declared.sequent_count.tally.Share.{Share}
use Rattle.jh_seq.specs.counting.Counted.{with_value, with_name}
use Rattle.jh_seq.specs.counting.Goals.{Weights, capped, goals}
use Rattle.jh_weakest.specs.sequent_count.Tallies.{name_at, shares_of, tally_of, AreNames, Lacks, Counts}
use Rattle.jh_weakest.proofs.sequent_count.Takings.{counts-grow, leaf-name, lacks-same, value-away, value-here, name-away, name-here, put-back}

truth-value : (o : Option ValueTree) → is_truth o ≡ true → the_value o ≡ of_truth (the_truth o)
unfolding is_truth the_truth the_value
truth-value (Some (of_truth a)) h = refl
truth-value _ h = absurd (true≢false (sym h))

truth-stays : (old new : List ValueTree) (n : ℕ) (o : Option ValueTree) → Grows old new → slice_get old n ≡ o → is_truth o ≡ true → the_truth (slice_get new n) ≡ the_truth o
unfolding is_truth the_truth
truth-stays old new n (Some (of_truth a)) g e h = ap the_truth (g.keeps n (of_truth a) e)
truth-stays old new n _ g e h = absurd (true≢false (sym h))

pub truth-sort : (o : Option ValueTree) → is_some o ≡ true → tree_sort (the_value o) ≡ Sort.Bool → is_truth o ≡ true
unfolding is_truth the_value
truth-sort (Some (of_object a)) h e = absurd (cc)
truth-sort (Some (of_number a)) h e = absurd (cc)
truth-sort (Some (of_truth a)) h e = refl
truth-sort (Some (of_set a)) h e = absurd (cc)
truth-sort (Some (of_field a)) h e = absurd (cc)
truth-sort None h e = absurd (true≢false (sym h))

pub within-some : (xs : List ValueTree) (n : ℕ) → n < length xs → is_some (slice_get xs n) ≡ true
within-some [] n h = absurd (omega arith)
within-some (x ∷ xs) zero h = refl
within-some (x ∷ xs) (suc n) h = within-some xs n (omega arith)

-- a value of another sort is no goal
pub other-value : (w : Weights) (x : Name) (v : ValueTree) → (tree_sort v ≡ Sort.Bool → ⊥) → with_value w x v ≡ w
other-value w x (of_object a) differs = refl
other-value w x (of_number a) differs = refl
other-value w x (of_truth a) differs = absurd (differs refl)
other-value w x (of_set a) differs = refl
other-value w x (of_field a) differs = refl

pub other-counts : (t : Listing) (fixed : ℕ) (ss : List Share) (x : Name) (v : ValueTree) (g : Weights → ℕ) → (tree_sort v ≡ Sort.Bool → ⊥) → Counts t fixed ss g → Counts t fixed ss (λ w. g (with_value w x v))
other-counts t fixed ss x v g differs h = record { names = h.names; is = λ w. h.is w ∙ ap (λ u. capped (g u)) (sym (other-value w x v differs)) }

-- no share sees what names give
pub empty-counts : (t : Listing) (fixed : ℕ) (ss : List Share) (g : Weights → ℕ) (v : Weights → Weights) → ss ≡ [] → Counts t fixed ss g → Counts t fixed ss (λ w. g (v w))
empty-counts t fixed ss g v none h = record {
  names = h.names;
  is = λ w. (λ i. capped (fixed + shares_of t (none i) w)) ∙ (λ i. capped (fixed + shares_of t (sym none i) (v w))) ∙ h.is (v w);
}

module _ (t u : Listing) (fixed : ℕ) (ss rest : List Share) (plain marked leaf : ℕ) (x : Name) (g : Weights → ℕ) (grows : Extends t u) (differ : AreDifferent (nodes u))
    (there : slice_get (nodes u) leaf ≡ Some (of_truth (tree.free_truth x))) (names : AreNames u rest) (lacks : Lacks leaf rest)
    (taken : (w : Weights) → capped (shares_of u ss w) ≡ capped (shares_of u rest w + (plain * w (name_at u leaf) false + marked * w (name_at u leaf) true)))
    (counts : Counts t fixed ss g) where
  -- the shares that were taken, where a name gives something else
  taken-as : (v w : Weights) (p m : ℕ) → ((y : Name) (k : Bool) → (y ≡ x → ⊥) → v y k ≡ w y k) → v x false ≡ p → v x true ≡ m →
      capped (shares_of u ss v) ≡ capped (shares_of u rest w + (plain * p + marked * m))
  taken-as v w p m agree e f =
      taken v
      ∙ (λ i. capped (lacks-same u leaf x there differ v w agree rest names lacks i
      + (plain * (ap (λ y. v y false) (leaf-name u leaf x there) ∙ e) i + marked * (ap (λ y. v y true) (leaf-name u leaf x there) ∙ f) i)))

  pub given-counts : (one two : List Share) (f1 f2 value : ℕ) → is_truth (slice_get (nodes t) value) ≡ true → AreNames u two →
      ((w : Weights) → capped (tally_of u f1 one w) ≡ capped (tally_of u fixed rest w + plain * goals (the_truth (slice_get (nodes u) value)) w false)) →
      ((w : Weights) → capped (tally_of u f2 two w) ≡ capped (tally_of u f1 one w + marked * goals (the_truth (slice_get (nodes u) value)) w true)) →
      Counts u f2 two (λ w. g (with_value w x (the_value (slice_get (nodes t) value))))
  given-counts one two f1 f2 value truth named first second =
      let f = the_truth (slice_get (nodes t) value) in
      let same : the_truth (slice_get (nodes u) value) ≡ f = truth-stays (nodes t) (nodes u) value (slice_get (nodes t) value) grows.nodes refl truth in
      record {
        names = named;
        is = λ w.
            put-back (tally_of u f1 one w) (tally_of u f2 two w) fixed (shares_of u rest w) (plain * goals f w false) (marked * goals f w true) (shares_of u ss (with_value w x (of_truth f)))
            (first w ∙ (λ i. capped (tally_of u fixed rest w + plain * goals (same i) w false)))
            (second w ∙ (λ i. capped (tally_of u f1 one w + marked * goals (same i) w true)))
            (taken-as (with_value w x (of_truth f)) w (goals f w false) (goals f w true) (value-away w x f) (value-here w x f false) (value-here w x f true))
            ∙ (counts-grow t u grows fixed ss g counts).is (with_value w x (of_truth f))
            ∙ (λ i. capped (g (with_value w x (sym (truth-value (slice_get (nodes t) value) truth) i))));
      }

  pub renamed-counts : (one two : List Share) (f1 f2 other : ℕ) (z : Name) → slice_get (nodes u) other ≡ Some (of_truth (tree.free_truth z)) → AreNames u two →
      ((w : Weights) → capped (tally_of u f1 one w) ≡ capped (tally_of u fixed rest w + plain * w (name_at u other) false)) →
      ((w : Weights) → capped (tally_of u f2 two w) ≡ capped (tally_of u f1 one w + marked * w (name_at u other) true)) →
      Counts u f2 two (λ w. g (with_name w x z))
  renamed-counts one two f1 f2 other z at named first second = record {
    names = named;
    is = λ w.
        put-back (tally_of u f1 one w) (tally_of u f2 two w) fixed (shares_of u rest w) (plain * w z false) (marked * w z true) (shares_of u ss (with_name w x z))
        (first w ∙ (λ i. capped (tally_of u fixed rest w + plain * w (leaf-name u other z at i) false)))
        (second w ∙ (λ i. capped (tally_of u f1 one w + marked * w (leaf-name u other z at i) true)))
        (taken-as (with_name w x z) w (w z false) (w z true) (name-away w x z) (name-here w x z false) (name-here w x z true))
        ∙ (counts-grow t u grows fixed ss g counts).is (with_name w x z);
  }
