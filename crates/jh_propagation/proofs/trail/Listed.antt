-- Literals over nodes in a list, and those over formulas.
use Rattle.std.proofs.Common.{◌≡◌, refl, sym, ap, ◌∙◌, ℕ, zero, suc, ◌<◌, arith, length, get_or, Bool, true, false, not, List, [], ◌∷◌, ◌⊎◌, inl, inr, Option, Some, None, slice_get}
use Rattle.jh_form.specs.Tree.{FormulaTree, ValueTree, of_object, of_number, of_truth, of_set, of_field}
use Rattle.jh_form.specs.Tree as t
use Rattle.jh_closure.specs.structures.Literals.{LiteralTree, IsListed}
use Rattle.jh_closure.specs.congruence_closure.Nodes.{Has}
use Rattle.jh_arena.specs.table.Entries.{is_truth, the_truth}
use Rattle.jh_arena.specs.table.Growth.{AreDifferent}
use Rattle.jh_propagation.specs.declared.trail.decided.Decided.{Decided}
use Rattle.jh_propagation.specs.trail.Saying.{truth_at, literal_tree_at, literals_at, opposite_of, IsTruth}

-- what isn't a formula counts as True
truth-or : (o : Option ValueTree) → (o ≡ Some (of_truth (the_truth o))) ⊎ (the_truth o ≡ t.true_formula)
unfolding the_truth
truth-or (Some (of_truth a)) = inl refl
truth-or (Some (of_object a)) = inr refl
truth-or (Some (of_number a)) = inr refl
truth-or (Some (of_set a)) = inr refl
truth-or (Some (of_field a)) = inr refl
truth-or None = inr refl

truth-there : (o : Option ValueTree) → (the_truth o ≡ t.true_formula → ⊥) → o ≡ Some (of_truth (the_truth o))
truth-there o h = elim (truth-or o) [ inl e ↦ e | inr e ↦ absurd (h e) ]

pub truth-itself : (o : Option ValueTree) → is_truth o ≡ true → o ≡ Some (of_truth (the_truth o))
unfolding is_truth the_truth
truth-itself (Some (of_truth a)) h = refl
truth-itself (Some (of_object a)) h = absurd (cc)
truth-itself (Some (of_number a)) h = absurd (cc)
truth-itself (Some (of_set a)) h = absurd (cc)
truth-itself (Some (of_field a)) h = absurd (cc)
truth-itself None h = absurd (cc)

pub opposite-is : (k l : Decided) → opposite_of k ≡ opposite_of l → k ≡ l
opposite-is k l e = λ i. record { atom = (ap (λ (z : Decided). z.atom) e) i; holds = (back k.holds l.holds (ap (λ (z : Decided). z.holds) e)) i }
  where
    back : (b c : Bool) → not b ≡ not c → b ≡ c
    back true true e = refl
    back true false e = sym e
    back false true e = sym e
    back false false e = refl

module _ (ts : List ValueTree) where
  -- what stands in the list is listed
  pub has-listed : (ds : List Decided) (d : Decided) → Has ds d → IsListed (literals_at ts ds) (literal_tree_at ts d)
  has-listed [] d h = absurd h
  has-listed (e ∷ es) d (inl same) = inl (ap (literal_tree_at ts) same)
  has-listed (e ∷ es) d (inr h) = inr (has-listed es d h)

module _ (ts : List ValueTree) (different : AreDifferent ts) where
  pub one-node : (i j : ℕ) → (truth_at ts j ≡ t.true_formula → ⊥) → truth_at ts i ≡ truth_at ts j → i ≡ j
  one-node i j h e = different i j (of_truth (truth_at ts j)) (truth-there (slice_get ts i) (λ same. h (sym e ∙ same)) ∙ ap (λ a. Some (of_truth a)) e) (truth-there (slice_get ts j) h)

  pub one-truth : (i j : ℕ) → IsTruth ts i → IsTruth ts j → truth_at ts i ≡ truth_at ts j → i ≡ j
  one-truth i j h k e = different i j (of_truth (truth_at ts j)) (truth-itself (slice_get ts i) h ∙ ap (λ a. Some (of_truth a)) e) (truth-itself (slice_get ts j) k)

  -- what is listed stands in the list, where its atom isn't True
  pub listed-has : (ds : List Decided) (d : Decided) → (truth_at ts d.atom ≡ t.true_formula → ⊥) → IsListed (literals_at ts ds) (literal_tree_at ts d) → Has ds d
  listed-has [] d unknown h = absurd h
  listed-has (e ∷ es) d unknown (inl same) = inl (λ i. record { atom = (one-node e.atom d.atom unknown (ap (λ (z : LiteralTree). z.atom) same)) i; holds = (ap (λ (z : LiteralTree). z.holds) same) i })
  listed-has (e ∷ es) d unknown (inr h) = inr (listed-has es d unknown h)

-- what is at a place of a list stands in it
pub has-get : {X : Type 0} (xs : List X) (i : ℕ) (d : X) → i < length xs → Has xs (get_or xs i d)
has-get [] i d lt = absurd (omega (arith, lt))
has-get (x ∷ xs) zero d lt = inl refl
has-get (x ∷ xs) (suc i) d lt = inr (has-get xs i d (omega (arith, lt)))
