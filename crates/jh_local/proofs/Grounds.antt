-- A node whose tree is a ground atom is a formula: what is none counts as True, which is no atom.
use Rattle.std.proofs.Common.{◌≡◌, refl, sym, ap, Bool, true, false, ◌⊎◌, inl, inr, List, [], ◌∷◌, ◌++◌, Option, Some, None}
use Rattle.std.proofs.lemmas.Bool.{true≢false}
use Rattle.jh_form.specs.Tree.{FormulaTree, ValueTree, of_object, of_number, of_set, of_field, of_truth}
use Rattle.jh_form.specs.Tree as t
use Rattle.jh_arena.specs.table.Entries.{is_truth, the_truth}
use Rattle.jh_models.specs.ground_models.Atoms.{IsGroundAtom, StandsIn, atom_of, atoms_of, ground_atoms}

pub in-both : (a : FormulaTree) (xs ys : List FormulaTree) → StandsIn (xs ++ ys) a → StandsIn xs a ⊎ StandsIn ys a
in-both a [] ys h = inr h
in-both a (x ∷ xs) ys (inl e) = inl (inl e)
in-both a (x ∷ xs) ys (inr h) =
    elim (in-both a xs ys h) [
      | inl l ↦ inl (inr l)
      | inr r ↦ inr r
    ]

abbrev is_true_formula : FormulaTree → Bool
is_true_formula t.true_formula = true
is_true_formula _ = false

no-atom-is-true : (a : FormulaTree) → StandsIn (atom_of a) t.true_formula → ⊥
no-atom-is-true t.true_formula h = h
no-atom-is-true t.false_formula h = h
no-atom-is-true _ (inl e) = true≢false (sym (ap is_true_formula e))
no-atom-is-true _ (inr h) = h

no-part-is-true : (a : FormulaTree) → StandsIn (atoms_of a) t.true_formula → ⊥
no-part-is-true (t.and a b) h =
    elim (in-both t.true_formula (atoms_of a) (atoms_of b) h) [
      | inl l ↦ no-part-is-true a l
      | inr r ↦ no-part-is-true b r
    ]
no-part-is-true (t.or a b) h =
    elim (in-both t.true_formula (atoms_of a) (atoms_of b) h) [
      | inl l ↦ no-part-is-true a l
      | inr r ↦ no-part-is-true b r
    ]
no-part-is-true (t.negation a) h = no-atom-is-true a h
no-part-is-true a h = no-atom-is-true a h

true-is-none : (is : List FormulaTree) → IsGroundAtom is t.true_formula → ⊥
true-is-none [] h = h
true-is-none (a ∷ is) h =
    elim (in-both t.true_formula (atoms_of a) (ground_atoms is) h) [
      | inl l ↦ no-part-is-true a l
      | inr r ↦ true-is-none is r
    ]

pub is-formula : (is : List FormulaTree) (v : Option ValueTree) → IsGroundAtom is (the_truth v) → is_truth v ≡ true
unfolding is_truth the_truth
is-formula is None h = absurd (true-is-none is h)
is-formula is (Some (of_truth a)) h = refl
is-formula is (Some (of_object a)) h = absurd (true-is-none is h)
is-formula is (Some (of_number a)) h = absurd (true-is-none is h)
is-formula is (Some (of_set a)) h = absurd (true-is-none is h)
is-formula is (Some (of_field a)) h = absurd (true-is-none is h)
