-- Atoms of literals that an instance forces.
use Rattle.std.proofs.Common.{◌≡◌, refl, sym, ap, ◌∙◌, subst, ℕ, zero, suc, ◌<◌, arith, true, List, [], ◌∷◌, ◌++◌, length, Option, Some, None, slice_get, ◌⊎◌, inl, inr}
use Rattle.std.proofs.lemmas.Option.{slice_get_within}
use Rattle.jh_form.specs.Tree.{FormulaTree, ValueTree, of_object, of_number, of_set, of_field, of_truth}
use Rattle.jh_form.specs.Tree as t
use Rattle.jh_arena.specs.table.Entries.{is_truth, the_truth}
use Rattle.jh_arena.specs.table.Growth.{AreDifferent}
use Rattle.jh_arena.proofs.table.Children.{it-is-truth}
use Rattle.jh_closure.specs.congruence_closure.Nodes.{Has}
use Rattle.jh_models.specs.ground_models.Atoms.{atom_of, atoms_of, ground_atoms, StandsIn}
use Rattle.jh_propagation.specs.trail.Saying.{IsTruth, truth_at, truths_at}
use Rattle.jh_propagation.specs.trail.Occurring.{places_in}
use Rattle.jh_propagation.specs.declared.propagation.problem.Problem.{Problem}
use Rattle.jh_propagation.specs.propagation.Problems.{IsPosed}

stands-either : (xs ys : List FormulaTree) (a : FormulaTree) → StandsIn (xs ++ ys) a → StandsIn xs a ⊎ StandsIn ys a
stands-either [] ys a h = inr h
stands-either (x ∷ xs) ys a (inl e) = inl (inl e)
stands-either (x ∷ xs) ys a (inr h) = elim (stands-either xs ys a h) [ inl l ↦ inl (inr l) | inr r ↦ inr r ]

stands-left : (xs ys : List FormulaTree) (a : FormulaTree) → StandsIn xs a → StandsIn (xs ++ ys) a
stands-left [] ys a h = absurd h
stands-left (x ∷ xs) ys a (inl e) = inl e
stands-left (x ∷ xs) ys a (inr h) = inr (stands-left xs ys a h)

stands-right : (xs ys : List FormulaTree) (a : FormulaTree) → StandsIn ys a → StandsIn (xs ++ ys) a
stands-right [] ys a h = h
stands-right (x ∷ xs) ys a h = inr (stands-right xs ys a h)

one-none : (a : FormulaTree) → a ∷ [] ≡ [] → ⊥
one-none a e = let n : 1 ≡ 0 = ap length e in omega (arith, n)

-- True is no atom
denied-known : (a : FormulaTree) → StandsIn (atom_of a) t.true_formula → ⊥
denied-known t.true_formula h = h
denied-known t.false_formula h = h
denied-known a (inl e) = one-none a (ap atom_of e)
denied-known a (inr h) = h

never-true : (i : FormulaTree) → StandsIn (atoms_of i) t.true_formula → ⊥
never-true (t.and a b) h = elim (stands-either (atoms_of a) (atoms_of b) t.true_formula h) [ inl l ↦ never-true a l | inr r ↦ never-true b r ]
never-true (t.or a b) h = elim (stands-either (atoms_of a) (atoms_of b) t.true_formula h) [ inl l ↦ never-true a l | inr r ↦ never-true b r ]
never-true (t.negation a) h = denied-known a h
never-true t.true_formula h = h
never-true t.false_formula h = h
never-true a (inl e) = one-none a (ap atoms_of e)
never-true a (inr h) = h

known-truth : (i : FormulaTree) (o : Option ValueTree) → StandsIn (atoms_of i) (the_truth o) → is_truth o ≡ true
unfolding the_truth is_truth
known-truth i None h = absurd (never-true i h)
known-truth i (Some (of_object v)) h = absurd (never-true i h)
known-truth i (Some (of_number v)) h = absurd (never-true i h)
known-truth i (Some (of_set v)) h = absurd (never-true i h)
known-truth i (Some (of_field v)) h = absurd (never-true i h)
known-truth i (Some (of_truth v)) h = refl

-- an atom of an instance is a ground atom of the instances
pub ground-stands : (ts : List ValueTree) (is : List ℕ) (j n : ℕ) (a : FormulaTree) → slice_get is j ≡ Some n → StandsIn (atoms_of (truth_at ts n)) a → StandsIn (ground_atoms (truths_at ts is)) a
ground-stands ts [] j n a e h = absurd (let l : j < 0 = slice_get_within [] j n e in omega (arith, l))
ground-stands ts (i ∷ is) zero n a e h = let f : i ≡ n = cc in stands-left (atoms_of (truth_at ts i)) (ground_atoms (truths_at ts is)) a (subst (λ k. StandsIn (atoms_of (truth_at ts k)) a) (sym f) h)
ground-stands ts (i ∷ is) (suc j) n a e h = stands-right (atoms_of (truth_at ts i)) (ground_atoms (truths_at ts is)) a (ground-stands ts is j n a e h)

module _ (ts : List ValueTree) (p : Problem) (h : IsPosed ts p) (different : AreDifferent ts) (place n k : ℕ) (here : slice_get p.instances.items place ≡ Some n) (stands : StandsIn (atoms_of (truth_at ts n)) (truth_at ts k)) where
  formula : IsTruth ts k
  formula = known-truth (truth_at ts n) (slice_get ts k) stands

  pub place-noted : Has (places_in p.ground k) place
  place-noted = h.occurrences.occur place n k here formula stands

  same-node : (j : ℕ) → Has p.ground.atoms j → truth_at ts j ≡ truth_at ts k → j ≡ k
  same-node j g e = different j k (of_truth (truth_at ts k)) (it-is-truth (slice_get ts j) (h.occurrences.truths j g) ∙ ap (λ a. Some (of_truth a)) e) (it-is-truth (slice_get ts k) formula)

  pub atom-noted : Has p.ground.atoms k
  atom-noted = let found = h.occurrences.all (truth_at ts k) (ground-stands ts p.instances.items place n (truth_at ts k) here stands) in subst (Has p.ground.atoms) (same-node found.0 found.1.0 found.1.1) found.1.0
