-- Atoms of instances that are And and Or over literals have no label in front.
use Rattle.std.proofs.Common.{◌≡◌, refl, sym, ap, ◌∙◌, true, false, inl, inr, List, [], ◌∷◌}
use Rattle.std.specs.List.{list_all}
use Rattle.std.proofs.lemmas.Bool.{true≢false}
use Rattle.jh_form.specs.Tree.{FormulaTree}
use Rattle.jh_form.specs.Tree as t
use Rattle.jh_form.proofs.ClosedLemmas.{both-left, both-right}
use Rattle.jh_ground_input.specs.jh_normal_forms.negation_normal_form.Normal.{is_atom}
use Rattle.jh_models.specs.ground_models.Atoms.{IsGroundAtom, StandsIn, atom_of, atoms_of, ground_atoms}
use Rattle.jh_inst.specs.plain_formulas.Plain.{are_literals}
use Rattle.jh_propagation.specs.propagation.Problems.{is_label}
use Rattle.jh_local.proofs.Grounds.{in-both}

no : false ≡ true → ⊥
no h = true≢false (sym h)

atom-bare : (a : FormulaTree) → is_atom a ≡ true → is_label a ≡ false
unfolding is_atom
atom-bare (t.mark k a) h = absurd (no h)
atom-bare _ h = refl

of-atom : (b a : FormulaTree) → is_atom b ≡ true → StandsIn (atom_of b) a → is_label a ≡ false
of-atom t.true_formula a h s = absurd s
of-atom t.false_formula a h s = absurd s
of-atom b a h (inl e) = sym (ap is_label e) ∙ atom-bare b h
of-atom b a h (inr s) = absurd s

of-part : (b a : FormulaTree) → are_literals b ≡ true → StandsIn (atoms_of b) a → is_label a ≡ false
of-part (t.and b c) a h s =
    elim (in-both a (atoms_of b) (atoms_of c) s) [
      | inl l ↦ of-part b a (both-left (are_literals b) (are_literals c) h) l
      | inr r ↦ of-part c a (both-right (are_literals b) (are_literals c) h) r
    ]
of-part (t.or b c) a h s =
    elim (in-both a (atoms_of b) (atoms_of c) s) [
      | inl l ↦ of-part b a (both-left (are_literals b) (are_literals c) h) l
      | inr r ↦ of-part c a (both-right (are_literals b) (are_literals c) h) r
    ]
of-part (t.negation b) a h s = of-atom b a h s
of-part b a h s = of-atom b a h s

pub unlabelled : (is : List FormulaTree) (a : FormulaTree) → list_all are_literals is ≡ true → IsGroundAtom is a → is_label a ≡ false
unlabelled [] a h s = absurd s
unlabelled (b ∷ is) a h s =
    elim (in-both a (atoms_of b) (ground_atoms is) s) [
      | inl l ↦ of-part b a (both-left (are_literals b) (list_all are_literals is) h) l
      | inr r ↦ unlabelled is a (both-right (are_literals b) (list_all are_literals is) h) r
    ]
