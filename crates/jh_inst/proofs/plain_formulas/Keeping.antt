-- What is put, pulled out and opened stays plain.
use Rattle.std.proofs.Common.{◌≡◌, refl, ap, ◌∙◌, ℕ, zero, suc, ◌+◌, true, ◌&&◌, List, [], ◌∷◌}
use Rattle.jh_name.specs.declared.naming.Name.{Name}
use Rattle.jh_form.specs.Tree.{TermTree, FormulaTree}
use Rattle.jh_form.specs.Tree as t
use Rattle.jh_form.proofs.ClosedLemmas.{both-left, both-right}
use Rattle.jh_boxed.specs.Mapped.{LeafMap, mapped_formula}
use Rattle.jh_normal_forms.specs.jh_substitution.simultaneous.Lifted.{lifting}
use Rattle.jh_seq.specs.splitting.Split.{constant, closing, closed_by}
use Rattle.jh_boxed_operations.specs.substitution.Opened.{opened, opening}
use Rattle.jh_normal_forms.specs.negation_normal_form.Normal.{is_atom}
use Rattle.jh_inst.specs.instances.Prenex.{under_more, pulled, behind, prenex}
use Rattle.jh_inst.specs.instances.Rounds.{put_at}
use Rattle.jh_inst.specs.instances.Witnesses.{witnesses, witnessed}
use Rattle.jh_inst.specs.instances.Instances.{is_ground}
use Rattle.jh_inst.specs.plain_formulas.Plain.{is_plain, are_literals}

module _ (l : LeafMap) (keeps : (x : Name) (d : ℕ) → l.truth_at x d ≡ t.free_truth x) where
  mapped-atom : (a : FormulaTree) (d : ℕ) → is_atom (mapped_formula a l d) ≡ is_atom a
  unfolding mapped_formula is_atom
  mapped-atom (t.free_truth x) d = ap is_atom (keeps x d)
  mapped-atom _ d = refl

  pub mapped-plain : (a : FormulaTree) (d : ℕ) → is_plain (mapped_formula a l d) ≡ is_plain a
  unfolding mapped_formula
  mapped-plain (t.free_truth x) d = ap is_plain (keeps x d)
  mapped-plain (t.negation a) d = mapped-atom a d
  mapped-plain (t.and a b) d = λ i. mapped-plain a d i && mapped-plain b d i
  mapped-plain (t.or a b) d = λ i. mapped-plain a d i && mapped-plain b d i
  mapped-plain (t.all a) d = mapped-plain a (d + 1)
  mapped-plain (t.ex a) d = mapped-plain a (d + 1)
  mapped-plain _ d = refl

pub closed-plain : (a : FormulaTree) (ws : List Name) → is_plain a ≡ true → is_plain (closed_by a ws) ≡ true
closed-plain a ws h = mapped-plain (closing ws) (λ x d. refl) a 0 ∙ h

pub opened-plain : (a : FormulaTree) (w : TermTree) → is_plain a ≡ true → is_plain (opened a w) ≡ true
opened-plain a w h = mapped-plain (opening w) (λ x d. refl) a 0 ∙ h

pub risen-plain : (a : FormulaTree) (d by : ℕ) → is_plain a ≡ true → is_plain (under_more a d by) ≡ true
risen-plain a d by h = mapped-plain (lifting by) (λ x d. refl) a d ∙ h

pub witnessed-plain : (a : FormulaTree) (ws : List Name) (k : ℕ) → is_plain a ≡ true → is_plain (witnessed a ws k) ≡ true
witnessed-plain (t.and a b) ws k h = λ i. witnessed-plain a ws k (both-left (is_plain a) (is_plain b) h) i && witnessed-plain b ws (k + witnesses a) (both-right (is_plain a) (is_plain b) h) i
witnessed-plain (t.or a b) ws k h = λ i. witnessed-plain a ws k (both-left (is_plain a) (is_plain b) h) i && witnessed-plain b ws (k + witnesses a) (both-right (is_plain a) (is_plain b) h) i
witnessed-plain (t.ex a) ws k h = witnessed-plain a (constant k ∷ ws) (suc k) h
witnessed-plain a ws k h = closed-plain a ws h

pulled-plain : (a : FormulaTree) → is_plain a ≡ true → is_plain (pulled a).body ≡ true
pulled-plain (t.and a b) h = λ i.
    risen-plain (pulled a).body 0 (pulled b).variables (pulled-plain a (both-left (is_plain a) (is_plain b) h)) i
    && risen-plain (pulled b).body (pulled b).variables (pulled a).variables (pulled-plain b (both-right (is_plain a) (is_plain b) h)) i
pulled-plain (t.or a b) h = λ i.
    risen-plain (pulled a).body 0 (pulled b).variables (pulled-plain a (both-left (is_plain a) (is_plain b) h)) i
    && risen-plain (pulled b).body (pulled b).variables (pulled a).variables (pulled-plain b (both-right (is_plain a) (is_plain b) h)) i
pulled-plain (t.all a) h = pulled-plain a h
pulled-plain a h = h

behind-plain : (n : ℕ) (a : FormulaTree) → is_plain (behind n a) ≡ is_plain a
behind-plain zero a = refl
behind-plain (suc n) a = behind-plain n a

pub prenex-plain : (a : FormulaTree) → is_plain a ≡ true → is_plain (prenex a) ≡ true
prenex-plain a h = behind-plain (pulled a).variables (pulled a).body ∙ pulled-plain a h

pub put-plain : (a : FormulaTree) (ws : List TermTree) → is_plain a ≡ true → is_plain (put_at a ws) ≡ true
put-plain a [] h = h
put-plain (t.all a) (w ∷ ws) h = put-plain (opened a w) ws (opened-plain a w h)
put-plain _ (w ∷ ws) h = h

-- a plain formula without a quantifier
pub ground-literals : (a : FormulaTree) → is_plain a ≡ true → is_ground a ≡ true → are_literals a ≡ true
unfolding is_atom
ground-literals (t.negation a) h g = h
ground-literals (t.and a b) h g =
    λ i. ground-literals a (both-left (is_plain a) (is_plain b) h) (both-left (is_ground a) (is_ground b) g) i && ground-literals b (both-right (is_plain a) (is_plain b) h) (both-right (is_ground a) (is_ground b) g) i
ground-literals (t.or a b) h g =
    λ i. ground-literals a (both-left (is_plain a) (is_plain b) h) (both-left (is_ground a) (is_ground b) g) i && ground-literals b (both-right (is_plain a) (is_plain b) h) (both-right (is_ground a) (is_ground b) g) i
ground-literals (t.all a) h g = g
ground-literals (t.ex a) h g = g
ground-literals (t.implies a b) h g = h
ground-literals (t.iff a b) h g = h
ground-literals (t.mark k a) h g = h
ground-literals _ h g = refl
