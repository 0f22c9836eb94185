-- A formula with its sets opened means what it means.
use Rattle.std.proofs.Common.{◌≡◌, refl, ℕ, ◌==◌, not, ◌&&◌, ◌||◌, List, ◌∷◌}
use Rattle.jh_form.specs.Tree.{TermTree, SetTree, FormulaTree}
use Rattle.jh_form.specs.Tree as t
use Rattle.jh_form.specs.Meaning.{Interp, every, agree, term_value, set_value, truth}
use Rattle.jh_normal_forms.specs.declared.rebuilding.polarity.Polarity.TheVariants as pol
use Rattle.jh_normal_forms.specs.rebuilding.Sound.{Sound}
use Rattle.jh_normal_forms.proofs.rebuilding.Stands.{truth-built}
use Rattle.jh_normal_forms.specs.set_opening.SetsOpened.{body, as_comprehension, is_in, relation, opening_sets, sets_opened}
use Rattle.jh_substitution.proofs.instantiation.Puttings.{risen-term, risen-set, put-means}
use Rattle.jh_normal_forms.proofs.set_opening.Standing.{stands-same}

body-means : (a : SetTree) (m : Interp) (x : ℕ) (e : List ℕ) → truth (body a) m (x ∷ e) ≡ set_value a m e x
unfolding body
body-means (t.compr a) m x e = refl
body-means (t.free_set y) m x e = λ i. risen-set 1 (t.free_set y) m (x ∷ e) i x
body-means (t.read_set f a) m x e = λ i. risen-set 1 (t.read_set f a) m (x ∷ e) i x
body-means t.empty m x e = λ i. risen-set 1 t.empty m (x ∷ e) i x
body-means t.univ m x e = λ i. risen-set 1 t.univ m (x ∷ e) i x
body-means (t.single a) m x e = λ i. risen-set 1 (t.single a) m (x ∷ e) i x
body-means (t.union a b) m x e = λ i. risen-set 1 (t.union a b) m (x ∷ e) i x
body-means (t.inter a b) m x e = λ i. risen-set 1 (t.inter a b) m (x ∷ e) i x
body-means (t.diff a b) m x e = λ i. risen-set 1 (t.diff a b) m (x ∷ e) i x
body-means (t.compl a) m x e = λ i. risen-set 1 (t.compl a) m (x ∷ e) i x

comprehension-means : (a : SetTree) (m : Interp) (e : List ℕ) → set_value (as_comprehension a) m e ≡ set_value a m e
unfolding as_comprehension
comprehension-means t.empty m e = refl
comprehension-means t.univ m e = refl
comprehension-means (t.single a) m e = λ i. λ x. x == risen-term 1 a m (x ∷ e) i
comprehension-means (t.union a b) m e = λ i. λ x. body-means a m x e i || body-means b m x e i
comprehension-means (t.inter a b) m e = λ i. λ x. body-means a m x e i && body-means b m x e i
comprehension-means (t.diff a b) m e = λ i. λ x. body-means a m x e i && not (body-means b m x e i)
comprehension-means (t.compl a) m e = λ i. λ x. not (body-means a m x e i)
comprehension-means (t.free_set y) m e = refl
comprehension-means (t.read_set f a) m e = refl
comprehension-means (t.compr a) m e = refl

is-in-means : (a : SetTree) (x : TermTree) (m : Interp) (e : List ℕ) → truth (is_in x a) m e ≡ set_value a m e (term_value x m e)
unfolding is_in
is-in-means (t.compr a) x m e = put-means x m a e
is-in-means a x m e = refl

relation-means : (a : FormulaTree) (m : Interp) (e : List ℕ) → truth (relation a) m e ≡ truth a m e
unfolding relation
relation-means (t.eq_set a b) m e = λ i. every m.last (λ x. agree (body-means a m x e i) (body-means b m x e i))
relation-means (t.subset a b) m e = λ i. every m.last (λ x. not (body-means a m x e i) || body-means b m x e i)
relation-means (t.member x a) m e = is-in-means a x m e
relation-means a m e = refl

opening-sound : Sound opening_sets
opening-sound = record {
  object = λ a m e. refl;
  number = λ a m e. refl;
  set = comprehension-means;
  field = λ a m e. refl;
  truth = λ a s m e. stands-same s (truth (relation a) m e) (truth a m e) (relation-means a m e);
}

pub opened-means : (a : FormulaTree) (m : Interp) (e : List ℕ) → truth (sets_opened a) m e ≡ truth a m e
unfolding sets_opened
opened-means a m e = truth-built opening_sets opening-sound a pol.Both m e
