-- Where the sequent without its derived fields is valid, so is the sequent.
use Rattle.std.proofs.Common.{◌≡◌, refl, sym, ap, ◌∙◌, ℕ, zero, suc, ◌<◌, Bool, true, false, not, ◌&&◌, ◌||◌, if◌then◌else◌, List, [], ◌∷◌, Option, None, Some, arith}
use Rattle.std.proofs.lemmas.Bool.{true≢false}
use Rattle.jh_name.specs.declared.naming.Name.{Name}
use Rattle.jh_form.specs.Tree.{TermTree, FormulaTree}
use Rattle.jh_form.specs.Tree as t
use Rattle.jh_form.specs.Meaning.{Interp, InUniverse, all_below, any_below, agree, term_value, truth}
use Rattle.jh_form.specs.Closed.{is_closed_formula}
use Rattle.jh_form.proofs.ClosedLemmas.{AgreeBelow, both-left, both-right, truth-closed}
use Rattle.jh_form.proofs.Universes.{term_inside}
use Rattle.jh_boxed.specs.Mapped.{mapped_term}
use Rattle.jh_boxed_operations.specs.comparison.Inside.{AreInside}
use Rattle.jh_substitution.specs.simultaneous.Lifted.{lifting}
use Rattle.jh_substitution.specs.exchange.Under.{varied}
use Rattle.jh_substitution.proofs.exchange.Meanings.{inside-more}
use Rattle.jh_substitution.proofs.exchange.Keeping.{varied-keeps}
use Rattle.jh_substitution.specs.instantiation.Putting.{put}
use Rattle.jh_substitution.proofs.instantiation.Puttings.{risen-term, put-means}
use Rattle.jh_seq.specs.sequent.Sequents.{HypTree, SequentTree, AllTrue, IsValid}
use Rattle.jh_fca.specs.elimination.Constraints.{Constraint}
use Rattle.jh_fca.specs.elimination.Derived.{is_listed_in, derived, first_for, without_first}
use Rattle.jh_fca.specs.elimination.Reads.{holds_read, formula_reads}
use Rattle.jh_fca.specs.elimination.Exchanged.{said, read_at, varied_term, quantified, terms_once, exchanged, atom_exchanged, eliminated}
use Rattle.jh_fca.specs.elimination.Eliminated.{facts_eliminated, step, at_turn, step_by, step_of, all_steps, eliminate}
use Rattle.jh_fca.specs.elimination.Laws.{EliminatedIsValid}
use Rattle.jh_fca.proofs.elimination.Bools.{imply, all-at, all-made, any-found, any-made, both-true, or-left, or-right}
use Rattle.jh_fca.proofs.elimination.Found.{IsConstraint, first-is, without-true, first-true}

-- ---- how truths stand for others

-- a goal is to imply the old one, a hypothesis to be implied by it
abbrev pub Stands : Bool → Bool → Bool → Type 0
Stands true p q = p ≡ true → q ≡ true
Stands false p q = q ≡ true → p ≡ true

same : (s p : Bool) → Stands s p p
same true p = λ h. h
same false p = λ h. h

as-well : (s p q r : Bool) → Stands s p q → q ≡ r → Stands s p r
as-well true p q r f e = λ h. sym e ∙ f h
as-well false p q r f e = λ h. f (e ∙ h)

trans : (s p q r : Bool) → Stands s p q → Stands s q r → Stands s p r
trans true p q r f g = λ h. g (f h)
trans false p q r f g = λ h. f (g h)

less-not : (p q : Bool) → (q ≡ true → p ≡ true) → not p ≡ true → not q ≡ true
less-not true q f h = absurd (true≢false (sym h))
less-not false true f h = absurd (true≢false (sym (f refl)))
less-not false false f h = refl

turned : (s p q : Bool) → Stands (not s) p q → Stands s (not p) (not q)
turned true p q f = λ h. less-not p q f h
turned false p q f = λ h. less-not q p f h

less-either : (p q u v : Bool) → (p ≡ true → q ≡ true) → (u ≡ true → v ≡ true) → (p || u) ≡ true → (q || v) ≡ true
less-either true q u v f g h = or-left q v (f refl)
less-either false q u v f g h = or-right q v (g h)

module _ (p q u v : Bool) where
  both : (s : Bool) → Stands s p q → Stands s u v → Stands s (p && u) (q && v)
  both true f g = λ h. both-true q v (f (both-left p u h)) (g (both-right p u h))
  both false f g = λ h. both-true p u (f (both-left q v h)) (g (both-right q v h))

  either : (s : Bool) → Stands s p q → Stands s u v → Stands s (p || u) (q || v)
  either true f g = λ h. less-either p q u v f g h
  either false f g = λ h. less-either q p v u f g h

for-all : (s : Bool) (n : ℕ) (p q : ℕ → Bool) → ((x : ℕ) → x < n → Stands s (p x) (q x)) → Stands s (all_below n p) (all_below n q)
for-all true n p q f = λ h. all-made n q (λ x lt. f x lt (all-at n p x h lt))
for-all false n p q f = λ h. all-made n p (λ x lt. f x lt (all-at n q x h lt))

for-some : (s : Bool) (n : ℕ) (p q : ℕ → Bool) → ((x : ℕ) → x < n → Stands s (p x) (q x)) → Stands s (any_below n p) (any_below n q)
for-some true n p q f = λ h. let found = any-found n p h in any-made n q found.0 found.1 (f found.0 found.1 found.2)
for-some false n p q f = λ h. let found = any-found n q h in any-made n p found.0 found.1 (f found.0 found.1 found.2)

-- both implications are what the equivalence is
pub two-ways : (p q : Bool) → ((not p || q) && (not q || p)) ≡ agree p q
two-ways true true = refl
two-ways true false = refl
two-ways false true = refl
two-ways false false = refl

iff-stands : (m : Interp) (e : List ℕ) (s opened : Bool) (a b na pa nb pb : FormulaTree) →
    Stands (not s) (truth na m e) (truth a m e) → Stands s (truth pa m e) (truth a m e) → Stands (not s) (truth nb m e) (truth b m e) → Stands s (truth pb m e) (truth b m e) →
    Stands s (truth (if opened then t.and (t.implies na pb) (t.implies nb pa) else t.iff a b) m e) (truth (t.iff a b) m e)
iff-stands m e s true a b na pa nb pb f g h k =
    as-well s ((not (truth na m e) || truth pb m e) && (not (truth nb m e) || truth pa m e)) ((not (truth a m e) || truth b m e) && (not (truth b m e) || truth a m e)) (truth (t.iff a b) m e)
    (both (not (truth na m e) || truth pb m e) (not (truth a m e) || truth b m e) (not (truth nb m e) || truth pa m e) (not (truth b m e) || truth a m e) s
    (either (not (truth na m e)) (not (truth a m e)) (truth pb m e) (truth b m e) s (turned s (truth na m e) (truth a m e) f) k)
    (either (not (truth nb m e)) (not (truth b m e)) (truth pa m e) (truth a m e) s (turned s (truth nb m e) (truth b m e) h) g))
    (two-ways (truth a m e) (truth b m e))
iff-stands m e s false a b na pa nb pb f g h k = same s (truth (t.iff a b) m e)

-- ---- what a constraint says of a term

module _ (c : Constraint) (m : Interp) (closed : is_closed_formula c.says 2 ≡ true) where
  apart : (x y : ℕ) (e : List ℕ) → AgreeBelow 2 (y ∷ x ∷ e) (y ∷ x ∷ [])
  apart x y e zero lt = refl
  apart x y e (suc zero) lt = refl
  apart x y e (suc (suc k)) lt = absurd (omega arith)

  pub said-means : (a : TermTree) (y : ℕ) (e : List ℕ) → truth (said c a) m (y ∷ e) ≡ truth c.says m (y ∷ term_value a m e ∷ [])
  said-means a y e =
      put-means (mapped_term a (lifting 1) 0) m (put c.says (t.bound 1)) (y ∷ e)
      ∙ put-means (t.bound 1) m c.says (term_value (mapped_term a (lifting 1) 0) m (y ∷ e) ∷ y ∷ e)
      ∙ truth-closed c.says m 2 (y ∷ term_value (mapped_term a (lifting 1) 0) m (y ∷ e) ∷ y ∷ e) (y ∷ term_value (mapped_term a (lifting 1) 0) m (y ∷ e) ∷ []) (apart (term_value (mapped_term a (lifting 1) 0) m (y ∷ e)) y (y ∷ e)) closed
      ∙ ap (λ x. truth c.says m (y ∷ x ∷ [])) (risen-term 1 a m (y ∷ e))

pub nothing-bound : (n : ℕ) → AreInside n []
nothing-bound n k = omega arith

-- ---- an atom, and a formula

module _ (c : Constraint) (m : Interp) (universe : InUniverse m) (closed : is_closed_formula c.says 2 ≡ true)
    (holds : (x : ℕ) → x < suc m.last → truth c.says m ((m.field c.field).objects x ∷ x ∷ []) ≡ true) where
  -- the object that the field gives at a term
  abbrev there : TermTree → List ℕ → ℕ
  there a e = term_value (read_at c a) m e

  there-inside : (a : TermTree) (e : List ℕ) → AreInside m.last e → there a e < suc m.last
  there-inside a e inside = term_inside m universe e inside (read_at c a)

  there-said : (a : TermTree) (e : List ℕ) → AreInside m.last e → truth (said c a) m (there a e ∷ e) ≡ true
  there-said a e inside = said-means c m closed a (there a e) e ∙ holds (term_value a m e) (term_inside m universe e inside a)

  quantified-stands : (a : TermTree) (positive : Bool) (p : FormulaTree) (e : List ℕ) → AreInside m.last e → Stands positive (truth (quantified c a positive p) m e) (truth p m (there a e ∷ e))
  unfolding quantified
  quantified-stands a true p e inside = λ h.
      imply (truth (said c a) m (there a e ∷ e)) (truth p m (there a e ∷ e))
      (all-at (suc m.last) (λ y. not (truth (said c a) m (y ∷ e)) || truth p m (y ∷ e)) (there a e) h (there-inside a e inside))
      (there-said a e inside)
  quantified-stands a false p e inside = λ h.
      any-made (suc m.last) (λ y. truth (said c a) m (y ∷ e) && truth p m (y ∷ e)) (there a e) (there-inside a e inside)
      (both-true (truth (said c a) m (there a e ∷ e)) (truth p m (there a e ∷ e)) (there-said a e inside) h)

  exchanged-stands : (more : List TermTree) (now : TermTree → TermTree) (p : FormulaTree) (positive : Bool) (e : List ℕ) → AreInside m.last e → Stands positive (truth (exchanged c more now p positive) m e) (truth p m e)
  unfolding exchanged
  exchanged-stands [] now p positive e inside = same positive (truth p m e)
  exchanged-stands (a ∷ more) now p positive e inside =
      let x : ℕ = there (now a) e in
      let inner : FormulaTree = exchanged c more (λ b. varied_term (now b) (read_at c (now a))) (varied p (read_at c (now a))) positive in
      trans positive (truth (quantified c (now a) positive inner) m e) (truth inner m (x ∷ e)) (truth p m e)
      (quantified-stands (now a) positive inner e inside)
      (as-well positive (truth inner m (x ∷ e)) (truth (varied p (read_at c (now a))) m (x ∷ e)) (truth p m e)
      (exchanged-stands more (λ b. varied_term (now b) (read_at c (now a))) (varied p (read_at c (now a))) positive (x ∷ e) (inside-more m.last x e (there-inside (now a) e inside) inside))
      (varied-keeps p (read_at c (now a)) m e universe inside))

  atom-stands : (p : FormulaTree) (positive : Bool) (e : List ℕ) → AreInside m.last e → Stands positive (truth (atom_exchanged c p positive) m e) (truth p m e)
  unfolding atom_exchanged
  atom-stands p positive e inside = exchanged-stands (terms_once (formula_reads p c.field)) (λ a. a) p positive e inside

  pub eliminated-stands : (a : FormulaTree) (positive : Bool) (e : List ℕ) → AreInside m.last e → Stands positive (truth (eliminated c a positive) m e) (truth a m e)
  unfolding eliminated
  eliminated-stands (t.negation a) s e inside = turned s (truth (eliminated c a (not s)) m e) (truth a m e) (eliminated-stands a (not s) e inside)
  eliminated-stands (t.and a b) s e inside = both (truth (eliminated c a s) m e) (truth a m e) (truth (eliminated c b s) m e) (truth b m e) s (eliminated-stands a s e inside) (eliminated-stands b s e inside)
  eliminated-stands (t.or a b) s e inside = either (truth (eliminated c a s) m e) (truth a m e) (truth (eliminated c b s) m e) (truth b m e) s (eliminated-stands a s e inside) (eliminated-stands b s e inside)
  eliminated-stands (t.implies a b) s e inside =
      either (not (truth (eliminated c a (not s)) m e)) (not (truth a m e)) (truth (eliminated c b s) m e) (truth b m e) s
      (turned s (truth (eliminated c a (not s)) m e) (truth a m e) (eliminated-stands a (not s) e inside)) (eliminated-stands b s e inside)
  eliminated-stands (t.iff a b) s e inside =
      iff-stands m e s (holds_read c.field a || holds_read c.field b) a b (eliminated c a (not s)) (eliminated c a s) (eliminated c b (not s)) (eliminated c b s)
      (eliminated-stands a (not s) e inside) (eliminated-stands a s e inside) (eliminated-stands b (not s) e inside) (eliminated-stands b s e inside)
  eliminated-stands (t.all a) s e inside = for-all s (suc m.last) (λ x. truth (eliminated c a s) m (x ∷ e)) (λ x. truth a m (x ∷ e)) (λ x lt. eliminated-stands a s (x ∷ e) (inside-more m.last x e lt inside))
  eliminated-stands (t.ex a) s e inside = for-some s (suc m.last) (λ x. truth (eliminated c a s) m (x ∷ e)) (λ x. truth a m (x ∷ e)) (λ x lt. eliminated-stands a s (x ∷ e) (inside-more m.last x e lt inside))
  eliminated-stands (t.mark k a) s e inside = eliminated-stands a s e inside
  eliminated-stands p s e inside = atom-stands p s e inside

  pub facts-stand : (hs : List HypTree) → AllTrue hs m → AllTrue (facts_eliminated c hs) m
  facts-stand [] h = tt
  facts-stand (x ∷ hs) h = (eliminated-stands x.fact false [] (nothing-bound m.last) h.0, facts-stand hs h.1)

-- ---- a sequent

step-valid : (f : Name) (c : Constraint) (s : SequentTree) → first_for f s.hyps ≡ Some c → IsValid (step c s) → IsValid s
step-valid f c s found valid m universe hold =
    let is : IsConstraint c = first-is f s.hyps c found in
    let holds : (x : ℕ) → x < suc m.last → truth c.says m ((m.field c.field).objects x ∷ x ∷ []) ≡ true = first-true f s.hyps c m universe found hold in
    eliminated-stands c m universe is.closed holds s.goal true [] (nothing-bound m.last)
    (valid m universe (facts-stand c m universe is.closed holds (without_first c.field s.hyps) (without-true c.field s.hyps m hold)))

turn-valid : (f : Name) (s : SequentTree) (listed : Bool) (o : Option Constraint) → first_for f s.hyps ≡ o → IsValid (step_by (if listed then None else o) s) → IsValid s
unfolding step_by
turn-valid f s true o found valid = valid
turn-valid f s false None found valid = valid
turn-valid f s false (Some c) found valid = step-valid f c s found valid

steps-valid : (fs : List Name) (s : SequentTree) → IsValid (all_steps fs s) → IsValid s
unfolding all_steps at_turn
steps-valid [] s valid = valid
steps-valid (f ∷ fs) s valid = turn-valid f s (is_listed_in f s) (first_for f s.hyps) refl (steps-valid fs (step_of f s) valid)

pub eliminated-valid : EliminatedIsValid
unfolding eliminate
eliminated-valid s valid = steps-valid (derived s) s valid
