-- The step of a field over nodes.
use Rattle.std.proofs.Common.{◌≡◌, refl, sym, ap, subst, ◌∙◌, ℕ, zero, suc, ◌+◌, ◌-◌, ◌<◌, ◌≤◌, IfSome, Bool, true, false, ◌&&◌, if◌then◌else◌, List, [], ◌∷◌, ◌++◌, map, take, drop, length, length-drop, slice_get, Option, None, Some, nat_eq, add-one, append_assoc, arith}
use Rattle.std.specs.List.{list_all}
use Rattle.std.proofs.lemmas.Bool.{true≢false}
use Rattle.std.proofs.lemmas.List.{take_all, drop_all, map-append}
use Rattle.jh_name.specs.declared.naming.Name.{Name}
use Rattle.jh_form.specs.Tree.{FormulaTree, of_truth}
use Rattle.jh_form.specs.Passing.{name_equal}
use Rattle.jh_form.proofs.Names.{name_equal-true}
use Rattle.jh_form.proofs.ClosedLemmas.{both-left, both-right}
use Rattle.jh_arena.specs.table.Entries.{Listing}
use Rattle.jh_arena.specs.table.Growth.{Extends, AreDifferent}
use Rattle.jh_arena.specs.table.Nodes.{nodes}
use Rattle.jh_seq.specs.sequent.Sequents.{HypTree, SequentTree}
use Rattle.jh_seq.specs.splitting.Local.{has_local_shape, is_local}
use Rattle.jh_reach.specs.Standing.{AreFormulas}
use Rattle.jh_reach.proofs.Standings.{formulas-append, formulas-as, formulas-grow, formulas-push, map-more}
use Rattle.jh_fca.specs.elimination.Constraints.{Constraint, constraint_in}
use Rattle.jh_fca.specs.elimination.Derived.{is_of, is_listed_in, first_for, without_first}
use Rattle.jh_fca.specs.elimination.Exchanged.{eliminated}
use Rattle.jh_fca.specs.elimination.Eliminated.{facts_eliminated, step, at_turn, step_by, step_of, all_steps}
use Rattle.jh_fca.proofs.elimination.Local.{step-of-local}
use Rattle.jh_field_constraints.specs.declared.constraints.NodeConstraint.{NodeConstraint}
use Rattle.jh_field_constraints.specs.declared.stepping.Found.{Found}
use Rattle.jh_field_constraints.specs.declared.stepping.NodeSequent.{NodeSequent}
use Rattle.jh_field_constraints.specs.Standing.{IsFormula, IsNamed, IsConstraint, AreConstraint, IsSequent}
use Rattle.jh_field_constraints.specs.Finding.{kept, IsAtPlace, IsFound}
use Rattle.jh_field_constraints.proofs.Standings.{names-tell}
use Rattle.jh_field_constraints.proofs.Listings.{drop-next, take-next}

-- ---- the constraint of a field

pub constraint-some : (t : Listing) (of : NodeConstraint) (o : Option Constraint) → AreConstraint t (Some of) o → (c : Constraint) × (o ≡ Some c) × IsConstraint t of c
unfolding AreConstraint
constraint-some t of None h = absurd h
constraint-some t of (Some c) h = (c, refl, h)

pub constraint-none : (t : Listing) (o : Option Constraint) → AreConstraint t None o → o ≡ None
unfolding AreConstraint
constraint-none t None h = refl
constraint-none t (Some c) h = absurd h

kept-if : (t : Listing) (of : NodeConstraint) (c : Constraint) (b : Bool) → b ≡ true → IsConstraint t of c → AreConstraint t (Some of) (if b then Some c else None)
unfolding AreConstraint
kept-if t of c true e h = h
kept-if t of c false e h = absurd (true≢false (sym e))

left-if : (t : Listing) (c : Constraint) (b : Bool) → b ≡ false → AreConstraint t None (if b then Some c else None)
unfolding AreConstraint
left-if t c true e = absurd (true≢false e)
left-if t c false e = tt

module _ (t : Listing) (different : AreDifferent (nodes t)) (f : Name) (field : ℕ) (named : IsNamed t field f) (of : NodeConstraint) where
  pub kept-then : (o : Option Constraint) → AreConstraint t (Some of) o → nat_eq of.field field ≡ true → AreConstraint t (Some of) (kept f o)
  unfolding AreConstraint is_of
  kept-then None h e = absurd h
  kept-then (Some c) h e = kept-if t of c (name_equal c.field f) (sym (names-tell t different of.field field c.field f h.field named) ∙ e) h

  pub kept-else : (o : Option Constraint) → AreConstraint t (Some of) o → nat_eq of.field field ≡ false → AreConstraint t None (kept f o)
  unfolding AreConstraint is_of
  kept-else None h e = absurd h
  kept-else (Some c) h e = left-if t c (name_equal c.field f) (sym (names-tell t different of.field field c.field f h.field named) ∙ e)

pub kept-none : (t : Listing) (f : Name) (o : Option Constraint) → AreConstraint t None o → AreConstraint t None (kept f o)
unfolding AreConstraint is_of
kept-none t f None h = tt
kept-none t f (Some c) h = absurd h

-- ---- the first hypothesis that constrains it

-- None of the first hypotheses does.
pub record NoneBefore (f : Name) (hs : List HypTree) (i : ℕ) : Type 0 where
  pub first : first_for f hs ≡ first_for f (drop i hs)
  pub others : without_first f hs ≡ take i hs ++ without_first f (drop i hs)

pub before-none : (f : Name) (hs : List HypTree) → NoneBefore f hs 0
before-none f hs = record { first = refl; others = refl }

kept-false : (b : Bool) (d : Constraint) → (if b then Some d else None) ≡ None → b ≡ false
kept-false true d k = absurd (cc)
kept-false false d k = refl

kept-is : (f : Name) (o : Option Constraint) → kept f o ≡ None → is_of f o ≡ false
unfolding is_of
kept-is f None e = refl
kept-is f (Some c) e = kept-false (name_equal c.field f) c e

constraint-same : (x y : Constraint) → Some x ≡ Some y → x ≡ y
constraint-same x y k = cc

kept-true : (f : Name) (d c : Constraint) (b : Bool) → name_equal d.field f ≡ b → (if b then Some d else None) ≡ Some c → (name_equal d.field f ≡ true) × (Some d ≡ Some c) × (c.field ≡ f)
kept-true f d c true k g = (k, g, sym (ap (λ (x : Constraint). x.field) (constraint-same d c g)) ∙ name_equal-true d.field f k)
kept-true f d c false k g = absurd (cc)

kept-some : (f : Name) (o : Option Constraint) (c : Constraint) → kept f o ≡ Some c → (is_of f o ≡ true) × (o ≡ Some c) × (c.field ≡ f)
unfolding is_of
kept-some f None c e = absurd (cc)
kept-some f (Some d) c e = kept-true f d c (name_equal d.field f) refl e

first-next : (f : Name) (h : HypTree) (rest : List HypTree) → is_of f (constraint_in h.fact) ≡ false → first_for f (h ∷ rest) ≡ first_for f rest
unfolding first_for
first-next f h rest e = ap (λ b. if b then constraint_in h.fact else first_for f rest) e

first-here : (f : Name) (h : HypTree) (rest : List HypTree) → is_of f (constraint_in h.fact) ≡ true → first_for f (h ∷ rest) ≡ constraint_in h.fact
unfolding first_for
first-here f h rest e = ap (λ b. if b then constraint_in h.fact else first_for f rest) e

others-next : (f : Name) (h : HypTree) (rest : List HypTree) → is_of f (constraint_in h.fact) ≡ false → without_first f (h ∷ rest) ≡ h ∷ without_first f rest
unfolding without_first
others-next f h rest e = ap (λ b. if b then rest else h ∷ without_first f rest) e

others-here : (f : Name) (h : HypTree) (rest : List HypTree) → is_of f (constraint_in h.fact) ≡ true → without_first f (h ∷ rest) ≡ rest
unfolding without_first
others-here f h rest e = ap (λ b. if b then rest else h ∷ without_first f rest) e

pub before-next : (f : Name) (hs : List HypTree) (i : ℕ) (h : HypTree) → NoneBefore f hs i → slice_get hs i ≡ Some h → kept f (constraint_in h.fact) ≡ None → NoneBefore f hs (i + 1)
before-next f hs i h none at e =
    let no = kept-is f (constraint_in h.fact) e in
    record {
      first = none.first ∙ ap (first_for f) (drop-next hs i h at) ∙ first-next f h (drop (i + 1) hs) no;
      others = none.others ∙ ap (λ ys. take i hs ++ without_first f ys) (drop-next hs i h at) ∙ ap (λ ys. take i hs ++ ys) (others-next f h (drop (i + 1) hs) no)
          ∙ sym (append_assoc (take i hs) (h ∷ []) (without_first f (drop (i + 1) hs))) ∙ ap (λ ys. ys ++ without_first f (drop (i + 1) hs)) (sym (take-next hs i h at));
    }

pub before-found : (t : Listing) (f : Name) (hs : List HypTree) (found : Found) (h : HypTree) (c : Constraint) → NoneBefore f hs found.place → slice_get hs found.place ≡ Some h → kept f (constraint_in h.fact) ≡ Some c → IsConstraint t found.of c → IsAtPlace t found f hs c
before-found t f hs found h c none at e is =
    let here = kept-some f (constraint_in h.fact) c e in
    record {
      named = here.2;
      first = none.first ∙ ap (first_for f) (drop-next hs found.place h at) ∙ first-here f h (drop (found.place + 1) hs) here.0 ∙ here.1;
      of = is;
      others = none.others ∙ ap (λ ys. take found.place hs ++ without_first f ys) (drop-next hs found.place h at) ∙ ap (λ ys. take found.place hs ++ ys) (others-here f h (drop (found.place + 1) hs) here.0);
    }

pub before-all : (f : Name) (hs : List HypTree) (i : ℕ) → NoneBefore f hs i → length hs ≤ i → first_for f hs ≡ None
unfolding first_for
before-all f hs i none past = none.first ∙ ap (first_for f) (drop_all i hs past)

pub not-some : {X : Type 0} (o : Option X) → ((x : X) → o ≡ Some x → ⊥) → o ≡ None
not-some None h = refl
not-some (Some x) h = absurd (h x refl)

-- ---- facts

module _ (f : FormulaTree → FormulaTree) where
  -- one more fact behind those that are done
  pub pushed : (t u : Listing) (made now : List ℕ) (m i : ℕ) (all done : List FormulaTree) (a : FormulaTree) → Extends t u → AreFormulas t made (done ++ map f (take i all)) → slice_get all i ≡ Some a → IsFormula u m (f a) → now ≡ made ++ m ∷ [] → AreFormulas u now (done ++ map f (take (i + 1) all))
  pushed t u made now m i all done a g h at there e =
      formulas-as u (made ++ m ∷ []) now ((done ++ map f (take i all)) ++ f a ∷ []) (done ++ map f (take (i + 1) all))
      (formulas-push u made m (done ++ map f (take i all)) (f a) (formulas-grow t u made (done ++ map f (take i all)) g h) there) (sym e)
      (append_assoc done (map f (take i all)) (f a ∷ []) ∙ ap (λ zs. done ++ zs) (sym (map-more f all i a at)) ∙ ap (λ k. done ++ map f (take k all)) (sym (add-one i)))

  pub all-pushed : (t : Listing) (made : List ℕ) (i : ℕ) (all done : List FormulaTree) → length all ≤ i → AreFormulas t made (done ++ map f (take i all)) → AreFormulas t made (done ++ map f all)
  all-pushed t made i all done past h = subst (λ (zs : List FormulaTree). AreFormulas t made (done ++ map f zs)) (take_all i all past) h

pub formulas-take : (t : Listing) (ns : List ℕ) (all : List FormulaTree) (i : ℕ) → AreFormulas t ns all → AreFormulas t (take i ns) (take i all)
unfolding AreFormulas
formulas-take t ns all zero h = tt
formulas-take t [] [] (suc i) h = tt
formulas-take t [] (a ∷ all) (suc i) h = absurd h
formulas-take t (n ∷ ns) [] (suc i) h = absurd h
formulas-take t (n ∷ ns) (a ∷ all) (suc i) h = (h.0, formulas-take t ns all i h.1)

pub formulas-drop : (t : Listing) (ns : List ℕ) (all : List FormulaTree) (i : ℕ) → AreFormulas t ns all → AreFormulas t (drop i ns) (drop i all)
unfolding AreFormulas
formulas-drop t ns all zero h = h
formulas-drop t [] [] (suc i) h = tt
formulas-drop t [] (a ∷ all) (suc i) h = absurd h
formulas-drop t (n ∷ ns) [] (suc i) h = absurd h
formulas-drop t (n ∷ ns) (a ∷ all) (suc i) h = formulas-drop t ns all i h.1

pub formulas-rest : (t : Listing) (ns : List ℕ) (all : List FormulaTree) (i : ℕ) → AreFormulas t ns all → AreFormulas t (take (length ns - i) (drop i ns)) (drop i all)
formulas-rest t ns all i h =
    subst (λ (ms : List ℕ). AreFormulas t ms (drop i all)) (sym (take_all (length ns - i) (drop i ns) (omega (arith, length-drop i ns)))) (formulas-drop t ns all i h)

module _ {X : Type 0} (p : X → Bool) where
  pub all-take : (xs : List X) (i : ℕ) → list_all p xs ≡ true → list_all p (take i xs) ≡ true
  all-take xs zero h = refl
  all-take [] (suc i) h = refl
  all-take (x ∷ xs) (suc i) h = λ j. both-left (p x) (list_all p xs) h j && all-take xs i (both-right (p x) (list_all p xs) h) j

  pub all-drop : (xs : List X) (i : ℕ) → list_all p xs ≡ true → list_all p (drop i xs) ≡ true
  all-drop xs zero h = h
  all-drop [] (suc i) h = refl
  all-drop (x ∷ xs) (suc i) h = all-drop xs i (both-right (p x) (list_all p xs) h)

pub all-at : (all : List FormulaTree) (i : ℕ) (a : FormulaTree) → list_all has_local_shape all ≡ true → slice_get all i ≡ Some a → has_local_shape a ≡ true
all-at [] i a h at = absurd (cc)
all-at (b ∷ all) zero a h at = let one : b ≡ a = cc in ap has_local_shape (sym one) ∙ both-left (has_local_shape b) (list_all has_local_shape all) h
all-at (b ∷ all) (suc i) a h at = all-at all i a (both-right (has_local_shape b) (list_all has_local_shape all) h) at

abbrev pub facts_of : List HypTree → List FormulaTree
facts_of hs = map (λ h. h.fact) hs

facts-local : (hs : List HypTree) → list_all (λ h. has_local_shape h.fact) hs ≡ true → list_all has_local_shape (facts_of hs) ≡ true
facts-local [] h = refl
facts-local (x ∷ hs) h = λ i. both-left (has_local_shape x.fact) (list_all (λ y. has_local_shape y.fact) hs) h i && facts-local hs (both-right (has_local_shape x.fact) (list_all (λ y. has_local_shape y.fact) hs) h) i

pub sequent-facts : (s : SequentTree) → is_local s ≡ true → list_all has_local_shape (facts_of s.hyps) ≡ true
sequent-facts s h = facts-local s.hyps (both-left (list_all (λ x. has_local_shape x.fact) s.hyps) (has_local_shape s.goal) h)

take-facts : (hs : List HypTree) (i : ℕ) → take i (facts_of hs) ≡ facts_of (take i hs)
take-facts hs zero = refl
take-facts [] (suc i) = refl
take-facts (h ∷ hs) (suc i) = ap (λ xs. h.fact ∷ xs) (take-facts hs i)

drop-facts : (hs : List HypTree) (i : ℕ) → drop i (facts_of hs) ≡ facts_of (drop i hs)
drop-facts hs zero = refl
drop-facts [] (suc i) = refl
drop-facts (h ∷ hs) (suc i) = drop-facts hs i

step-facts : (c : Constraint) (hs : List HypTree) → map (λ a. eliminated c a false) (facts_of hs) ≡ facts_of (facts_eliminated c hs)
step-facts c [] = refl
step-facts c (h ∷ hs) = ap (λ xs. eliminated c h.fact false ∷ xs) (step-facts c hs)

-- ---- the step

pub stepped : (t u : Listing) (found : Found) (c : Constraint) (s : SequentTree) (facts : List ℕ) (goal : ℕ) → IsAtPlace t found c.field s.hyps c → IsFormula u goal (eliminated c s.goal true) →
    AreFormulas u facts (map (λ a. eliminated c a false) (take found.place (facts_of s.hyps) ++ drop (found.place + 1) (facts_of s.hyps))) → IsSequent u facts goal (step c s)
stepped t u found c s facts goal at g h = record {
  facts = subst (λ (xs : List FormulaTree). AreFormulas u facts xs)
      (ap (map (λ a. eliminated c a false)) ((λ i. take-facts s.hyps found.place i ++ drop-facts s.hyps (found.place + 1) i) ∙ sym (map-append (λ (x : HypTree). x.fact) (take found.place s.hyps) (drop (found.place + 1) s.hyps)) ∙ ap facts_of (sym at.others))
      ∙ step-facts c (without_first c.field s.hyps)) h;
  goal = g;
}

-- a field that isn't derived when its turn comes is passed over
pub passed-over : (f : Name) (s : SequentTree) → is_listed_in f s ≡ true → s ≡ step_of f s
unfolding at_turn step_by
passed-over f s e = ap (λ b. step_by (if b then None else first_for f s.hyps) s) (sym e)

none-first : (f : Name) (s : SequentTree) (b : Bool) → first_for f s.hyps ≡ None → s ≡ step_by (if b then None else first_for f s.hyps) s
unfolding step_by
none-first f s true e = refl
none-first f s false e = ap (λ o. step_by o s) (sym e)

pub no-constraint-left : (f : Name) (s : SequentTree) → first_for f s.hyps ≡ None → s ≡ step_of f s
unfolding at_turn
no-constraint-left f s e = none-first f s (is_listed_in f s) e

pub step-taken : (f : Name) (s : SequentTree) (c : Constraint) → is_listed_in f s ≡ false → first_for f s.hyps ≡ Some c → step c s ≡ step_of f s
unfolding at_turn step_by
step-taken f s c e k = ap (λ o. step_by o s) (sym k) ∙ ap (λ b. step_by (if b then None else first_for f s.hyps) s) (sym e)

pub at-own : (t : Listing) (found : Found) (f : Name) (hs : List HypTree) (c : Constraint) → IsAtPlace t found f hs c → IsAtPlace t found c.field hs c
at-own t found f hs c h = subst (λ (x : Name). IsAtPlace t found x hs c) (sym h.named) h

pub found-some : (t : Listing) (found : Found) (f : Name) (hs : List HypTree) (o : Option Found) → o ≡ Some found → IsFound t o f hs → (c : Constraint) × IsAtPlace t found f hs c
unfolding IsFound
found-some t found f hs None e h = absurd (cc)
found-some t found f hs (Some x) e h = let one : x ≡ found = cc in (h.0, subst (λ (y : Found). IsAtPlace t y f hs h.0) one h.1)

pub found-none : (t : Listing) (f : Name) (hs : List HypTree) (o : Option Found) → o ≡ None → IsFound t o f hs → first_for f hs ≡ None
unfolding IsFound
found-none t f hs None e h = h
found-none t f hs (Some x) e h = absurd (cc)

pub is-found-none : (t : Listing) (f : Name) (hs : List HypTree) → first_for f hs ≡ None → IsFound t None f hs
unfolding IsFound
is-found-none t f hs e = e

pub is-found : (t : Listing) (found : Found) (f : Name) (hs : List HypTree) (c : Constraint) → IsAtPlace t found f hs c → IsFound t (Some found) f hs
unfolding IsFound
is-found t found f hs c h = (c, h)

-- ---- all steps

pub steps-local : (fs : List Name) (s : SequentTree) → is_local s ≡ true → is_local (all_steps fs s) ≡ true
unfolding all_steps
steps-local [] s h = h
steps-local (f ∷ fs) s h = steps-local fs (step_of f s) (step-of-local f s h)

steps-last : (fs : List Name) (f : Name) (s : SequentTree) → all_steps (fs ++ f ∷ []) s ≡ step_of f (all_steps fs s)
unfolding all_steps
steps-last [] f s = refl
steps-last (g ∷ fs) f s = steps-last fs f (step_of g s)

pub steps-next : (fs : List Name) (i : ℕ) (f : Name) (s : SequentTree) → slice_get fs i ≡ Some f → step_of f (all_steps (take i fs) s) ≡ all_steps (take (i + 1) fs) s
steps-next fs i f s at = sym (ap (λ gs. all_steps gs s) (take-next fs i f at) ∙ steps-last (take i fs) f s)

pub no-steps : (fs : List Name) (s : SequentTree) → s ≡ all_steps (take 0 fs) s
unfolding all_steps
no-steps fs s = refl

pub sequent-grows : (t u : Listing) (facts : List ℕ) (goal : ℕ) (s : SequentTree) → Extends t u → IsSequent t facts goal s → IsSequent u facts goal s
sequent-grows t u facts goal s g h = record { facts = formulas-grow t u facts (facts_of s.hyps) g h.facts; goal = g.nodes.keeps goal (of_truth s.goal) h.goal }

pub sequent-as : (t : Listing) (facts : List ℕ) (goal : ℕ) (s r : SequentTree) → s ≡ r → IsSequent t facts goal s → IsSequent t facts goal r
sequent-as t facts goal s r e h = subst (λ (x : SequentTree). IsSequent t facts goal x) e h

pub sequent-lent : (t : Listing) (facts others : List ℕ) (goal : ℕ) (s : SequentTree) → others ≡ facts → IsSequent t facts goal s → IsSequent t others goal s
sequent-lent t facts others goal s e h = subst (λ (ns : List ℕ). IsSequent t ns goal s) (sym e) h

-- the formulas as they were given
pub given-stands : (t : Listing) (facts : List ℕ) (goal : ℕ) (form : NodeSequent) (s : SequentTree) → (form.facts ≡ facts) × (form.goal ≡ goal) → IsSequent t facts goal s → IsSequent t form.facts form.goal s
given-stands t facts goal form s e h = subst (λ (ns : List ℕ). IsSequent t ns form.goal s) (sym e.0) (subst (λ (n : ℕ). IsSequent t facts n s) (sym e.1) h)

-- the place that was found
pub placed : (o : Option Found) (found : Found) (facts others : List ℕ) → o ≡ Some found → others ≡ facts → IfSome o (λ f. f.place < length others) → found.place < length facts
placed None found facts others e k h = absurd (cc)
placed (Some x) found facts others e k h = let one : x ≡ found = cc in subst (λ (y : Found). y.place < length facts) one (subst (λ (ns : List ℕ). x.place < length ns) k h)
