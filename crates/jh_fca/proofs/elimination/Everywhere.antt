-- In each interpretation in which the hypotheses of a sequent are true, the sequent without its derived fields may stand for it.
use Rattle.std.proofs.Common.{◌≡◌, refl, Bool, true, false, if◌then◌else◌, List, [], ◌∷◌, Option, None, Some}
use Rattle.jh_name.specs.declared.naming.Name.{Name}
use Rattle.jh_form.specs.Meaning.{Interp, InUniverse, truth}
use Rattle.jh_seq.specs.sequent.Sequents.{SequentTree, AllTrue}
use Rattle.jh_fca.specs.elimination.Constraints.{Constraint}
use Rattle.jh_fca.specs.elimination.Derived.{is_listed_in, derived, first_for, without_first}
use Rattle.jh_fca.specs.elimination.Eliminated.{step, at_turn, step_by, step_of, all_steps, eliminate}
use Rattle.jh_fca.specs.elimination.Laws.{EliminatedMayStand}
use Rattle.jh_fca.proofs.elimination.Found.{IsConstraint, first-is, without-true, first-true}
use Rattle.jh_fca.proofs.elimination.Sound.{eliminated-stands, facts-stand, nothing-bound}

module _ (m : Interp) (universe : InUniverse m) where
  -- the second sequent may stand for the first
  record MayStand (s u : SequentTree) : Type 0 where
    facts : AllTrue s.hyps m → AllTrue u.hyps m
    goal : AllTrue s.hyps m → truth u.goal m [] ≡ true → truth s.goal m [] ≡ true

  itself : (s : SequentTree) → MayStand s s
  itself s = record { facts = λ hold. hold; goal = λ hold h. h }

  step-stands : (f : Name) (c : Constraint) (s : SequentTree) → first_for f s.hyps ≡ Some c → MayStand s (step c s)
  step-stands f c s found =
      let is : IsConstraint c = first-is f s.hyps c found in
      record {
        facts = λ hold. facts-stand c m universe is.closed (first-true f s.hyps c m universe found hold) (without_first c.field s.hyps) (without-true c.field s.hyps m hold);
        goal = λ hold h. eliminated-stands c m universe is.closed (first-true f s.hyps c m universe found hold) s.goal true [] (nothing-bound m.last) h;
      }

  turn-stands : (f : Name) (s : SequentTree) (listed : Bool) (o : Option Constraint) → first_for f s.hyps ≡ o → MayStand s (step_by (if listed then None else o) s)
  unfolding step_by
  turn-stands f s true o found = itself s
  turn-stands f s false None found = itself s
  turn-stands f s false (Some c) found = step-stands f c s found

  steps-stand : (fs : List Name) (s : SequentTree) → MayStand s (all_steps fs s)
  unfolding all_steps at_turn
  steps-stand [] s = itself s
  steps-stand (f ∷ fs) s =
      let first : MayStand s (step_of f s) = turn-stands f s (is_listed_in f s) (first_for f s.hyps) refl in
      let rest : MayStand (step_of f s) (all_steps fs (step_of f s)) = steps-stand fs (step_of f s) in
      record { facts = λ hold. rest.facts (first.facts hold); goal = λ hold h. first.goal hold (rest.goal (first.facts hold) h) }

pub eliminated-stands-everywhere : EliminatedMayStand
unfolding eliminate
eliminated-stands-everywhere s m universe hold = let kept = steps-stand m universe (derived s) s in record { facts = kept.facts hold; goal = λ h. kept.goal hold h }
