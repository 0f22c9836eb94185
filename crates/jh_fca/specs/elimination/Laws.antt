-- What elimination keeps.
use Rattle.std.specs.Prelude.{◌≡◌, ◌↔◌, true, []}
use Rattle.jh_form.specs.Meaning.{Interp, InUniverse, truth}
use Rattle.jh_seq.specs.sequent.Sequents.{SequentTree, AllTrue, IsValid}
use Rattle.jh_seq.specs.splitting.Local.{is_local}
use Rattle.jh_fca.specs.elimination.Derived.{derived}
use Rattle.jh_fca.specs.elimination.Eliminated.{eliminate}
use Rattle.jh_fca.specs.elimination.Exact.{AreExact}

-- Where the sequent without its derived fields is valid, so is the sequent, whatever the constraints say.
abbrev pub EliminatedIsValid : Type 0
EliminatedIsValid = (s : SequentTree) → IsValid (eliminate s) → IsValid s

-- In each interpretation in which the hypotheses of a sequent are true, those are that it has without its derived fields; and where its
-- goal without them is true there, so is the goal.
pub record StandsWithout (s : SequentTree) (m : Interp) : Type 0 where
  pub facts : AllTrue (eliminate s).hyps m
  pub goal : truth (eliminate s).goal m [] ≡ true → truth s.goal m [] ≡ true

abbrev pub EliminatedMayStand : Type 0
EliminatedMayStand = (s : SequentTree) (m : Interp) → InUniverse m → AllTrue s.hyps m → StandsWithout s m

-- Where each constraint is deterministic, one is valid exactly where the other is.
abbrev pub EliminatedIsExact : Type 0
EliminatedIsExact = (s : SequentTree) → AreExact (derived s) s → IsValid s ↔ IsValid (eliminate s)

-- A sequent of local shape keeps it.
abbrev pub EliminatedHasShape : Type 0
EliminatedHasShape = (s : SequentTree) → is_local s ≡ true → is_local (eliminate s) ≡ true
