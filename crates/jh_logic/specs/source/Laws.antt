-- What breaks no rule is sound where its formulas are valid.
use Rattle.std.specs.Prelude.{ℕ}
use Rattle.jh_name.specs.declared.place.Place.{Place}
use Rattle.jh_ast.specs.Programs.{ProgramTree}
use Rattle.jh_rules.specs.Breaks.{Breaks}
use Rattle.jh_rules.specs.Shape.{ShapeOfSource}
use Rattle.jh_semantics.specs.LoweredProgram.{program_of, IsSound}
use Rattle.jh_semantics.specs.Typed.{ProgramFits}
use Rattle.jh_guard.specs.Writes.{Writes}
use Rattle.jh_logic.specs.logic.MethodContracts.{ContractsFit, WritesCover}
use Rattle.jh_logic.specs.logic.Laws.{AreValid}
use Rattle.jh_logic.specs.source.Placed.{IsPlaced}
use Rattle.jh_logic.specs.source.Written.{AreWrites}

-- A source as it is read from a text, in which no type rule is broken.
pub record IsAccepted (p : ProgramTree) : Type 0 where
  pub shape : ShapeOfSource p
  pub placed : IsPlaced p
  pub fine : (rule : ℕ) (place : Place) → Breaks p rule place → ⊥

-- Its lowered program fits, its contracts speak of what they may, and its methods may write what their bodies write.
pub record MeetsPremises (p : ProgramTree) (ws : Writes) : Type 0 where
  pub program : ProgramFits (program_of p)
  pub contracts : ContractsFit (program_of p)
  pub writes : WritesCover (program_of p) ws

abbrev pub AcceptedMeetsPremises : Type 0
AcceptedMeetsPremises = (p : ProgramTree) (ws : Writes) → IsAccepted p → AreWrites p ws → MeetsPremises p ws

-- So a source is sound where the formulas of its methods are valid, with what they may write and what they name as it says.
abbrev pub AcceptedIsSound : Type 0
AcceptedIsSound = (p : ProgramTree) (ws : Writes) → IsAccepted p → AreWrites p ws → AreValid (program_of p) ws → IsSound p
