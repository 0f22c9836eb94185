-- What the methods of a source owe.
use Rattle.std.specs.Prelude.{ℕ, List}
use Rattle.jh_name.specs.declared.place.MethodId.{MethodId}
use Rattle.jh_ast.specs.Programs.{ProgramTree}
use Rattle.jh_outline.specs.jh_guard.Writes.{Writes}
use Rattle.jh_semantics.specs.LoweredProgram.{program_of}
use Rattle.jh_outline.specs.outline.Rows.{AreExact}
use Rattle.jh_obligations.specs.program_sequents.Owing.{owing_of}
use Rattle.jh_obligations.specs.program_sequents.Owed.{Debt, AllHaveFew, AreOwed, FirstMany}
use Rattle.jh_obligations.specs.declared.program_sequents.fault.LogicError.{LogicError}
use Rattle.jh_obligations.specs.declared.program_sequents.fault.LogicError.TheVariants as fault

-- The methods of a source owe the sequents of a list, one after another in the order of the text.
pub record Owes (p : ProgramTree) (ds : List Debt) : Type 0 where
  pub writes : Writes
  pub exact : AreExact p writes
  pub owed : AreOwed (program_of p) writes (owing_of p) ds

-- Each has no more than 2,000 sequents.
pub record OwesLittle (p : ProgramTree) : Type 0 where
  pub writes : Writes
  pub exact : AreExact p writes
  pub few : AllHaveFew (program_of p) writes (owing_of p)

-- The first that has more than 2,000 has this number, and so many sequents, as far as a number tells.
pub record OwesMuch (p : ProgramTree) (id : MethodId) (n : ℕ) : Type 0 where
  pub writes : Writes
  pub exact : AreExact p writes
  pub first : FirstMany (program_of p) writes (owing_of p) id n

-- why there is no list of sequents of a source
abbrev pub IsLogicFault : ProgramTree → LogicError → Type 0
IsLogicFault p (fault.TooManySequents id n) = OwesMuch p id n
IsLogicFault p fault.Memory = Unit {0}
