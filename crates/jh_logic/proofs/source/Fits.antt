-- A source that is accepted meets the premises of the law that valid formulas make programs sound.
use Rattle.std.proofs.Common.{◌≡◌, true, []}
use Rattle.jh_ast.specs.Programs.{ProgramTree}
use Rattle.jh_rules.specs.Breaks.{faults_of}
use Rattle.jh_rules.specs.Shape.{program_parts, are_different}
use Rattle.jh_semantics.specs.LoweredProgram.{program_of, ModifiesOf}
use Rattle.jh_semantics.specs.Typed.{ProgramFits}
use Rattle.jh_logic.specs.source.Placed.{IsPlaced}
use Rattle.jh_logic.specs.source.Laws.{MeetsPremises, AcceptedMeetsPremises, AcceptedIsSound}
use Rattle.jh_logic.proofs.logic.Soundness.{sound}
use Rattle.jh_logic.proofs.source.Shaped.{Shaped, shaped-program}
use Rattle.jh_logic.proofs.source.OfStates.{claims-of-states}
use Rattle.jh_logic.proofs.source.Classes.{faultless}
use Rattle.jh_logic.proofs.source.Methods.{program-fits}
use Rattle.jh_logic.proofs.source.Ghosts.{ghosts-fit}
use Rattle.jh_logic.proofs.source.Writing.{writes-cover}
use Rattle.jh_logic.proofs.source.MethodClaims.{contracts-fit}

pub fits : (p : ProgramTree) → IsPlaced p → faults_of p ≡ [] → Shaped (program_parts p) → are_different (program_parts p).numbers ≡ true → ProgramFits (program_of p)
fits p placed clean shaped different =
    program-fits p placed clean shaped (λ spec. (claims-of-states p spec, tt)) (λ n c is m stands. ghosts-fit p placed clean shaped different n c is m stands)

pub meets : AcceptedMeetsPremises
meets p ws ok writes = record {
  program = fits p ok.placed (faultless p ok.fine) (shaped-program p ok.shape) ok.shape.numbers;
  contracts = contracts-fit p ok.placed (faultless p ok.fine) (shaped-program p ok.shape) ok.shape.numbers;
  writes = writes-cover p ok.placed (faultless p ok.fine) (shaped-program p ok.shape) ok.shape.numbers ws writes;
}

pub is-sound : AcceptedIsSound
is-sound p ws ok writes valid = let m : MeetsPremises p ws = meets p ws ok writes in sound (program_of p) ws m.program m.contracts m.writes valid (ModifiesOf p) (λ c y e. writes.modified c y e)
