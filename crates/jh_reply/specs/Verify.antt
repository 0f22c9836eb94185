-- What `verify` reads, what it accepts and what it reports; and why a source is refused, by `verify` and by `run`.
use Rattle.std.specs.Prelude.{ℕ, ◌≡◌, ◌≤◌, Bool, true, List, [], ◌∷◌, length, if◌then◌else◌, Option, Some, IfSome}
use Rattle.std.specs.List.{list_all}
use Rattle.jh_files.specs.Contents.{Appends}
use Rattle.jh_ast.specs.Programs.{ProgramTree}
use Rattle.jh_name.specs.declared.place.Place.{Place}
use Rattle.jh_vars.specs.States.{class_text}
use Rattle.jh_semantics.specs.LoweredProgram.{IsSound}
use Rattle.jh_report.specs.jh_splitting.Pairs.{ArePaired}
use Rattle.jh_gen_laws.specs.jh_obligations.program_sequents.Owed.{Debt}
use Rattle.jh_gen_laws.specs.jh_obligations.program_sequents.Sources.{Owes}
use Rattle.jh_name.specs.declared.options.Options.{Options}
use Rattle.jh_report.specs.jh_prove.prover.Answers.{all_proved_or_spent}
use Rattle.jh_report.specs.jh_prove.prover.Right.{AllRight, AllProvable}
use Rattle.jh_report.specs.report.Report.{Reported, report_of, is_accepted}
use Rattle.jh_reply.specs.Refusals.{Spells, RefusedAt, IsMistyped, IsCircular, IsCrowded, method_text}
use Rattle.jh_reply.specs.Words.{source_of}
use Rattle.jh_words.specs.CommandLine.{Job, Verify, job_of, verify}

-- the most bytes that a source may have
abbrev pub source_limit : ℕ
source_limit = 1048576

-- the bytes that were handed over for a name are those that it holds, where the files tell
abbrev pub Tells : Option (List ℕ) → List ℕ → Type 0
Tells held bytes = IfSome held (λ told. bytes ≡ told)

-- how far the search for a proof of a sequent goes
abbrev pub options_of : Verify → Options
options_of v = record { rounds = v.rounds; leaves = v.leaves }

-- What is reported of a method of a program: its class and its own name, its sequents, and right answers for them.
pub record IsJudged (o : Options) (p : ProgramTree) (d : Debt) (r : Reported) : Type 0 where
  pub class : r.class ≡ class_text p d.id.class
  pub name : r.name ≡ method_text p d.id
  pub sequents : r.sequents ≡ d.sequents
  pub right : AllRight o r.sequents r.answers

-- What is reported of a program: of each of its methods, in the order of the text, the sequents that it owes with right answers.
pub record Judges (o : Options) (p : ProgramTree) (rs : List Reported) : Type 0 where
  pub owed : List Debt
  pub owes : Owes p owed
  pub judged : ArePaired (IsJudged o p) owed rs

-- Each sequent of each method is trivial, or has a query that is within the limits and true, or instances after so many rounds without a
-- ground model.
abbrev pub EachProvable : ℕ → List Debt → Type 0
EachProvable rounds [] = Unit {0}
EachProvable rounds (d ∷ ds) = AllProvable rounds d.sequents × EachProvable rounds ds

-- The sequents that the methods of a program owe are all provable.
pub record OwesProvable (rounds : ℕ) (p : ProgramTree) : Type 0 where
  pub owed : List Debt
  pub owes : Owes p owed
  pub provable : EachProvable rounds owed

-- an answer is Unproved only where the search spent its budget
abbrev pub are_proved_or_spent : List Reported → Bool
are_proved_or_spent rs = list_all (λ r. all_proved_or_spent r.answers) rs

-- a text is the report on a program, and says whether no answer is Unproved
pub record IsReport (o : Options) (p : ProgramTree) (text : List ℕ) (accepted : Bool) : Type 0 where
  pub reported : List Reported
  pub judges : Judges o p reported
  pub text_is : text ≡ report_of reported
  pub accepted_is : accepted ≡ is_accepted reported

-- The words ask for the report on a file, whose bytes spell one program.
pub record IsRead (words : List (List ℕ)) (holds : List ℕ → Option (List ℕ)) (p : ProgramTree) : Type 0 where
  pub job : Verify
  pub bytes : List ℕ
  pub asked : job_of words ≡ Some (verify job)
  pub told : Tells (holds job.file) bytes
  pub within : length bytes ≤ source_limit
  pub spelled : Spells bytes p
  pub only : (q : ProgramTree) → Spells bytes q → q ≡ p

-- The words ask for a job whose source is of a file, and these bytes were read from it, which are within the limit.
pub record SourceRead (words : List (List ℕ)) (holds : List ℕ → Option (List ℕ)) : Type 0 where
  pub job : Job
  pub file : List ℕ
  pub bytes : List ℕ
  pub asked : job_of words ≡ Some job
  pub reads : source_of job ≡ Some file
  pub told : Tells (holds file) bytes
  pub within : length bytes ≤ source_limit

-- A source that is read is refused with a number, at a place.
pub record IsRefused (words : List (List ℕ)) (holds : List ℕ → Option (List ℕ)) (number : ℕ) (place : Place) : Type 0 where
  pub source : SourceRead words holds
  pub why : RefusedAt source.bytes number place

-- A source that is read spells a tree that breaks a type rule at a place.
pub record IsIll (words : List (List ℕ)) (holds : List ℕ → Option (List ℕ)) (rule : ℕ) (place : Place) : Type 0 where
  pub source : SourceRead words holds
  pub why : IsMistyped source.bytes rule place

-- A source that is read spells a tree with a cyclic variable of this name.
pub record IsLooped (words : List (List ℕ)) (holds : List ℕ → Option (List ℕ)) (name : List ℕ) : Type 0 where
  pub source : SourceRead words holds
  pub why : IsCircular source.bytes name

-- The words ask for the report on a file, whose bytes spell a program with a method of too many sequents.
pub record IsOverfull (words : List (List ℕ)) (holds : List ℕ → Option (List ℕ)) (class name : List ℕ) (n : ℕ) : Type 0 where
  pub job : Verify
  pub bytes : List ℕ
  pub asked : job_of words ≡ Some (verify job)
  pub told : Tells (holds job.file) bytes
  pub within : length bytes ≤ source_limit
  pub why : IsCrowded bytes class name n

-- The headline: the words ask for the report on a file whose bytes spell one program, and that program is sound.
pub record Verifies (words : List (List ℕ)) (holds : List ℕ → Option (List ℕ)) : Type 0 where
  pub program : ProgramTree
  pub read : IsRead words holds program
  pub sound : IsSound program

-- The words ask for the report on a file whose bytes spell one program, and the report on it was written, with right
-- answers for its sequents; the status is 0 where none is Unproved, and else 1. With 0 that program is sound. Where all that it owes is
-- provable, an answer is Unproved only where the search spent its budget.
pub record Reports (words : List (List ℕ)) (holds : List ℕ → Option (List ℕ)) (before after : Option (List ℕ)) (status : ℕ) : Type 0 where
  pub program : ProgramTree
  pub read : IsRead words holds program
  pub reported : List Reported
  pub judges : Judges (options_of read.job) program reported
  pub spent : OwesProvable read.job.rounds program → are_proved_or_spent reported ≡ true
  pub written : Appends before (report_of reported) after
  pub status_is : status ≡ (if is_accepted reported then 0 else 1)
  pub sound : status ≡ 0 → IsSound program
