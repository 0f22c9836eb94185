-- What `run` reads, what a run comes to, and what is printed of it.
use Rattle.std.specs.Prelude.{ℕ, ◌≡◌, ◌≤◌, true, List, length, Option, Some, None}
use Rattle.jh_files.specs.Contents.{Appends}
use Rattle.jh_ast.specs.Programs.{ProgramTree}
use Rattle.jh_name.specs.declared.place.Place.{Place}
use Rattle.jh_rules.specs.Names.{declared_in}
use Rattle.jh_vars.specs.Written.{Callee}
use Rattle.jh_semantics.specs.Program.{Program, Method}
use Rattle.jh_semantics.specs.Progress.{Outcome, Stop, returned, stopped, null_dereferenced, assert_failed, no_object, steps_out}
use Rattle.jh_semantics.specs.Heaps.{Heap, Args}
use Rattle.jh_semantics.specs.LoweredProgram.{program_of}
use Rattle.jh_run.specs.jh_heap.text.Outlines.{outline_of}
use Rattle.jh_run.specs.jh_heap.text.Reading.{Reading, reading, read, bad_line, not_well_formed}
use Rattle.jh_run.specs.runner.Runs.{outcome_on, OverflowsOn}
use Rattle.jh_run.specs.outcome.Outcomes.{Returns, Starts, has_method}
use Rattle.jh_reply.specs.Refusals.{Spells}
use Rattle.jh_reply.specs.Verify.{Tells, source_limit}
use Rattle.jh_words.specs.CommandLine.{Run, job_of, run}

-- The words ask for a run in a file, whose bytes spell a program.
pub record IsSource (words : List (List ℕ)) (holds : List ℕ → Option (List ℕ)) (p : ProgramTree) : Type 0 where
  pub job : Run
  pub asked : job_of words ≡ Some (run job)
  pub bytes : List ℕ
  pub told : Tells (holds job.file) bytes
  pub within : length bytes ≤ source_limit
  pub spelled : Spells bytes p

-- The program has the method that the words name, so that the file of the heap is read.
pub record IsCalled (words : List (List ℕ)) (holds : List ℕ → Option (List ℕ)) (p : ProgramTree) : Type 0 where
  pub source : IsSource words holds p
  pub has : has_method p source.job.class source.job.method ≡ true

-- The file of the heap holds these bytes, and the method is run from them.
pub record IsBegun (words : List (List ℕ)) (holds : List ℕ → Option (List ℕ)) (p : ProgramTree) : Type 0 where
  pub called : IsCalled words holds p
  pub text : List ℕ
  pub told : Tells (holds called.source.job.heap) text
  pub within : length text ≤ source_limit

-- The words ask for a run that returns, and what comes of it was written: the line of its result, where there is one, and the text of the
-- heap at its end.
pub record Runs (words : List (List ℕ)) (holds : List ℕ → Option (List ℕ)) (before after : Option (List ℕ)) : Type 0 where
  pub program : ProgramTree
  pub begun : IsBegun words holds program
  pub printed : List ℕ
  pub returns : Returns program begun.called.source.job.class begun.called.source.job.method begun.text begun.called.source.job.steps printed
  pub written : Appends before printed after

-- What a run from a heap text comes to by the definition of runs: there is no such method, the text spells no heap with arguments for
-- it, or it ends.
pub data Ending : Type 0 where
  no_method : Ending
  no_heap : Ending
  ends : Outcome → Ending

module _ (p : Program) (steps : ℕ) where
  abbrev pub ending_read : Callee → Reading → Ending
  ending_read m (read heap args) = ends (outcome_on p m heap args steps)
  ending_read m (bad_line line) = no_heap
  ending_read m (not_well_formed line rule) = no_heap

  abbrev pub ending_in : List ℕ → Callee → Option Method → Ending
  ending_in text m None = no_method
  ending_in text m (Some code) = ending_read m (reading (outline_of p code) text)

  abbrev pub ending_at : List ℕ → Callee → Ending
  ending_at text m = ending_in text m (p.method m)

  abbrev pub ending_named : List ℕ → List ℕ → Option ℕ → Ending
  ending_named name text None = no_method
  ending_named name text (Some n) = ending_at text (record { class = n; name = name })

-- of the method of a class and a name in a program
abbrev pub ending_of : ProgramTree → List ℕ → List ℕ → List ℕ → ℕ → Ending
ending_of p class name text steps = ending_named (program_of p) steps name text ((declared_in p).class_named class)

abbrev pub stop_status : Stop → ℕ
stop_status (null_dereferenced place) = 10
stop_status (assert_failed place) = 11
stop_status (no_object place) = 12
stop_status steps_out = 13

abbrev pub outcome_status : Outcome → ℕ
outcome_status (returned state value) = 0
outcome_status (stopped why) = stop_status why

abbrev pub ending_status : Ending → ℕ
ending_status no_method = 2
ending_status no_heap = 15
ending_status (ends x) = outcome_status x

-- Something overflows at a place in a run from a heap text.
pub record IsOverflow (p : ProgramTree) (class name text : List ℕ) (steps : ℕ) : Type 0 where
  pub number : ℕ
  pub class_is : (declared_in p).class_named class ≡ Some number
  pub heap : Heap
  pub args : Args
  pub starts : Starts (program_of p) (record { class = number; name = name }) text heap args
  pub place : Place
  pub overflows : OverflowsOn (program_of p) (record { class = number; name = name }) heap args steps place
