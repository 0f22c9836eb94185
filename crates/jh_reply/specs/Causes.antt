-- What each call of the program answers, and why.
use Rattle.std.specs.Prelude.{ℕ, ◌≡◌, ◌<◌, ◌≤◌, ◌++◌, ◌⊎◌, Bool, true, false, List, [], ◌∷◌, length, codes, if◌then◌else◌, Option, None, Some, IfSome, string_bytes}
use Rattle.std.specs.Fmt.{decimal}
use Rattle.jh_files.specs.Contents.{Appends, AppendsFront}
use Rattle.jh_files.specs.Counts.{Rose}
use Rattle.jh_files.specs.declared.fault.FileFault.{FileFault}
use Rattle.jh_files.specs.declared.fault.FileFault.TheVariants as fault
use Rattle.jh_ast.specs.Programs.{ProgramTree}
use Rattle.jh_reply.specs.declared.reply.Reply.{Reply}
use Rattle.jh_reply.specs.declared.reply.Reply.TheVariants as reply
use Rattle.jh_reply.specs.declared.status.Status.{Status}
use Rattle.jh_reply.specs.declared.status.Status.TheVariants as status_of
use Rattle.jh_vars.specs.States.{class_text}
use Rattle.jh_gen_laws.specs.jh_obligations.program_sequents.Sources.{OwesLittle, OwesMuch}
use Rattle.jh_run.specs.jh_heap.declared.text.reading.HeapError.{HeapError}
use Rattle.jh_run.specs.jh_heap.declared.text.reading.HeapError.TheVariants as heap
use Rattle.jh_run.specs.jh_machine.declared.continuation.stop.Stop.{Stop}
use Rattle.jh_run.specs.jh_machine.declared.continuation.stop.Stop.TheVariants as stop
use Rattle.jh_run.specs.outcome.Outcomes.{IsReason, Returns, has_method}
use Rattle.jh_run.specs.declared.outcome.unreturned.Unreturned.{Unreturned}
use Rattle.jh_run.specs.declared.outcome.unreturned.Unreturned.TheVariants as unreturned_by
use Rattle.jh_report.specs.report.Report.{Reported, report_of, is_accepted}
use Rattle.jh_reply.specs.declared.error.Unreported.{Unreported}
use Rattle.jh_reply.specs.declared.error.Unreported.TheVariants as unreported
use Rattle.jh_reply.specs.Refusals.{Spells, RefusedAt, IsMistyped, IsCircular, IsCrowded, method_text}
use Rattle.jh_name.specs.declared.place.MethodId.{MethodId}
use Rattle.jh_name.specs.declared.place.Place.{Place}
use Rattle.jh_name.specs.declared.options.Options.{Options}
use Rattle.jh_reply.specs.Verify.{Tells, options_of, are_proved_or_spent, IsRead, IsRefused, IsIll, IsLooped, IsOverfull, IsReport, Judges, OwesProvable, source_limit}
use Rattle.jh_reply.specs.Made.{default_options, IsSummary, made_source, summary_of}
use Rattle.jh_reply.specs.Run.{IsBegun, IsCalled, IsOverflow, IsSource, ending_of, ending_status}
use Rattle.jh_reply.specs.Words.{source_of}
use Rattle.jh_words.specs.CommandLine.{Gen, Job, Run, Verify, gen, job_of, run, verify}
use Rattle.jh_words.specs.Usage.{IsUsage, usage_page}

-- the number of an exit status
abbrev pub number_of : Status → ℕ
number_of status_of.Accepted = 0
number_of status_of.Rejected = 1
number_of status_of.Usage = 2
number_of status_of.Refused = 3
number_of status_of.File = 4
number_of status_of.Sink = 5
number_of status_of.Memory = 6
number_of status_of.Null = 10
number_of status_of.Assert = 11
number_of status_of.NoObject = 12
number_of status_of.StepsOut = 13
number_of status_of.Overflow = 14
number_of status_of.Heap = 15

-- What there is to see of the files over a call: what they hold, and for each name how many calls had
-- failed before it and had after it.
pub record FilesSeen : Type 0 where
  pub holds : List ℕ → Option (List ℕ)
  pub before : List ℕ → ℕ
  pub after : List ℕ → ℕ

-- the files as they are seen over a call
abbrev pub files_seen : (List ℕ → Option (List ℕ)) → (List ℕ → ℕ) → (List ℕ → ℕ) → FilesSeen
files_seen holds before after = record { holds = holds; before = before; after = after }

-- What there is to see of a sink over a call: what was written before it and after it, where the sink
-- tells, and how many calls had failed.
pub record SinkSeen : Type 0 where
  pub before : Option (List ℕ)
  pub after : Option (List ℕ)
  pub faults_before : ℕ
  pub faults_after : ℕ

-- a sink as it is seen over a call: what was written before and after it, and how many calls had failed
abbrev pub sink_seen : Option (List ℕ) → Option (List ℕ) → ℕ → ℕ → SinkSeen
sink_seen before after faults_before faults_after = record { before = before; after = after; faults_before = faults_before; faults_after = faults_after }

-- What a call finds, before anything is written.
pub data Finding : Type 0 where
  reported : ProgramTree → List Reported → Finding
  summed : Gen → ProgramTree → List Reported → Finding
  ran : ProgramTree → List ℕ → Finding
  unreturned : ProgramTree → Unreturned → Finding
  no_job : List ℕ → Finding
  no_method : ProgramTree → List ℕ → Finding
  refused : ℕ → Place → Finding
  mistyped : ℕ → Place → Finding
  circular : List ℕ → Finding
  crowded : List ℕ → List ℕ → ℕ → Finding
  file_failed : List ℕ → Finding
  file_too_long : List ℕ → Finding
  no_memory : Finding

-- a file is read: that of the source, and that of the heap where a run's method is there
pub data IsRead_in (words : List (List ℕ)) (holds : List ℕ → Option (List ℕ)) : List ℕ → Type 0 where
  as_source : (job : Job) (file : List ℕ) → job_of words ≡ Some job → source_of job ≡ Some file → IsRead_in words holds file
  as_heap : (p : ProgramTree) (called : IsCalled words holds p) → IsRead_in words holds called.source.job.heap

-- the line for a source that is refused with a number, at a place
abbrev pub refused_text : ℕ → Place → List ℕ
refused_text number place = codes "refused " ++ (decimal number ++ (codes " at " ++ (decimal place.line ++ (codes ":" ++ (decimal place.column ++ 10 ∷ [])))))

-- the line for a source that breaks a type rule, at a place
abbrev pub mistyped_text : ℕ → Place → List ℕ
mistyped_text rule place = codes "refused 11 rule " ++ (decimal rule ++ (codes " at " ++ (decimal place.line ++ (codes ":" ++ (decimal place.column ++ 10 ∷ [])))))

-- the line for a source with a cyclic variable of this name
abbrev pub circular_text : List ℕ → List ℕ
circular_text name = codes "refused 8 " ++ (name ++ 10 ∷ [])

-- the line for a method of a class and a name with so many sequents
abbrev pub crowded_text : List ℕ → List ℕ → ℕ → List ℕ
crowded_text class name n = codes "refused 12 " ++ (class ++ (codes "." ++ (name ++ (codes " " ++ (decimal n ++ 10 ∷ [])))))

-- a text is the line for bytes that are refused, break a type rule or have a cyclic variable
pub data IsRefusal (bytes text : List ℕ) : Type 0 where
  by_place : (number : ℕ) (place : Place) → RefusedAt bytes number place → text ≡ refused_text number place → IsRefusal bytes text
  by_rule : (rule : ℕ) (place : Place) → IsMistyped bytes rule place → text ≡ mistyped_text rule place → IsRefusal bytes text
  by_loop : (name : List ℕ) → IsCircular bytes name → text ≡ circular_text name → IsRefusal bytes text

-- there are too many sequents, and a text says so
pub record IsCrowd (p : ProgramTree) (text : List ℕ) : Type 0 where
  pub id : MethodId
  pub n : ℕ
  pub much : OwesMuch p id n
  pub text_is : text ≡ crowded_text (class_text p id.class) (method_text p id) n

-- When each finding may come. A program is reported on where the bytes spell it, with right answers for its sequents, and so is one that is made from a number
-- summed up; what a run comes to is exact; a file fails only where its count rose; what is said where nothing is asked for, or a method isn't there, ends with the page that says what may
-- be asked for. Want of memory is free.
abbrev pub Comes : List (List ℕ) → FilesSeen → Finding → Type 0
Comes words files (reported p rs) = (read : IsRead words files.holds p) × Judges (options_of read.job) p rs
Comes words files (summed g p rs) = (job_of words ≡ Some (gen g)) × Spells (made_source g) p × Judges default_options p rs
Comes words files (ran p text) = (begun : IsBegun words files.holds p) × Returns p begun.called.source.job.class begun.called.source.job.method begun.text begun.called.source.job.steps text
Comes words files (unreturned p e) = (begun : IsBegun words files.holds p) × IsReason p begun.called.source.job.class begun.called.source.job.method begun.text begun.called.source.job.steps e
Comes words files (no_job text) = (job_of words ≡ None) × IsUsage text
Comes words files (no_method p text) = (source : IsSource words files.holds p) × (has_method p source.job.class source.job.method ≡ false) × IsUsage text
Comes words files (refused number place) = IsRefused words files.holds number place
Comes words files (mistyped rule place) = IsIll words files.holds rule place
Comes words files (circular name) = IsLooped words files.holds name
Comes words files (crowded class name n) = IsOverfull words files.holds class name n
Comes words files (file_failed file) = IsRead_in words files.holds file × Rose (files.before file) (files.after file)
Comes words files (file_too_long file) = IsRead_in words files.holds file × IfSome (files.holds file) (λ held. source_limit < length held)
Comes words files no_memory = Unit {0}

-- What is due: the exit status, and a text, on the first sink or on the second.
pub record Due : Type 0 where
  pub status : ℕ
  pub on_out : Bool
  pub text : List ℕ

-- the text for a file that fails in some way
abbrev pub fault_text : List ℕ → List ℕ → List ℕ
fault_text kind file = codes "file " ++ (kind ++ (codes " " ++ (file ++ 10 ∷ [])))

-- the line for a run that stops at a place
abbrev pub stopped_text : List ℕ → Place → List ℕ
stopped_text kind place = kind ++ (codes " at " ++ (decimal place.line ++ (codes ":" ++ (decimal place.column ++ 10 ∷ []))))

abbrev pub steps_out_text : List ℕ
steps_out_text = codes "steps out" ++ 10 ∷ []

-- the lines for a heap text with a line that has no form or stands out of order, and for one with a line that breaks a rule
abbrev pub bad_line_text : ℕ → List ℕ
bad_line_text line = codes "heap 9 line " ++ (decimal line ++ 10 ∷ [])

abbrev pub ill_line_text : ℕ → ℕ → List ℕ
ill_line_text line rule = codes "heap 10 line " ++ (decimal line ++ (codes " rule " ++ (decimal rule ++ 10 ∷ [])))

abbrev pub no_memory_text : List ℕ
no_memory_text = codes "no memory" ++ 10 ∷ []

-- what is due for a run that doesn't return
abbrev pub heap_status : HeapError → ℕ
heap_status (heap.BadLine line) = 15
heap_status (heap.NotWellFormed line rule) = 15
heap_status heap.Memory = 6

abbrev pub heap_text : HeapError → List ℕ
heap_text (heap.BadLine line) = bad_line_text line
heap_text (heap.NotWellFormed line rule) = ill_line_text line rule
heap_text heap.Memory = no_memory_text

abbrev pub stop_status : Stop → ℕ
stop_status (stop.Null place) = 10
stop_status (stop.AssertFailed place) = 11
stop_status (stop.NoObject place) = 12
stop_status stop.StepsOut = 13
stop_status (stop.Overflow place) = 14
stop_status stop.Memory = 6

abbrev pub stop_text : Stop → List ℕ
stop_text (stop.Null place) = stopped_text (codes "null") place
stop_text (stop.AssertFailed place) = stopped_text (codes "assert") place
stop_text (stop.NoObject place) = stopped_text (codes "no object") place
stop_text stop.StepsOut = steps_out_text
stop_text (stop.Overflow place) = stopped_text (codes "overflow") place
stop_text stop.Memory = no_memory_text

abbrev pub unreturned_status : Unreturned → ℕ
unreturned_status unreturned_by.NoMethod = 2
unreturned_status (unreturned_by.NoHeap error) = heap_status error
unreturned_status (unreturned_by.Stopped why) = stop_status why
unreturned_status unreturned_by.Memory = 6

abbrev pub unreturned_text : Unreturned → List ℕ
unreturned_text unreturned_by.NoMethod = usage_page
unreturned_text (unreturned_by.NoHeap error) = heap_text error
unreturned_text (unreturned_by.Stopped why) = stop_text why
unreturned_text unreturned_by.Memory = no_memory_text

abbrev pub due : Finding → Due
due (reported p rs) = record { status = if is_accepted rs then 0 else 1; on_out = true; text = report_of rs }
due (summed g p rs) = record { status = if is_accepted rs then 0 else 1; on_out = true; text = summary_of g rs }
due (ran p text) = record { status = 0; on_out = true; text = text }
due (unreturned p e) = record { status = unreturned_status e; on_out = false; text = unreturned_text e }
due (no_job text) = record { status = 2; on_out = false; text = text }
due (no_method p text) = record { status = 2; on_out = false; text = text }
due (refused number place) = record { status = 3; on_out = false; text = refused_text number place }
due (mistyped rule place) = record { status = 3; on_out = false; text = mistyped_text rule place }
due (circular name) = record { status = 3; on_out = false; text = circular_text name }
due (crowded class name n) = record { status = 3; on_out = false; text = crowded_text class name n }
due (file_failed file) = record { status = 4; on_out = false; text = fault_text (codes "failed") file }
due (file_too_long file) = record { status = 4; on_out = false; text = fault_text (codes "too long") file }
due no_memory = record { status = 6; on_out = false; text = no_memory_text }

-- A sink took a whole text, no put of it failed, and the status is the one that is due; or the sink failed,
-- has a front of the text, and the status is 5.
abbrev pub Takes : SinkSeen → List ℕ → ℕ → ℕ → Type 0
Takes sink text due_status status =
    ((status ≡ due_status) × Appends sink.before text sink.after × (sink.faults_after ≡ sink.faults_before))
    ⊎ ((status ≡ 5) × AppendsFront sink.before text sink.after × Rose sink.faults_before sink.faults_after)

-- nothing was done to a sink
pub record Untouched (sink : SinkSeen) : Type 0 where
  pub written : sink.after ≡ sink.before
  pub faults : sink.faults_after ≡ sink.faults_before

-- A text was taken by the first sink, or else by the second, and nothing was done to the other.
abbrev pub IsTaken : Bool → List ℕ → ℕ → SinkSeen → SinkSeen → ℕ → Type 0
IsTaken true text due_status out err status = Takes out text due_status status × Untouched err
IsTaken false text due_status out err status = Takes err text due_status status × Untouched out

-- what is due was delivered
abbrev pub Delivered : Due → SinkSeen → SinkSeen → ℕ → Type 0
Delivered d out err status = IsTaken d.on_out d.text d.status out err status

-- no put failed, also none that was tried again with success
pub record HaveNoFault (out err : SinkSeen) : Type 0 where
  pub out_stays : out.faults_after ≡ out.faults_before
  pub err_stays : err.faults_after ≡ err.faults_before

-- Each answer has its cause: a finding that may come was delivered.
pub record Answered (words : List (List ℕ)) (files : FilesSeen) (out err : SinkSeen) (status : ℕ) : Type 0 where
  pub finding : Finding
  pub comes : Comes words files finding
  pub delivered : Delivered (due finding) out err status

-- The answers that no condition rules out: a read that failed, a sink that failed, want of memory.
abbrev pub IsExcused : FilesSeen → List ℕ → ℕ → Type 0
IsExcused files file status = ((status ≡ 4) × Rose (files.before file) (files.after file)) ⊎ (status ≡ 5) ⊎ (status ≡ 6)

-- The same for a run, which reads two files.
abbrev pub IsRunExcused : FilesSeen → Run → ℕ → Type 0
IsRunExcused files r status = IsExcused files r.file status ⊎ IsExcused files r.heap status

-- The same where no file is read.
abbrev pub IsWithoutFile : ℕ → Type 0
IsWithoutFile status = (status ≡ 5) ⊎ (status ≡ 6)

-- a status is that of what a run comes to by the definition of runs, or 14 where something overflows in it
abbrev pub IsRunStatus : ProgramTree → Run → List ℕ → ℕ → Type 0
IsRunStatus p r text status = (status ≡ ending_status (ending_of p r.class r.method text r.steps)) ⊎ ((status ≡ 14) × IsOverflow p r.class r.method text r.steps)

-- There are right answers for what a program owes of which one at least is Unproved, and each that is, because the search spent its
-- budget.
pub record IsCutShort (o : Options) (p : ProgramTree) : Type 0 where
  pub reported : List Reported
  pub judges : Judges o p reported
  pub unproved : is_accepted reported ≡ false
  pub spent : are_proved_or_spent reported ≡ true

-- The words ask for a job whose source is of a file that holds these bytes, which are within the limit.
pub record Holds (words : List (List ℕ)) (files : FilesSeen) (file bytes : List ℕ) : Type 0 where
  pub job : Job
  pub asked : job_of words ≡ Some job
  pub reads : source_of job ≡ Some file
  pub told : files.holds file ≡ Some bytes
  pub within : length bytes ≤ source_limit

-- The words ask for this report, and its file holds these bytes, which are within the limit.
pub record HoldsReported (words : List (List ℕ)) (files : FilesSeen) (v : Verify) (bytes : List ℕ) : Type 0 where
  pub asked : job_of words ≡ Some (verify v)
  pub told : files.holds v.file ≡ Some bytes
  pub within : length bytes ≤ source_limit

-- The words ask for this run, and the file of its source holds bytes within the limit that spell this program.
pub record HoldsProgram (words : List (List ℕ)) (files : FilesSeen) (r : Run) (p : ProgramTree) : Type 0 where
  pub bytes : List ℕ
  pub asked : job_of words ≡ Some (run r)
  pub told : files.holds r.file ≡ Some bytes
  pub within : length bytes ≤ source_limit
  pub spelled : Spells bytes p

-- The same, the program has the method, and the file of the heap holds this text.
pub record HoldsHeap (words : List (List ℕ)) (files : FilesSeen) (r : Run) (p : ProgramTree) (text : List ℕ) : Type 0 where
  pub source : HoldsProgram words files r p
  pub has : has_method p r.class r.method ≡ true
  pub told : files.holds r.heap ≡ Some text

-- a status is that of a report, or something excuses that there is none
abbrev pub IsReported : ℕ → Type 0 → Type 0
IsReported status Excuse = (status ≡ 0) ⊎ (status ≡ 1) ⊎ Excuse

-- a status is that of a report on a program of which all that is owed is provable, or something excuses that there is none
abbrev pub IsProved : Options → ProgramTree → ℕ → Type 0 → Type 0
IsProved o p status Excuse = (status ≡ 0) ⊎ ((status ≡ 1) × IsCutShort o p) ⊎ Excuse

-- The answers by their conditions. Without a job it is usage, want of memory aside. Else, for what the file of the source holds where
-- it tells: 4 where it is too long, 3 where it is refused, breaks a type rule or has a cyclic variable. Of a report: 3 where a method
-- has too many sequents, and else 0 or 1; where all that is owed is provable, 0, or 1 where the search spent its budget on each sequent
-- that is unproved. Of a run: usage where there is no such method; 4 where the file of the heap is too long; and else the status of what
-- the run comes to by the definition of runs, or 14 where something overflows in it. Of a source that is made from a number, which no
-- file holds and which is never refused: 0 or 1; where all that is owed is provable, as of a report.
pub record Exact (words : List (List ℕ)) (files : FilesSeen) (status : ℕ) : Type 0 where
  pub usage : job_of words ≡ None → (status ≡ 2) ⊎ IsWithoutFile status
  pub too_long : (job : Job) (file bytes : List ℕ) → job_of words ≡ Some job → source_of job ≡ Some file →
      files.holds file ≡ Some bytes → source_limit < length bytes → (status ≡ 4) ⊎ IsExcused files file status
  pub refused : (file bytes : List ℕ) (number : ℕ) (place : Place) → Holds words files file bytes →
      RefusedAt bytes number place → (status ≡ 3) ⊎ IsExcused files file status
  pub mistyped : (file bytes : List ℕ) (rule : ℕ) (place : Place) → Holds words files file bytes →
      IsMistyped bytes rule place → (status ≡ 3) ⊎ IsExcused files file status
  pub circular : (file bytes name : List ℕ) → Holds words files file bytes →
      IsCircular bytes name → (status ≡ 3) ⊎ IsExcused files file status
  pub crowded : (v : Verify) (bytes class name : List ℕ) (n : ℕ) → HoldsReported words files v bytes →
      IsCrowded bytes class name n → (status ≡ 3) ⊎ IsExcused files v.file status
  pub reported : (v : Verify) (bytes : List ℕ) (p : ProgramTree) → HoldsReported words files v bytes →
      Spells bytes p → OwesLittle p → IsReported status (IsExcused files v.file status)
  pub proved : (v : Verify) (bytes : List ℕ) (p : ProgramTree) → HoldsReported words files v bytes →
      Spells bytes p → OwesProvable v.rounds p → IsProved (options_of v) p status (IsExcused files v.file status)
  pub no_method : (r : Run) (p : ProgramTree) → HoldsProgram words files r p →
      has_method p r.class r.method ≡ false → (status ≡ 2) ⊎ IsExcused files r.file status
  pub heap_too_long : (r : Run) (p : ProgramTree) (text : List ℕ) → HoldsHeap words files r p text →
      source_limit < length text → (status ≡ 4) ⊎ IsRunExcused files r status
  pub ran : (r : Run) (p : ProgramTree) (text : List ℕ) → HoldsHeap words files r p text →
      length text ≤ source_limit → IsRunStatus p r text status ⊎ IsRunExcused files r status
  pub summed : (g : Gen) → job_of words ≡ Some (gen g) → IsReported status (IsWithoutFile status)
  pub summed_proved : (g : Gen) (p : ProgramTree) → job_of words ≡ Some (gen g) →
      Spells (made_source g) p → OwesProvable default_options.rounds p → IsProved default_options p status (IsWithoutFile status)

-- what is due for a reply
abbrev pub reply_due : Reply → Due
reply_due (reply.Report text accepted) = record { status = if accepted then 0 else 1; on_out = true; text = string_bytes text }
reply_due (reply.Summed text accepted) = record { status = if accepted then 0 else 1; on_out = true; text = text.items }
reply_due (reply.Ran text) = record { status = 0; on_out = true; text = string_bytes text }
reply_due (reply.Line text status) = record { status = number_of status; on_out = false; text = string_bytes text }
reply_due (reply.Usage text) = record { status = 2; on_out = false; text = text }
reply_due reply.NoMemory = record { status = 6; on_out = false; text = no_memory_text }

-- a reply is a line with a status, or want of memory
abbrev pub Says : ℕ → List ℕ → Reply → Type 0
Says status text (reply.Line line said) = (number_of said ≡ status) × (string_bytes line ≡ text)
Says status text reply.NoMemory = Unit {0}
Says status text _ = ⊥

-- why there is no report on a program
abbrev pub IsUnreported : ProgramTree → Unreported → Type 0
IsUnreported p (unreported.Crowded text) = IsCrowd p (string_bytes text)
IsUnreported p unreported.Memory = Unit {0}

-- a reply is the report on a program, or says that a method has too many sequents, or is want of memory
abbrev pub IsReply : Options → ProgramTree → Reply → Type 0
IsReply o p (reply.Report text accepted) = IsReport o p (string_bytes text) accepted
IsReply o p (reply.Line text status) = (number_of status ≡ 3) × IsCrowd p (string_bytes text)
IsReply o p reply.NoMemory = Unit {0}
IsReply o p _ = ⊥

-- a reply is the summary of what is proved of a program that was made, or says that a method has too many sequents, or is want of memory
abbrev pub IsSumReply : Gen → ProgramTree → Reply → Type 0
IsSumReply g p (reply.Summed text accepted) = IsSummary g p text.items accepted
IsSumReply g p (reply.Line text status) = (number_of status ≡ 3) × IsCrowd p (string_bytes text)
IsSumReply g p reply.NoMemory = Unit {0}
IsSumReply g p _ = ⊥

-- A reply is right for the bytes of a source that is refused.
abbrev pub FitsRefusal : List ℕ → Reply → Type 0
FitsRefusal bytes (reply.Line text status) = (number_of status ≡ 3) × IsRefusal bytes (string_bytes text)
FitsRefusal bytes reply.NoMemory = Unit {0}
FitsRefusal bytes _ = ⊥

-- A reply is right for the bytes of a source that is to be verified.
abbrev pub FitsBytes : Options → List ℕ → Reply → Type 0
FitsBytes o bytes answer = FitsRefusal bytes answer ⊎ ((p : ProgramTree) × Spells bytes p × IsReply o p answer)

-- A reply is right for the bytes of a source that is made.
abbrev pub FitsMade : Gen → List ℕ → Reply → Type 0
FitsMade g bytes answer = FitsRefusal bytes answer ⊎ ((p : ProgramTree) × Spells bytes p × IsSumReply g p answer)

-- A reply is right for a job that asks for a source that is made: a summary of what is proved of the program that it spells, or want of memory.
abbrev pub FitsGen : Gen → Reply → Type 0
FitsGen g (reply.Summed text accepted) = (p : ProgramTree) × Spells (made_source g) p × IsSummary g p text.items accepted
FitsGen g reply.NoMemory = Unit {0}
FitsGen g _ = ⊥

-- a reply says how a file fails
abbrev pub IsFaultReply : List ℕ → FileFault → Reply → Type 0
IsFaultReply file fault.Failed answer = Says 4 (fault_text (codes "failed") file) answer
IsFaultReply file (fault.TooLong seen) answer = Says 4 (fault_text (codes "too long") file) answer
IsFaultReply file fault.Memory answer = answer ≡ reply.NoMemory

-- A reply is right for a file whose bytes didn't come.
abbrev pub FitsFault : FilesSeen → List ℕ → Reply → Type 0
FitsFault files file answer =
    (Says 4 (fault_text (codes "failed") file) answer × Rose (files.before file) (files.after file))
    ⊎ (Says 4 (fault_text (codes "too long") file) answer × IfSome (files.holds file) (λ held. source_limit < length held))
    ⊎ (answer ≡ reply.NoMemory)

-- A reply is right for a file that is to be verified.
abbrev pub FitsFile : Options → FilesSeen → List ℕ → Reply → Type 0
FitsFile o files file answer = FitsFault files file answer ⊎ ((bytes : List ℕ) × Tells (files.holds file) bytes × (length bytes ≤ source_limit) × FitsBytes o bytes answer)

-- a reply is usage, or want of memory
abbrev pub IsUsageReply : Reply → Type 0
IsUsageReply (reply.Usage text) = IsUsage text
IsUsageReply reply.NoMemory = Unit {0}
IsUsageReply _ = ⊥

-- the same with the page alone
abbrev pub IsPageReply : Reply → Type 0
IsPageReply (reply.Usage text) = text ≡ usage_page
IsPageReply reply.NoMemory = Unit {0}
IsPageReply _ = ⊥

-- a reply says why a run doesn't return
abbrev pub IsUnreturnedReply : Unreturned → Reply → Type 0
IsUnreturnedReply unreturned_by.NoMethod answer = IsPageReply answer
IsUnreturnedReply (unreturned_by.NoHeap error) answer = Says (heap_status error) (heap_text error) answer
IsUnreturnedReply (unreturned_by.Stopped why) answer = Says (stop_status why) (stop_text why) answer
IsUnreturnedReply unreturned_by.Memory answer = answer ≡ reply.NoMemory

-- A reply is right for a method that is run from the bytes of a heap text.
abbrev pub FitsOutcome : ProgramTree → Run → List ℕ → Reply → Type 0
FitsOutcome p r text (reply.Ran printed) = Returns p r.class r.method text r.steps (string_bytes printed)
FitsOutcome p r text (reply.Line line status) = (e : Unreturned) × IsReason p r.class r.method text r.steps e × (number_of status ≡ unreturned_status e) × (string_bytes line ≡ unreturned_text e)
FitsOutcome p r text (reply.Usage said) = IsReason p r.class r.method text r.steps unreturned_by.NoMethod × (said ≡ usage_page)
FitsOutcome p r text reply.NoMemory = Unit {0}
FitsOutcome p r text _ = ⊥

-- A reply is right for a method that is run from the heap of a file.
abbrev pub FitsHeap : FilesSeen → ProgramTree → Run → Reply → Type 0
FitsHeap files p r answer = FitsFault files r.heap answer ⊎ ((text : List ℕ) × Tells (files.holds r.heap) text × (length text ≤ source_limit) × FitsOutcome p r text answer)

-- A reply is right for a method of a program.
abbrev pub FitsMethod : FilesSeen → ProgramTree → Run → Reply → Type 0
FitsMethod files p r answer =
    ((has_method p r.class r.method ≡ true) × FitsHeap files p r answer)
    ⊎ ((has_method p r.class r.method ≡ false) × IsUsageReply answer)
    ⊎ (answer ≡ reply.NoMemory)

-- A reply is right for the bytes of a source that has a method to be run.
abbrev pub FitsSource : FilesSeen → Run → List ℕ → Reply → Type 0
FitsSource files r bytes answer = FitsRefusal bytes answer ⊎ ((p : ProgramTree) × Spells bytes p × FitsMethod files p r answer)

-- A reply is right for a run.
abbrev pub FitsRun : FilesSeen → Run → Reply → Type 0
FitsRun files r answer = FitsFault files r.file answer ⊎ ((bytes : List ℕ) × Tells (files.holds r.file) bytes × (length bytes ≤ source_limit) × FitsSource files r bytes answer)

-- A reply is right for words that ask for nothing, or is want of memory.
abbrev pub FitsWords : List (List ℕ) → Reply → Type 0
FitsWords words (reply.Usage text) = (job_of words ≡ None) × IsUsage text
FitsWords words reply.NoMemory = Unit {0}
FitsWords words _ = ⊥

-- A reply is right for the words and the files: what is due for it is due for a finding that may come.
pub record Fits (words : List (List ℕ)) (files : FilesSeen) (answer : Reply) : Type 0 where
  pub finding : Finding
  pub comes : Comes words files finding
  pub is_due : due finding ≡ reply_due answer
