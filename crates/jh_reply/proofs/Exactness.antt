-- From the conditions to the answers: what each finding says of what the files hold.
use Rattle.std.proofs.Common.{◌≡◌, refl, ◌≤◌, ◌<◌, ◌⊎◌, ℕ, List, length, ap, sym, subst, ◌∙◌, Bool, true, false, arith, inl, inr}
use Rattle.std.specs.Prelude.{Option, None, Some, IfSome, if◌then◌else◌}
use Rattle.std.proofs.lemmas.Bool.{true≢false}
use Rattle.jh_files.specs.Counts.{Rose}
use Rattle.jh_ast.specs.Programs.{ProgramTree}
use Rattle.jh_run.specs.outcome.Outcomes.{has_method}
use Rattle.jh_gen_laws.specs.jh_obligations.program_sequents.Laws.{OwedIsLittle, LittleIsNotMuch, OwedIsOne}
use Rattle.jh_gen_laws.specs.jh_obligations.program_sequents.Sources.{OwesLittle, OwesMuch}
use Rattle.jh_report.specs.jh_prove.prover.Laws.{ProvableIsProved}
use Rattle.jh_report.specs.report.Report.{Reported, is_accepted}
use Rattle.jh_reply.specs.Refusals.{Spells, RefusedAt, IsMistyped, IsCircular, IsCrowded}
use Rattle.jh_reply.specs.Causes.{FilesSeen, SinkSeen, Finding, reported, summed, ran, unreturned, no_job, no_method, refused, mistyped, circular, crowded, file_failed, file_too_long, no_memory, IsRead_in, as_source, as_heap, Comes, due, unreturned_status, Takes, Delivered, Answered, IsExcused, IsWithoutFile, IsRunStatus, IsCutShort, IsRefusal, by_place, by_rule, by_loop, Exact, Holds, HoldsReported, HoldsProgram, HoldsHeap}
use Rattle.jh_reply.specs.Made.{default_options, made_source}
use Rattle.jh_reply.specs.Run.{IsBegun, IsSource, ending_of, ending_status}
use Rattle.jh_name.specs.declared.options.Options.{Options}
use Rattle.jh_reply.specs.Verify.{Tells, Judges, OwesProvable, are_proved_or_spent, options_of, source_limit}
use Rattle.jh_reply.specs.Words.{source_of}
use Rattle.jh_words.specs.CommandLine.{Gen, Job, Run, Verify, gen, job_of, run, verify}
use Rattle.jh_reply.proofs.Endings.{reason-status, returns-zero}
use Rattle.jh_reply.proofs.Findings.{takes-status}
use Rattle.jh_reply.proofs.Jobs.{apart-run-made, apart-verify-made, longer, made-file, none-job, not-both, one-file, one-gen, one-job, one-run, one-verify, tells-same, told-bytes}
use Rattle.jh_reply.proofs.Verifying.{spells-one, refused-parses, ill-spells, loop-spells, crowded-spells, provable-spent}

-- a status that is due, or an excuse
due-or : (files : FilesSeen) (sink : SinkSeen) (text file : List ℕ) (d status : ℕ) → Takes sink text d status → (status ≡ d) ⊎ IsExcused files file status
due-or files sink text file d status takes = elim (takes-status sink text d status takes) [ inl is ↦ inl is | inr five ↦ inr (inr (inl five)) ]

excused-failed : (files : FilesSeen) (err : SinkSeen) (text file : List ℕ) (status : ℕ) → Rose (files.before file) (files.after file) → Takes err text 4 status → IsExcused files file status
excused-failed files err text file status rose takes = elim (takes-status err text 4 status takes) [ inl four ↦ inl (four, rose) | inr five ↦ inr (inl five) ]

excused-memory : (files : FilesSeen) (err : SinkSeen) (text file : List ℕ) (status : ℕ) → Takes err text 6 status → IsExcused files file status
excused-memory files err text file status takes = elim (takes-status err text 6 status takes) [ inl six ↦ inr (inr six) | inr five ↦ inr (inl five) ]

-- what is seen of a run where the source spells a program
data RunSeen (files : FilesSeen) (p : ProgramTree) (r : Run) (status : ℕ) : Type 0 where
  lacks : has_method p r.class r.method ≡ false → (status ≡ 2) ⊎ IsExcused files r.file status → RunSeen files p r status
  fails : has_method p r.class r.method ≡ true → IsExcused files r.heap status → RunSeen files p r status
  holds_much : has_method p r.class r.method ≡ true → ((text : List ℕ) → files.holds r.heap ≡ Some text → source_limit < length text) → (status ≡ 4) ⊎ IsExcused files r.heap status → RunSeen files p r status
  comes_to : has_method p r.class r.method ≡ true → (text : List ℕ) → Tells (files.holds r.heap) text → length text ≤ source_limit → IsRunStatus p r text status ⊎ IsExcused files r.heap status → RunSeen files p r status

-- what is seen of a job whose source is a file that holds some bytes
data Seen (files : FilesSeen) (job : Job) (file bytes : List ℕ) (status : ℕ) : Type 0 where
  is_long : source_limit < length bytes → (status ≡ 4) ⊎ IsExcused files file status → Seen files job file bytes status
  is_excused : IsExcused files file status → Seen files job file bytes status
  is_refused : length bytes ≤ source_limit → ((p : ProgramTree) → Spells bytes p → ⊥) → (status ≡ 3) ⊎ IsExcused files file status → Seen files job file bytes status
  is_crowded : (v : Verify) → job ≡ verify v → length bytes ≤ source_limit → ((p : ProgramTree) → Spells bytes p → OwesLittle p → ⊥) → (status ≡ 3) ⊎ IsExcused files file status → Seen files job file bytes status
  is_reported : (v : Verify) → job ≡ verify v → length bytes ≤ source_limit → (p : ProgramTree) (rs : List Reported) → Spells bytes p → Judges (options_of v) p rs → (status ≡ (if is_accepted rs then 0 else 1)) ⊎ IsExcused files file status → Seen files job file bytes status
  is_run : (r : Run) → job ≡ run r → length bytes ≤ source_limit → (p : ProgramTree) → Spells bytes p → RunSeen files p r status → Seen files job file bytes status

module _ (much : LittleIsNotMuch) (words : List (List ℕ)) (files : FilesSeen) (out err : SinkSeen) (status : ℕ) (job : Job) (asked : job_of words ≡ Some job) (file bytes : List ℕ) (reads : source_of job ≡ Some file) (held : files.holds file ≡ Some bytes) where
  -- the source of a job is that of the words
  file-same : (k : Job) (other : List ℕ) → job_of words ≡ Some k → source_of k ≡ Some other → file ≡ other
  file-same k other is there = one-file job k file other (one-job (job_of words) job k asked is) reads there

  came-same : (k : Job) (other came : List ℕ) → job_of words ≡ Some k → source_of k ≡ Some other → Tells (files.holds other) came → came ≡ bytes
  came-same k other came is there told = told-bytes files.holds file other bytes came (file-same k other is there) held told

  run-seen : (p : ProgramTree) (s : IsSource words files.holds p) → RunSeen files p s.job status → Seen files job file bytes status
  run-seen p s seen =
      let same : s.bytes ≡ bytes = came-same (run s.job) s.job.file s.bytes s.asked refl s.told in
      is_run s.job (one-job (job_of words) job (run s.job) asked s.asked) (subst (λ (b : List ℕ). length b ≤ source_limit) same s.within) p (subst (λ (b : List ℕ). Spells b p) same s.spelled) seen

  -- the status of a run that was begun
  begun-seen : (p : ProgramTree) (b : IsBegun words files.holds p) → IsRunStatus p b.called.source.job b.text status ⊎ IsExcused files b.called.source.job.heap status → Seen files job file bytes status
  begun-seen p b is = run-seen p b.called.source (comes_to b.called.has b.text b.told b.within is)

  failed-seen : (other : List ℕ) → IsRead_in words files.holds other → Rose (files.before other) (files.after other) → (text : List ℕ) → Takes err text 4 status → Seen files job file bytes status
  failed-seen other (as_source k f is there) rose text takes =
      is_excused (subst (λ (name : List ℕ). IsExcused files name status) (sym (file-same k f is there)) (excused-failed files err text f status rose takes))
  failed-seen other (as_heap p called) rose text takes = run-seen p called.source (fails called.has (excused-failed files err text called.source.job.heap status rose takes))

  long-seen : (other : List ℕ) → IsRead_in words files.holds other → IfSome (files.holds other) (λ there. source_limit < length there) → (text : List ℕ) → Takes err text 4 status → Seen files job file bytes status
  long-seen other (as_source k f is there) long text takes =
      is_long (longer (files.holds f) bytes (ap files.holds (sym (file-same k f is there)) ∙ held) long) (due-or files err text file 4 status takes)
  long-seen other (as_heap p called) long text takes =
      run-seen p called.source (holds_much called.has (λ there is. longer (files.holds called.source.job.heap) there is long) (due-or files err text called.source.job.heap 4 status takes))

  ended-as : (p : ProgramTree) (r : Run) (text : List ℕ) (d : ℕ) → (d ≡ ending_status (ending_of p r.class r.method text r.steps)) → (status ≡ d) ⊎ (status ≡ 5) → IsRunStatus p r text status ⊎ IsExcused files r.heap status
  ended-as p r text d is end = elim end [ inl whole ↦ inl (inl (whole ∙ is)) | inr five ↦ inr (inr (inl five)) ]

  seen : (o : Finding) → Comes words files o → Delivered (due o) out err status → Seen files job file bytes status
  seen (reported p rs) comes delivered =
      let same : comes.0.bytes ≡ bytes = came-same (verify comes.0.job) comes.0.job.file comes.0.bytes comes.0.asked refl comes.0.told in
      is_reported comes.0.job (one-job (job_of words) job (verify comes.0.job) asked comes.0.asked) (subst (λ (b : List ℕ). length b ≤ source_limit) same comes.0.within) p rs (subst (λ (b : List ℕ). Spells b p) same comes.0.spelled) comes.1
      (due-or files out _ file (if is_accepted rs then 0 else 1) status delivered.0)
  seen (summed g p rs) comes delivered = made-file job g file (one-job (job_of words) job (gen g) asked comes.0) reads
  seen (ran p printed) comes delivered =
      let r : Run = comes.0.called.source.job in
      begun-seen p comes.0 (ended-as p r comes.0.text 0 (sym (returns-zero p r.class r.method comes.0.text r.steps printed comes.1)) (takes-status out printed 0 status delivered.0))
  seen (unreturned p e) comes delivered =
      let r : Run = comes.0.called.source.job in
      begun-seen p comes.0 (elim (takes-status err _ (unreturned_status e) status delivered.0) [
        | inl whole ↦ elim (reason-status p r.class r.method comes.0.text r.steps e comes.1) [
          | inl is ↦ inl (inl (whole ∙ is))
          | inr rest ↦ elim rest [
            | inl over ↦ inl (inr (whole ∙ over.0, over.1))
            | inr six ↦ inr (inr (inr (whole ∙ six)))
          ]
        ]
        | inr five ↦ inr (inr (inl five))
      ])
  seen (no_job text) comes delivered = none-job (job_of words) job comes.0 asked
  seen (no_method p text) comes delivered = run-seen p comes.0 (lacks comes.1 (due-or files err _ comes.0.job.file 2 status delivered.0))
  seen (refused n place) comes delivered =
      let same : comes.source.bytes ≡ bytes = came-same comes.source.job comes.source.file comes.source.bytes comes.source.asked comes.source.reads comes.source.told in
      is_refused (subst (λ (b : List ℕ). length b ≤ source_limit) same comes.source.within) (λ p spells. refused-parses bytes n place p (subst (λ (b : List ℕ). RefusedAt b n place) same comes.why) spells.parsed) (due-or files err _ file 3 status delivered.0)
  seen (mistyped rule place) comes delivered =
      let same : comes.source.bytes ≡ bytes = came-same comes.source.job comes.source.file comes.source.bytes comes.source.asked comes.source.reads comes.source.told in
      is_refused (subst (λ (b : List ℕ). length b ≤ source_limit) same comes.source.within) (λ p spells. ill-spells bytes rule place p (subst (λ (b : List ℕ). IsMistyped b rule place) same comes.why) spells) (due-or files err _ file 3 status delivered.0)
  seen (circular name) comes delivered =
      let same : comes.source.bytes ≡ bytes = came-same comes.source.job comes.source.file comes.source.bytes comes.source.asked comes.source.reads comes.source.told in
      is_refused (subst (λ (b : List ℕ). length b ≤ source_limit) same comes.source.within) (λ p spells. loop-spells bytes name p (subst (λ (b : List ℕ). IsCircular b name) same comes.why) spells) (due-or files err _ file 3 status delivered.0)
  seen (crowded class name n) comes delivered =
      let same : comes.bytes ≡ bytes = came-same (verify comes.job) comes.job.file comes.bytes comes.asked refl comes.told in
      is_crowded comes.job (one-job (job_of words) job (verify comes.job) asked comes.asked) (subst (λ (b : List ℕ). length b ≤ source_limit) same comes.within)
      (λ p spells few. crowded-spells much bytes class name n p (subst (λ (b : List ℕ). IsCrowded b class name n) same comes.why) spells few) (due-or files err _ file 3 status delivered.0)
  seen (file_failed other) comes delivered = failed-seen other comes.0 comes.1 _ delivered.0
  seen (file_too_long other) comes delivered = long-seen other comes.0 comes.1 _ delivered.0
  seen no_memory comes delivered = is_excused (excused-memory files err _ file status delivered.0)

never : {P : Type 0} (bytes : List ℕ) → source_limit < length bytes → length bytes ≤ source_limit → P
never bytes long short = absurd (omega (arith, long, short))

-- a source that is too long
long-of : (files : FilesSeen) (job : Job) (file bytes : List ℕ) (status : ℕ) → Seen files job file bytes status → source_limit < length bytes → (status ≡ 4) ⊎ IsExcused files file status
long-of files job file bytes status (is_long there is) long = is
long-of files job file bytes status (is_excused is) long = inr is
long-of files job file bytes status (is_refused short none is) long = never bytes long short
long-of files job file bytes status (is_crowded v same short none is) long = never bytes long short
long-of files job file bytes status (is_reported v same short p rs spells judges is) long = never bytes long short
long-of files job file bytes status (is_run r same short p spells run_is) long = never bytes long short

-- a source that spells no program
none-of : (files : FilesSeen) (job : Job) (file bytes : List ℕ) (status : ℕ) → Seen files job file bytes status → length bytes ≤ source_limit → ((p : ProgramTree) → Spells bytes p → ⊥) → (status ≡ 3) ⊎ IsExcused files file status
none-of files job file bytes status (is_long long is) short none = never bytes long short
none-of files job file bytes status (is_excused is) short none = inr is
none-of files job file bytes status (is_refused there empty is) short none = is
none-of files job file bytes status (is_crowded v same there empty is) short none = is
none-of files job file bytes status (is_reported v same there p rs spells judges is) short none = absurd (none p spells)
none-of files job file bytes status (is_run r same there p spells run_is) short none = absurd (none p spells)

-- a report on a source of which some method has too many sequents
crowd-of : OwedIsLittle → (files : FilesSeen) (v : Verify) (bytes : List ℕ) (status : ℕ) → Seen files (verify v) v.file bytes status → length bytes ≤ source_limit → ((p : ProgramTree) → Spells bytes p → OwesLittle p → ⊥) → (status ≡ 3) ⊎ IsExcused files v.file status
crowd-of little files v bytes status (is_long long is) short none = never bytes long short
crowd-of little files v bytes status (is_excused is) short none = inr is
crowd-of little files v bytes status (is_refused there empty is) short none = is
crowd-of little files v bytes status (is_crowded other same there empty is) short none = is
crowd-of little files v bytes status (is_reported other same there p rs spells judges is) short none = absurd (none p spells (little p judges.owed judges.owes))
crowd-of little files v bytes status (is_run r same there p spells run_is) short none = not-both v r same

-- the report on a program has the status that is due, or there is an excuse
abbrev pub Found : Options → ProgramTree → FilesSeen → List ℕ → ℕ → Type 0
Found o p files file status = ((rs : List Reported) × Judges o p rs × (status ≡ (if is_accepted rs then 0 else 1))) ⊎ IsExcused files file status

found-of : (files : FilesSeen) (v : Verify) (bytes : List ℕ) (status : ℕ) → Seen files (verify v) v.file bytes status → (p : ProgramTree) → length bytes ≤ source_limit → Spells bytes p → OwesLittle p → Found (options_of v) p files v.file status
found-of files v bytes status (is_long long is) p short spells few = never bytes long short
found-of files v bytes status (is_excused is) p short spells few = inr is
found-of files v bytes status (is_refused there empty is) p short spells few = absurd (empty p spells)
found-of files v bytes status (is_crowded other same there empty is) p short spells few = absurd (empty p spells few)
found-of files v bytes status (is_reported other same there q rs spelled judges is) p short spells few =
    elim is [
      | inl due_is ↦ inl (rs, subst (λ (t : ProgramTree). Judges (options_of v) t rs) (spells-one bytes q p spelled spells) (subst (λ (w : Verify). Judges (options_of w) q rs) (one-verify other v (sym same)) judges), due_is)
      | inr excused ↦ inr excused
    ]
found-of files v bytes status (is_run r same there q spelled run_is) p short spells few = not-both v r same

-- what is due for a report is 0 or 1
report-due : (b : Bool) (status : ℕ) → status ≡ (if b then 0 else 1) → (status ≡ 0) ⊎ (status ≡ 1)
report-due true status is = inl is
report-due false status is = inr is

reported-of : (files : FilesSeen) (v : Verify) (bytes : List ℕ) (status : ℕ) → Seen files (verify v) v.file bytes status → (p : ProgramTree) → length bytes ≤ source_limit → Spells bytes p → OwesLittle p → (status ≡ 0) ⊎ (status ≡ 1) ⊎ IsExcused files v.file status
reported-of files v bytes status s p short spells few =
    elim (found-of files v bytes status s p short spells few) [
      | inl found ↦ elim (report-due (is_accepted found.0) status found.2) [ inl zero ↦ inl zero | inr one ↦ inr (inl one) ]
      | inr excused ↦ inr (inr excused)
    ]

-- the status where all that is owed is provable
status-provable : (o : Options) (p : ProgramTree) (rs : List Reported) → Judges o p rs → are_proved_or_spent rs ≡ true → (b : Bool) → is_accepted rs ≡ b → (status : ℕ) → status ≡ (if b then 0 else 1) → (status ≡ 0) ⊎ ((status ≡ 1) × IsCutShort o p)
status-provable o p rs judges spent true accepted status is = inl is
status-provable o p rs judges spent false accepted status is = inr (is, record { reported = rs; judges = judges; unproved = accepted; spent = spent })

proved-of : OwedIsLittle → OwedIsOne → ProvableIsProved → (files : FilesSeen) (v : Verify) (bytes : List ℕ) (status : ℕ) → Seen files (verify v) v.file bytes status → (p : ProgramTree) → length bytes ≤ source_limit → Spells bytes p → OwesProvable v.rounds p → (status ≡ 0) ⊎ ((status ≡ 1) × IsCutShort (options_of v) p) ⊎ IsExcused files v.file status
proved-of little one provable files v bytes status s p short spells owes =
    elim (found-of files v bytes status s p short spells (little p owes.owed owes.owes)) [
      | inl found ↦ elim (status-provable (options_of v) p found.0 found.1 (provable-spent one provable (options_of v) p found.0 found.1 owes) (is_accepted found.0) refl status found.2) [
        | inl zero ↦ inl zero
        | inr one_status ↦ inr (inl one_status)
      ]
      | inr excused ↦ inr (inr excused)
    ]

-- a run in a source that spells a program
run-of : (files : FilesSeen) (r : Run) (bytes : List ℕ) (status : ℕ) → Seen files (run r) r.file bytes status → (p : ProgramTree) → length bytes ≤ source_limit → Spells bytes p → RunSeen files p r status ⊎ IsExcused files r.file status
run-of files r bytes status (is_long long is) p short spells = never bytes long short
run-of files r bytes status (is_excused is) p short spells = inr is
run-of files r bytes status (is_refused there empty is) p short spells = absurd (empty p spells)
run-of files r bytes status (is_crowded v same there empty is) p short spells = not-both v r (sym same)
run-of files r bytes status (is_reported v same there q rs spelled judges is) p short spells = not-both v r (sym same)
run-of files r bytes status (is_run s same there q spelled run_is) p short spells =
    inl (subst (λ (t : ProgramTree). RunSeen files t r status) (spells-one bytes q p spelled spells) (subst (λ (t : Run). RunSeen files q t status) (one-run s r (sym same)) run_is))

opposite : {P : Type 0} (b : Bool) → b ≡ true → b ≡ false → P
opposite b on off = absurd (true≢false (sym on ∙ off))

lacks-of : (files : FilesSeen) (p : ProgramTree) (r : Run) (status : ℕ) → RunSeen files p r status → has_method p r.class r.method ≡ false → (status ≡ 2) ⊎ IsExcused files r.file status
lacks-of files p r status (lacks absent is) none = is
lacks-of files p r status (fails has is) none = opposite (has_method p r.class r.method) has none
lacks-of files p r status (holds_much has long is) none = opposite (has_method p r.class r.method) has none
lacks-of files p r status (comes_to has text told short is) none = opposite (has_method p r.class r.method) has none

much-of : (files : FilesSeen) (p : ProgramTree) (r : Run) (status : ℕ) → RunSeen files p r status → has_method p r.class r.method ≡ true → (text : List ℕ) → files.holds r.heap ≡ Some text → source_limit < length text → (status ≡ 4) ⊎ IsExcused files r.heap status
much-of files p r status (lacks absent is) has text held long = opposite (has_method p r.class r.method) has absent
much-of files p r status (fails there is) has text held long = inr is
much-of files p r status (holds_much there far is) has text held long = is
much-of files p r status (comes_to there came told short is) has text held long =
    let same : came ≡ text = tells-same (files.holds r.heap) came text held told in
    never text long (subst (λ (b : List ℕ). length b ≤ source_limit) same short)

ended-of : (files : FilesSeen) (p : ProgramTree) (r : Run) (status : ℕ) → RunSeen files p r status → has_method p r.class r.method ≡ true → (text : List ℕ) → files.holds r.heap ≡ Some text → length text ≤ source_limit → IsRunStatus p r text status ⊎ IsExcused files r.heap status
ended-of files p r status (lacks absent is) has text held short = opposite (has_method p r.class r.method) has absent
ended-of files p r status (fails there is) has text held short = inr is
ended-of files p r status (holds_much there far is) has text held short = never text (far text held) short
ended-of files p r status (comes_to there came told within is) has text held short =
    let same : came ≡ text = tells-same (files.holds r.heap) came text held told in
    subst (λ (b : List ℕ). IsRunStatus p r b status ⊎ IsExcused files r.heap status) same is

-- without a job it is usage, want of memory aside
read-job : (words : List (List ℕ)) (holds : List ℕ → Option (List ℕ)) (file : List ℕ) → IsRead_in words holds file → (job : Job) × (job_of words ≡ Some job)
read-job words holds file (as_source job f asked reads) = (job, asked)
read-job words holds file (as_heap p called) = (run called.source.job, called.source.asked)

is-usage : (sink : SinkSeen) (text : List ℕ) (status : ℕ) → Takes sink text 2 status → (status ≡ 2) ⊎ (status ≡ 5) ⊎ (status ≡ 6)
is-usage sink text status takes = elim (takes-status sink text 2 status takes) [ inl two ↦ inl two | inr five ↦ inr (inl five) ]

usage-of : (words : List (List ℕ)) (files : FilesSeen) (out err : SinkSeen) (status : ℕ) (o : Finding) → Comes words files o → Delivered (due o) out err status → job_of words ≡ None → (status ≡ 2) ⊎ (status ≡ 5) ⊎ (status ≡ 6)
usage-of words files out err status (reported p rs) comes delivered none = none-job (job_of words) (verify comes.0.job) none comes.0.asked
usage-of words files out err status (summed g p rs) comes delivered none = none-job (job_of words) (gen g) none comes.0
usage-of words files out err status (ran p text) comes delivered none = none-job (job_of words) (run comes.0.called.source.job) none comes.0.called.source.asked
usage-of words files out err status (unreturned p e) comes delivered none = none-job (job_of words) (run comes.0.called.source.job) none comes.0.called.source.asked
usage-of words files out err status (no_job text) comes delivered none = is-usage err text status delivered.0
usage-of words files out err status (no_method p text) comes delivered none = is-usage err text status delivered.0
usage-of words files out err status (refused n place) comes delivered none = none-job (job_of words) comes.source.job none comes.source.asked
usage-of words files out err status (mistyped n place) comes delivered none = none-job (job_of words) comes.source.job none comes.source.asked
usage-of words files out err status (circular name) comes delivered none = none-job (job_of words) comes.source.job none comes.source.asked
usage-of words files out err status (crowded class name n) comes delivered none = none-job (job_of words) (verify comes.job) none comes.asked
usage-of words files out err status (file_failed file) comes delivered none = let job = read-job words files.holds file comes.0 in none-job (job_of words) job.0 none job.1
usage-of words files out err status (file_too_long file) comes delivered none = let job = read-job words files.holds file comes.0 in none-job (job_of words) job.0 none job.1
usage-of words files out err status no_memory comes delivered none = elim (takes-status err _ 6 status delivered.0) [ inl six ↦ inr (inr six) | inr five ↦ inr (inl five) ]

-- what is seen of a source that is made
data MadeSeen (g : Gen) (status : ℕ) : Type 0 where
  made_excused : IsWithoutFile status → MadeSeen g status
  made_summed : (p : ProgramTree) (rs : List Reported) → Spells (made_source g) p → Judges default_options p rs → (status ≡ (if is_accepted rs then 0 else 1)) ⊎ IsWithoutFile status → MadeSeen g status

due-without : (sink : SinkSeen) (text : List ℕ) (d status : ℕ) → Takes sink text d status → (status ≡ d) ⊎ IsWithoutFile status
due-without sink text d status takes = elim (takes-status sink text d status takes) [ inl is ↦ inl is | inr five ↦ inr (inl five) ]

module _ (words : List (List ℕ)) (files : FilesSeen) (out err : SinkSeen) (status : ℕ) (g : Gen) (asked : job_of words ≡ Some (gen g)) where
  -- no file is read
  file-none : {P : Type 0} (file : List ℕ) → IsRead_in words files.holds file → P
  file-none file (as_source job f is reads) = made-file job g f (one-job (job_of words) job (gen g) is asked) reads
  file-none file (as_heap p called) = apart-run-made (job_of words) called.source.job g called.source.asked asked

  job-none : {P : Type 0} (job : Job) (file : List ℕ) → job_of words ≡ Some job → source_of job ≡ Some file → P
  job-none job file is reads = made-file job g file (one-job (job_of words) job (gen g) is asked) reads

  made-seen : (o : Finding) → Comes words files o → Delivered (due o) out err status → MadeSeen g status
  made-seen (reported p rs) comes delivered = apart-verify-made (job_of words) comes.0.job g comes.0.asked asked
  made-seen (summed h p rs) comes delivered =
      let same : h ≡ g = one-gen h g (one-job (job_of words) (gen h) (gen g) comes.0 asked) in
      made_summed p rs (subst (λ (k : Gen). Spells (made_source k) p) same comes.1) comes.2 (due-without out _ (if is_accepted rs then 0 else 1) status delivered.0)
  made-seen (ran p text) comes delivered = apart-run-made (job_of words) comes.0.called.source.job g comes.0.called.source.asked asked
  made-seen (unreturned p e) comes delivered = apart-run-made (job_of words) comes.0.called.source.job g comes.0.called.source.asked asked
  made-seen (no_job text) comes delivered = none-job (job_of words) (gen g) comes.0 asked
  made-seen (no_method p text) comes delivered = apart-run-made (job_of words) comes.0.job g comes.0.asked asked
  made-seen (refused n place) comes delivered = job-none comes.source.job comes.source.file comes.source.asked comes.source.reads
  made-seen (mistyped n place) comes delivered = job-none comes.source.job comes.source.file comes.source.asked comes.source.reads
  made-seen (circular name) comes delivered = job-none comes.source.job comes.source.file comes.source.asked comes.source.reads
  made-seen (crowded class name n) comes delivered = apart-verify-made (job_of words) comes.job g comes.asked asked
  made-seen (file_failed file) comes delivered = file-none file comes.0
  made-seen (file_too_long file) comes delivered = file-none file comes.0
  made-seen no_memory comes delivered = made_excused (elim (takes-status err _ 6 status delivered.0) [ inl six ↦ inr six | inr five ↦ inl five ])

summed-of : (g : Gen) (status : ℕ) → MadeSeen g status → (status ≡ 0) ⊎ (status ≡ 1) ⊎ IsWithoutFile status
summed-of g status (made_excused is) = inr (inr is)
summed-of g status (made_summed q rs spelled judges is) =
    elim is [
      | inl due_is ↦ elim (report-due (is_accepted rs) status due_is) [ inl zero ↦ inl zero | inr one ↦ inr (inl one) ]
      | inr excused ↦ inr (inr excused)
    ]

summed-proved-of : OwedIsOne → ProvableIsProved → (g : Gen) (status : ℕ) → MadeSeen g status → (p : ProgramTree) → Spells (made_source g) p → OwesProvable default_options.rounds p → (status ≡ 0) ⊎ ((status ≡ 1) × IsCutShort default_options p) ⊎ IsWithoutFile status
summed-proved-of one provable g status (made_excused is) p spells owes = inr (inr is)
summed-proved-of one provable g status (made_summed q rs spelled judges is) p spells owes =
    let judged : Judges default_options p rs = subst (λ (t : ProgramTree). Judges default_options t rs) (spells-one (made_source g) q p spelled spells) judges in
    elim is [
      | inl due_is ↦ elim (status-provable default_options p rs judged (provable-spent one provable default_options p rs judged owes) (is_accepted rs) refl status due_is) [
        | inl zero ↦ inl zero
        | inr one_status ↦ inr (inl one_status)
      ]
      | inr excused ↦ inr (inr excused)
    ]

module _ (little : OwedIsLittle) (much : LittleIsNotMuch) (one : OwedIsOne) (provable : ProvableIsProved) (words : List (List ℕ)) (files : FilesSeen) (out err : SinkSeen) (status : ℕ) (a : Answered words files out err status) where
  at : (job : Job) (file bytes : List ℕ) → job_of words ≡ Some job → source_of job ≡ Some file → files.holds file ≡ Some bytes → Seen files job file bytes status
  at job file bytes asked reads held = seen much words files out err status job asked file bytes reads held a.finding a.comes a.delivered

  made-at : (g : Gen) → job_of words ≡ Some (gen g) → MadeSeen g status
  made-at g asked = made-seen words files out err status g asked a.finding a.comes a.delivered

  run-at : (r : Run) (p : ProgramTree) → HoldsProgram words files r p → RunSeen files p r status ⊎ IsExcused files r.file status
  run-at r p held = run-of files r held.bytes status (at (run r) r.file held.bytes held.asked refl held.told) p held.within held.spelled

  reported-at : (v : Verify) (bytes : List ℕ) → HoldsReported words files v bytes → Seen files (verify v) v.file bytes status
  reported-at v bytes held = at (verify v) v.file bytes held.asked refl held.told

  -- a source that spells no program
  none-at : (file bytes : List ℕ) → Holds words files file bytes → ((p : ProgramTree) → Spells bytes p → ⊥) → (status ≡ 3) ⊎ IsExcused files file status
  none-at file bytes held none = none-of files held.job file bytes status (at held.job file bytes held.asked held.reads held.told) held.within none

  pub answered-exact : Exact words files status
  answered-exact = record {
    usage = usage-of words files out err status a.finding a.comes a.delivered;
    too_long = λ job file bytes asked reads held long. long-of files job file bytes status (at job file bytes asked reads held) long;
    refused = λ file bytes n place held why. none-at file bytes held (λ p spells. refused-parses bytes n place p why spells.parsed);
    mistyped = λ file bytes rule place held why. none-at file bytes held (λ p spells. ill-spells bytes rule place p why spells);
    circular = λ file bytes name held why. none-at file bytes held (λ p spells. loop-spells bytes name p why spells);
    crowded = λ v bytes class name n held why. crowd-of little files v bytes status (reported-at v bytes held) held.within (λ p spells few. crowded-spells much bytes class name n p why spells few);
    reported = λ v bytes p held spells few. reported-of files v bytes status (reported-at v bytes held) p held.within spells few;
    proved = λ v bytes p held spells owes. proved-of little one provable files v bytes status (reported-at v bytes held) p held.within spells owes;
    no_method = λ r p held none. elim (run-at r p held) [
      | inl is ↦ lacks-of files p r status is none
      | inr excused ↦ inr excused
    ];
    heap_too_long = λ r p text held long. elim (run-at r p held.source) [
      | inl is ↦ elim (much-of files p r status is held.has text held.told long) [ inl four ↦ inl four | inr excused ↦ inr (inr excused) ]
      | inr excused ↦ inr (inl excused)
    ];
    ran = λ r p text held within. elim (run-at r p held.source) [
      | inl is ↦ elim (ended-of files p r status is held.has text held.told within) [ inl end ↦ inl end | inr excused ↦ inr (inr excused) ]
      | inr excused ↦ inr (inl excused)
    ];
    summed = λ g asked. summed-of g status (made-at g asked);
    summed_proved = λ g p asked spells owes. summed-proved-of one provable g status (made-at g asked) p spells owes;
  }
