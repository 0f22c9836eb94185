-- From what was due and delivered to the clauses of the top call.
use Rattle.std.proofs.Common.{◌≡◌, ◌≤◌, ℕ, List, sym, ◌∙◌, Bool, true, false, arith, inl, inr}
use Rattle.std.specs.Prelude.{◌≢◌, Some, ◌⊎◌, if◌then◌else◌}
use Rattle.jh_ast.specs.Programs.{ProgramTree}
use Rattle.jh_run.specs.jh_heap.declared.text.reading.HeapError.{HeapError}
use Rattle.jh_run.specs.jh_heap.declared.text.reading.HeapError.TheVariants as heap
use Rattle.jh_run.specs.jh_machine.declared.continuation.stop.Stop.{Stop}
use Rattle.jh_run.specs.jh_machine.declared.continuation.stop.Stop.TheVariants as stop
use Rattle.jh_run.specs.declared.outcome.unreturned.Unreturned.{Unreturned}
use Rattle.jh_run.specs.declared.outcome.unreturned.Unreturned.TheVariants as why
use Rattle.jh_run.specs.jh_logic.source.Laws.{IsAccepted}
use Rattle.jh_gen_laws.specs.jh_obligations.program_sequents.Laws.{OwedIsOne, OwedIsSound}
use Rattle.jh_report.specs.jh_prove.prover.Laws.{ProvableIsProved, ProvedIsValid}
use Rattle.jh_report.specs.report.Report.{is_accepted}
use Rattle.jh_reply.specs.Refusals.{Spells}
use Rattle.jh_reply.specs.declared.reply.Reply.{Reply}
use Rattle.jh_reply.specs.Causes.{FilesSeen, SinkSeen, Finding, reported, summed, ran, unreturned, no_job, no_method, refused, mistyped, circular, crowded, file_failed, file_too_long, no_memory, Comes, Due, due, reply_due, unreturned_status, Takes, IsTaken, Delivered, HaveNoFault, Answered, Fits}
use Rattle.jh_reply.specs.Made.{Sums, default_options, made_source}
use Rattle.jh_reply.specs.Run.{Runs}
use Rattle.jh_reply.specs.Verify.{Reports, Verifies, options_of}
use Rattle.jh_words.specs.CommandLine.{Gen, Run, Verify, gen, job_of, run, verify}
use Rattle.jh_reply.proofs.Jobs.{apart-jobs, apart-run-made, apart-verify-made}
use Rattle.jh_reply.proofs.Verifying.{provable-spent, reports-verifies, right-sound, spells-one}

-- a status is the one that is due, or 5
pub takes-status : (sink : SinkSeen) (text : List ℕ) (d status : ℕ) → Takes sink text d status → (status ≡ d) ⊎ (status ≡ 5)
takes-status sink text d status takes = elim takes [ inl whole ↦ inl whole.0 | inr front ↦ inr front.0 ]

-- a run that doesn't return has none of the statuses of a report
heap-high : (e : HeapError) → 2 ≤ unreturned_status (why.NoHeap e)
heap-high (heap.BadLine line) = omega arith
heap-high (heap.NotWellFormed line rule) = omega arith
heap-high heap.Memory = omega arith

stop-high : (s : Stop) → 2 ≤ unreturned_status (why.Stopped s)
stop-high (stop.Null place) = omega arith
stop-high (stop.AssertFailed place) = omega arith
stop-high (stop.NoObject place) = omega arith
stop-high stop.StepsOut = omega arith
stop-high (stop.Overflow place) = omega arith
stop-high stop.Memory = omega arith

unreturned-high : (e : Unreturned) → 2 ≤ unreturned_status e
unreturned-high why.NoMethod = omega arith
unreturned-high (why.NoHeap e) = heap-high e
unreturned-high (why.Stopped s) = stop-high s
unreturned-high why.Memory = omega arith

-- a status of 2 or more isn't 0 or 1, nor is 5
not-low : {P : Type 0} (d status : ℕ) → 2 ≤ d → (status ≡ d) ⊎ (status ≡ 5) → (status ≡ 0) ⊎ (status ≡ 1) → P
not-low d status high is low =
    elim is [
      | inl whole ↦ elim low [ inl zero ↦ absurd (omega (arith, high, whole, zero)) | inr one ↦ absurd (omega (arith, high, whole, one)) ]
      | inr failed ↦ elim low [ inl zero ↦ absurd (omega (arith, failed, zero)) | inr one ↦ absurd (omega (arith, failed, one)) ]
    ]

-- what is due on the second sink is 2 or more
high-of : (words : List (List ℕ)) (files : FilesSeen) (out err : SinkSeen) (status d : ℕ) (text : List ℕ) {P : Type 0} → 2 ≤ d → IsTaken false text d out err status → (status ≡ 0) ⊎ (status ≡ 1) → P
high-of words files out err status d text high delivered low = not-low d status high (takes-status err text d status delivered.0) low

-- what is known of what bytes spell
abbrev pub SpelledIsAccepted : Type 0
SpelledIsAccepted = (bytes : List ℕ) (tree : ProgramTree) → Spells bytes tree → IsAccepted tree

-- a report with status 0 or 1 was written whole
module _ (accepted : SpelledIsAccepted) (sound : OwedIsSound) (one : OwedIsOne) (proved : ProvedIsValid) (provable : ProvableIsProved) where
  reports-of : (words : List (List ℕ)) (files : FilesSeen) (out err : SinkSeen) (status : ℕ) (o : Finding) → Comes words files o → Delivered (due o) out err status → (v : Verify) → job_of words ≡ Some (verify v) → (status ≡ 0) ⊎ (status ≡ 1) → Reports words files.holds out.before out.after status
  reports-of words files out err status (reported p rs) comes delivered v asked low =
      elim delivered.0 [
        | inl whole ↦ record { program = p; read = comes.0; reported = rs; judges = comes.1; spent = λ owes. provable-spent one provable (options_of comes.0.job) p rs comes.1 owes; written = whole.1; status_is = whole.0; sound = right-sound proved sound (options_of comes.0.job) p rs status (accepted comes.0.bytes p comes.0.spelled) comes.1 whole.0 }
        | inr front ↦ not-low 5 status (omega arith) (inr front.0) low
      ]
  reports-of words files out err status (summed g p rs) comes delivered v asked low = apart-verify-made (job_of words) v g asked comes.0
  reports-of words files out err status (ran p text) comes delivered v asked low = apart-jobs (job_of words) v comes.0.called.source.job asked comes.0.called.source.asked
  reports-of words files out err status (unreturned p e) comes delivered v asked low = apart-jobs (job_of words) v comes.0.called.source.job asked comes.0.called.source.asked
  reports-of words files out err status (no_job text) comes delivered v asked low = high-of words files out err status 2 _ (omega arith) delivered low
  reports-of words files out err status (no_method p text) comes delivered v asked low = high-of words files out err status 2 _ (omega arith) delivered low
  reports-of words files out err status (refused n place) comes delivered v asked low = high-of words files out err status 3 _ (omega arith) delivered low
  reports-of words files out err status (mistyped n place) comes delivered v asked low = high-of words files out err status 3 _ (omega arith) delivered low
  reports-of words files out err status (circular name) comes delivered v asked low = high-of words files out err status 3 _ (omega arith) delivered low
  reports-of words files out err status (crowded class name n) comes delivered v asked low = high-of words files out err status 3 _ (omega arith) delivered low
  reports-of words files out err status (file_failed other) comes delivered v asked low = high-of words files out err status 4 _ (omega arith) delivered low
  reports-of words files out err status (file_too_long other) comes delivered v asked low = high-of words files out err status 4 _ (omega arith) delivered low
  reports-of words files out err status no_memory comes delivered v asked low = high-of words files out err status 6 _ (omega arith) delivered low

  pub answered-reports : (words : List (List ℕ)) (files : FilesSeen) (out err : SinkSeen) (status : ℕ) → Answered words files out err status → (v : Verify) → job_of words ≡ Some (verify v) → (status ≡ 0) ⊎ (status ≡ 1) → Reports words files.holds out.before out.after status
  answered-reports words files out err status a v asked low = reports-of words files out err status a.finding a.comes a.delivered v asked low

  -- the headline
  pub answered-verifies : (words : List (List ℕ)) (files : FilesSeen) (out err : SinkSeen) (status : ℕ) → Answered words files out err status → (v : Verify) → job_of words ≡ Some (verify v) → status ≡ 0 → Verifies words files.holds
  answered-verifies words files out err status a v asked zero = reports-verifies words files.holds out.before out.after status (answered-reports words files out err status a v asked (inl zero)) zero

  -- a summary with status 0 or 1 was written whole
  sums-of : (words : List (List ℕ)) (files : FilesSeen) (out err : SinkSeen) (status : ℕ) (o : Finding) → Comes words files o → Delivered (due o) out err status → (g : Gen) → job_of words ≡ Some (gen g) → (status ≡ 0) ⊎ (status ≡ 1) → Sums words out.before out.after status
  sums-of words files out err status (reported p rs) comes delivered g asked low = apart-verify-made (job_of words) comes.0.job g comes.0.asked asked
  sums-of words files out err status (summed h p rs) comes delivered g asked low =
      elim delivered.0 [
        | inl whole ↦ record { program = p; made = record { job = h; asked = comes.0; spelled = comes.1; only = λ q other. spells-one (made_source h) q p other comes.1 }; reported = rs; judges = comes.2; spent = λ owes. provable-spent one provable default_options p rs comes.2 owes; written = whole.1; status_is = whole.0; sound = right-sound proved sound default_options p rs status (accepted (made_source h) p comes.1) comes.2 whole.0 }
        | inr front ↦ not-low 5 status (omega arith) (inr front.0) low
      ]
  sums-of words files out err status (ran p text) comes delivered g asked low = apart-run-made (job_of words) comes.0.called.source.job g comes.0.called.source.asked asked
  sums-of words files out err status (unreturned p e) comes delivered g asked low = apart-run-made (job_of words) comes.0.called.source.job g comes.0.called.source.asked asked
  sums-of words files out err status (no_job text) comes delivered g asked low = high-of words files out err status 2 _ (omega arith) delivered low
  sums-of words files out err status (no_method p text) comes delivered g asked low = high-of words files out err status 2 _ (omega arith) delivered low
  sums-of words files out err status (refused n place) comes delivered g asked low = high-of words files out err status 3 _ (omega arith) delivered low
  sums-of words files out err status (mistyped n place) comes delivered g asked low = high-of words files out err status 3 _ (omega arith) delivered low
  sums-of words files out err status (circular name) comes delivered g asked low = high-of words files out err status 3 _ (omega arith) delivered low
  sums-of words files out err status (crowded class name n) comes delivered g asked low = high-of words files out err status 3 _ (omega arith) delivered low
  sums-of words files out err status (file_failed other) comes delivered g asked low = high-of words files out err status 4 _ (omega arith) delivered low
  sums-of words files out err status (file_too_long other) comes delivered g asked low = high-of words files out err status 4 _ (omega arith) delivered low
  sums-of words files out err status no_memory comes delivered g asked low = high-of words files out err status 6 _ (omega arith) delivered low

  pub answered-sums : (words : List (List ℕ)) (files : FilesSeen) (out err : SinkSeen) (status : ℕ) → Answered words files out err status → (g : Gen) → job_of words ≡ Some (gen g) → (status ≡ 0) ⊎ (status ≡ 1) → Sums words out.before out.after status
  answered-sums words files out err status a g asked low = sums-of words files out err status a.finding a.comes a.delivered g asked low

-- a run with status 0 returned, and what is printed of it was written whole
runs-of : (words : List (List ℕ)) (files : FilesSeen) (out err : SinkSeen) (status : ℕ) (o : Finding) → Comes words files o → Delivered (due o) out err status → (r : Run) → job_of words ≡ Some (run r) → status ≡ 0 → Runs words files.holds out.before out.after
runs-of words files out err status (reported p rs) comes delivered r asked zero = apart-jobs (job_of words) comes.0.job r comes.0.asked asked
runs-of words files out err status (summed g p rs) comes delivered r asked zero = apart-run-made (job_of words) r g asked comes.0
runs-of words files out err status (ran p text) comes delivered r asked zero =
    elim delivered.0 [
      | inl whole ↦ record { program = p; begun = comes.0; printed = text; returns = comes.1; written = whole.1 }
      | inr front ↦ not-low 5 status (omega arith) (inr front.0) (inl zero)
    ]
runs-of words files out err status (unreturned p e) comes delivered r asked zero = high-of words files out err status (unreturned_status e) _ (unreturned-high e) delivered (inl zero)
runs-of words files out err status (no_job text) comes delivered r asked zero = high-of words files out err status 2 _ (omega arith) delivered (inl zero)
runs-of words files out err status (no_method p text) comes delivered r asked zero = high-of words files out err status 2 _ (omega arith) delivered (inl zero)
runs-of words files out err status (refused n place) comes delivered r asked zero = high-of words files out err status 3 _ (omega arith) delivered (inl zero)
runs-of words files out err status (mistyped n place) comes delivered r asked zero = high-of words files out err status 3 _ (omega arith) delivered (inl zero)
runs-of words files out err status (circular name) comes delivered r asked zero = high-of words files out err status 3 _ (omega arith) delivered (inl zero)
runs-of words files out err status (crowded class name n) comes delivered r asked zero = high-of words files out err status 3 _ (omega arith) delivered (inl zero)
runs-of words files out err status (file_failed other) comes delivered r asked zero = high-of words files out err status 4 _ (omega arith) delivered (inl zero)
runs-of words files out err status (file_too_long other) comes delivered r asked zero = high-of words files out err status 4 _ (omega arith) delivered (inl zero)
runs-of words files out err status no_memory comes delivered r asked zero = high-of words files out err status 6 _ (omega arith) delivered (inl zero)

pub answered-runs : (words : List (List ℕ)) (files : FilesSeen) (out err : SinkSeen) (status : ℕ) → Answered words files out err status → (r : Run) → job_of words ≡ Some (run r) → status ≡ 0 → Runs words files.holds out.before out.after
answered-runs words files out err status a r asked zero = runs-of words files out err status a.finding a.comes a.delivered r asked zero

-- what a sink took is what was due on it
pub delivered-by : (d : Due) (on_out : Bool) (text : List ℕ) (due_status : ℕ) (out err : SinkSeen) (status : ℕ) → on_out ≡ d.on_out → text ≡ d.text → due_status ≡ d.status → IsTaken on_out text due_status out err status → Delivered d out err status
delivered-by d on_out text due_status out err status on is_text is_status taken = rw (sym on, sym is_text, sym is_status) taken

-- a right reply that was delivered has its cause
pub answered-by : (words : List (List ℕ)) (files : FilesSeen) (out err : SinkSeen) (status : ℕ) (r : Reply) → Fits words files r → Delivered (reply_due r) out err status → Answered words files out err status
answered-by words files out err status r fits delivered = record { finding = fits.finding; comes = fits.comes; delivered = rw (fits.is_due) delivered }

report-status : (b : Bool) → ◌≡◌ {A = ℕ} (if b then 0 else 1) 6 → ⊥
report-status true h = omega (arith, h)
report-status false h = omega (arith, h)

-- want of memory leaves the first sink as it was
memory-of : (words : List (List ℕ)) (files : FilesSeen) (out err : SinkSeen) (status : ℕ) (o : Finding) → Delivered (due o) out err status → status ≡ 6 → out.after ≡ out.before
memory-of words files out err status (reported p rs) delivered six =
    elim (takes-status out _ (if is_accepted rs then 0 else 1) status delivered.0) [
      | inl whole ↦ absurd (report-status (is_accepted rs) (sym whole ∙ six))
      | inr front ↦ absurd (omega (arith, front, six))
    ]
memory-of words files out err status (summed g p rs) delivered six =
    elim (takes-status out _ (if is_accepted rs then 0 else 1) status delivered.0) [
      | inl whole ↦ absurd (report-status (is_accepted rs) (sym whole ∙ six))
      | inr front ↦ absurd (omega (arith, front, six))
    ]
memory-of words files out err status (ran p text) delivered six =
    elim (takes-status out text 0 status delivered.0) [
      | inl whole ↦ absurd (omega (arith, whole, six))
      | inr front ↦ absurd (omega (arith, front, six))
    ]
memory-of words files out err status (unreturned p e) delivered six = delivered.1.written
memory-of words files out err status (no_job text) delivered six = delivered.1.written
memory-of words files out err status (no_method p text) delivered six = delivered.1.written
memory-of words files out err status (refused n place) delivered six = delivered.1.written
memory-of words files out err status (mistyped n place) delivered six = delivered.1.written
memory-of words files out err status (circular name) delivered six = delivered.1.written
memory-of words files out err status (crowded class name n) delivered six = delivered.1.written
memory-of words files out err status (file_failed file) delivered six = delivered.1.written
memory-of words files out err status (file_too_long file) delivered six = delivered.1.written
memory-of words files out err status no_memory delivered six = delivered.1.written

pub answered-memory : (words : List (List ℕ)) (files : FilesSeen) (out err : SinkSeen) (status : ℕ) → Answered words files out err status → status ≡ 6 → out.after ≡ out.before
answered-memory words files out err status a six = memory-of words files out err status a.finding a.delivered six

-- with any status but 5 the sink that took its text counts no fault
takes-no-fault : (sink : SinkSeen) (text : List ℕ) (d status : ℕ) → status ≢ 5 → Takes sink text d status → sink.faults_after ≡ sink.faults_before
takes-no-fault sink text d status not takes = elim takes [ inl whole ↦ whole.2 | inr front ↦ absurd (not front.0) ]

taken-no-fault : (on_out : Bool) (text : List ℕ) (d status : ℕ) (out err : SinkSeen) → status ≢ 5 → IsTaken on_out text d out err status → HaveNoFault out err
taken-no-fault true text d status out err not taken = record { out_stays = takes-no-fault out text d status not taken.0; err_stays = taken.1.faults }
taken-no-fault false text d status out err not taken = record { out_stays = taken.1.faults; err_stays = takes-no-fault err text d status not taken.0 }

pub answered-no-fault : (words : List (List ℕ)) (files : FilesSeen) (out err : SinkSeen) (status : ℕ) → Answered words files out err status → status ≢ 5 → HaveNoFault out err
answered-no-fault words files out err status a not = let d : Due = due a.finding in taken-no-fault d.on_out d.text d.status status out err not a.delivered
