-- What came from the files is a finding of the words.
use Rattle.std.proofs.Common.{◌≡◌, ◌≤◌, ◌<◌, ◌-◌, ℕ, List, length, sym, subst, ◌∙◌, true, false, refl, arith, inl, inr}
use Rattle.std.specs.Prelude.{Option, None, Some, IfSome, if◌then◌else◌, codes, string_bytes}
use Rattle.jh_files.specs.Counts.{Rose}
use Rattle.jh_files.specs.Contents.{IsTooLong}
use Rattle.jh_files.specs.declared.fault.FileFault.{FileFault}
use Rattle.jh_files.specs.declared.fault.FileFault.TheVariants as fault
use Rattle.jh_ast.specs.Programs.{ProgramTree}
use Rattle.jh_vars.specs.States.{class_text}
use Rattle.jh_run.specs.outcome.Outcomes.{IsReason, has_method}
use Rattle.jh_run.specs.declared.outcome.unreturned.Unreturned.{Unreturned}
use Rattle.jh_run.specs.declared.outcome.unreturned.Unreturned.TheVariants as why
use Rattle.jh_reply.specs.Refusals.{Spells, method_text}
use Rattle.jh_reply.specs.declared.reply.Reply.{Reply}
use Rattle.jh_reply.specs.declared.reply.Reply.TheVariants as reply
use Rattle.jh_reply.specs.Causes.{FilesSeen, Finding, reported, summed, ran, unreturned, no_job, no_method, refused, mistyped, circular, crowded, file_failed, file_too_long, no_memory, IsRead_in, as_source, as_heap, Comes, Due, due, number_of, unreturned_status, unreturned_text, fault_text, Says, IsReply, IsSumReply, IsRefusal, by_place, by_rule, by_loop, FitsRefusal, FitsGen, FitsBytes, FitsFault, IsFaultReply, IsUsageReply, IsPageReply, IsUnreturnedReply, FitsFile, FitsOutcome, FitsHeap, FitsMethod, FitsSource, FitsRun, FitsWords, Fits}
use Rattle.jh_reply.specs.Made.{made_source}
use Rattle.jh_reply.specs.Run.{IsCalled, IsSource}
use Rattle.jh_name.specs.declared.options.Options.{Options}
use Rattle.jh_reply.specs.Verify.{SourceRead, Tells, options_of, source_limit}
use Rattle.jh_reply.specs.Words.{source_of}
use Rattle.jh_words.specs.CommandLine.{Gen, Job, Run, Verify, gen, job_of, run, verify}
use Rattle.jh_words.specs.Usage.{usage_page}
use Rattle.jh_reply.proofs.Verifying.{spells-one}

-- a line is due with its status
line-due : (status number : ℕ) (text line : List ℕ) → number ≡ status → line ≡ text → ◌≡◌ {A = Due} (record { status = status; on_out = false; text = text }) (record { status = number; on_out = false; text = line })
line-due status number text line is same = λ i. record { status = sym is i; on_out = false; text = sym same i }

-- a line for a source that is refused
pub says-refusal : (bytes text : List ℕ) (answer : Reply) → ((line : List ℕ) → line ≡ text → IsRefusal bytes line) → Says 3 text answer → FitsRefusal bytes answer
says-refusal bytes text (reply.Report line accepted) why h = absurd h
says-refusal bytes text (reply.Summed line accepted) why h = absurd h
says-refusal bytes text (reply.Ran line) why h = absurd h
says-refusal bytes text (reply.Line line status) why h = (h.0, why (string_bytes line) h.1)
says-refusal bytes text (reply.Usage said) why h = absurd h
says-refusal bytes text reply.NoMemory why h = tt

-- how a file fails
pub says-fault : (files : FilesSeen) (file : List ℕ) (e : FileFault) (answer : Reply) → (e ≡ fault.Failed → Rose (files.before file) (files.after file)) → IsTooLong (files.holds file) source_limit e → IsFaultReply file e answer → FitsFault files file answer
says-fault files file fault.Failed answer rose long says = inl (says, rose refl)
says-fault files file (fault.TooLong seen) answer rose long says = inr (inl (says, more (files.holds file) long))
  where
    more : (held : Option (List ℕ)) → IsTooLong held source_limit (fault.TooLong seen) → IfSome held (λ there. source_limit < length there)
    more None is = tt
    more (Some there) is = is.1
says-fault files file fault.Memory answer rose long says = inr (inr says)

-- why a run doesn't return
module _ (p : ProgramTree) (r : Run) (text : List ℕ) where
  says-outcome : (e : Unreturned) (answer : Reply) → IsReason p r.class r.method text r.steps e → Says (unreturned_status e) (unreturned_text e) answer → FitsOutcome p r text answer
  says-outcome e (reply.Report line accepted) reason h = absurd h
  says-outcome e (reply.Summed line accepted) reason h = absurd h
  says-outcome e (reply.Ran line) reason h = absurd h
  says-outcome e (reply.Line line status) reason h = (e, reason, h.0, h.1)
  says-outcome e (reply.Usage said) reason h = absurd h
  says-outcome e reply.NoMemory reason h = tt

  page-outcome : (answer : Reply) → IsReason p r.class r.method text r.steps why.NoMethod → IsPageReply answer → FitsOutcome p r text answer
  page-outcome (reply.Report line accepted) reason h = absurd h
  page-outcome (reply.Summed line accepted) reason h = absurd h
  page-outcome (reply.Ran line) reason h = absurd h
  page-outcome (reply.Line line status) reason h = absurd h
  page-outcome (reply.Usage said) reason h = (reason, h)
  page-outcome reply.NoMemory reason h = tt

  pub says-unreturned : (e : Unreturned) (answer : Reply) → IsReason p r.class r.method text r.steps e → IsUnreturnedReply e answer → FitsOutcome p r text answer
  says-unreturned why.NoMethod answer reason h = page-outcome answer reason h
  says-unreturned (why.NoHeap e) answer reason h = says-outcome (why.NoHeap e) answer reason h
  says-unreturned (why.Stopped s) answer reason h = says-outcome (why.Stopped s) answer reason h
  says-unreturned why.Memory answer reason h = subst (λ a. FitsOutcome p r text a) (sym h) tt

-- a right reply to the program that bytes spell is right for the bytes
pub reply-fits : (o : Options) (bytes : List ℕ) (p : ProgramTree) (answer : Reply) → Spells bytes p → IsReply o p answer → FitsBytes o bytes answer
reply-fits o bytes p answer spells h = inr (p, spells, h)

-- what is counted or held later
rose-earlier : (a b c : ℕ) → a ≤ b → Rose b c → Rose a c
rose-earlier a b c le rose = elim rose [ inl less ↦ inl (omega (arith, le, less)) | inr full ↦ inr full ]

module _ (holds held : List ℕ → Option (List ℕ)) (before counted after : List ℕ → ℕ) (stays : (name : List ℕ) → held name ≡ holds name) (grows : (name : List ℕ) → before name ≤ counted name) where
  abbrev first : FilesSeen
  first = record { holds = holds; before = before; after = after }

  abbrev second : FilesSeen
  second = record { holds = held; before = counted; after = after }

  earlier-fault : (file : List ℕ) (answer : Reply) → FitsFault second file answer → FitsFault first file answer
  earlier-fault file answer fits =
      elim fits [
        | inl failed ↦ inl (failed.0, rose-earlier (before file) (counted file) (after file) (grows file) failed.1)
        | inr rest ↦ elim rest [
          | inl long ↦ inr (inl (long.0, subst (λ (o : Option (List ℕ)). IfSome o (λ there. source_limit < length there)) (stays file) long.1))
          | inr short ↦ inr (inr short)
        ]
      ]

  earlier-heap : (p : ProgramTree) (r : Run) (answer : Reply) → FitsHeap second p r answer → FitsHeap first p r answer
  earlier-heap p r answer fits =
      elim fits [
        | inl failed ↦ inl (earlier-fault r.heap answer failed)
        | inr came ↦ inr (came.0, subst (λ (o : Option (List ℕ)). Tells o came.0) (stays r.heap) came.1, came.2, came.3)
      ]

  earlier-method : (p : ProgramTree) (r : Run) (answer : Reply) → FitsMethod second p r answer → FitsMethod first p r answer
  earlier-method p r answer fits =
      elim fits [
        | inl has ↦ inl (has.0, earlier-heap p r answer has.1)
        | inr rest ↦ inr rest
      ]

  pub earlier-source : (r : Run) (bytes : List ℕ) (answer : Reply) → FitsSource second r bytes answer → FitsSource first r bytes answer
  earlier-source r bytes answer fits =
      elim fits [
        | inl refusal ↦ inl refusal
        | inr came ↦ inr (came.0, came.1, earlier-method came.0 r answer came.2)
      ]

-- words that ask for nothing
pub words-fits : (words : List (List ℕ)) (files : FilesSeen) (answer : Reply) → FitsWords words answer → Fits words files answer
words-fits words files (reply.Report line accepted) h = absurd h
words-fits words files (reply.Summed line accepted) h = absurd h
words-fits words files (reply.Ran line) h = absurd h
words-fits words files (reply.Line line status) h = absurd h
words-fits words files (reply.Usage text) h = record { finding = no_job text; comes = h; is_due = refl }
words-fits words files reply.NoMemory h = record { finding = no_memory; comes = tt; is_due = refl }

module _ (words : List (List ℕ)) (files : FilesSeen) (job : Job) (asked : job_of words ≡ Some job) where
  -- want of memory
  pub memory-fits : Fits words files reply.NoMemory
  memory-fits = record { finding = no_memory; comes = tt; is_due = refl }

  -- a line for a finding
  says-fits : (status : ℕ) (text : List ℕ) (o : Finding) (answer : Reply) → Comes words files o → due o ≡ record { status = status; on_out = false; text = text } → Says status text answer → Fits words files answer
  says-fits status text o (reply.Report line accepted) comes is h = absurd h
  says-fits status text o (reply.Summed line accepted) comes is h = absurd h
  says-fits status text o (reply.Ran line) comes is h = absurd h
  says-fits status text o (reply.Line line said) comes is h = record { finding = o; comes = comes; is_due = is ∙ line-due status (number_of said) text (string_bytes line) h.0 h.1 }
  says-fits status text o (reply.Usage said) comes is h = absurd h
  says-fits status text o reply.NoMemory comes is h = memory-fits

  fault-fits : (file : List ℕ) (answer : Reply) → IsRead_in words files.holds file → FitsFault files file answer → Fits words files answer
  fault-fits file answer read fits =
      elim fits [
        | inl failed ↦ says-fits 4 (fault_text (codes "failed") file) (file_failed file) answer (read, failed.1) refl failed.0
        | inr rest ↦ elim rest [
          | inl long ↦ says-fits 4 (fault_text (codes "too long") file) (file_too_long file) answer (read, long.1) refl long.0
          | inr short ↦ subst (λ a. Fits words files a) (sym short) memory-fits
        ]
      ]

  module _ (file bytes : List ℕ) (reads : source_of job ≡ Some file) (told : Tells (files.holds file) bytes) (within : length bytes ≤ source_limit) where
    abbrev source_read : SourceRead words files.holds
    source_read = record { job = job; file = file; bytes = bytes; asked = asked; reads = reads; told = told; within = within }

    -- the finding of a line for a source that is refused
    refusal-found : (text : List ℕ) → IsRefusal bytes text → (o : Finding) × Comes words files o × (due o ≡ record { status = 3; on_out = false; text = text })
    refusal-found text (by_place n place why is) = (refused n place, record { source = source_read; why = why }, λ i. record { status = 3; on_out = false; text = sym is i })
    refusal-found text (by_rule rule place why is) = (mistyped rule place, record { source = source_read; why = why }, λ i. record { status = 3; on_out = false; text = sym is i })
    refusal-found text (by_loop name why is) = (circular name, record { source = source_read; why = why }, λ i. record { status = 3; on_out = false; text = sym is i })

    refusal-fits : (answer : Reply) → FitsRefusal bytes answer → Fits words files answer
    refusal-fits (reply.Report line accepted) h = absurd h
    refusal-fits (reply.Summed line accepted) h = absurd h
    refusal-fits (reply.Ran line) h = absurd h
    refusal-fits (reply.Line line status) h =
        let found = refusal-found (string_bytes line) h.1 in
        says-fits 3 (string_bytes line) found.0 (reply.Line line status) found.1 found.2 (h.0, refl)
    refusal-fits (reply.Usage said) h = absurd h
    refusal-fits reply.NoMemory h = memory-fits

module _ (words : List (List ℕ)) (files : FilesSeen) (v : Verify) (asked : job_of words ≡ Some (verify v)) where
  program-fits : (bytes : List ℕ) (p : ProgramTree) (answer : Reply) → Tells (files.holds v.file) bytes → length bytes ≤ source_limit → Spells bytes p → IsReply (options_of v) p answer → Fits words files answer
  program-fits bytes p (reply.Report text accepted) told within spells h = record {
    finding = reported p h.reported;
    comes = (record { job = v; bytes = bytes; asked = asked; told = told; within = within; spelled = spells; only = λ q other. spells-one bytes q p other spells }, h.judges);
    is_due = λ i. record { status = if sym h.accepted_is i then 0 else 1; on_out = true; text = sym h.text_is i };
  }
  program-fits bytes p (reply.Summed text accepted) told within spells h = absurd h
  program-fits bytes p (reply.Ran text) told within spells h = absurd h
  program-fits bytes p (reply.Line line status) told within spells h = record {
    finding = crowded (class_text p h.1.id.class) (method_text p h.1.id) h.1.n;
    comes = record { job = v; bytes = bytes; asked = asked; told = told; within = within; why = record { tree = p; spelled = spells; id = h.1.id; much = h.1.much; class_is = refl; name_is = refl } };
    is_due = line-due 3 (number_of status) _ (string_bytes line) h.0 h.1.text_is;
  }
  program-fits bytes p (reply.Usage said) told within spells h = absurd h
  program-fits bytes p reply.NoMemory told within spells h = memory-fits words files (verify v) asked

  pub file-fits : (answer : Reply) → FitsFile (options_of v) files v.file answer → Fits words files answer
  file-fits answer fits =
      elim fits [
        | inl failed ↦ fault-fits words files (verify v) asked v.file answer (as_source (verify v) v.file asked refl) failed
        | inr came ↦ elim came.3 [
          | inl refusal ↦ refusal-fits words files (verify v) asked v.file came.0 refl came.1 came.2 answer refusal
          | inr there ↦ program-fits came.0 there.0 answer came.1 came.2 there.1 there.2
        ]
      ]

module _ (words : List (List ℕ)) (files : FilesSeen) (r : Run) (asked : job_of words ≡ Some (run r)) where
  module _ (p : ProgramTree) (bytes : List ℕ) (told : Tells (files.holds r.file) bytes) (within : length bytes ≤ source_limit) (spells : Spells bytes p) where
    abbrev source : IsSource words files.holds p
    source = record { job = r; asked = asked; bytes = bytes; told = told; within = within; spelled = spells }

    module _ (has : has_method p r.class r.method ≡ true) where
      abbrev called : IsCalled words files.holds p
      called = record { source = source; has = has }

      outcome-fits : (text : List ℕ) → Tells (files.holds r.heap) text → length text ≤ source_limit → (answer : Reply) → FitsOutcome p r text answer → Fits words files answer
      outcome-fits text held short (reply.Report line accepted) h = absurd h
      outcome-fits text held short (reply.Summed line accepted) h = absurd h
      outcome-fits text held short (reply.Ran printed) h = record {
        finding = ran p (string_bytes printed);
        comes = (record { called = called; text = text; told = held; within = short }, h);
        is_due = refl;
      }
      outcome-fits text held short (reply.Line line status) h = record {
        finding = unreturned p h.0;
        comes = (record { called = called; text = text; told = held; within = short }, h.1);
        is_due = line-due (unreturned_status h.0) (number_of status) (unreturned_text h.0) (string_bytes line) h.2 h.3;
      }
      outcome-fits text held short (reply.Usage said) h = record {
        finding = unreturned p why.NoMethod;
        comes = (record { called = called; text = text; told = held; within = short }, h.0);
        is_due = line-due 2 2 usage_page said refl h.1;
      }
      outcome-fits text held short reply.NoMemory h = memory-fits words files (run r) asked

      heap-fits : (answer : Reply) → FitsHeap files p r answer → Fits words files answer
      heap-fits answer fits =
          elim fits [
            | inl failed ↦ fault-fits words files (run r) asked r.heap answer (as_heap p called) failed
            | inr came ↦ outcome-fits came.0 came.1 came.2 answer came.3
          ]

    none-fits : (answer : Reply) → has_method p r.class r.method ≡ false → IsUsageReply answer → Fits words files answer
    none-fits (reply.Report line accepted) none h = absurd h
    none-fits (reply.Summed line accepted) none h = absurd h
    none-fits (reply.Ran line) none h = absurd h
    none-fits (reply.Line line status) none h = absurd h
    none-fits (reply.Usage said) none h = record { finding = no_method p said; comes = (source, none, h); is_due = refl }
    none-fits reply.NoMemory none h = memory-fits words files (run r) asked

    method-fits : (answer : Reply) → FitsMethod files p r answer → Fits words files answer
    method-fits answer fits =
        elim fits [
          | inl has ↦ heap-fits has.0 answer has.1
          | inr rest ↦ elim rest [
            | inl none ↦ none-fits answer none.0 none.1
            | inr short ↦ subst (λ a. Fits words files a) (sym short) (memory-fits words files (run r) asked)
          ]
        ]

  pub run-fits : (answer : Reply) → FitsRun files r answer → Fits words files answer
  run-fits answer fits =
      elim fits [
        | inl failed ↦ fault-fits words files (run r) asked r.file answer (as_source (run r) r.file asked refl) failed
        | inr came ↦ elim came.3 [
          | inl refusal ↦ refusal-fits words files (run r) asked r.file came.0 refl came.1 came.2 answer refusal
          | inr there ↦ method-fits there.0 came.0 came.1 came.2 there.1 answer there.2
        ]
      ]

-- a source that is made
module _ (words : List (List ℕ)) (files : FilesSeen) (g : Gen) (asked : job_of words ≡ Some (gen g)) where
  pub gen-fits : (answer : Reply) → FitsGen g answer → Fits words files answer
  gen-fits (reply.Report line accepted) h = absurd h
  gen-fits (reply.Summed text accepted) (p, spells, h) = record {
    finding = summed g p h.reported;
    comes = (asked, spells, h.judges);
    is_due = λ i. record { status = if sym h.accepted_is i then 0 else 1; on_out = true; text = sym h.text_is i };
  }
  gen-fits (reply.Ran line) h = absurd h
  gen-fits (reply.Line line status) h = absurd h
  gen-fits (reply.Usage said) h = absurd h
  gen-fits reply.NoMemory h = memory-fits words files (gen g) asked
