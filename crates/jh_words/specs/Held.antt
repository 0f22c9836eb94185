-- What the words in memory ask for.
use Rattle.jh_words.specs.CommandLine.{Gen, Job, Run, Verify, gen, run, verify}
use Rattle.jh_words.specs.declared.job.Gen.{Gen as HeldGen}
use Rattle.jh_words.specs.declared.job.Job.{Job as HeldJob}
use Rattle.jh_words.specs.declared.job.Job.TheVariants as job
use Rattle.jh_words.specs.declared.job.Run.{Run as HeldRun}
use Rattle.jh_words.specs.declared.job.Verify.{Verify as HeldVerify}

abbrev pub verify_in : HeldVerify → Verify
verify_in v = record { file = v.file.now; rounds = v.options.rounds; leaves = v.options.leaves; workers = v.workers }

abbrev pub run_in : HeldRun → Run
run_in r = record { file = r.file.now; class = r.class.now; method = r.method.now; heap = r.heap.now; steps = r.steps }

abbrev pub gen_in : HeldGen → Gen
gen_in g = record { seed = g.seed; methods = g.methods }

abbrev pub job_in : HeldJob → Job
job_in (job.Verify v) = verify (verify_in v)
job_in (job.Run r) = run (run_in r)
job_in (job.Gen g) = gen (gen_in g)
