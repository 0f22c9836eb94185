use Rattle.std.proofs.Common.{ap, ◌∙◌}
use Rattle.std.specs.Prelude.{Some, map, string_bytes}
use Rattle.jh_words.specs.Held.{gen_in, job_in, run_in, verify_in}
use Rattle.jh_reply.proofs.Fitting.{file-fits, gen-fits, run-fits, words-fits}
use Rattle.jh_reply.proofs.Few.{has-few}
use Rattle.jh_reply.proofs.Leaves.{has-leaves}
use Rattle.jahob.proofs.top.reply_to.Goals as goal

-- src/top.rt
pub verify_file-requires : goal.verify_file-requires
verify_file-requires g c = has-leaves (map (λ word. string_bytes word) c.args.words.now) (verify_in c.in-Ok-Verify.verify) (c.in-Ok-Verify.ensures.job ∙ ap (λ j. Some (job_in j)) c.in-Ok-Verify.field-0-is)

-- src/top.rt
pub returns-in-Ok-Verify-clause-fits : goal.returns-in-Ok-Verify-clause-fits
returns-in-Ok-Verify-clause-fits g c =
    file-fits _ _ (verify_in c.in-Ok-Verify.verify) (c.in-Ok-Verify.ensures.job ∙ ap (λ j. Some (job_in j)) c.in-Ok-Verify.field-0-is) c.verify_file.result c.verify_file.ensures.fits

-- src/top.rt
pub returns-in-Ok-Run-clause-fits : goal.returns-in-Ok-Run-clause-fits
returns-in-Ok-Run-clause-fits g c =
    run-fits _ _ (run_in c.in-Ok-Run.run') (c.in-Ok-Run.ensures.job ∙ ap (λ j. Some (job_in j)) c.in-Ok-Run.field-0-is) c.run_file.result c.run_file.ensures.fits

-- src/top.rt
pub returns-in-Err-clause-fits : goal.returns-in-Err-clause-fits
returns-in-Err-clause-fits g c =
    let words = map (λ word. string_bytes word) c.args.words.now in
    words-fits words _ c.reply_to_words.result (c.reply_to_words.ensures words c.in-Err.ensures.refusal)

-- src/top.rt
pub sum_source-requires : goal.sum_source-requires
sum_source-requires g c = has-few (map (λ word. string_bytes word) c.args.words.now) (gen_in c.in-Ok-Gen.made) (c.in-Ok-Gen.ensures.job ∙ ap (λ j. Some (job_in j)) c.in-Ok-Gen.field-0-is)

-- src/top.rt
pub returns-in-Ok-Gen-clause-fits : goal.returns-in-Ok-Gen-clause-fits
returns-in-Ok-Gen-clause-fits g c =
    gen-fits _ _ (gen_in c.in-Ok-Gen.made) (c.in-Ok-Gen.ensures.job ∙ ap (λ j. Some (job_in j)) c.in-Ok-Gen.field-0-is) c.sum_source.result c.sum_source.ensures
