use Rattle.std.proofs.Common.{◌<◌, ◌-◌, ◌^◌, ℕ, List, length, subst, sym, ◌∙◌}
use Rattle.jh_words.specs.Held.{gen_in}
use Rattle.jh_reply.specs.Causes.{FitsMade}
use Rattle.jh_reply.proofs.Lengths.{source-short}
use Rattle.jh_reply.proofs.Summing.{made-fits}
use Rattle.jh_reply.proofs.making.sum_source.Goals as goal

-- src/making.rt
pub sum_bytes-requires : goal.sum_bytes-requires
sum_bytes-requires c =
    subst (λ (bytes : List ℕ). length bytes < 2 ^ 32 - 1) (sym (c.as_slice.ensures.value ∙ c.in-Ok.ensures.source)) (source-short c.args.job.seed c.args.job.methods c.requires)

-- src/making.rt
pub returns-in-Ok : goal.returns-in-Ok
returns-in-Ok c =
    made-fits c.made_is_program.ensures (gen_in c.args.job) c.requires c.sum_bytes.result
    (subst (λ (bytes : List ℕ). FitsMade (gen_in c.args.job) bytes c.sum_bytes.result) (c.as_slice.ensures.value ∙ c.in-Ok.ensures.source) c.sum_bytes.ensures)
