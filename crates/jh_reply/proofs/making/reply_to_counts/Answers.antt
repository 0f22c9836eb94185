use Rattle.std.proofs.Common.{ap, ◌∙◌}
use Rattle.jh_gen.specs.Generated.{summary}
use Rattle.jh_reply.proofs.Tallies.{tally-accepted, tally-is}
use Rattle.jh_reply.proofs.making.reply_to_counts.Goals as goal

-- src/making.rt
pub returns-in-Ok : goal.returns-in-Ok
returns-in-Ok c = λ p h. record {
  reported = h.reported;
  judges = h.judges;
  text_is = c.in-Ok.ensures.summary ∙ ap (λ counts. summary c.args.job.seed c.args.job.methods counts) (tally-is c.args.counts h.reported h.counts_are);
  accepted_is = tally-accepted c.args.counts h.reported h.counts_are;
}
