use Rattle.std.proofs.Common.{◌∙◌}
use Rattle.jh_files.proofs.Joins.{appends-front, within-front}
use Rattle.jh_files.proofs.sink.put_all.Goals as goal

pub loop-at-preserved : goal.loop-at-preserved
loop-at-preserved g c = record {
  within = within-front c.loop-at.at c.in_ok-at.field-0 c.args.bytes.now c.loop-at.invariant.within c.in_ok-at.ensures.within;
  taken = appends-front (g.S.Sink.written c.args.sink.now) (g.S.Sink.written c.loop-at.sink) (g.S.Sink.written c.put.new.self) c.loop-at.at c.in_ok-at.field-0 c.args.bytes.now
      c.loop-at.invariant.taken c.in_ok-at.ensures.appends;
  counted = c.in_ok-at.ensures.no_fault ∙ c.loop-at.invariant.counted;
}
