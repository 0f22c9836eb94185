use Rattle.std.proofs.Common.{◌++◌}
use Rattle.jh_arena.specs.table.Nodes.{nodes}
use Rattle.jh_arena.proofs.table.Listed.{extends-trans}
use Rattle.jh_open_branches.specs.Placed.{noted}
use Rattle.jh_deriv.specs.Replays.{bare_facts, facts_at}
use Rattle.jh_deriv.proofs.Following.{hyp-added}
use Rattle.jh_deriv.proofs.replaying.add_hyps.Goals as goal

pub loop-hyp-preserved : goal.loop-hyp-preserved
loop-hyp-preserved c =
    let gains = c.in_ok-add_fact.ensures.gains in
    record {
      whole = hyp-added (nodes c.loop-hyp.table) (nodes c.add_fact.new.table) c.loop-hyp.facts.facts.items c.add_fact.new.facts.facts.items (noted c.add_fact.new.facts.places) (facts_at (nodes c.args.table.now) c.args.facts.now.facts.items ++ bare_facts c.args.hyps.now) c.args.hyps.now c.loop-hyp.hyp-index c.hyp-item.result
          c.loop-hyp-test.true c.hyp-item.is gains c.loop-hyp.invariant.whole;
      formulas = gains.formulas;
      placed = gains.placed;
      grows = extends-trans c.args.table.now c.loop-hyp.table c.add_fact.new.table c.loop-hyp.invariant.grows c.in_ok-add_fact.ensures.grows;
    }
