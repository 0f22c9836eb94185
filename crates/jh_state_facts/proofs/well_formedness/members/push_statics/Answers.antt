use Rattle.jh_arena.proofs.table.Listed.{extends-trans}
use Rattle.jh_semantics.specs.WellFormed.{static_facts}
use Rattle.jh_state_facts.specs.well_formedness.States.{member_in}
use Rattle.jh_state_facts.proofs.well_formedness.FactSteps.{adds-next, at-place}
use Rattle.jh_state_facts.proofs.well_formedness.members.push_statics.Goals as goal

pub loop-place-preserved : goal.loop-place-preserved
loop-place-preserved c = record {
  grows = extends-trans c.args.table.now c.loop-place.table c.push_static.new.table c.loop-place.invariant.grows c.push_static.ensures.grows;
  facts =
      adds-next (static_facts c.args.classes.now) (member_in c.args.classes.now) c.args.members.now c.index-members-place.result c.loop-place.place c.loop-place.table c.push_static.new.table c.args.facts.now.items c.loop-place.facts.items c.push_static.new.facts.items
      (at-place c.args.members.now c.index-members-place.result c.loop-place.place c.loop-place-test.true c.index-members-place.is) c.push_static.ensures.grows c.loop-place.invariant.facts c.in_ok-push_static.ensures.facts;
}
