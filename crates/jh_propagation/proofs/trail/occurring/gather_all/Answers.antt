use Rattle.jh_arena.specs.table.Nodes.{nodes}
use Rattle.std.proofs.Common.{get_or}
use Rattle.std.proofs.lemmas.Option.{slice_get-get_or}
use Rattle.jh_propagation.proofs.trail.Listed.{has-get}
use Rattle.jh_propagation.proofs.trail.Gathering.{begun-more}
use Rattle.jh_propagation.proofs.trail.occurring.gather_all.Goals as goal

pub gather_instance-requires-clause-formula : goal.gather_instance-requires-clause-formula
gather_instance-requires-clause-formula c = c.requires (get_or c.args.instances.now c.loop-place.place 0) (has-get c.args.instances.now c.loop-place.place 0 c.loop-place-test.true)

pub loop-place-preserved : goal.loop-place-preserved
loop-place-preserved c = record {
  gathered = c.in_ok-gather_instance.ensures.gathered;
  begun = begun-more (nodes c.args.table.now) c.args.instances.now c.loop-place.place (get_or c.args.instances.now c.loop-place.place 0) c.loop-place.found.rows.items c.gather_instance.new.found.rows.items
      c.loop-place.invariant.begun (slice_get-get_or c.args.instances.now c.loop-place.place 0 c.loop-place-test.true) c.in_ok-gather_instance.ensures.added;
}
