use Rattle.std.proofs.Common.{sym, ap, subst, ◌∙◌, List, length, slice_get}
use Rattle.jh_boxed_calls.specs.declared.interpretations.slots.Slot.{Slot}
use Rattle.jh_boxed_calls.specs.interpretations.Interps.{AreSlots}
use Rattle.jh_boxed_calls.proofs.interpretations.Listings.{length-pushed, slots-more}
use Rattle.jh_boxed_calls.proofs.interpretations.listed.all_slots.Goals as goal

pub loop-number-preserved : goal.loop-number-preserved
loop-number-preserved c =
    let known = c.loop-number.invariant in
    let old = c.loop-number.slots.items in
    let names = c.args.table.now.pools.names in
    let slot = c.slot_of-slot.result in
    record {
      counted = ap length c.in_ok-push.ensures.items ∙ length-pushed old slot c.loop-number.number known.counted;
      known = subst (λ (ss : List Slot). AreSlots c.args.interp.now names ss) (sym c.in_ok-push.ensures.items)
          (slots-more c.args.interp.now names old slot c.name_at.result.now (ap (slice_get names) known.counted ∙ c.name_at.ensures) c.slot_of-slot.ensures known.known);
    }
