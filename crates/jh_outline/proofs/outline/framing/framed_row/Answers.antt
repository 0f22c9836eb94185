use Rattle.std.proofs.Common.{rules}
use Rattle.jh_effects.specs.written_state.Chosen.{places_below}
use Rattle.jh_outline.specs.outline.Framing.{is_framed}
use Rattle.jh_outline.proofs.outline.framing.framed_row.Goals as goal

-- src/framing.rt:70:5
pub loop-member-init : goal.loop-member-init
unfolding places_below
loop-member-init c = search rules

-- src/framing.rt:70:5
pub loop-member-preserved : goal.loop-member-preserved
unfolding places_below
loop-member-preserved c = search rules
