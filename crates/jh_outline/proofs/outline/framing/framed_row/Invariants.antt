use Rattle.std.proofs.Common.{◌≡◌}
use Rattle.jh_effects.specs.written_state.Chosen.{places_below}
use Rattle.jh_outline.specs.outline.Framing.{is_framed}
use Rattle.jh_outline.proofs.outline.framing.framed_row.Given as goal

abbrev pub invariant-loop-member : goal.invariant-loop-member
invariant-loop-member l = l.row.items ≡ places_below (is_framed l.written l.modified l.sets) l.member
