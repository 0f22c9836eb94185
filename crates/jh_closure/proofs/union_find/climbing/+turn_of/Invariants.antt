use Rattle.std.proofs.Common.{◌+◌, ◌-◌, slice_index}
use Rattle.jh_closure.proofs.union_find.climbing.+turn_of.Given as goal

abbrev pub decreases-turn_of : goal.decreases-turn_of
decreases-turn_of l = l.before - slice_index l.stamps.now l.left + (l.before - slice_index l.stamps.now l.right)
