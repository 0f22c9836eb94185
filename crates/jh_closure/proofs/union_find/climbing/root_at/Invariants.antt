use Rattle.std.proofs.Common.{◌≡◌, ◌<◌, ◌-◌, ℕ, length, slice_index}
use Rattle.jh_closure.specs.union_find.Merges.{root}
use Rattle.jh_closure.proofs.union_find.climbing.root_at.Given as goal

abbrev pub invariant-loop-at : goal.invariant-loop-at
invariant-loop-at l = record {
  inside : l.at < length l.stamps;
  same : root l.merges l.time l.at ≡ root l.merges l.time l.number;
}

abbrev pub decreases-loop-at : goal.decreases-loop-at
decreases-loop-at l = l.time - slice_index l.stamps l.at
