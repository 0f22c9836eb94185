use Rattle.std.proofs.Common.{◌≡◌, ◌-◌, ◌^◌, min, true}
use Rattle.jh_arena.specs.table.Nodes.{nodes}
use Rattle.std.proofs.Common.{take}
use Rattle.jh_arena.specs.table.Parts.{parts}
use Rattle.jh_arena.specs.table.Facing.{IsLeast, all_closed, all_pass, marked, turn_below}
use Rattle.jh_arena.proofs.table.Extents.{size_sum, depth_max}
use Rattle.jh_arena.proofs.table.listing.Arena.measured.Given as goal

abbrev pub invariant-loop-index : goal.invariant-loop-index
invariant-loop-index l = record {
  size : l.sum.extent.nodes ≡ min (size_sum (nodes l.self) (take l.index (parts l.self.pools.lists l.shape))) (2 ^ 64 - 1);
  greatest : l.sum.extent.depth ≡ min (depth_max (nodes l.self) (take l.index (parts l.self.pools.lists l.shape))) (2 ^ 64 - 1);
  loose : IsLeast (λ d. all_closed d (nodes l.self) (take l.index (parts l.self.pools.lists l.shape))) l.sum.loose;
  names : all_pass (marked l.self.pools.names l.sum.names) (nodes l.self) (take l.index (parts l.self.pools.lists l.shape)) ≡ true;
  turn : IsLeast (λ m. all_pass (turn_below m) (nodes l.self) (take l.index (parts l.self.pools.lists l.shape))) l.sum.turn;
}
