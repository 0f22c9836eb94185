use Rattle.std.proofs.Common.{◌≡◌, map, take}
use Rattle.jh_form.specs.Bare.{formula_tree}
use Rattle.jh_arena.specs.table.Nodes.{nodes}
use Rattle.jh_arena.specs.makers.Joined.{truths_at}
use Rattle.jh_reach.proofs.reaching.boxed.Given as goal

abbrev pub invariant-loop-item : goal.invariant-loop-item
invariant-loop-item l = map formula_tree l.made.items ≡ truths_at (nodes l.table) (take l.item-index l.items)
