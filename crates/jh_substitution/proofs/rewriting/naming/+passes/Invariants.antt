use Rattle.std.proofs.Common.{◌≡◌, ◌+◌, ◌*◌, drop}
use Rattle.jh_arena.specs.table.Nodes.{nodes}
use Rattle.jh_arena.specs.table.Parts.{parts}
use Rattle.jh_arena.specs.table.Facing.{all_pass}
use Rattle.jh_substitution.specs.rewriting.Passed.{Passed}
use Rattle.jh_substitution.specs.rewriting.Seen.{has}
use Rattle.jh_substitution.proofs.rewriting.naming.+passes.Given as goal

-- a shape is looked at after its node, and its parts have smaller numbers
abbrev pub decreases-passes : goal.decreases-passes
decreases-passes g l = 2 * l.node + 1

abbrev pub decreases-shape_passes : goal.decreases-shape_passes
decreases-shape_passes g l = 2 * l.node

-- the parts so far pass
abbrev pub invariant-shape_passes-loop-index : goal.invariant-shape_passes-loop-index
invariant-shape_passes-loop-index g l = record {
  seen : Passed (g.T.NameTest.test l.test) (nodes l.table) (has l.seen.nodes);
  rest : all_pass (g.T.NameTest.test l.test) (nodes l.table) (parts l.table.pools.lists l.shape) ≡ all_pass (g.T.NameTest.test l.test) (nodes l.table) (drop l.index (parts l.table.pools.lists l.shape));
}
