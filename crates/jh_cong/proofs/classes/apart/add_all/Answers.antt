use Rattle.std.proofs.Common.{ℕ, arith}
use Rattle.jh_closure.specs.congruence_closure.Nodes.{Has}
use Rattle.jh_closure.proofs.congruence_closure.Having.{has-at}
use Rattle.jh_arena.specs.table.Nodes.{nodes}
use Rattle.jh_cong.specs.flattening.TreeValues.{AreApart}
use Rattle.jh_cong.specs.classes.Saying.{pair_of, tree_at}
use Rattle.jh_cong.proofs.classes.Looking.{looked-all}
use Rattle.jh_cong.proofs.classes.apart.add_all.Goals as goal

pub add_pairs-requires-clause-node : goal.add_pairs-requires-clause-node
add_pairs-requires-clause-node c = has-at c.args.listed.now c.loop-place.place c.node_at.result c.node_at.ensures

pub returns-clause-covers : goal.returns-clause-covers
returns-clause-covers c m k hm hk a =
    looked-all (λ (m : ℕ). (k : ℕ) → Has c.args.listed.now k → AreApart (tree_at (nodes c.args.table.now) m) (tree_at (nodes c.args.table.now) k) → Has c.loop-place.pairs.items (pair_of m k)) c.args.listed.now c.loop-place.place (omega (arith, c.loop-place))
    (λ i n l e j. c.loop-place.invariant.covers i n j l e) m hm k hk a
