use Rattle.std.proofs.Common.{ℕ, arith}
use Rattle.jh_closure.specs.congruence_closure.Nodes.{Has}
use Rattle.jh_closure.proofs.congruence_closure.Having.{has-at}
use Rattle.jh_arena.specs.table.Nodes.{nodes}
use Rattle.jh_cong.specs.flattening.TreeValues.{AreApart}
use Rattle.jh_cong.specs.classes.Saying.{pair_of, tree_at}
use Rattle.jh_cong.proofs.classes.Looking.{looked-all}
use Rattle.jh_cong.proofs.classes.apart.add_pairs.Goals as goal

pub add_pair-requires-clause-right : goal.add_pair-requires-clause-right
add_pair-requires-clause-right c = c.requires.listed.inside c.node_at.result (has-at c.args.listed.now c.loop-place.place c.node_at.result c.node_at.ensures)

pub add_pair-requires-clause-right_constant : goal.add_pair-requires-clause-right_constant
add_pair-requires-clause-right_constant c = c.requires.listed.right c.node_at.result (has-at c.args.listed.now c.loop-place.place c.node_at.result c.node_at.ensures)

pub returns-clause-covers : goal.returns-clause-covers
returns-clause-covers c =
    looked-all (λ (k : ℕ). AreApart (tree_at (nodes c.args.table.now) c.args.node) (tree_at (nodes c.args.table.now) k) → Has c.loop-place.pairs.items (pair_of c.args.node k)) c.args.listed.now c.loop-place.place (omega (arith, c.loop-place)) c.loop-place.invariant.covers
