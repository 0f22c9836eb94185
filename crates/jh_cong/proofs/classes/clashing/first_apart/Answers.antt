use Rattle.std.proofs.Common.{arith}
use Rattle.jh_closure.specs.congruence_closure.Nodes.{Follows}
use Rattle.jh_closure.specs.declared.congruence_closure.equation.Equation.{Equation}
use Rattle.jh_closure.proofs.congruence_closure.Having.{has-at}
use Rattle.jh_cong.proofs.classes.Looking.{looked-all}
use Rattle.jh_cong.proofs.classes.clashing.first_apart.Goals as goal

pub same-requires-clause-left : goal.same-requires-clause-left
same-requires-clause-left c = c.requires.left c.pair_at-pair.result (has-at c.args.pairs.now c.loop-place.place c.pair_at-pair.result c.pair_at-pair.ensures)

pub same-requires-clause-right : goal.same-requires-clause-right
same-requires-clause-right c = c.requires.right c.pair_at-pair.result (has-at c.args.pairs.now c.loop-place.place c.pair_at-pair.result c.pair_at-pair.ensures)

pub returns-then-same-clause-some : goal.returns-then-same-clause-some
returns-then-same-clause-some c = (has-at c.args.pairs.now c.loop-place.place c.pair_at-pair.result c.pair_at-pair.ensures, c.same.ensures.0 c.if-same.true)

pub returns-clause-none : goal.returns-clause-none
returns-clause-none c = looked-all (λ (e : Equation). Follows c.args.closure.now.nodes c.args.closure.now.said e.left e.right → ⊥) c.args.pairs.now c.loop-place.place (omega (arith, c.loop-place)) c.loop-place.invariant
