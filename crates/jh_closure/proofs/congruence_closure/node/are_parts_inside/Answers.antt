use Rattle.std.proofs.Common.{◌<◌, length, arith}
use Rattle.std.proofs.lemmas.Option.{slice_get_within}
use Rattle.jh_closure.specs.congruence_closure.Nodes.{EachPart}
use Rattle.jh_closure.proofs.congruence_closure.Rows.{more-places}
use Rattle.jh_closure.proofs.congruence_closure.node.are_parts_inside.Goals as goal

pub loop-number-preserved : goal.loop-number-preserved
loop-number-preserved c =
    more-places (λ k x. EachPart (λ p. p < length c.args.nodes.now) x) c.args.nodes.now c.loop-number.number c.node_at.result c.node_at.ensures (c.is_inside.ensures c.if-not-is_inside.false) c.loop-number.invariant

pub returns : goal.returns
returns c _ = record { inside = λ k x e. c.loop-number.invariant k x (let l : k < length c.args.nodes.now = slice_get_within c.args.nodes.now k x e in omega (arith, l, c.loop-number)) e }
