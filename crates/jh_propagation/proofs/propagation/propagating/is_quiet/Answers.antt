use Rattle.std.proofs.Common.{arith}
use Rattle.jh_arena.specs.table.Nodes.{nodes}
use Rattle.jh_propagation.proofs.propagation.Resting.{entails-more}
use Rattle.jh_propagation.proofs.propagation.propagating.is_quiet.Goals as goal

pub returns-clause-enough : goal.returns-clause-enough
returns-clause-enough c = λ is a b can h.
    let a_classes = c.args.branch.now.classes in
    let le = c.if-enough-known.false in
    entails-more (nodes a_classes.table) a_classes.said c.enough-enough.result c.args.known a b (omega (arith, le)) (c.enough-enough.ensures.enough a b can h)
