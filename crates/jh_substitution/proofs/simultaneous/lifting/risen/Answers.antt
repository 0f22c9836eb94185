use Rattle.std.proofs.Common.{◌≡◌, ◌∙◌, ap, refl, ◌+◌, ◌≤◌, Some, slice_get, arith}
use Rattle.std.proofs.lemmas.Result.{IfOk-weaker}
use Rattle.jh_arena.specs.table.Nodes.{nodes, fits, tree_in}
use Rattle.jh_arena.specs.declared.table.shapes.Shape.TheVariants as s
use Rattle.jh_substitution.specs.rewriting.Rewritten.{leaves_alone}
use Rattle.jh_substitution.specs.rewriting.Walks.{IsRewritten}
use Rattle.jh_substitution.specs.simultaneous.Lifted.{lifting}
use Rattle.jh_substitution.proofs.simultaneous.Liftings.{lifts-below, lifts-loose}
use Rattle.jh_substitution.proofs.simultaneous.lifting.risen.Goals as goal

pub make-requires : goal.make-requires
unfolding fits
make-requires c = refl

pub returns-then-number-depth-clause-node : goal.returns-then-number-depth-clause-node
returns-then-number-depth-clause-node c =
    lifts-below c.args.table.now.pools (nodes c.args.table.now) (nodes c.args.table.now) c.args.by c.args.depth c.args.number c.args.node c.if-number-depth.true c.requires

pub returns-in-Some-clause-node : goal.returns-in-Some-clause-node
returns-in-Some-clause-node c =
    let le : c.args.depth ≤ c.args.number = search arith in
    let sum : c.in-Some.sum ≡ c.args.number + c.args.by = search arith in
    IfOk-weaker
    c.make.result
    (λ node. slice_get (nodes c.make.new.self) node ≡ Some (tree_in c.args.table.now (s.Bound c.in-Some.sum)))
    (λ made. IsRewritten (leaves_alone (lifting c.args.by)) (nodes c.make.new.self) c.args.node c.args.depth made)
    (λ r e. lifts-loose c.args.table.now.pools (nodes c.args.table.now) (nodes c.make.new.self) c.args.by c.args.depth c.args.number c.args.node r le
    (c.make.ensures.grows.nodes.keeps c.args.node (tree_in c.args.table.now (s.Bound c.args.number)) c.requires)
    (e ∙ ap (λ n. Some (tree_in c.args.table.now (s.Bound n))) sum))
    c.make.ensures.node
