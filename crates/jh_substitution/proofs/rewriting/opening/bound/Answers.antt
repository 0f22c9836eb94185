use Rattle.std.proofs.Common.{◌≡◌, ◌-◌, refl, Some, slice_get, arith}
use Rattle.std.proofs.lemmas.Result.{IfOk-weaker}
use Rattle.jh_boxed_operations.specs.substitution.Opened.{opening}
use Rattle.jh_arena.specs.table.Entries.{the_object}
use Rattle.jh_arena.specs.table.Nodes.{nodes, fits, tree_in}
use Rattle.jh_arena.specs.declared.table.shapes.Shape.TheVariants as s
use Rattle.jh_substitution.specs.rewriting.Rewritten.{leaves_alone}
use Rattle.jh_substitution.specs.rewriting.Walks.{IsRewritten}
use Rattle.jh_substitution.proofs.rewriting.OpeningRules.{opening-below, opening-at, opening-beyond}
use Rattle.jh_substitution.proofs.rewriting.Sorted.{object-listed}
use Rattle.jh_substitution.proofs.rewriting.opening.bound.Goals as goal

pub make-requires : goal.make-requires
unfolding fits
make-requires c = refl

pub returns-then-number-depth-clause-node : goal.returns-then-number-depth-clause-node
returns-then-number-depth-clause-node c =
    opening-below c.args.table.now.pools (nodes c.args.table.now) (nodes c.args.table.now) (the_object (slice_get (nodes c.args.table.now) c.args.with)) c.args.depth c.args.number c.args.node c.if-number-depth.true c.requires.there

pub returns-then-number-depth-2-clause-node : goal.returns-then-number-depth-2-clause-node
returns-then-number-depth-2-clause-node c =
    opening-at c.args.table.now.pools (nodes c.args.table.now) (nodes c.args.table.now) (the_object (slice_get (nodes c.args.table.now) c.args.with)) c.args.depth c.args.number c.args.node c.args.with c.if-number-depth-2.true c.requires.there (object-listed (slice_get (nodes c.args.table.now) c.args.with) c.requires.with)

pub returns-else-number-depth-2-clause-node : goal.returns-else-number-depth-2-clause-node
returns-else-number-depth-2-clause-node c =
    IfOk-weaker
    c.make.result
    (λ node. slice_get (nodes c.make.new.self) node ≡ Some (tree_in c.args.table.now (s.Bound (c.args.number - 1))))
    (λ made. IsRewritten (leaves_alone (opening (the_object (slice_get (nodes c.make.new.self) c.args.with)))) (nodes c.make.new.self) c.args.node c.args.depth made)
    (λ r e. opening-beyond c.args.table.now.pools (nodes c.args.table.now) (nodes c.make.new.self) (the_object (slice_get (nodes c.make.new.self) c.args.with)) c.args.depth c.args.number c.args.node r (omega arith) (c.make.ensures.grows.nodes.keeps c.args.node (tree_in c.args.table.now (s.Bound c.args.number)) c.requires.there) e)
    c.make.ensures.node
