use Rattle.std.proofs.Common.{◌≡◌, ◌-◌, ◌≤◌, ◌<◌, Some, length, map, slice_get, slice_index_or, arith}
use Rattle.std.proofs.lemmas.Result.{IfOk-weaker}
use Rattle.jh_form.specs.Tree.{of_object}
use Rattle.jh_form.specs.Tree as t
use Rattle.jh_arena.specs.table.Nodes.{nodes, tree_in}
use Rattle.jh_arena.specs.declared.table.shapes.Shape.TheVariants as s
use Rattle.jh_substitution.specs.rewriting.Rewritten.{leaves_alone}
use Rattle.jh_substitution.specs.rewriting.Walks.{IsRewritten}
use Rattle.jh_seq.specs.splitting.Split.{constant, closing}
use Rattle.jh_instantiation.proofs.skolem_constants.Closings.{closes-below, closes-at, constant-there, constant-none, at-place}
use Rattle.jh_instantiation.proofs.skolem_constants.closing.bound.Goals as goal

pub returns-then-number-depth-clause-node : goal.returns-then-number-depth-clause-node
returns-then-number-depth-clause-node c =
    closes-below c.args.table.now.pools (nodes c.args.table.now) (nodes c.args.table.now) (map constant c.args.turns.now) c.args.depth c.args.number c.args.node c.if-number-depth.true c.requires.there

pub returns-then-place-turns-clause-node : goal.returns-then-place-turns-clause-node
returns-then-place-turns-clause-node c =
    let turn = slice_index_or c.args.turns.now (c.args.number - c.args.depth) 0 in
    let lt : c.args.number - c.args.depth < length c.args.turns.now = search arith in
    let le : c.args.depth ≤ c.args.number = search arith in
    IfOk-weaker
    c.constant_of.result
    (λ made. slice_get (nodes c.constant_of.new.table) made ≡ Some (of_object (t.free_object (constant turn))))
    (λ made. IsRewritten (leaves_alone (closing (map constant c.args.turns.now))) (nodes c.constant_of.new.table) c.args.node c.args.depth made)
    (λ r e. closes-at c.args.table.now.pools (nodes c.args.table.now) (nodes c.constant_of.new.table) (map constant c.args.turns.now) c.args.depth c.args.number c.args.node r (t.free_object (constant turn)) le
    (constant-there c.args.turns.now (c.args.number - c.args.depth) turn (at-place c.args.turns.now (c.args.number - c.args.depth) 0 lt))
    (c.constant_of.ensures.grows.nodes.keeps c.args.node (tree_in c.args.table.now (s.Bound c.args.number)) c.requires.there) e)
    c.constant_of.ensures.node

pub returns-else-place-turns-clause-node : goal.returns-else-place-turns-clause-node
returns-else-place-turns-clause-node c =
    let far : length c.args.turns.now ≤ c.args.number - c.args.depth = search arith in
    let le : c.args.depth ≤ c.args.number = search arith in
    IfOk-weaker
    c.null.result
    (λ made. slice_get (nodes c.null.new.table) made ≡ Some (of_object t.null))
    (λ made. IsRewritten (leaves_alone (closing (map constant c.args.turns.now))) (nodes c.null.new.table) c.args.node c.args.depth made)
    (λ r e. closes-at c.args.table.now.pools (nodes c.args.table.now) (nodes c.null.new.table) (map constant c.args.turns.now) c.args.depth c.args.number c.args.node r t.null le
    (constant-none c.args.turns.now (c.args.number - c.args.depth) far)
    (c.null.ensures.grows.nodes.keeps c.args.node (tree_in c.args.table.now (s.Bound c.args.number)) c.requires.there) e)
    c.null.ensures.node
