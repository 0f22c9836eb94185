use Rattle.std.proofs.Common.{◌≡◌, ◌∙◌, sym, ap, subst, refl, ◌-◌, ◌≤◌, ◌<◌, List, Some, length, slice_get, slice_index_or, arith}
use Rattle.std.proofs.lemmas.Result.{IfOk-weaker}
use Rattle.jh_form.specs.Tree.{TermTree}
use Rattle.jh_arena.specs.table.Entries.{the_object}
use Rattle.jh_arena.specs.table.Nodes.{nodes, fits, tree_in}
use Rattle.jh_arena.specs.declared.table.shapes.Shape.TheVariants as s
use Rattle.jh_substitution.specs.rewriting.Rewritten.{leaves_alone}
use Rattle.jh_substitution.specs.rewriting.Walks.{IsRewritten}
use Rattle.jh_substitution.specs.simultaneous.OpenedAll.{opening_all, objects_at}
use Rattle.jh_substitution.specs.simultaneous.OpeningStays.{objects-grow}
use Rattle.jh_substitution.proofs.simultaneous.Openings.{opens-below, opens-at, opens-beyond, object-at, object-there, object-none, object-length, at-place}
use Rattle.jh_substitution.proofs.simultaneous.opening.bound.Goals as goal

pub make-requires : goal.make-requires
unfolding fits
make-requires c = refl

pub returns-then-number-depth-clause-node : goal.returns-then-number-depth-clause-node
returns-then-number-depth-clause-node c =
    opens-below c.args.table.now.pools (nodes c.args.table.now) (nodes c.args.table.now) (objects_at (nodes c.args.table.now) c.args.with.now) c.args.depth c.args.number c.args.node c.if-number-depth.true c.requires.there

pub returns-then-place-with-clause-node : goal.returns-then-place-with-clause-node
returns-then-place-with-clause-node c =
    let item = slice_index_or c.args.with.now (c.args.number - c.args.depth) 0 in
    let lt : c.args.number - c.args.depth < length c.args.with.now = search arith in
    let le : c.args.depth ≤ c.args.number = search arith in
    let at : slice_get c.args.with.now (c.args.number - c.args.depth) ≡ Some item = at-place c.args.with.now (c.args.number - c.args.depth) 0 lt in
    opens-at c.args.table.now.pools (nodes c.args.table.now) (nodes c.args.table.now) (objects_at (nodes c.args.table.now) c.args.with.now) c.args.depth c.args.number c.args.node item (the_object (slice_get (nodes c.args.table.now) item)) le
    (object-at (nodes c.args.table.now) c.args.with.now (c.args.number - c.args.depth) item at) c.requires.there (object-there (nodes c.args.table.now) c.args.with.now (c.args.number - c.args.depth) item c.requires.with at)

pub returns-else-place-with-clause-node : goal.returns-else-place-with-clause-node
returns-else-place-with-clause-node c =
    let old = objects_at (nodes c.args.table.now) c.args.with.now in
    let far : length c.args.with.now ≤ c.args.number - c.args.depth = search arith in
    let le : c.args.depth ≤ c.args.number = search arith in
    let same : objects_at (nodes c.make.new.self) c.args.with.now ≡ old = objects-grow c.args.table.now c.make.new.self c.make.ensures.grows c.args.with.now c.requires.with in
    IfOk-weaker
    c.make.result
    (λ node. slice_get (nodes c.make.new.self) node ≡ Some (tree_in c.args.table.now (s.Bound (c.args.number - length c.args.with.now))))
    (λ made. IsRewritten (leaves_alone (opening_all (objects_at (nodes c.make.new.self) c.args.with.now))) (nodes c.make.new.self) c.args.node c.args.depth made)
    (λ r e. subst (λ (ws : List TermTree). IsRewritten (leaves_alone (opening_all ws)) (nodes c.make.new.self) c.args.node c.args.depth r) (sym same)
    (opens-beyond c.args.table.now.pools (nodes c.args.table.now) (nodes c.make.new.self) old c.args.depth c.args.number c.args.node r le
    (object-none (nodes c.args.table.now) c.args.with.now (c.args.number - c.args.depth) far)
    (c.make.ensures.grows.nodes.keeps c.args.node (tree_in c.args.table.now (s.Bound c.args.number)) c.requires.there)
    (e ∙ ap (λ n. Some (tree_in c.args.table.now (s.Bound (c.args.number - n)))) (sym (object-length (nodes c.args.table.now) c.args.with.now)))))
    c.make.ensures.node
