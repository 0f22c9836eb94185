use Rattle.std.proofs.Common.{ap, ◌∙◌, Some, slice_get}
use Rattle.jh_form.specs.Tree.{of_object}
use Rattle.jh_form.specs.Tree as t
use Rattle.jh_arena.specs.table.Entries.{the_object}
use Rattle.jh_arena.specs.table.Nodes.{nodes}
use Rattle.jh_arena.proofs.table.NodeSteps.{fits-Null, tree-Null, fits-EqObject, tree-EqObject, fits-Negation, tree-Negation}
use Rattle.jh_command_terms.proofs.terms.CheckSteps.{object-listed, if-ok}
use Rattle.jh_command_terms.proofs.terms.checks.not_null.Goals as goal

pub make-requires : goal.make-requires
make-requires c = fits-Null c.args.table.now.pools (nodes c.args.table.now)

pub make-requires-2 : goal.make-requires-2
make-requires-2 c =
    let t0 = c.args.table.now in
    let t1 = c.make.new.self in
    let a = the_object (slice_get (nodes t0) c.args.object) in
    fits-EqObject t1.pools (nodes t1) c.args.object c.in_ok-null.null a t.null (c.make.ensures.grows.nodes.keeps c.args.object (of_object a) (object-listed t0 c.args.object c.requires)) (c.in_ok-null.ensures.node ∙ ap Some (tree-Null t0.pools (nodes t0)))

pub make-requires-3 : goal.make-requires-3
make-requires-3 c =
    let t0 = c.args.table.now in
    let t1 = c.make.new.self in
    let t2 = c.make-2.new.self in
    let a = the_object (slice_get (nodes t0) c.args.object) in
    fits-Negation t2.pools (nodes t2) c.in_ok-same.same (t.eq_object a t.null)
    (c.in_ok-same.ensures.node ∙ ap Some (tree-EqObject t1.pools (nodes t1) c.args.object c.in_ok-null.null a t.null (c.make.ensures.grows.nodes.keeps c.args.object (of_object a) (object-listed t0 c.args.object c.requires)) (c.in_ok-null.ensures.node ∙ ap Some (tree-Null t0.pools (nodes t0)))))

pub returns-clause-node : goal.returns-clause-node
returns-clause-node c =
    let t0 = c.args.table.now in
    let t1 = c.make.new.self in
    let t2 = c.make-2.new.self in
    if-ok c.make-3.result
    (λ made node a h. node ∙ ap Some (tree-Negation t2.pools (nodes t2) c.in_ok-same.same (t.eq_object a t.null)
    (c.in_ok-same.ensures.node ∙ ap Some (tree-EqObject t1.pools (nodes t1) c.args.object c.in_ok-null.null a t.null (c.make.ensures.grows.nodes.keeps c.args.object (of_object a) h) (c.in_ok-null.ensures.node ∙ ap Some (tree-Null t0.pools (nodes t0)))))))
    c.make-3.ensures.node
