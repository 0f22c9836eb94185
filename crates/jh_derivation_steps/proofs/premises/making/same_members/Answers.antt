-- Written by tools/premises.py.
use Rattle.std.proofs.Common.{ap, ◌∙◌, Some}
use Rattle.jh_form.specs.Tree.{TermTree, IntTree, SetTree, FieldTree, FormulaTree, of_object, of_number, of_set, of_field, of_truth}
use Rattle.jh_form.specs.Tree as t
use Rattle.jh_arena.specs.table.Nodes.{nodes}
use Rattle.jh_arena.proofs.table.NodeSteps.{fits-All, tree-All, fits-Bound, tree-Bound, fits-Iff, tree-Iff}
use Rattle.jh_derivation_steps.specs.premises.Nodes.{set_at}
use Rattle.jh_derivation_steps.proofs.premises.Carried.{if-ok, keeps, is-term, is-set}
use Rattle.jh_derivation_steps.proofs.premises.making.same_members.Goals as goal

pub make-requires : goal.make-requires
make-requires c =
    let t0 = c.args.table.now in
    fits-Bound t0.pools (nodes t0) 0

pub member-requires-clause-x : goal.member-requires-clause-x
member-requires-clause-x c =
    let t0 = c.args.table.now in
    let t1 = c.make.new.self in
    is-term (nodes t1) c.in_ok-object.object (t.bound 0) (c.in_ok-object.ensures.node ∙ ap Some (tree-Bound t0.pools (nodes t0) 0))

pub member-requires-clause-a : goal.member-requires-clause-a
member-requires-clause-a c =
    let t0 = c.args.table.now in
    let t1 = c.make.new.self in
    is-set (nodes t1) c.args.a (set_at (nodes t0) c.args.a) (keeps t0 t1 c.make.ensures.grows c.args.a (of_set (set_at (nodes t0) c.args.a)) c.requires.a)

pub member-requires-2-clause-x : goal.member-requires-2-clause-x
member-requires-2-clause-x c =
    let t0 = c.args.table.now in
    let t1 = c.make.new.self in
    let t2 = c.member.new.table in
    is-term (nodes t2) c.in_ok-object.object (t.bound 0) (keeps t1 t2 c.member.ensures.grows c.in_ok-object.object (of_object (t.bound 0)) (c.in_ok-object.ensures.node ∙ ap Some (tree-Bound t0.pools (nodes t0) 0)))

pub member-requires-2-clause-a : goal.member-requires-2-clause-a
member-requires-2-clause-a c =
    let t0 = c.args.table.now in
    let t1 = c.make.new.self in
    let t2 = c.member.new.table in
    is-set (nodes t2) c.args.b (set_at (nodes t0) c.args.b) (keeps t1 t2 c.member.ensures.grows c.args.b (of_set (set_at (nodes t0) c.args.b)) (keeps t0 t1 c.make.ensures.grows c.args.b (of_set (set_at (nodes t0) c.args.b)) c.requires.b))

pub make-requires-2 : goal.make-requires-2
make-requires-2 c =
    let t0 = c.args.table.now in
    let t1 = c.make.new.self in
    let t2 = c.member.new.table in
    let t3 = c.member-2.new.table in
    fits-Iff t3.pools (nodes t3) c.in_ok-left.left c.in_ok-right.right (t.member (t.bound 0) (set_at (nodes t0) c.args.a)) (t.member (t.bound 0) (set_at (nodes t0) c.args.b)) (keeps t2 t3 c.member-2.ensures.grows c.in_ok-left.left (of_truth (t.member (t.bound 0) (set_at (nodes t0) c.args.a))) (c.in_ok-left.ensures.made (t.bound 0) (set_at (nodes t0) c.args.a) (c.in_ok-object.ensures.node ∙ ap Some (tree-Bound t0.pools (nodes t0) 0)) (keeps t0 t1 c.make.ensures.grows c.args.a (of_set (set_at (nodes t0) c.args.a)) c.requires.a))) (c.in_ok-right.ensures.made (t.bound 0) (set_at (nodes t0) c.args.b) (keeps t1 t2 c.member.ensures.grows c.in_ok-object.object (of_object (t.bound 0)) (c.in_ok-object.ensures.node ∙ ap Some (tree-Bound t0.pools (nodes t0) 0))) (keeps t1 t2 c.member.ensures.grows c.args.b (of_set (set_at (nodes t0) c.args.b)) (keeps t0 t1 c.make.ensures.grows c.args.b (of_set (set_at (nodes t0) c.args.b)) c.requires.b)))

pub make-requires-3 : goal.make-requires-3
make-requires-3 c =
    let t0 = c.args.table.now in
    let t1 = c.make.new.self in
    let t2 = c.member.new.table in
    let t3 = c.member-2.new.table in
    let t4 = c.make-2.new.self in
    fits-All t4.pools (nodes t4) c.in_ok-body.body (t.iff (t.member (t.bound 0) (set_at (nodes t0) c.args.a)) (t.member (t.bound 0) (set_at (nodes t0) c.args.b))) (c.in_ok-body.ensures.node ∙ ap Some (tree-Iff t3.pools (nodes t3) c.in_ok-left.left c.in_ok-right.right (t.member (t.bound 0) (set_at (nodes t0) c.args.a)) (t.member (t.bound 0) (set_at (nodes t0) c.args.b)) (keeps t2 t3 c.member-2.ensures.grows c.in_ok-left.left (of_truth (t.member (t.bound 0) (set_at (nodes t0) c.args.a))) (c.in_ok-left.ensures.made (t.bound 0) (set_at (nodes t0) c.args.a) (c.in_ok-object.ensures.node ∙ ap Some (tree-Bound t0.pools (nodes t0) 0)) (keeps t0 t1 c.make.ensures.grows c.args.a (of_set (set_at (nodes t0) c.args.a)) c.requires.a))) (c.in_ok-right.ensures.made (t.bound 0) (set_at (nodes t0) c.args.b) (keeps t1 t2 c.member.ensures.grows c.in_ok-object.object (of_object (t.bound 0)) (c.in_ok-object.ensures.node ∙ ap Some (tree-Bound t0.pools (nodes t0) 0))) (keeps t1 t2 c.member.ensures.grows c.args.b (of_set (set_at (nodes t0) c.args.b)) (keeps t0 t1 c.make.ensures.grows c.args.b (of_set (set_at (nodes t0) c.args.b)) c.requires.b)))))

pub returns-clause-made : goal.returns-clause-made
returns-clause-made c =
    let t0 = c.args.table.now in
    let t1 = c.make.new.self in
    let t2 = c.member.new.table in
    let t3 = c.member-2.new.table in
    let t4 = c.make-2.new.self in
    if-ok c.make-3.result (λ made node u v hu hv. node ∙ ap Some (tree-All t4.pools (nodes t4) c.in_ok-body.body (t.iff (t.member (t.bound 0) u) (t.member (t.bound 0) v)) (c.in_ok-body.ensures.node ∙ ap Some (tree-Iff t3.pools (nodes t3) c.in_ok-left.left c.in_ok-right.right (t.member (t.bound 0) u) (t.member (t.bound 0) v) (keeps t2 t3 c.member-2.ensures.grows c.in_ok-left.left (of_truth (t.member (t.bound 0) u)) (c.in_ok-left.ensures.made (t.bound 0) u (c.in_ok-object.ensures.node ∙ ap Some (tree-Bound t0.pools (nodes t0) 0)) (keeps t0 t1 c.make.ensures.grows c.args.a (of_set u) hu))) (c.in_ok-right.ensures.made (t.bound 0) v (keeps t1 t2 c.member.ensures.grows c.in_ok-object.object (of_object (t.bound 0)) (c.in_ok-object.ensures.node ∙ ap Some (tree-Bound t0.pools (nodes t0) 0))) (keeps t1 t2 c.member.ensures.grows c.args.b (of_set v) (keeps t0 t1 c.make.ensures.grows c.args.b (of_set v) hv))))))) c.make-3.ensures.node
