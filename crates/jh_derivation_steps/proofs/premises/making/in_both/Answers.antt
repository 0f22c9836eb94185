-- Written by tools/premises.py.
use Rattle.std.proofs.Common.{ap, ◌∙◌, Some}
use Rattle.jh_form.specs.Tree.{TermTree, IntTree, SetTree, FieldTree, FormulaTree, of_object, of_number, of_set, of_field, of_truth}
use Rattle.jh_form.specs.Tree as t
use Rattle.jh_arena.specs.table.Nodes.{nodes}
use Rattle.jh_arena.proofs.table.NodeSteps.{fits-And, tree-And}
use Rattle.jh_derivation_steps.specs.premises.Nodes.{term_at, set_at}
use Rattle.jh_derivation_steps.proofs.premises.Carried.{if-ok, keeps, is-term, is-set}
use Rattle.jh_derivation_steps.proofs.premises.making.in_both.Goals as goal

pub member-requires-clause-x : goal.member-requires-clause-x
member-requires-clause-x c =
    let t0 = c.args.table.now in
    is-term (nodes t0) c.args.x (term_at (nodes t0) c.args.x) c.requires.x

pub member-requires-clause-a : goal.member-requires-clause-a
member-requires-clause-a c =
    let t0 = c.args.table.now in
    is-set (nodes t0) c.args.a (set_at (nodes t0) c.args.a) c.requires.a

pub member-requires-2-clause-x : goal.member-requires-2-clause-x
member-requires-2-clause-x c =
    let t0 = c.args.table.now in
    let t1 = c.member.new.table in
    is-term (nodes t1) c.args.x (term_at (nodes t0) c.args.x) (keeps t0 t1 c.member.ensures.grows c.args.x (of_object (term_at (nodes t0) c.args.x)) c.requires.x)

pub member-requires-2-clause-a : goal.member-requires-2-clause-a
member-requires-2-clause-a c =
    let t0 = c.args.table.now in
    let t1 = c.member.new.table in
    is-set (nodes t1) c.args.b (set_at (nodes t0) c.args.b) (keeps t0 t1 c.member.ensures.grows c.args.b (of_set (set_at (nodes t0) c.args.b)) c.requires.b)

pub make-requires : goal.make-requires
make-requires c =
    let t0 = c.args.table.now in
    let t1 = c.member.new.table in
    let t2 = c.member-2.new.table in
    fits-And t2.pools (nodes t2) c.in_ok-left.left c.in_ok-right.right (t.member (term_at (nodes t0) c.args.x) (set_at (nodes t0) c.args.a)) (t.member (term_at (nodes t0) c.args.x) (set_at (nodes t0) c.args.b)) (keeps t1 t2 c.member-2.ensures.grows c.in_ok-left.left (of_truth (t.member (term_at (nodes t0) c.args.x) (set_at (nodes t0) c.args.a))) (c.in_ok-left.ensures.made (term_at (nodes t0) c.args.x) (set_at (nodes t0) c.args.a) c.requires.x c.requires.a)) (c.in_ok-right.ensures.made (term_at (nodes t0) c.args.x) (set_at (nodes t0) c.args.b) (keeps t0 t1 c.member.ensures.grows c.args.x (of_object (term_at (nodes t0) c.args.x)) c.requires.x) (keeps t0 t1 c.member.ensures.grows c.args.b (of_set (set_at (nodes t0) c.args.b)) c.requires.b))

pub returns-clause-made : goal.returns-clause-made
returns-clause-made c =
    let t0 = c.args.table.now in
    let t1 = c.member.new.table in
    let t2 = c.member-2.new.table in
    if-ok c.make.result (λ made node u v w hu hv hw. node ∙ ap Some (tree-And t2.pools (nodes t2) c.in_ok-left.left c.in_ok-right.right (t.member u v) (t.member u w) (keeps t1 t2 c.member-2.ensures.grows c.in_ok-left.left (of_truth (t.member u v)) (c.in_ok-left.ensures.made u v hu hv)) (c.in_ok-right.ensures.made u w (keeps t0 t1 c.member.ensures.grows c.args.x (of_object u) hu) (keeps t0 t1 c.member.ensures.grows c.args.b (of_set w) hw)))) c.make.ensures.node
