-- Written by tools/premises.py.
use Rattle.std.proofs.Common.{ap, ◌∙◌, Some}
use Rattle.jh_form.specs.Tree.{TermTree, IntTree, SetTree, FieldTree, FormulaTree, of_object, of_number, of_set, of_field, of_truth}
use Rattle.jh_form.specs.Tree as t
use Rattle.jh_arena.specs.table.Nodes.{nodes}
use Rattle.jh_arena.proofs.table.NodeSteps.{fits-Iff, tree-Iff, fits-ReadTruth, tree-ReadTruth}
use Rattle.jh_derivation_steps.specs.premises.Nodes.{term_at, field_at}
use Rattle.jh_derivation_steps.proofs.premises.Carried.{if-ok, keeps}
use Rattle.jh_derivation_steps.proofs.premises.making.same_truths.Goals as goal

pub make-requires : goal.make-requires
make-requires c =
    let t0 = c.args.table.now in
    fits-ReadTruth t0.pools (nodes t0) c.args.f c.args.a (field_at (nodes t0) c.args.f) (term_at (nodes t0) c.args.a) c.requires.f c.requires.a

pub make-requires-2 : goal.make-requires-2
make-requires-2 c =
    let t0 = c.args.table.now in
    let t1 = c.make.new.self in
    fits-ReadTruth t1.pools (nodes t1) c.args.f c.args.b (field_at (nodes t0) c.args.f) (term_at (nodes t0) c.args.b) (keeps t0 t1 c.make.ensures.grows c.args.f (of_field (field_at (nodes t0) c.args.f)) c.requires.f) (keeps t0 t1 c.make.ensures.grows c.args.b (of_object (term_at (nodes t0) c.args.b)) c.requires.b)

pub make-requires-3 : goal.make-requires-3
make-requires-3 c =
    let t0 = c.args.table.now in
    let t1 = c.make.new.self in
    let t2 = c.make-2.new.self in
    fits-Iff t2.pools (nodes t2) c.in_ok-left.left c.in_ok-right.right (t.read_truth (field_at (nodes t0) c.args.f) (term_at (nodes t0) c.args.a)) (t.read_truth (field_at (nodes t0) c.args.f) (term_at (nodes t0) c.args.b)) (keeps t1 t2 c.make-2.ensures.grows c.in_ok-left.left (of_truth (t.read_truth (field_at (nodes t0) c.args.f) (term_at (nodes t0) c.args.a))) (c.in_ok-left.ensures.node ∙ ap Some (tree-ReadTruth t0.pools (nodes t0) c.args.f c.args.a (field_at (nodes t0) c.args.f) (term_at (nodes t0) c.args.a) c.requires.f c.requires.a))) (c.in_ok-right.ensures.node ∙ ap Some (tree-ReadTruth t1.pools (nodes t1) c.args.f c.args.b (field_at (nodes t0) c.args.f) (term_at (nodes t0) c.args.b) (keeps t0 t1 c.make.ensures.grows c.args.f (of_field (field_at (nodes t0) c.args.f)) c.requires.f) (keeps t0 t1 c.make.ensures.grows c.args.b (of_object (term_at (nodes t0) c.args.b)) c.requires.b)))

pub returns-clause-made : goal.returns-clause-made
returns-clause-made c =
    let t0 = c.args.table.now in
    let t1 = c.make.new.self in
    let t2 = c.make-2.new.self in
    if-ok c.make-3.result (λ made node u v w hu hv hw. node ∙ ap Some (tree-Iff t2.pools (nodes t2) c.in_ok-left.left c.in_ok-right.right (t.read_truth u v) (t.read_truth u w) (keeps t1 t2 c.make-2.ensures.grows c.in_ok-left.left (of_truth (t.read_truth u v)) (c.in_ok-left.ensures.node ∙ ap Some (tree-ReadTruth t0.pools (nodes t0) c.args.f c.args.a u v hu hv))) (c.in_ok-right.ensures.node ∙ ap Some (tree-ReadTruth t1.pools (nodes t1) c.args.f c.args.b u w (keeps t0 t1 c.make.ensures.grows c.args.f (of_field u) hu) (keeps t0 t1 c.make.ensures.grows c.args.b (of_object w) hw))))) c.make-3.ensures.node
