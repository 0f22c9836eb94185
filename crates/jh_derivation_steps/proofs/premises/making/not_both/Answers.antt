-- Written by tools/premises.py.
use Rattle.std.proofs.Common.{ap, ◌∙◌, Some}
use Rattle.jh_form.specs.Tree.{TermTree, IntTree, SetTree, FieldTree, FormulaTree, of_object, of_number, of_set, of_field, of_truth}
use Rattle.jh_form.specs.Tree as t
use Rattle.jh_arena.specs.table.Nodes.{nodes}
use Rattle.jh_arena.proofs.table.NodeSteps.{fits-Or, tree-Or}
use Rattle.jh_derivation_steps.specs.premises.Nodes.{formula_at}
use Rattle.jh_derivation_steps.proofs.premises.Carried.{if-ok, keeps, is-formula}
use Rattle.jh_derivation_steps.proofs.premises.making.not_both.Goals as goal

pub negation-requires : goal.negation-requires
negation-requires c =
    let t0 = c.args.table.now in
    record { a = is-formula (nodes t0) c.args.a (formula_at (nodes t0) c.args.a) c.requires.a }

pub negation-requires-2 : goal.negation-requires-2
negation-requires-2 c =
    let t0 = c.args.table.now in
    let t1 = c.negation.new.table in
    record { a = is-formula (nodes t1) c.args.b (formula_at (nodes t0) c.args.b) (keeps t0 t1 c.negation.ensures.grows c.args.b (of_truth (formula_at (nodes t0) c.args.b)) c.requires.b) }

pub make-requires : goal.make-requires
make-requires c =
    let t0 = c.args.table.now in
    let t1 = c.negation.new.table in
    let t2 = c.negation-2.new.table in
    fits-Or t2.pools (nodes t2) c.in_ok-left.left c.in_ok-right.right (t.negation (formula_at (nodes t0) c.args.a)) (t.negation (formula_at (nodes t0) c.args.b)) (keeps t1 t2 c.negation-2.ensures.grows c.in_ok-left.left (of_truth (t.negation (formula_at (nodes t0) c.args.a))) (c.in_ok-left.ensures.made (formula_at (nodes t0) c.args.a) c.requires.a)) (c.in_ok-right.ensures.made (formula_at (nodes t0) c.args.b) (keeps t0 t1 c.negation.ensures.grows c.args.b (of_truth (formula_at (nodes t0) c.args.b)) c.requires.b))

pub returns-clause-made : goal.returns-clause-made
returns-clause-made c =
    let t0 = c.args.table.now in
    let t1 = c.negation.new.table in
    let t2 = c.negation-2.new.table in
    if-ok c.make.result (λ made node u v hu hv. node ∙ ap Some (tree-Or t2.pools (nodes t2) c.in_ok-left.left c.in_ok-right.right (t.negation u) (t.negation v) (keeps t1 t2 c.negation-2.ensures.grows c.in_ok-left.left (of_truth (t.negation u)) (c.in_ok-left.ensures.made u hu)) (c.in_ok-right.ensures.made v (keeps t0 t1 c.negation.ensures.grows c.args.b (of_truth v) hv)))) c.make.ensures.node
