-- Written by tools/premises.py.
use Rattle.std.proofs.Common.{ap, ◌∙◌, Some}
use Rattle.jh_form.specs.Tree.{TermTree, IntTree, SetTree, FieldTree, FormulaTree, of_object, of_number, of_set, of_field, of_truth}
use Rattle.jh_form.specs.Tree as t
use Rattle.jh_arena.specs.table.Nodes.{nodes}
use Rattle.jh_arena.proofs.table.NodeSteps.{fits-All, tree-All}
use Rattle.jh_derivation_steps.specs.premises.Nodes.{formula_at}
use Rattle.jh_derivation_steps.proofs.premises.Carried.{if-ok, is-formula}
use Rattle.jh_derivation_steps.proofs.premises.making.never.Goals as goal

pub negation-requires : goal.negation-requires
negation-requires c =
    let t0 = c.args.table.now in
    record { a = is-formula (nodes t0) c.args.a (formula_at (nodes t0) c.args.a) c.requires.a }

pub make-requires : goal.make-requires
make-requires c =
    let t0 = c.args.table.now in
    let t1 = c.negation.new.table in
    fits-All t1.pools (nodes t1) c.in_ok-body.body (t.negation (formula_at (nodes t0) c.args.a)) (c.in_ok-body.ensures.made (formula_at (nodes t0) c.args.a) c.requires.a)

pub returns-clause-made : goal.returns-clause-made
returns-clause-made c =
    let t0 = c.args.table.now in
    let t1 = c.negation.new.table in
    if-ok c.make.result (λ made node u hu. node ∙ ap Some (tree-All t1.pools (nodes t1) c.in_ok-body.body (t.negation u) (c.in_ok-body.ensures.made u hu))) c.make.ensures.node
