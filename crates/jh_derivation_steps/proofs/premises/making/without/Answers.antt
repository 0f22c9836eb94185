-- Written by tools/premises.py.
use Rattle.std.proofs.Common.{ap, ◌∙◌, Some}
use Rattle.jh_form.specs.Tree.{TermTree, IntTree, SetTree, FieldTree, FormulaTree, of_object, of_number, of_set, of_field, of_truth}
use Rattle.jh_form.specs.Tree as t
use Rattle.jh_arena.specs.table.Nodes.{nodes}
use Rattle.jh_arena.proofs.table.NodeSteps.{fits-And, tree-And}
use Rattle.jh_derivation_steps.specs.premises.Nodes.{formula_at}
use Rattle.jh_derivation_steps.proofs.premises.Carried.{if-ok, keeps, is-formula}
use Rattle.jh_derivation_steps.proofs.premises.making.without.Goals as goal

pub negation-requires : goal.negation-requires
negation-requires c =
    let t0 = c.args.table.now in
    record { a = is-formula (nodes t0) c.args.b (formula_at (nodes t0) c.args.b) c.requires.b }

pub make-requires : goal.make-requires
make-requires c =
    let t0 = c.args.table.now in
    let t1 = c.negation.new.table in
    fits-And t1.pools (nodes t1) c.args.a c.in_ok-right.right (formula_at (nodes t0) c.args.a) (t.negation (formula_at (nodes t0) c.args.b)) (keeps t0 t1 c.negation.ensures.grows c.args.a (of_truth (formula_at (nodes t0) c.args.a)) c.requires.a) (c.in_ok-right.ensures.made (formula_at (nodes t0) c.args.b) c.requires.b)

pub returns-clause-made : goal.returns-clause-made
returns-clause-made c =
    let t0 = c.args.table.now in
    let t1 = c.negation.new.table in
    if-ok c.make.result (λ made node u v hu hv. node ∙ ap Some (tree-And t1.pools (nodes t1) c.args.a c.in_ok-right.right u (t.negation v) (keeps t0 t1 c.negation.ensures.grows c.args.a (of_truth u) hu) (c.in_ok-right.ensures.made v hv))) c.make.ensures.node
