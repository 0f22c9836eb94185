-- Written by tools/premises.py.
use Rattle.std.proofs.Common.{ap, ◌∙◌, Some}
use Rattle.jh_form.specs.Tree.{TermTree, IntTree, SetTree, FieldTree, FormulaTree, of_object, of_number, of_set, of_field, of_truth}
use Rattle.jh_form.specs.Tree as t
use Rattle.jh_arena.specs.table.Nodes.{nodes}
use Rattle.jh_arena.proofs.table.NodeSteps.{fits-Negation, tree-Negation}
use Rattle.jh_derivation_steps.specs.premises.Nodes.{term_at, set_at}
use Rattle.jh_derivation_steps.proofs.premises.Carried.{if-ok, is-term, is-set}
use Rattle.jh_derivation_steps.proofs.premises.making.outside.Goals as goal

pub member-requires-clause-x : goal.member-requires-clause-x
member-requires-clause-x c =
    let t0 = c.args.table.now in
    is-term (nodes t0) c.args.x (term_at (nodes t0) c.args.x) c.requires.x

pub member-requires-clause-a : goal.member-requires-clause-a
member-requires-clause-a c =
    let t0 = c.args.table.now in
    is-set (nodes t0) c.args.a (set_at (nodes t0) c.args.a) c.requires.a

pub make-requires : goal.make-requires
make-requires c =
    let t0 = c.args.table.now in
    let t1 = c.member.new.table in
    fits-Negation t1.pools (nodes t1) c.in_ok-inside.inside (t.member (term_at (nodes t0) c.args.x) (set_at (nodes t0) c.args.a)) (c.in_ok-inside.ensures.made (term_at (nodes t0) c.args.x) (set_at (nodes t0) c.args.a) c.requires.x c.requires.a)

pub returns-clause-made : goal.returns-clause-made
returns-clause-made c =
    let t0 = c.args.table.now in
    let t1 = c.member.new.table in
    if-ok c.make.result (λ made node u v hu hv. node ∙ ap Some (tree-Negation t1.pools (nodes t1) c.in_ok-inside.inside (t.member u v) (c.in_ok-inside.ensures.made u v hu hv))) c.make.ensures.node
