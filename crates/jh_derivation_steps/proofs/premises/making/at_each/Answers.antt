-- Written by tools/premises.py.
use Rattle.std.proofs.Common.{ap, ◌∙◌, Some}
use Rattle.jh_form.specs.Tree.{TermTree, IntTree, SetTree, FieldTree, FormulaTree, of_object, of_number, of_set, of_field, of_truth}
use Rattle.jh_form.specs.Tree as t
use Rattle.jh_arena.specs.table.Nodes.{nodes}
use Rattle.jh_arena.proofs.table.NodeSteps.{fits-All, tree-All, fits-And, tree-And, fits-Bound, tree-Bound, fits-EqObject, tree-EqObject, fits-Implies, tree-Implies}
use Rattle.jh_derivation_steps.specs.premises.Nodes.{formula_at, term_at}
use Rattle.jh_derivation_steps.proofs.premises.Carried.{if-ok, keeps, is-formula}
use Rattle.jh_derivation_steps.proofs.premises.making.at_each.Goals as goal

pub make-requires : goal.make-requires
make-requires c =
    let t0 = c.args.table.now in
    fits-Bound t0.pools (nodes t0) 0

pub make-requires-2 : goal.make-requires-2
make-requires-2 c =
    let t0 = c.args.table.now in
    let t1 = c.make.new.self in
    fits-EqObject t1.pools (nodes t1) c.in_ok-object.object c.args.at (t.bound 0) (term_at (nodes t0) c.args.at) (c.in_ok-object.ensures.node ∙ ap Some (tree-Bound t0.pools (nodes t0) 0)) (keeps t0 t1 c.make.ensures.grows c.args.at (of_object (term_at (nodes t0) c.args.at)) c.requires.at)

pub make-requires-3 : goal.make-requires-3
make-requires-3 c =
    let t0 = c.args.table.now in
    let t1 = c.make.new.self in
    let t2 = c.make-2.new.self in
    fits-Implies t2.pools (nodes t2) c.in_ok-here.here c.args.a (t.eq_object (t.bound 0) (term_at (nodes t0) c.args.at)) (formula_at (nodes t0) c.args.a) (c.in_ok-here.ensures.node ∙ ap Some (tree-EqObject t1.pools (nodes t1) c.in_ok-object.object c.args.at (t.bound 0) (term_at (nodes t0) c.args.at) (c.in_ok-object.ensures.node ∙ ap Some (tree-Bound t0.pools (nodes t0) 0)) (keeps t0 t1 c.make.ensures.grows c.args.at (of_object (term_at (nodes t0) c.args.at)) c.requires.at))) (keeps t1 t2 c.make-2.ensures.grows c.args.a (of_truth (formula_at (nodes t0) c.args.a)) (keeps t0 t1 c.make.ensures.grows c.args.a (of_truth (formula_at (nodes t0) c.args.a)) c.requires.a))

pub negation-requires : goal.negation-requires
negation-requires c =
    let t0 = c.args.table.now in
    let t1 = c.make.new.self in
    let t2 = c.make-2.new.self in
    let t3 = c.make-3.new.self in
    record { a = is-formula (nodes t3) c.in_ok-here.here (t.eq_object (t.bound 0) (term_at (nodes t0) c.args.at)) (keeps t2 t3 c.make-3.ensures.grows c.in_ok-here.here (of_truth (t.eq_object (t.bound 0) (term_at (nodes t0) c.args.at))) (c.in_ok-here.ensures.node ∙ ap Some (tree-EqObject t1.pools (nodes t1) c.in_ok-object.object c.args.at (t.bound 0) (term_at (nodes t0) c.args.at) (c.in_ok-object.ensures.node ∙ ap Some (tree-Bound t0.pools (nodes t0) 0)) (keeps t0 t1 c.make.ensures.grows c.args.at (of_object (term_at (nodes t0) c.args.at)) c.requires.at)))) }

pub make-requires-4 : goal.make-requires-4
make-requires-4 c =
    let t0 = c.args.table.now in
    let t1 = c.make.new.self in
    let t2 = c.make-2.new.self in
    let t3 = c.make-3.new.self in
    let t4 = c.negation.new.table in
    fits-Implies t4.pools (nodes t4) c.in_ok-elsewhere.elsewhere c.args.b (t.negation (t.eq_object (t.bound 0) (term_at (nodes t0) c.args.at))) (formula_at (nodes t0) c.args.b) (c.in_ok-elsewhere.ensures.made (t.eq_object (t.bound 0) (term_at (nodes t0) c.args.at)) (keeps t2 t3 c.make-3.ensures.grows c.in_ok-here.here (of_truth (t.eq_object (t.bound 0) (term_at (nodes t0) c.args.at))) (c.in_ok-here.ensures.node ∙ ap Some (tree-EqObject t1.pools (nodes t1) c.in_ok-object.object c.args.at (t.bound 0) (term_at (nodes t0) c.args.at) (c.in_ok-object.ensures.node ∙ ap Some (tree-Bound t0.pools (nodes t0) 0)) (keeps t0 t1 c.make.ensures.grows c.args.at (of_object (term_at (nodes t0) c.args.at)) c.requires.at))))) (keeps t3 t4 c.negation.ensures.grows c.args.b (of_truth (formula_at (nodes t0) c.args.b)) (keeps t2 t3 c.make-3.ensures.grows c.args.b (of_truth (formula_at (nodes t0) c.args.b)) (keeps t1 t2 c.make-2.ensures.grows c.args.b (of_truth (formula_at (nodes t0) c.args.b)) (keeps t0 t1 c.make.ensures.grows c.args.b (of_truth (formula_at (nodes t0) c.args.b)) c.requires.b))))

pub make-requires-5 : goal.make-requires-5
make-requires-5 c =
    let t0 = c.args.table.now in
    let t1 = c.make.new.self in
    let t2 = c.make-2.new.self in
    let t3 = c.make-3.new.self in
    let t4 = c.negation.new.table in
    let t5 = c.make-4.new.self in
    fits-And t5.pools (nodes t5) c.in_ok-left.left c.in_ok-right.right (t.implies (t.eq_object (t.bound 0) (term_at (nodes t0) c.args.at)) (formula_at (nodes t0) c.args.a)) (t.implies (t.negation (t.eq_object (t.bound 0) (term_at (nodes t0) c.args.at))) (formula_at (nodes t0) c.args.b)) (keeps t4 t5 c.make-4.ensures.grows c.in_ok-left.left (of_truth (t.implies (t.eq_object (t.bound 0) (term_at (nodes t0) c.args.at)) (formula_at (nodes t0) c.args.a))) (keeps t3 t4 c.negation.ensures.grows c.in_ok-left.left (of_truth (t.implies (t.eq_object (t.bound 0) (term_at (nodes t0) c.args.at)) (formula_at (nodes t0) c.args.a))) (c.in_ok-left.ensures.node ∙ ap Some (tree-Implies t2.pools (nodes t2) c.in_ok-here.here c.args.a (t.eq_object (t.bound 0) (term_at (nodes t0) c.args.at)) (formula_at (nodes t0) c.args.a) (c.in_ok-here.ensures.node ∙ ap Some (tree-EqObject t1.pools (nodes t1) c.in_ok-object.object c.args.at (t.bound 0) (term_at (nodes t0) c.args.at) (c.in_ok-object.ensures.node ∙ ap Some (tree-Bound t0.pools (nodes t0) 0)) (keeps t0 t1 c.make.ensures.grows c.args.at (of_object (term_at (nodes t0) c.args.at)) c.requires.at))) (keeps t1 t2 c.make-2.ensures.grows c.args.a (of_truth (formula_at (nodes t0) c.args.a)) (keeps t0 t1 c.make.ensures.grows c.args.a (of_truth (formula_at (nodes t0) c.args.a)) c.requires.a)))))) (c.in_ok-right.ensures.node ∙ ap Some (tree-Implies t4.pools (nodes t4) c.in_ok-elsewhere.elsewhere c.args.b (t.negation (t.eq_object (t.bound 0) (term_at (nodes t0) c.args.at))) (formula_at (nodes t0) c.args.b) (c.in_ok-elsewhere.ensures.made (t.eq_object (t.bound 0) (term_at (nodes t0) c.args.at)) (keeps t2 t3 c.make-3.ensures.grows c.in_ok-here.here (of_truth (t.eq_object (t.bound 0) (term_at (nodes t0) c.args.at))) (c.in_ok-here.ensures.node ∙ ap Some (tree-EqObject t1.pools (nodes t1) c.in_ok-object.object c.args.at (t.bound 0) (term_at (nodes t0) c.args.at) (c.in_ok-object.ensures.node ∙ ap Some (tree-Bound t0.pools (nodes t0) 0)) (keeps t0 t1 c.make.ensures.grows c.args.at (of_object (term_at (nodes t0) c.args.at)) c.requires.at))))) (keeps t3 t4 c.negation.ensures.grows c.args.b (of_truth (formula_at (nodes t0) c.args.b)) (keeps t2 t3 c.make-3.ensures.grows c.args.b (of_truth (formula_at (nodes t0) c.args.b)) (keeps t1 t2 c.make-2.ensures.grows c.args.b (of_truth (formula_at (nodes t0) c.args.b)) (keeps t0 t1 c.make.ensures.grows c.args.b (of_truth (formula_at (nodes t0) c.args.b)) c.requires.b))))))

pub make-requires-6 : goal.make-requires-6
make-requires-6 c =
    let t0 = c.args.table.now in
    let t1 = c.make.new.self in
    let t2 = c.make-2.new.self in
    let t3 = c.make-3.new.self in
    let t4 = c.negation.new.table in
    let t5 = c.make-4.new.self in
    let t6 = c.make-5.new.self in
    fits-All t6.pools (nodes t6) c.in_ok-body.body (t.and (t.implies (t.eq_object (t.bound 0) (term_at (nodes t0) c.args.at)) (formula_at (nodes t0) c.args.a)) (t.implies (t.negation (t.eq_object (t.bound 0) (term_at (nodes t0) c.args.at))) (formula_at (nodes t0) c.args.b))) (c.in_ok-body.ensures.node ∙ ap Some (tree-And t5.pools (nodes t5) c.in_ok-left.left c.in_ok-right.right (t.implies (t.eq_object (t.bound 0) (term_at (nodes t0) c.args.at)) (formula_at (nodes t0) c.args.a)) (t.implies (t.negation (t.eq_object (t.bound 0) (term_at (nodes t0) c.args.at))) (formula_at (nodes t0) c.args.b)) (keeps t4 t5 c.make-4.ensures.grows c.in_ok-left.left (of_truth (t.implies (t.eq_object (t.bound 0) (term_at (nodes t0) c.args.at)) (formula_at (nodes t0) c.args.a))) (keeps t3 t4 c.negation.ensures.grows c.in_ok-left.left (of_truth (t.implies (t.eq_object (t.bound 0) (term_at (nodes t0) c.args.at)) (formula_at (nodes t0) c.args.a))) (c.in_ok-left.ensures.node ∙ ap Some (tree-Implies t2.pools (nodes t2) c.in_ok-here.here c.args.a (t.eq_object (t.bound 0) (term_at (nodes t0) c.args.at)) (formula_at (nodes t0) c.args.a) (c.in_ok-here.ensures.node ∙ ap Some (tree-EqObject t1.pools (nodes t1) c.in_ok-object.object c.args.at (t.bound 0) (term_at (nodes t0) c.args.at) (c.in_ok-object.ensures.node ∙ ap Some (tree-Bound t0.pools (nodes t0) 0)) (keeps t0 t1 c.make.ensures.grows c.args.at (of_object (term_at (nodes t0) c.args.at)) c.requires.at))) (keeps t1 t2 c.make-2.ensures.grows c.args.a (of_truth (formula_at (nodes t0) c.args.a)) (keeps t0 t1 c.make.ensures.grows c.args.a (of_truth (formula_at (nodes t0) c.args.a)) c.requires.a)))))) (c.in_ok-right.ensures.node ∙ ap Some (tree-Implies t4.pools (nodes t4) c.in_ok-elsewhere.elsewhere c.args.b (t.negation (t.eq_object (t.bound 0) (term_at (nodes t0) c.args.at))) (formula_at (nodes t0) c.args.b) (c.in_ok-elsewhere.ensures.made (t.eq_object (t.bound 0) (term_at (nodes t0) c.args.at)) (keeps t2 t3 c.make-3.ensures.grows c.in_ok-here.here (of_truth (t.eq_object (t.bound 0) (term_at (nodes t0) c.args.at))) (c.in_ok-here.ensures.node ∙ ap Some (tree-EqObject t1.pools (nodes t1) c.in_ok-object.object c.args.at (t.bound 0) (term_at (nodes t0) c.args.at) (c.in_ok-object.ensures.node ∙ ap Some (tree-Bound t0.pools (nodes t0) 0)) (keeps t0 t1 c.make.ensures.grows c.args.at (of_object (term_at (nodes t0) c.args.at)) c.requires.at))))) (keeps t3 t4 c.negation.ensures.grows c.args.b (of_truth (formula_at (nodes t0) c.args.b)) (keeps t2 t3 c.make-3.ensures.grows c.args.b (of_truth (formula_at (nodes t0) c.args.b)) (keeps t1 t2 c.make-2.ensures.grows c.args.b (of_truth (formula_at (nodes t0) c.args.b)) (keeps t0 t1 c.make.ensures.grows c.args.b (of_truth (formula_at (nodes t0) c.args.b)) c.requires.b))))))))

pub returns-clause-made : goal.returns-clause-made
returns-clause-made c =
    let t0 = c.args.table.now in
    let t1 = c.make.new.self in
    let t2 = c.make-2.new.self in
    let t3 = c.make-3.new.self in
    let t4 = c.negation.new.table in
    let t5 = c.make-4.new.self in
    let t6 = c.make-5.new.self in
    if-ok c.make-6.result (λ made node u v w hu hv hw. node ∙ ap Some (tree-All t6.pools (nodes t6) c.in_ok-body.body (t.and (t.implies (t.eq_object (t.bound 0) u) v) (t.implies (t.negation (t.eq_object (t.bound 0) u)) w)) (c.in_ok-body.ensures.node ∙ ap Some (tree-And t5.pools (nodes t5) c.in_ok-left.left c.in_ok-right.right (t.implies (t.eq_object (t.bound 0) u) v) (t.implies (t.negation (t.eq_object (t.bound 0) u)) w) (keeps t4 t5 c.make-4.ensures.grows c.in_ok-left.left (of_truth (t.implies (t.eq_object (t.bound 0) u) v)) (keeps t3 t4 c.negation.ensures.grows c.in_ok-left.left (of_truth (t.implies (t.eq_object (t.bound 0) u) v)) (c.in_ok-left.ensures.node ∙ ap Some (tree-Implies t2.pools (nodes t2) c.in_ok-here.here c.args.a (t.eq_object (t.bound 0) u) v (c.in_ok-here.ensures.node ∙ ap Some (tree-EqObject t1.pools (nodes t1) c.in_ok-object.object c.args.at (t.bound 0) u (c.in_ok-object.ensures.node ∙ ap Some (tree-Bound t0.pools (nodes t0) 0)) (keeps t0 t1 c.make.ensures.grows c.args.at (of_object u) hu))) (keeps t1 t2 c.make-2.ensures.grows c.args.a (of_truth v) (keeps t0 t1 c.make.ensures.grows c.args.a (of_truth v) hv)))))) (c.in_ok-right.ensures.node ∙ ap Some (tree-Implies t4.pools (nodes t4) c.in_ok-elsewhere.elsewhere c.args.b (t.negation (t.eq_object (t.bound 0) u)) w (c.in_ok-elsewhere.ensures.made (t.eq_object (t.bound 0) u) (keeps t2 t3 c.make-3.ensures.grows c.in_ok-here.here (of_truth (t.eq_object (t.bound 0) u)) (c.in_ok-here.ensures.node ∙ ap Some (tree-EqObject t1.pools (nodes t1) c.in_ok-object.object c.args.at (t.bound 0) u (c.in_ok-object.ensures.node ∙ ap Some (tree-Bound t0.pools (nodes t0) 0)) (keeps t0 t1 c.make.ensures.grows c.args.at (of_object u) hu))))) (keeps t3 t4 c.negation.ensures.grows c.args.b (of_truth w) (keeps t2 t3 c.make-3.ensures.grows c.args.b (of_truth w) (keeps t1 t2 c.make-2.ensures.grows c.args.b (of_truth w) (keeps t0 t1 c.make.ensures.grows c.args.b (of_truth w) hw)))))))))) c.make-6.ensures.node
