-- Written by tools/premises.py.
use Rattle.std.proofs.Common.{ap, ◌∙◌, Some}
use Rattle.jh_form.specs.Tree.{TermTree, IntTree, SetTree, FieldTree, FormulaTree, of_object, of_number, of_set, of_field, of_truth}
use Rattle.jh_form.specs.Tree as t
use Rattle.jh_arena.specs.table.Nodes.{nodes}
use Rattle.jh_arena.proofs.table.NodeSteps.{fits-Bound, tree-Bound, fits-EqSet, tree-EqSet, fits-ReadSet, tree-ReadSet}
use Rattle.jh_derivation_steps.specs.premises.Nodes.{term_at, set_at, field_at}
use Rattle.jh_derivation_steps.proofs.premises.Carried.{if-ok, keeps, is-formula, is-term}
use Rattle.jh_derivation_steps.proofs.premises.making.updated_sets.Goals as goal

pub make-requires : goal.make-requires
make-requires c =
    let t0 = c.args.table.now in
    fits-Bound t0.pools (nodes t0) 0

pub make-requires-2 : goal.make-requires-2
make-requires-2 c =
    let t0 = c.args.table.now in
    let t1 = c.make.new.self in
    fits-ReadSet t1.pools (nodes t1) c.args.new c.in_ok-object.object (field_at (nodes t0) c.args.new) (t.bound 0) (keeps t0 t1 c.make.ensures.grows c.args.new (of_field (field_at (nodes t0) c.args.new)) c.requires.new) (c.in_ok-object.ensures.node ∙ ap Some (tree-Bound t0.pools (nodes t0) 0))

pub make-requires-3 : goal.make-requires-3
make-requires-3 c =
    let t0 = c.args.table.now in
    let t1 = c.make.new.self in
    let t2 = c.make-2.new.self in
    fits-ReadSet t2.pools (nodes t2) c.args.old c.in_ok-object.object (field_at (nodes t0) c.args.old) (t.bound 0) (keeps t1 t2 c.make-2.ensures.grows c.args.old (of_field (field_at (nodes t0) c.args.old)) (keeps t0 t1 c.make.ensures.grows c.args.old (of_field (field_at (nodes t0) c.args.old)) c.requires.old)) (keeps t1 t2 c.make-2.ensures.grows c.in_ok-object.object (of_object (t.bound 0)) (c.in_ok-object.ensures.node ∙ ap Some (tree-Bound t0.pools (nodes t0) 0)))

pub make-requires-4 : goal.make-requires-4
make-requires-4 c =
    let t0 = c.args.table.now in
    let t1 = c.make.new.self in
    let t2 = c.make-2.new.self in
    let t3 = c.make-3.new.self in
    fits-EqSet t3.pools (nodes t3) c.in_ok-after.after c.args.value (t.read_set (field_at (nodes t0) c.args.new) (t.bound 0)) (set_at (nodes t0) c.args.value) (keeps t2 t3 c.make-3.ensures.grows c.in_ok-after.after (of_set (t.read_set (field_at (nodes t0) c.args.new) (t.bound 0))) (c.in_ok-after.ensures.node ∙ ap Some (tree-ReadSet t1.pools (nodes t1) c.args.new c.in_ok-object.object (field_at (nodes t0) c.args.new) (t.bound 0) (keeps t0 t1 c.make.ensures.grows c.args.new (of_field (field_at (nodes t0) c.args.new)) c.requires.new) (c.in_ok-object.ensures.node ∙ ap Some (tree-Bound t0.pools (nodes t0) 0))))) (keeps t2 t3 c.make-3.ensures.grows c.args.value (of_set (set_at (nodes t0) c.args.value)) (keeps t1 t2 c.make-2.ensures.grows c.args.value (of_set (set_at (nodes t0) c.args.value)) (keeps t0 t1 c.make.ensures.grows c.args.value (of_set (set_at (nodes t0) c.args.value)) c.requires.value)))

pub make-requires-5 : goal.make-requires-5
make-requires-5 c =
    let t0 = c.args.table.now in
    let t1 = c.make.new.self in
    let t2 = c.make-2.new.self in
    let t3 = c.make-3.new.self in
    let t4 = c.make-4.new.self in
    fits-EqSet t4.pools (nodes t4) c.in_ok-after.after c.in_ok-before.before (t.read_set (field_at (nodes t0) c.args.new) (t.bound 0)) (t.read_set (field_at (nodes t0) c.args.old) (t.bound 0)) (keeps t3 t4 c.make-4.ensures.grows c.in_ok-after.after (of_set (t.read_set (field_at (nodes t0) c.args.new) (t.bound 0))) (keeps t2 t3 c.make-3.ensures.grows c.in_ok-after.after (of_set (t.read_set (field_at (nodes t0) c.args.new) (t.bound 0))) (c.in_ok-after.ensures.node ∙ ap Some (tree-ReadSet t1.pools (nodes t1) c.args.new c.in_ok-object.object (field_at (nodes t0) c.args.new) (t.bound 0) (keeps t0 t1 c.make.ensures.grows c.args.new (of_field (field_at (nodes t0) c.args.new)) c.requires.new) (c.in_ok-object.ensures.node ∙ ap Some (tree-Bound t0.pools (nodes t0) 0)))))) (keeps t3 t4 c.make-4.ensures.grows c.in_ok-before.before (of_set (t.read_set (field_at (nodes t0) c.args.old) (t.bound 0))) (c.in_ok-before.ensures.node ∙ ap Some (tree-ReadSet t2.pools (nodes t2) c.args.old c.in_ok-object.object (field_at (nodes t0) c.args.old) (t.bound 0) (keeps t1 t2 c.make-2.ensures.grows c.args.old (of_field (field_at (nodes t0) c.args.old)) (keeps t0 t1 c.make.ensures.grows c.args.old (of_field (field_at (nodes t0) c.args.old)) c.requires.old)) (keeps t1 t2 c.make-2.ensures.grows c.in_ok-object.object (of_object (t.bound 0)) (c.in_ok-object.ensures.node ∙ ap Some (tree-Bound t0.pools (nodes t0) 0))))))

pub at_each-requires-clause-at : goal.at_each-requires-clause-at
at_each-requires-clause-at c =
    let t0 = c.args.table.now in
    let t1 = c.make.new.self in
    let t2 = c.make-2.new.self in
    let t3 = c.make-3.new.self in
    let t4 = c.make-4.new.self in
    let t5 = c.make-5.new.self in
    is-term (nodes t5) c.args.at (term_at (nodes t0) c.args.at) (keeps t4 t5 c.make-5.ensures.grows c.args.at (of_object (term_at (nodes t0) c.args.at)) (keeps t3 t4 c.make-4.ensures.grows c.args.at (of_object (term_at (nodes t0) c.args.at)) (keeps t2 t3 c.make-3.ensures.grows c.args.at (of_object (term_at (nodes t0) c.args.at)) (keeps t1 t2 c.make-2.ensures.grows c.args.at (of_object (term_at (nodes t0) c.args.at)) (keeps t0 t1 c.make.ensures.grows c.args.at (of_object (term_at (nodes t0) c.args.at)) c.requires.at)))))

pub at_each-requires-clause-a : goal.at_each-requires-clause-a
at_each-requires-clause-a c =
    let t0 = c.args.table.now in
    let t1 = c.make.new.self in
    let t2 = c.make-2.new.self in
    let t3 = c.make-3.new.self in
    let t4 = c.make-4.new.self in
    let t5 = c.make-5.new.self in
    is-formula (nodes t5) c.in_ok-here.here (t.eq_set (t.read_set (field_at (nodes t0) c.args.new) (t.bound 0)) (set_at (nodes t0) c.args.value)) (keeps t4 t5 c.make-5.ensures.grows c.in_ok-here.here (of_truth (t.eq_set (t.read_set (field_at (nodes t0) c.args.new) (t.bound 0)) (set_at (nodes t0) c.args.value))) (c.in_ok-here.ensures.node ∙ ap Some (tree-EqSet t3.pools (nodes t3) c.in_ok-after.after c.args.value (t.read_set (field_at (nodes t0) c.args.new) (t.bound 0)) (set_at (nodes t0) c.args.value) (keeps t2 t3 c.make-3.ensures.grows c.in_ok-after.after (of_set (t.read_set (field_at (nodes t0) c.args.new) (t.bound 0))) (c.in_ok-after.ensures.node ∙ ap Some (tree-ReadSet t1.pools (nodes t1) c.args.new c.in_ok-object.object (field_at (nodes t0) c.args.new) (t.bound 0) (keeps t0 t1 c.make.ensures.grows c.args.new (of_field (field_at (nodes t0) c.args.new)) c.requires.new) (c.in_ok-object.ensures.node ∙ ap Some (tree-Bound t0.pools (nodes t0) 0))))) (keeps t2 t3 c.make-3.ensures.grows c.args.value (of_set (set_at (nodes t0) c.args.value)) (keeps t1 t2 c.make-2.ensures.grows c.args.value (of_set (set_at (nodes t0) c.args.value)) (keeps t0 t1 c.make.ensures.grows c.args.value (of_set (set_at (nodes t0) c.args.value)) c.requires.value))))))

pub at_each-requires-clause-b : goal.at_each-requires-clause-b
at_each-requires-clause-b c =
    let t0 = c.args.table.now in
    let t1 = c.make.new.self in
    let t2 = c.make-2.new.self in
    let t3 = c.make-3.new.self in
    let t4 = c.make-4.new.self in
    let t5 = c.make-5.new.self in
    is-formula (nodes t5) c.in_ok-elsewhere.elsewhere (t.eq_set (t.read_set (field_at (nodes t0) c.args.new) (t.bound 0)) (t.read_set (field_at (nodes t0) c.args.old) (t.bound 0))) (c.in_ok-elsewhere.ensures.node ∙ ap Some (tree-EqSet t4.pools (nodes t4) c.in_ok-after.after c.in_ok-before.before (t.read_set (field_at (nodes t0) c.args.new) (t.bound 0)) (t.read_set (field_at (nodes t0) c.args.old) (t.bound 0)) (keeps t3 t4 c.make-4.ensures.grows c.in_ok-after.after (of_set (t.read_set (field_at (nodes t0) c.args.new) (t.bound 0))) (keeps t2 t3 c.make-3.ensures.grows c.in_ok-after.after (of_set (t.read_set (field_at (nodes t0) c.args.new) (t.bound 0))) (c.in_ok-after.ensures.node ∙ ap Some (tree-ReadSet t1.pools (nodes t1) c.args.new c.in_ok-object.object (field_at (nodes t0) c.args.new) (t.bound 0) (keeps t0 t1 c.make.ensures.grows c.args.new (of_field (field_at (nodes t0) c.args.new)) c.requires.new) (c.in_ok-object.ensures.node ∙ ap Some (tree-Bound t0.pools (nodes t0) 0)))))) (keeps t3 t4 c.make-4.ensures.grows c.in_ok-before.before (of_set (t.read_set (field_at (nodes t0) c.args.old) (t.bound 0))) (c.in_ok-before.ensures.node ∙ ap Some (tree-ReadSet t2.pools (nodes t2) c.args.old c.in_ok-object.object (field_at (nodes t0) c.args.old) (t.bound 0) (keeps t1 t2 c.make-2.ensures.grows c.args.old (of_field (field_at (nodes t0) c.args.old)) (keeps t0 t1 c.make.ensures.grows c.args.old (of_field (field_at (nodes t0) c.args.old)) c.requires.old)) (keeps t1 t2 c.make-2.ensures.grows c.in_ok-object.object (of_object (t.bound 0)) (c.in_ok-object.ensures.node ∙ ap Some (tree-Bound t0.pools (nodes t0) 0))))))))

pub returns-clause-made : goal.returns-clause-made
returns-clause-made c =
    let t0 = c.args.table.now in
    let t1 = c.make.new.self in
    let t2 = c.make-2.new.self in
    let t3 = c.make-3.new.self in
    let t4 = c.make-4.new.self in
    let t5 = c.make-5.new.self in
    if-ok c.at_each.result (λ made is u v w x hu hv hw hx. is w (t.eq_set (t.read_set u (t.bound 0)) x) (t.eq_set (t.read_set u (t.bound 0)) (t.read_set v (t.bound 0))) (keeps t4 t5 c.make-5.ensures.grows c.args.at (of_object w) (keeps t3 t4 c.make-4.ensures.grows c.args.at (of_object w) (keeps t2 t3 c.make-3.ensures.grows c.args.at (of_object w) (keeps t1 t2 c.make-2.ensures.grows c.args.at (of_object w) (keeps t0 t1 c.make.ensures.grows c.args.at (of_object w) hw))))) (keeps t4 t5 c.make-5.ensures.grows c.in_ok-here.here (of_truth (t.eq_set (t.read_set u (t.bound 0)) x)) (c.in_ok-here.ensures.node ∙ ap Some (tree-EqSet t3.pools (nodes t3) c.in_ok-after.after c.args.value (t.read_set u (t.bound 0)) x (keeps t2 t3 c.make-3.ensures.grows c.in_ok-after.after (of_set (t.read_set u (t.bound 0))) (c.in_ok-after.ensures.node ∙ ap Some (tree-ReadSet t1.pools (nodes t1) c.args.new c.in_ok-object.object u (t.bound 0) (keeps t0 t1 c.make.ensures.grows c.args.new (of_field u) hu) (c.in_ok-object.ensures.node ∙ ap Some (tree-Bound t0.pools (nodes t0) 0))))) (keeps t2 t3 c.make-3.ensures.grows c.args.value (of_set x) (keeps t1 t2 c.make-2.ensures.grows c.args.value (of_set x) (keeps t0 t1 c.make.ensures.grows c.args.value (of_set x) hx)))))) (c.in_ok-elsewhere.ensures.node ∙ ap Some (tree-EqSet t4.pools (nodes t4) c.in_ok-after.after c.in_ok-before.before (t.read_set u (t.bound 0)) (t.read_set v (t.bound 0)) (keeps t3 t4 c.make-4.ensures.grows c.in_ok-after.after (of_set (t.read_set u (t.bound 0))) (keeps t2 t3 c.make-3.ensures.grows c.in_ok-after.after (of_set (t.read_set u (t.bound 0))) (c.in_ok-after.ensures.node ∙ ap Some (tree-ReadSet t1.pools (nodes t1) c.args.new c.in_ok-object.object u (t.bound 0) (keeps t0 t1 c.make.ensures.grows c.args.new (of_field u) hu) (c.in_ok-object.ensures.node ∙ ap Some (tree-Bound t0.pools (nodes t0) 0)))))) (keeps t3 t4 c.make-4.ensures.grows c.in_ok-before.before (of_set (t.read_set v (t.bound 0))) (c.in_ok-before.ensures.node ∙ ap Some (tree-ReadSet t2.pools (nodes t2) c.args.old c.in_ok-object.object v (t.bound 0) (keeps t1 t2 c.make-2.ensures.grows c.args.old (of_field v) (keeps t0 t1 c.make.ensures.grows c.args.old (of_field v) hv)) (keeps t1 t2 c.make-2.ensures.grows c.in_ok-object.object (of_object (t.bound 0)) (c.in_ok-object.ensures.node ∙ ap Some (tree-Bound t0.pools (nodes t0) 0))))))))) c.at_each.ensures.made
