-- Written by tools/enter.py.
use Rattle.std.proofs.Common.{◌≡◌, rules, ap, sym, ◌∙◌, SFits, to_z, of_z, w64}
use Rattle.std.proofs.lemmas.Int.{to_z-of_z}
use Rattle.jh_form.specs.Tree.{of_object, of_number, of_truth, of_set, of_field}
use Rattle.jh_form.specs.Tree as tree
use Rattle.jh_form.specs.Bare.{term_tree, int_tree, set_tree, field_tree, value_tree, formula_tree, list_tree}
use Rattle.jh_form.proofs.Steps.{formula_tree-Reach, formula_tree-Tree}
use Rattle.jh_arena.specs.jh_boxed.Parts as part
use Rattle.jh_arena.specs.declared.table.shapes.Shape.TheVariants as s
use Rattle.jh_arena.specs.table.Nodes.{nodes, tree_in}
use Rattle.jh_arena.proofs.table.Listed.{extends-refl, extends-trans, node-stays}
use Rattle.jh_arena.proofs.table.NodeSteps.{tree-Bound, fits-FreeObject, tree-FreeObject, tree-Null, fits-ReadObject, tree-ReadObject, tree-Const, fits-FreeNumber, tree-FreeNumber, fits-ReadNumber, tree-ReadNumber, fits-Add, tree-Add, fits-Sub, tree-Sub, fits-Neg, tree-Neg, fits-Scale, tree-Scale, fits-Card, tree-Card, fits-FreeSet, tree-FreeSet, fits-ReadSet, tree-ReadSet, tree-Empty, tree-Univ, fits-Single, tree-Single, fits-Union, tree-Union, fits-Inter, tree-Inter, fits-Diff, tree-Diff, fits-Compl, tree-Compl, fits-Compr, tree-Compr, fits-FreeField, tree-FreeField, fits-Update, tree-Update, tree-True, tree-False, fits-FreeTruth, tree-FreeTruth, fits-ReadTruth, tree-ReadTruth, fits-Negation, tree-Negation, fits-And, tree-And, fits-Or, tree-Or, fits-Implies, tree-Implies, fits-Iff, tree-Iff, fits-All, tree-All, fits-Ex, tree-Ex, fits-EqObject, tree-EqObject, fits-EqNumber, tree-EqNumber, fits-EqSet, tree-EqSet, fits-Less, tree-Less, fits-LessEqual, tree-LessEqual, fits-Divides, tree-Divides, fits-Member, tree-Member, fits-Subset, tree-Subset, fits-Mark, tree-Mark}
use Rattle.jh_import.proofs.entering.Fields.{entering-start, entering-step, listed-as, made-as, fits-listed-Reach, tree-listed-Reach, fits-listed-Tree, tree-listed-Tree}
use Rattle.jh_import.proofs.entering.Adding.{adds-self, adds-part, adds-fields, adds-pool, adds-made, adds-first, adds-field, adds-list}
use Rattle.jh_import.proofs.entering.entering.+entered.Goals as goal

pub enter_fields-loop-field-init : goal.enter_fields-loop-field-init
enter_fields-loop-field-init t c = record {
  grows = extends-refl c.args.table.now;
  entering = entering-start c.args.table.now c.new-made.result.items (list_tree c.args.fields.now) c.new-made.ensures.items;
  only = adds-first c.args.table.now (list_tree c.args.fields.now);
}

pub enter_fields-returns-in_err-node-clause-only :
    goal.enter_fields-returns-in_err-node-clause-only
enter_fields-returns-in_err-node-clause-only t c =
    adds-field c.args.table.now c.loop-field.table c.enter_field.new.table c.args.fields.now c.loop-field.field-index c.field-item.result c.loop-field.invariant.only c.in_err-node.ensures.only
    c.loop-field-test.true c.field-item.is

pub enter_fields-returns-in_err-push-clause-only :
    goal.enter_fields-returns-in_err-push-clause-only
enter_fields-returns-in_err-push-clause-only t c =
    adds-field c.args.table.now c.loop-field.table c.enter_field.new.table c.args.fields.now c.loop-field.field-index c.field-item.result c.loop-field.invariant.only c.in_ok-node.ensures.only
    c.loop-field-test.true c.field-item.is

pub enter_fields-returns-clause-only : goal.enter_fields-returns-clause-only
enter_fields-returns-clause-only t c = adds-list c.args.table.now c.loop-field.table c.list.new.self (list_tree c.args.fields.now) c.list.ensures.nodes c.loop-field.invariant.only

pub enter_fields-returns-in_err-node-clause-grows :
    goal.enter_fields-returns-in_err-node-clause-grows
enter_fields-returns-in_err-node-clause-grows t c =
    extends-trans c.args.table.now c.loop-field.table c.enter_field.new.table c.loop-field.invariant.grows c.in_err-node.ensures.grows

pub enter_fields-returns-in_err-push-clause-grows :
    goal.enter_fields-returns-in_err-push-clause-grows
enter_fields-returns-in_err-push-clause-grows t c =
    extends-trans c.args.table.now c.loop-field.table c.enter_field.new.table c.loop-field.invariant.grows c.in_ok-node.ensures.grows

pub enter_fields-loop-field-preserved : goal.enter_fields-loop-field-preserved
enter_fields-loop-field-preserved t c = record {
  grows = extends-trans c.args.table.now c.loop-field.table c.enter_field.new.table c.loop-field.invariant.grows c.in_ok-node.ensures.grows;
  entering =
      entering-step c.loop-field.table c.enter_field.new.table c.loop-field.made.items c.push.new.self.items c.in_ok-node.node c.args.fields.now c.loop-field.field-index
      c.field-item.result (list_tree c.args.fields.now) c.loop-field.invariant.entering c.in_ok-node.ensures.grows c.in_ok-node.ensures.node c.in_ok-push.ensures.items
      c.loop-field-test.true c.field-item.is;
  only =
      adds-field c.args.table.now c.loop-field.table c.enter_field.new.table c.args.fields.now c.loop-field.field-index c.field-item.result c.loop-field.invariant.only c.in_ok-node.ensures.only
      c.loop-field-test.true c.field-item.is;
}

pub enter_fields-returns-clause-list : goal.enter_fields-returns-clause-list
enter_fields-returns-clause-list t c =
    listed-as c.loop-field.table c.list.new.self c.list.result c.loop-field.made.items c.as_slice.result.now c.args.fields.now c.loop-field.field-index (list_tree c.args.fields.now)
    c.loop-field.invariant.entering c.loop-field-test.false c.list.ensures.nodes c.as_slice.ensures.value c.list.ensures.number

pub enter_fields-returns-clause-grows : goal.enter_fields-returns-clause-grows
enter_fields-returns-clause-grows t c =
    extends-trans c.args.table.now c.loop-field.table c.list.new.self c.loop-field.invariant.grows c.list.ensures.grows

pub enter_term-returns-in-Bound-clause-only :
    goal.enter_term-returns-in-Bound-clause-only
unfolding term_tree
enter_term-returns-in-Bound-clause-only t c =
    let start = c.args.table.now in
    let v = of_object (term_tree c.args.term.now) in
    let whole : term_tree c.args.term.now ≡ tree.bound c.in-Bound.number = ap (λ d. term_tree d) c.in-Bound.is in
    let made : tree_in start (s.Bound c.in-Bound.number) ≡ v = tree-Bound start.pools (nodes start) c.in-Bound.number ∙ ap (λ d. of_object d) (sym whole) in
    adds-made start start c.make.new.self v (s.Bound c.in-Bound.number) made (adds-self start v) c.make.ensures.only

pub enter_term-returns-in-Bound-clause-node :
    goal.enter_term-returns-in-Bound-clause-node
unfolding term_tree
enter_term-returns-in-Bound-clause-node t c =
    let start = c.args.table.now in
    let v = of_object (term_tree c.args.term.now) in
    let whole : term_tree c.args.term.now ≡ tree.bound c.in-Bound.number = ap (λ d. term_tree d) c.in-Bound.is in
    let made : tree_in start (s.Bound c.in-Bound.number) ≡ v = tree-Bound start.pools (nodes start) c.in-Bound.number ∙ ap (λ d. of_object d) (sym whole) in
    made-as (nodes c.make.new.self) c.make.result (tree_in start (s.Bound c.in-Bound.number)) v made c.make.ensures.node

pub enter_term-returns-in-Bound-clause-grows :
    goal.enter_term-returns-in-Bound-clause-grows
enter_term-returns-in-Bound-clause-grows t c =
    c.make.ensures.grows

pub enter_term-returns-in_ok-name-in-Free-clause-only :
    goal.enter_term-returns-in_ok-name-in-Free-clause-only
unfolding term_tree
enter_term-returns-in_ok-name-in-Free-clause-only t c =
    let start = c.args.table.now in
    let v = of_object (term_tree c.args.term.now) in
    let last = c.name.new.self in
    let whole : term_tree c.args.term.now ≡ tree.free_object c.in-Free.name = ap (λ d. term_tree d) c.in-Free.is in
    let made : tree_in last (s.FreeObject c.in_ok-name-in-Free.name) ≡ v = tree-FreeObject last.pools (nodes last) c.in_ok-name-in-Free.name c.in-Free.name c.in_ok-name-in-Free.ensures.number ∙ ap (λ d. of_object d) (sym whole) in
    adds-made start last c.make-in-Free.new.self v (s.FreeObject c.in_ok-name-in-Free.name) made (adds-pool start start last v c.in_ok-name-in-Free.ensures.nodes (adds-self start v)) c.make-in-Free.ensures.only

pub enter_term-returns-in_ok-name-in-Free-clause-node :
    goal.enter_term-returns-in_ok-name-in-Free-clause-node
unfolding term_tree
enter_term-returns-in_ok-name-in-Free-clause-node t c =
    let start = c.args.table.now in
    let v = of_object (term_tree c.args.term.now) in
    let last = c.name.new.self in
    let whole : term_tree c.args.term.now ≡ tree.free_object c.in-Free.name = ap (λ d. term_tree d) c.in-Free.is in
    let made : tree_in last (s.FreeObject c.in_ok-name-in-Free.name) ≡ v = tree-FreeObject last.pools (nodes last) c.in_ok-name-in-Free.name c.in-Free.name c.in_ok-name-in-Free.ensures.number ∙ ap (λ d. of_object d) (sym whole) in
    made-as (nodes c.make-in-Free.new.self) c.make-in-Free.result (tree_in last (s.FreeObject c.in_ok-name-in-Free.name)) v made c.make-in-Free.ensures.node

pub enter_term-returns-in_ok-name-in-Free-clause-grows :
    goal.enter_term-returns-in_ok-name-in-Free-clause-grows
enter_term-returns-in_ok-name-in-Free-clause-grows t c =
    extends-trans c.args.table.now c.name.new.self c.make-in-Free.new.self c.in_ok-name-in-Free.ensures.grows c.make-in-Free.ensures.grows

pub enter_term-make-requires-in-Free :
    goal.enter_term-make-requires-in-Free
enter_term-make-requires-in-Free t c =
    let last = c.name.new.self in
    fits-FreeObject last.pools (nodes last) c.in_ok-name-in-Free.name c.in-Free.name c.in_ok-name-in-Free.ensures.number

pub enter_term-returns-in-Null-clause-only :
    goal.enter_term-returns-in-Null-clause-only
unfolding term_tree
enter_term-returns-in-Null-clause-only t c =
    let start = c.args.table.now in
    let v = of_object (term_tree c.args.term.now) in
    let whole : term_tree c.args.term.now ≡ tree.null = ap (λ d. term_tree d) c.in-Null.is in
    let made : tree_in start s.Null ≡ v = tree-Null start.pools (nodes start) ∙ ap (λ d. of_object d) (sym whole) in
    adds-made start start c.make-in-Null.new.self v s.Null made (adds-self start v) c.make-in-Null.ensures.only

pub enter_term-returns-in-Null-clause-node :
    goal.enter_term-returns-in-Null-clause-node
unfolding term_tree
enter_term-returns-in-Null-clause-node t c =
    let start = c.args.table.now in
    let v = of_object (term_tree c.args.term.now) in
    let whole : term_tree c.args.term.now ≡ tree.null = ap (λ d. term_tree d) c.in-Null.is in
    let made : tree_in start s.Null ≡ v = tree-Null start.pools (nodes start) ∙ ap (λ d. of_object d) (sym whole) in
    made-as (nodes c.make-in-Null.new.self) c.make-in-Null.result (tree_in start s.Null) v made c.make-in-Null.ensures.node

pub enter_term-returns-in-Null-clause-grows :
    goal.enter_term-returns-in-Null-clause-grows
enter_term-returns-in-Null-clause-grows t c =
    c.make-in-Null.ensures.grows

pub enter_term-returns-in_err-a-in-Read-clause-only :
    goal.enter_term-returns-in_err-a-in-Read-clause-only
unfolding term_tree
enter_term-returns-in_err-a-in-Read-clause-only t c =
    let start = c.args.table.now in
    let x = field_tree c.deref.result.now in
    let y = term_tree c.in-Read.b.value in
    let v = of_object (term_tree c.args.term.now) in
    let w = of_object (tree.read_object x y) in
    let in_a = sym c.deref.ensures in
    let whole : term_tree c.args.term.now ≡ tree.read_object x y = ap (λ d. term_tree d) c.in-Read.is ∙ (λ i. tree.read_object (field_tree (in_a i)) y) in
    let same : v ≡ w = ap (λ d. of_object d) whole in
    adds-part start start c.enter_field.new.table v w (of_field x) same (part.read_object-a x y) (adds-self start v) c.in_err-a-in-Read.ensures.only

pub enter_term-returns-in_err-a-in-Read-clause-grows :
    goal.enter_term-returns-in_err-a-in-Read-clause-grows
enter_term-returns-in_err-a-in-Read-clause-grows t c =
    c.in_err-a-in-Read.ensures.grows

pub enter_term-returns-in_err-b-in-Read-clause-only :
    goal.enter_term-returns-in_err-b-in-Read-clause-only
unfolding term_tree
enter_term-returns-in_err-b-in-Read-clause-only t c =
    let start = c.args.table.now in
    let x = field_tree c.deref.result.now in
    let y = term_tree c.deref-in-Read.result.now in
    let v = of_object (term_tree c.args.term.now) in
    let w = of_object (tree.read_object x y) in
    let in_a = sym c.deref.ensures in
    let in_b = sym c.deref-in-Read.ensures in
    let whole : term_tree c.args.term.now ≡ tree.read_object x y = ap (λ d. term_tree d) c.in-Read.is ∙ (λ i. tree.read_object (field_tree (in_a i)) (term_tree (in_b i))) in
    let same : v ≡ w = ap (λ d. of_object d) whole in
    let after_a = adds-part start start c.enter_field.new.table v w (of_field x) same (part.read_object-a x y) (adds-self start v) c.in_ok-a-in-Read.ensures.only in
    adds-part start c.enter_field.new.table c.enter_term.new.table v w (of_object y) same (part.read_object-b x y) after_a c.in_err-b-in-Read.ensures.only

pub enter_term-returns-in_err-b-in-Read-clause-grows :
    goal.enter_term-returns-in_err-b-in-Read-clause-grows
enter_term-returns-in_err-b-in-Read-clause-grows t c =
    (extends-trans c.args.table.now c.enter_field.new.table c.enter_term.new.table c.in_ok-a-in-Read.ensures.grows c.in_err-b-in-Read.ensures.grows)

pub enter_term-returns-in_ok-b-in-Read-clause-only :
    goal.enter_term-returns-in_ok-b-in-Read-clause-only
unfolding term_tree
enter_term-returns-in_ok-b-in-Read-clause-only t c =
    let start = c.args.table.now in
    let x = field_tree c.deref.result.now in
    let y = term_tree c.deref-in-Read.result.now in
    let v = of_object (term_tree c.args.term.now) in
    let w = of_object (tree.read_object x y) in
    let in_a = sym c.deref.ensures in
    let in_b = sym c.deref-in-Read.ensures in
    let whole : term_tree c.args.term.now ≡ tree.read_object x y = ap (λ d. term_tree d) c.in-Read.is ∙ (λ i. tree.read_object (field_tree (in_a i)) (term_tree (in_b i))) in
    let same : v ≡ w = ap (λ d. of_object d) whole in
    let after_a = adds-part start start c.enter_field.new.table v w (of_field x) same (part.read_object-a x y) (adds-self start v) c.in_ok-a-in-Read.ensures.only in
    let after_b = adds-part start c.enter_field.new.table c.enter_term.new.table v w (of_object y) same (part.read_object-b x y) after_a c.in_ok-b-in-Read.ensures.only in
    let last = c.enter_term.new.table in
    let made : tree_in last (s.ReadObject c.in_ok-a-in-Read.a c.in_ok-b-in-Read.b) ≡ v = tree-ReadObject last.pools (nodes last) c.in_ok-a-in-Read.a c.in_ok-b-in-Read.b x y (node-stays c.enter_field.new.table c.enter_term.new.table c.in_ok-a-in-Read.a (of_field x) c.in_ok-b-in-Read.ensures.grows c.in_ok-a-in-Read.ensures.node) c.in_ok-b-in-Read.ensures.node ∙ sym same in
    adds-made start last c.make-in-Read.new.self v (s.ReadObject c.in_ok-a-in-Read.a c.in_ok-b-in-Read.b) made after_b c.make-in-Read.ensures.only

pub enter_term-returns-in_ok-b-in-Read-clause-node :
    goal.enter_term-returns-in_ok-b-in-Read-clause-node
unfolding term_tree
enter_term-returns-in_ok-b-in-Read-clause-node t c =
    let start = c.args.table.now in
    let x = field_tree c.deref.result.now in
    let y = term_tree c.deref-in-Read.result.now in
    let v = of_object (term_tree c.args.term.now) in
    let w = of_object (tree.read_object x y) in
    let in_a = sym c.deref.ensures in
    let in_b = sym c.deref-in-Read.ensures in
    let whole : term_tree c.args.term.now ≡ tree.read_object x y = ap (λ d. term_tree d) c.in-Read.is ∙ (λ i. tree.read_object (field_tree (in_a i)) (term_tree (in_b i))) in
    let same : v ≡ w = ap (λ d. of_object d) whole in
    let last = c.enter_term.new.table in
    let made : tree_in last (s.ReadObject c.in_ok-a-in-Read.a c.in_ok-b-in-Read.b) ≡ v = tree-ReadObject last.pools (nodes last) c.in_ok-a-in-Read.a c.in_ok-b-in-Read.b x y (node-stays c.enter_field.new.table c.enter_term.new.table c.in_ok-a-in-Read.a (of_field x) c.in_ok-b-in-Read.ensures.grows c.in_ok-a-in-Read.ensures.node) c.in_ok-b-in-Read.ensures.node ∙ sym same in
    made-as (nodes c.make-in-Read.new.self) c.make-in-Read.result (tree_in last (s.ReadObject c.in_ok-a-in-Read.a c.in_ok-b-in-Read.b)) v made c.make-in-Read.ensures.node

pub enter_term-returns-in_ok-b-in-Read-clause-grows :
    goal.enter_term-returns-in_ok-b-in-Read-clause-grows
enter_term-returns-in_ok-b-in-Read-clause-grows t c =
    extends-trans c.args.table.now c.enter_term.new.table c.make-in-Read.new.self (extends-trans c.args.table.now c.enter_field.new.table c.enter_term.new.table c.in_ok-a-in-Read.ensures.grows c.in_ok-b-in-Read.ensures.grows) c.make-in-Read.ensures.grows

pub enter_term-make-requires-in-Read :
    goal.enter_term-make-requires-in-Read
enter_term-make-requires-in-Read t c =
    let x = field_tree c.deref.result.now in
    let y = term_tree c.deref-in-Read.result.now in
    let last = c.enter_term.new.table in
    fits-ReadObject last.pools (nodes last) c.in_ok-a-in-Read.a c.in_ok-b-in-Read.b x y (node-stays c.enter_field.new.table c.enter_term.new.table c.in_ok-a-in-Read.a (of_field x) c.in_ok-b-in-Read.ensures.grows c.in_ok-a-in-Read.ensures.node) c.in_ok-b-in-Read.ensures.node

pub enter_int-returns-in-Const-clause-only :
    goal.enter_int-returns-in-Const-clause-only
unfolding int_tree
enter_int-returns-in-Const-clause-only t c =
    let start = c.args.table.now in
    let v = of_number (int_tree c.args.term.now) in
    let z = c.in-Const.number in
    let read = to_z w64 (of_z w64 z) in
    let fits : SFits w64 z = search rules in
    let whole : int_tree c.args.term.now ≡ tree.const c.in-Const.number = ap (λ d. int_tree d) c.in-Const.is in
    let made : tree_in start (s.Const read) ≡ v = tree-Const start.pools (nodes start) read ∙ ap (λ d. of_number (tree.const d)) (to_z-of_z w64 z fits) ∙ ap (λ d. of_number d) (sym whole) in
    adds-made start start c.make.new.self v (s.Const read) made (adds-self start v) c.make.ensures.only

pub enter_int-returns-in-Const-clause-node :
    goal.enter_int-returns-in-Const-clause-node
unfolding int_tree
enter_int-returns-in-Const-clause-node t c =
    let start = c.args.table.now in
    let v = of_number (int_tree c.args.term.now) in
    let z = c.in-Const.number in
    let read = to_z w64 (of_z w64 z) in
    let fits : SFits w64 z = search rules in
    let whole : int_tree c.args.term.now ≡ tree.const c.in-Const.number = ap (λ d. int_tree d) c.in-Const.is in
    let made : tree_in start (s.Const read) ≡ v = tree-Const start.pools (nodes start) read ∙ ap (λ d. of_number (tree.const d)) (to_z-of_z w64 z fits) ∙ ap (λ d. of_number d) (sym whole) in
    made-as (nodes c.make.new.self) c.make.result (tree_in start (s.Const read)) v made c.make.ensures.node

pub enter_int-returns-in-Const-clause-grows :
    goal.enter_int-returns-in-Const-clause-grows
enter_int-returns-in-Const-clause-grows t c =
    c.make.ensures.grows

pub enter_int-returns-in_ok-name-in-Free-clause-only :
    goal.enter_int-returns-in_ok-name-in-Free-clause-only
unfolding int_tree
enter_int-returns-in_ok-name-in-Free-clause-only t c =
    let start = c.args.table.now in
    let v = of_number (int_tree c.args.term.now) in
    let last = c.name.new.self in
    let whole : int_tree c.args.term.now ≡ tree.free_number c.in-Free.name = ap (λ d. int_tree d) c.in-Free.is in
    let made : tree_in last (s.FreeNumber c.in_ok-name-in-Free.name) ≡ v = tree-FreeNumber last.pools (nodes last) c.in_ok-name-in-Free.name c.in-Free.name c.in_ok-name-in-Free.ensures.number ∙ ap (λ d. of_number d) (sym whole) in
    adds-made start last c.make-in-Free.new.self v (s.FreeNumber c.in_ok-name-in-Free.name) made (adds-pool start start last v c.in_ok-name-in-Free.ensures.nodes (adds-self start v)) c.make-in-Free.ensures.only

pub enter_int-returns-in_ok-name-in-Free-clause-node :
    goal.enter_int-returns-in_ok-name-in-Free-clause-node
unfolding int_tree
enter_int-returns-in_ok-name-in-Free-clause-node t c =
    let start = c.args.table.now in
    let v = of_number (int_tree c.args.term.now) in
    let last = c.name.new.self in
    let whole : int_tree c.args.term.now ≡ tree.free_number c.in-Free.name = ap (λ d. int_tree d) c.in-Free.is in
    let made : tree_in last (s.FreeNumber c.in_ok-name-in-Free.name) ≡ v = tree-FreeNumber last.pools (nodes last) c.in_ok-name-in-Free.name c.in-Free.name c.in_ok-name-in-Free.ensures.number ∙ ap (λ d. of_number d) (sym whole) in
    made-as (nodes c.make-in-Free.new.self) c.make-in-Free.result (tree_in last (s.FreeNumber c.in_ok-name-in-Free.name)) v made c.make-in-Free.ensures.node

pub enter_int-returns-in_ok-name-in-Free-clause-grows :
    goal.enter_int-returns-in_ok-name-in-Free-clause-grows
enter_int-returns-in_ok-name-in-Free-clause-grows t c =
    extends-trans c.args.table.now c.name.new.self c.make-in-Free.new.self c.in_ok-name-in-Free.ensures.grows c.make-in-Free.ensures.grows

pub enter_int-make-requires-in-Free :
    goal.enter_int-make-requires-in-Free
enter_int-make-requires-in-Free t c =
    let last = c.name.new.self in
    fits-FreeNumber last.pools (nodes last) c.in_ok-name-in-Free.name c.in-Free.name c.in_ok-name-in-Free.ensures.number

pub enter_int-returns-in_err-a-in-Read-clause-only :
    goal.enter_int-returns-in_err-a-in-Read-clause-only
unfolding int_tree
enter_int-returns-in_err-a-in-Read-clause-only t c =
    let start = c.args.table.now in
    let x = field_tree c.deref.result.now in
    let y = term_tree c.in-Read.b.value in
    let v = of_number (int_tree c.args.term.now) in
    let w = of_number (tree.read_number x y) in
    let in_a = sym c.deref.ensures in
    let whole : int_tree c.args.term.now ≡ tree.read_number x y = ap (λ d. int_tree d) c.in-Read.is ∙ (λ i. tree.read_number (field_tree (in_a i)) y) in
    let same : v ≡ w = ap (λ d. of_number d) whole in
    adds-part start start c.enter_field.new.table v w (of_field x) same (part.read_number-a x y) (adds-self start v) c.in_err-a-in-Read.ensures.only

pub enter_int-returns-in_err-a-in-Read-clause-grows :
    goal.enter_int-returns-in_err-a-in-Read-clause-grows
enter_int-returns-in_err-a-in-Read-clause-grows t c =
    c.in_err-a-in-Read.ensures.grows

pub enter_int-returns-in_err-b-in-Read-clause-only :
    goal.enter_int-returns-in_err-b-in-Read-clause-only
unfolding int_tree
enter_int-returns-in_err-b-in-Read-clause-only t c =
    let start = c.args.table.now in
    let x = field_tree c.deref.result.now in
    let y = term_tree c.deref-in-Read.result.now in
    let v = of_number (int_tree c.args.term.now) in
    let w = of_number (tree.read_number x y) in
    let in_a = sym c.deref.ensures in
    let in_b = sym c.deref-in-Read.ensures in
    let whole : int_tree c.args.term.now ≡ tree.read_number x y = ap (λ d. int_tree d) c.in-Read.is ∙ (λ i. tree.read_number (field_tree (in_a i)) (term_tree (in_b i))) in
    let same : v ≡ w = ap (λ d. of_number d) whole in
    let after_a = adds-part start start c.enter_field.new.table v w (of_field x) same (part.read_number-a x y) (adds-self start v) c.in_ok-a-in-Read.ensures.only in
    adds-part start c.enter_field.new.table c.enter_term.new.table v w (of_object y) same (part.read_number-b x y) after_a c.in_err-b-in-Read.ensures.only

pub enter_int-returns-in_err-b-in-Read-clause-grows :
    goal.enter_int-returns-in_err-b-in-Read-clause-grows
enter_int-returns-in_err-b-in-Read-clause-grows t c =
    (extends-trans c.args.table.now c.enter_field.new.table c.enter_term.new.table c.in_ok-a-in-Read.ensures.grows c.in_err-b-in-Read.ensures.grows)

pub enter_int-returns-in_ok-b-in-Read-clause-only :
    goal.enter_int-returns-in_ok-b-in-Read-clause-only
unfolding int_tree
enter_int-returns-in_ok-b-in-Read-clause-only t c =
    let start = c.args.table.now in
    let x = field_tree c.deref.result.now in
    let y = term_tree c.deref-in-Read.result.now in
    let v = of_number (int_tree c.args.term.now) in
    let w = of_number (tree.read_number x y) in
    let in_a = sym c.deref.ensures in
    let in_b = sym c.deref-in-Read.ensures in
    let whole : int_tree c.args.term.now ≡ tree.read_number x y = ap (λ d. int_tree d) c.in-Read.is ∙ (λ i. tree.read_number (field_tree (in_a i)) (term_tree (in_b i))) in
    let same : v ≡ w = ap (λ d. of_number d) whole in
    let after_a = adds-part start start c.enter_field.new.table v w (of_field x) same (part.read_number-a x y) (adds-self start v) c.in_ok-a-in-Read.ensures.only in
    let after_b = adds-part start c.enter_field.new.table c.enter_term.new.table v w (of_object y) same (part.read_number-b x y) after_a c.in_ok-b-in-Read.ensures.only in
    let last = c.enter_term.new.table in
    let made : tree_in last (s.ReadNumber c.in_ok-a-in-Read.a c.in_ok-b-in-Read.b) ≡ v = tree-ReadNumber last.pools (nodes last) c.in_ok-a-in-Read.a c.in_ok-b-in-Read.b x y (node-stays c.enter_field.new.table c.enter_term.new.table c.in_ok-a-in-Read.a (of_field x) c.in_ok-b-in-Read.ensures.grows c.in_ok-a-in-Read.ensures.node) c.in_ok-b-in-Read.ensures.node ∙ sym same in
    adds-made start last c.make-in-Read.new.self v (s.ReadNumber c.in_ok-a-in-Read.a c.in_ok-b-in-Read.b) made after_b c.make-in-Read.ensures.only

pub enter_int-returns-in_ok-b-in-Read-clause-node :
    goal.enter_int-returns-in_ok-b-in-Read-clause-node
unfolding int_tree
enter_int-returns-in_ok-b-in-Read-clause-node t c =
    let start = c.args.table.now in
    let x = field_tree c.deref.result.now in
    let y = term_tree c.deref-in-Read.result.now in
    let v = of_number (int_tree c.args.term.now) in
    let w = of_number (tree.read_number x y) in
    let in_a = sym c.deref.ensures in
    let in_b = sym c.deref-in-Read.ensures in
    let whole : int_tree c.args.term.now ≡ tree.read_number x y = ap (λ d. int_tree d) c.in-Read.is ∙ (λ i. tree.read_number (field_tree (in_a i)) (term_tree (in_b i))) in
    let same : v ≡ w = ap (λ d. of_number d) whole in
    let last = c.enter_term.new.table in
    let made : tree_in last (s.ReadNumber c.in_ok-a-in-Read.a c.in_ok-b-in-Read.b) ≡ v = tree-ReadNumber last.pools (nodes last) c.in_ok-a-in-Read.a c.in_ok-b-in-Read.b x y (node-stays c.enter_field.new.table c.enter_term.new.table c.in_ok-a-in-Read.a (of_field x) c.in_ok-b-in-Read.ensures.grows c.in_ok-a-in-Read.ensures.node) c.in_ok-b-in-Read.ensures.node ∙ sym same in
    made-as (nodes c.make-in-Read.new.self) c.make-in-Read.result (tree_in last (s.ReadNumber c.in_ok-a-in-Read.a c.in_ok-b-in-Read.b)) v made c.make-in-Read.ensures.node

pub enter_int-returns-in_ok-b-in-Read-clause-grows :
    goal.enter_int-returns-in_ok-b-in-Read-clause-grows
enter_int-returns-in_ok-b-in-Read-clause-grows t c =
    extends-trans c.args.table.now c.enter_term.new.table c.make-in-Read.new.self (extends-trans c.args.table.now c.enter_field.new.table c.enter_term.new.table c.in_ok-a-in-Read.ensures.grows c.in_ok-b-in-Read.ensures.grows) c.make-in-Read.ensures.grows

pub enter_int-make-requires-in-Read :
    goal.enter_int-make-requires-in-Read
enter_int-make-requires-in-Read t c =
    let x = field_tree c.deref.result.now in
    let y = term_tree c.deref-in-Read.result.now in
    let last = c.enter_term.new.table in
    fits-ReadNumber last.pools (nodes last) c.in_ok-a-in-Read.a c.in_ok-b-in-Read.b x y (node-stays c.enter_field.new.table c.enter_term.new.table c.in_ok-a-in-Read.a (of_field x) c.in_ok-b-in-Read.ensures.grows c.in_ok-a-in-Read.ensures.node) c.in_ok-b-in-Read.ensures.node

pub enter_int-returns-in_err-a-in-Add-clause-only :
    goal.enter_int-returns-in_err-a-in-Add-clause-only
unfolding int_tree
enter_int-returns-in_err-a-in-Add-clause-only t c =
    let start = c.args.table.now in
    let x = int_tree c.deref-in-Add.result.now in
    let y = int_tree c.in-Add.b.value in
    let v = of_number (int_tree c.args.term.now) in
    let w = of_number (tree.add x y) in
    let in_a = sym c.deref-in-Add.ensures in
    let whole : int_tree c.args.term.now ≡ tree.add x y = ap (λ d. int_tree d) c.in-Add.is ∙ (λ i. tree.add (int_tree (in_a i)) y) in
    let same : v ≡ w = ap (λ d. of_number d) whole in
    adds-part start start c.enter_int.new.table v w (of_number x) same (part.add-a x y) (adds-self start v) c.in_err-a-in-Add.ensures.only

pub enter_int-returns-in_err-a-in-Add-clause-grows :
    goal.enter_int-returns-in_err-a-in-Add-clause-grows
enter_int-returns-in_err-a-in-Add-clause-grows t c =
    c.in_err-a-in-Add.ensures.grows

pub enter_int-returns-in_err-b-in-Add-clause-only :
    goal.enter_int-returns-in_err-b-in-Add-clause-only
unfolding int_tree
enter_int-returns-in_err-b-in-Add-clause-only t c =
    let start = c.args.table.now in
    let x = int_tree c.deref-in-Add.result.now in
    let y = int_tree c.deref-in-Add-2.result.now in
    let v = of_number (int_tree c.args.term.now) in
    let w = of_number (tree.add x y) in
    let in_a = sym c.deref-in-Add.ensures in
    let in_b = sym c.deref-in-Add-2.ensures in
    let whole : int_tree c.args.term.now ≡ tree.add x y = ap (λ d. int_tree d) c.in-Add.is ∙ (λ i. tree.add (int_tree (in_a i)) (int_tree (in_b i))) in
    let same : v ≡ w = ap (λ d. of_number d) whole in
    let after_a = adds-part start start c.enter_int.new.table v w (of_number x) same (part.add-a x y) (adds-self start v) c.in_ok-a-in-Add.ensures.only in
    adds-part start c.enter_int.new.table c.enter_int-in-Add.new.table v w (of_number y) same (part.add-b x y) after_a c.in_err-b-in-Add.ensures.only

pub enter_int-returns-in_err-b-in-Add-clause-grows :
    goal.enter_int-returns-in_err-b-in-Add-clause-grows
enter_int-returns-in_err-b-in-Add-clause-grows t c =
    (extends-trans c.args.table.now c.enter_int.new.table c.enter_int-in-Add.new.table c.in_ok-a-in-Add.ensures.grows c.in_err-b-in-Add.ensures.grows)

pub enter_int-returns-in_ok-b-in-Add-clause-only :
    goal.enter_int-returns-in_ok-b-in-Add-clause-only
unfolding int_tree
enter_int-returns-in_ok-b-in-Add-clause-only t c =
    let start = c.args.table.now in
    let x = int_tree c.deref-in-Add.result.now in
    let y = int_tree c.deref-in-Add-2.result.now in
    let v = of_number (int_tree c.args.term.now) in
    let w = of_number (tree.add x y) in
    let in_a = sym c.deref-in-Add.ensures in
    let in_b = sym c.deref-in-Add-2.ensures in
    let whole : int_tree c.args.term.now ≡ tree.add x y = ap (λ d. int_tree d) c.in-Add.is ∙ (λ i. tree.add (int_tree (in_a i)) (int_tree (in_b i))) in
    let same : v ≡ w = ap (λ d. of_number d) whole in
    let after_a = adds-part start start c.enter_int.new.table v w (of_number x) same (part.add-a x y) (adds-self start v) c.in_ok-a-in-Add.ensures.only in
    let after_b = adds-part start c.enter_int.new.table c.enter_int-in-Add.new.table v w (of_number y) same (part.add-b x y) after_a c.in_ok-b-in-Add.ensures.only in
    let last = c.enter_int-in-Add.new.table in
    let made : tree_in last (s.Add c.in_ok-a-in-Add.a c.in_ok-b-in-Add.b) ≡ v = tree-Add last.pools (nodes last) c.in_ok-a-in-Add.a c.in_ok-b-in-Add.b x y (node-stays c.enter_int.new.table c.enter_int-in-Add.new.table c.in_ok-a-in-Add.a (of_number x) c.in_ok-b-in-Add.ensures.grows c.in_ok-a-in-Add.ensures.node) c.in_ok-b-in-Add.ensures.node ∙ sym same in
    adds-made start last c.make-in-Add.new.self v (s.Add c.in_ok-a-in-Add.a c.in_ok-b-in-Add.b) made after_b c.make-in-Add.ensures.only

pub enter_int-returns-in_ok-b-in-Add-clause-node :
    goal.enter_int-returns-in_ok-b-in-Add-clause-node
unfolding int_tree
enter_int-returns-in_ok-b-in-Add-clause-node t c =
    let start = c.args.table.now in
    let x = int_tree c.deref-in-Add.result.now in
    let y = int_tree c.deref-in-Add-2.result.now in
    let v = of_number (int_tree c.args.term.now) in
    let w = of_number (tree.add x y) in
    let in_a = sym c.deref-in-Add.ensures in
    let in_b = sym c.deref-in-Add-2.ensures in
    let whole : int_tree c.args.term.now ≡ tree.add x y = ap (λ d. int_tree d) c.in-Add.is ∙ (λ i. tree.add (int_tree (in_a i)) (int_tree (in_b i))) in
    let same : v ≡ w = ap (λ d. of_number d) whole in
    let last = c.enter_int-in-Add.new.table in
    let made : tree_in last (s.Add c.in_ok-a-in-Add.a c.in_ok-b-in-Add.b) ≡ v = tree-Add last.pools (nodes last) c.in_ok-a-in-Add.a c.in_ok-b-in-Add.b x y (node-stays c.enter_int.new.table c.enter_int-in-Add.new.table c.in_ok-a-in-Add.a (of_number x) c.in_ok-b-in-Add.ensures.grows c.in_ok-a-in-Add.ensures.node) c.in_ok-b-in-Add.ensures.node ∙ sym same in
    made-as (nodes c.make-in-Add.new.self) c.make-in-Add.result (tree_in last (s.Add c.in_ok-a-in-Add.a c.in_ok-b-in-Add.b)) v made c.make-in-Add.ensures.node

pub enter_int-returns-in_ok-b-in-Add-clause-grows :
    goal.enter_int-returns-in_ok-b-in-Add-clause-grows
enter_int-returns-in_ok-b-in-Add-clause-grows t c =
    extends-trans c.args.table.now c.enter_int-in-Add.new.table c.make-in-Add.new.self (extends-trans c.args.table.now c.enter_int.new.table c.enter_int-in-Add.new.table c.in_ok-a-in-Add.ensures.grows c.in_ok-b-in-Add.ensures.grows) c.make-in-Add.ensures.grows

pub enter_int-make-requires-in-Add :
    goal.enter_int-make-requires-in-Add
enter_int-make-requires-in-Add t c =
    let x = int_tree c.deref-in-Add.result.now in
    let y = int_tree c.deref-in-Add-2.result.now in
    let last = c.enter_int-in-Add.new.table in
    fits-Add last.pools (nodes last) c.in_ok-a-in-Add.a c.in_ok-b-in-Add.b x y (node-stays c.enter_int.new.table c.enter_int-in-Add.new.table c.in_ok-a-in-Add.a (of_number x) c.in_ok-b-in-Add.ensures.grows c.in_ok-a-in-Add.ensures.node) c.in_ok-b-in-Add.ensures.node

pub enter_int-returns-in_err-a-in-Sub-clause-only :
    goal.enter_int-returns-in_err-a-in-Sub-clause-only
unfolding int_tree
enter_int-returns-in_err-a-in-Sub-clause-only t c =
    let start = c.args.table.now in
    let x = int_tree c.deref-in-Sub.result.now in
    let y = int_tree c.in-Sub.b.value in
    let v = of_number (int_tree c.args.term.now) in
    let w = of_number (tree.sub x y) in
    let in_a = sym c.deref-in-Sub.ensures in
    let whole : int_tree c.args.term.now ≡ tree.sub x y = ap (λ d. int_tree d) c.in-Sub.is ∙ (λ i. tree.sub (int_tree (in_a i)) y) in
    let same : v ≡ w = ap (λ d. of_number d) whole in
    adds-part start start c.enter_int-in-Sub.new.table v w (of_number x) same (part.sub-a x y) (adds-self start v) c.in_err-a-in-Sub.ensures.only

pub enter_int-returns-in_err-a-in-Sub-clause-grows :
    goal.enter_int-returns-in_err-a-in-Sub-clause-grows
enter_int-returns-in_err-a-in-Sub-clause-grows t c =
    c.in_err-a-in-Sub.ensures.grows

pub enter_int-returns-in_err-b-in-Sub-clause-only :
    goal.enter_int-returns-in_err-b-in-Sub-clause-only
unfolding int_tree
enter_int-returns-in_err-b-in-Sub-clause-only t c =
    let start = c.args.table.now in
    let x = int_tree c.deref-in-Sub.result.now in
    let y = int_tree c.deref-in-Sub-2.result.now in
    let v = of_number (int_tree c.args.term.now) in
    let w = of_number (tree.sub x y) in
    let in_a = sym c.deref-in-Sub.ensures in
    let in_b = sym c.deref-in-Sub-2.ensures in
    let whole : int_tree c.args.term.now ≡ tree.sub x y = ap (λ d. int_tree d) c.in-Sub.is ∙ (λ i. tree.sub (int_tree (in_a i)) (int_tree (in_b i))) in
    let same : v ≡ w = ap (λ d. of_number d) whole in
    let after_a = adds-part start start c.enter_int-in-Sub.new.table v w (of_number x) same (part.sub-a x y) (adds-self start v) c.in_ok-a-in-Sub.ensures.only in
    adds-part start c.enter_int-in-Sub.new.table c.enter_int-in-Sub-2.new.table v w (of_number y) same (part.sub-b x y) after_a c.in_err-b-in-Sub.ensures.only

pub enter_int-returns-in_err-b-in-Sub-clause-grows :
    goal.enter_int-returns-in_err-b-in-Sub-clause-grows
enter_int-returns-in_err-b-in-Sub-clause-grows t c =
    (extends-trans c.args.table.now c.enter_int-in-Sub.new.table c.enter_int-in-Sub-2.new.table c.in_ok-a-in-Sub.ensures.grows c.in_err-b-in-Sub.ensures.grows)

pub enter_int-returns-in_ok-b-in-Sub-clause-only :
    goal.enter_int-returns-in_ok-b-in-Sub-clause-only
unfolding int_tree
enter_int-returns-in_ok-b-in-Sub-clause-only t c =
    let start = c.args.table.now in
    let x = int_tree c.deref-in-Sub.result.now in
    let y = int_tree c.deref-in-Sub-2.result.now in
    let v = of_number (int_tree c.args.term.now) in
    let w = of_number (tree.sub x y) in
    let in_a = sym c.deref-in-Sub.ensures in
    let in_b = sym c.deref-in-Sub-2.ensures in
    let whole : int_tree c.args.term.now ≡ tree.sub x y = ap (λ d. int_tree d) c.in-Sub.is ∙ (λ i. tree.sub (int_tree (in_a i)) (int_tree (in_b i))) in
    let same : v ≡ w = ap (λ d. of_number d) whole in
    let after_a = adds-part start start c.enter_int-in-Sub.new.table v w (of_number x) same (part.sub-a x y) (adds-self start v) c.in_ok-a-in-Sub.ensures.only in
    let after_b = adds-part start c.enter_int-in-Sub.new.table c.enter_int-in-Sub-2.new.table v w (of_number y) same (part.sub-b x y) after_a c.in_ok-b-in-Sub.ensures.only in
    let last = c.enter_int-in-Sub-2.new.table in
    let made : tree_in last (s.Sub c.in_ok-a-in-Sub.a c.in_ok-b-in-Sub.b) ≡ v = tree-Sub last.pools (nodes last) c.in_ok-a-in-Sub.a c.in_ok-b-in-Sub.b x y (node-stays c.enter_int-in-Sub.new.table c.enter_int-in-Sub-2.new.table c.in_ok-a-in-Sub.a (of_number x) c.in_ok-b-in-Sub.ensures.grows c.in_ok-a-in-Sub.ensures.node) c.in_ok-b-in-Sub.ensures.node ∙ sym same in
    adds-made start last c.make-in-Sub.new.self v (s.Sub c.in_ok-a-in-Sub.a c.in_ok-b-in-Sub.b) made after_b c.make-in-Sub.ensures.only

pub enter_int-returns-in_ok-b-in-Sub-clause-node :
    goal.enter_int-returns-in_ok-b-in-Sub-clause-node
unfolding int_tree
enter_int-returns-in_ok-b-in-Sub-clause-node t c =
    let start = c.args.table.now in
    let x = int_tree c.deref-in-Sub.result.now in
    let y = int_tree c.deref-in-Sub-2.result.now in
    let v = of_number (int_tree c.args.term.now) in
    let w = of_number (tree.sub x y) in
    let in_a = sym c.deref-in-Sub.ensures in
    let in_b = sym c.deref-in-Sub-2.ensures in
    let whole : int_tree c.args.term.now ≡ tree.sub x y = ap (λ d. int_tree d) c.in-Sub.is ∙ (λ i. tree.sub (int_tree (in_a i)) (int_tree (in_b i))) in
    let same : v ≡ w = ap (λ d. of_number d) whole in
    let last = c.enter_int-in-Sub-2.new.table in
    let made : tree_in last (s.Sub c.in_ok-a-in-Sub.a c.in_ok-b-in-Sub.b) ≡ v = tree-Sub last.pools (nodes last) c.in_ok-a-in-Sub.a c.in_ok-b-in-Sub.b x y (node-stays c.enter_int-in-Sub.new.table c.enter_int-in-Sub-2.new.table c.in_ok-a-in-Sub.a (of_number x) c.in_ok-b-in-Sub.ensures.grows c.in_ok-a-in-Sub.ensures.node) c.in_ok-b-in-Sub.ensures.node ∙ sym same in
    made-as (nodes c.make-in-Sub.new.self) c.make-in-Sub.result (tree_in last (s.Sub c.in_ok-a-in-Sub.a c.in_ok-b-in-Sub.b)) v made c.make-in-Sub.ensures.node

pub enter_int-returns-in_ok-b-in-Sub-clause-grows :
    goal.enter_int-returns-in_ok-b-in-Sub-clause-grows
enter_int-returns-in_ok-b-in-Sub-clause-grows t c =
    extends-trans c.args.table.now c.enter_int-in-Sub-2.new.table c.make-in-Sub.new.self (extends-trans c.args.table.now c.enter_int-in-Sub.new.table c.enter_int-in-Sub-2.new.table c.in_ok-a-in-Sub.ensures.grows c.in_ok-b-in-Sub.ensures.grows) c.make-in-Sub.ensures.grows

pub enter_int-make-requires-in-Sub :
    goal.enter_int-make-requires-in-Sub
enter_int-make-requires-in-Sub t c =
    let x = int_tree c.deref-in-Sub.result.now in
    let y = int_tree c.deref-in-Sub-2.result.now in
    let last = c.enter_int-in-Sub-2.new.table in
    fits-Sub last.pools (nodes last) c.in_ok-a-in-Sub.a c.in_ok-b-in-Sub.b x y (node-stays c.enter_int-in-Sub.new.table c.enter_int-in-Sub-2.new.table c.in_ok-a-in-Sub.a (of_number x) c.in_ok-b-in-Sub.ensures.grows c.in_ok-a-in-Sub.ensures.node) c.in_ok-b-in-Sub.ensures.node

pub enter_int-returns-in_err-a-in-Neg-clause-only :
    goal.enter_int-returns-in_err-a-in-Neg-clause-only
unfolding int_tree
enter_int-returns-in_err-a-in-Neg-clause-only t c =
    let start = c.args.table.now in
    let x = int_tree c.deref-in-Neg.result.now in
    let v = of_number (int_tree c.args.term.now) in
    let w = of_number (tree.neg x) in
    let in_a = sym c.deref-in-Neg.ensures in
    let whole : int_tree c.args.term.now ≡ tree.neg x = ap (λ d. int_tree d) c.in-Neg.is ∙ (λ i. tree.neg (int_tree (in_a i))) in
    let same : v ≡ w = ap (λ d. of_number d) whole in
    adds-part start start c.enter_int-in-Neg.new.table v w (of_number x) same (part.neg x) (adds-self start v) c.in_err-a-in-Neg.ensures.only

pub enter_int-returns-in_err-a-in-Neg-clause-grows :
    goal.enter_int-returns-in_err-a-in-Neg-clause-grows
enter_int-returns-in_err-a-in-Neg-clause-grows t c =
    c.in_err-a-in-Neg.ensures.grows

pub enter_int-returns-in_ok-a-in-Neg-clause-only :
    goal.enter_int-returns-in_ok-a-in-Neg-clause-only
unfolding int_tree
enter_int-returns-in_ok-a-in-Neg-clause-only t c =
    let start = c.args.table.now in
    let x = int_tree c.deref-in-Neg.result.now in
    let v = of_number (int_tree c.args.term.now) in
    let w = of_number (tree.neg x) in
    let in_a = sym c.deref-in-Neg.ensures in
    let whole : int_tree c.args.term.now ≡ tree.neg x = ap (λ d. int_tree d) c.in-Neg.is ∙ (λ i. tree.neg (int_tree (in_a i))) in
    let same : v ≡ w = ap (λ d. of_number d) whole in
    let after_a = adds-part start start c.enter_int-in-Neg.new.table v w (of_number x) same (part.neg x) (adds-self start v) c.in_ok-a-in-Neg.ensures.only in
    let last = c.enter_int-in-Neg.new.table in
    let made : tree_in last (s.Neg c.in_ok-a-in-Neg.a) ≡ v = tree-Neg last.pools (nodes last) c.in_ok-a-in-Neg.a x c.in_ok-a-in-Neg.ensures.node ∙ sym same in
    adds-made start last c.make-in-Neg.new.self v (s.Neg c.in_ok-a-in-Neg.a) made after_a c.make-in-Neg.ensures.only

pub enter_int-returns-in_ok-a-in-Neg-clause-node :
    goal.enter_int-returns-in_ok-a-in-Neg-clause-node
unfolding int_tree
enter_int-returns-in_ok-a-in-Neg-clause-node t c =
    let start = c.args.table.now in
    let x = int_tree c.deref-in-Neg.result.now in
    let v = of_number (int_tree c.args.term.now) in
    let w = of_number (tree.neg x) in
    let in_a = sym c.deref-in-Neg.ensures in
    let whole : int_tree c.args.term.now ≡ tree.neg x = ap (λ d. int_tree d) c.in-Neg.is ∙ (λ i. tree.neg (int_tree (in_a i))) in
    let same : v ≡ w = ap (λ d. of_number d) whole in
    let last = c.enter_int-in-Neg.new.table in
    let made : tree_in last (s.Neg c.in_ok-a-in-Neg.a) ≡ v = tree-Neg last.pools (nodes last) c.in_ok-a-in-Neg.a x c.in_ok-a-in-Neg.ensures.node ∙ sym same in
    made-as (nodes c.make-in-Neg.new.self) c.make-in-Neg.result (tree_in last (s.Neg c.in_ok-a-in-Neg.a)) v made c.make-in-Neg.ensures.node

pub enter_int-returns-in_ok-a-in-Neg-clause-grows :
    goal.enter_int-returns-in_ok-a-in-Neg-clause-grows
enter_int-returns-in_ok-a-in-Neg-clause-grows t c =
    extends-trans c.args.table.now c.enter_int-in-Neg.new.table c.make-in-Neg.new.self c.in_ok-a-in-Neg.ensures.grows c.make-in-Neg.ensures.grows

pub enter_int-make-requires-in-Neg :
    goal.enter_int-make-requires-in-Neg
enter_int-make-requires-in-Neg t c =
    let x = int_tree c.deref-in-Neg.result.now in
    let last = c.enter_int-in-Neg.new.table in
    fits-Neg last.pools (nodes last) c.in_ok-a-in-Neg.a x c.in_ok-a-in-Neg.ensures.node

pub enter_int-returns-in_err-a-in-Scale-clause-only :
    goal.enter_int-returns-in_err-a-in-Scale-clause-only
unfolding int_tree
enter_int-returns-in_err-a-in-Scale-clause-only t c =
    let start = c.args.table.now in
    let x = int_tree c.deref-in-Scale.result.now in
    let v = of_number (int_tree c.args.term.now) in
    let w = of_number (tree.scale c.in-Scale.number x) in
    let in_a = sym c.deref-in-Scale.ensures in
    let whole : int_tree c.args.term.now ≡ tree.scale c.in-Scale.number x = ap (λ d. int_tree d) c.in-Scale.is ∙ (λ i. tree.scale c.in-Scale.number (int_tree (in_a i))) in
    let same : v ≡ w = ap (λ d. of_number d) whole in
    adds-part start start c.enter_int-in-Scale.new.table v w (of_number x) same (part.scale c.in-Scale.number x) (adds-self start v) c.in_err-a-in-Scale.ensures.only

pub enter_int-returns-in_err-a-in-Scale-clause-grows :
    goal.enter_int-returns-in_err-a-in-Scale-clause-grows
enter_int-returns-in_err-a-in-Scale-clause-grows t c =
    c.in_err-a-in-Scale.ensures.grows

pub enter_int-returns-in_ok-a-in-Scale-clause-only :
    goal.enter_int-returns-in_ok-a-in-Scale-clause-only
unfolding int_tree
enter_int-returns-in_ok-a-in-Scale-clause-only t c =
    let start = c.args.table.now in
    let x = int_tree c.deref-in-Scale.result.now in
    let v = of_number (int_tree c.args.term.now) in
    let w = of_number (tree.scale c.in-Scale.number x) in
    let in_a = sym c.deref-in-Scale.ensures in
    let whole : int_tree c.args.term.now ≡ tree.scale c.in-Scale.number x = ap (λ d. int_tree d) c.in-Scale.is ∙ (λ i. tree.scale c.in-Scale.number (int_tree (in_a i))) in
    let same : v ≡ w = ap (λ d. of_number d) whole in
    let after_a = adds-part start start c.enter_int-in-Scale.new.table v w (of_number x) same (part.scale c.in-Scale.number x) (adds-self start v) c.in_ok-a-in-Scale.ensures.only in
    let last = c.enter_int-in-Scale.new.table in
    let z = c.in-Scale.number in
    let read = to_z w64 (of_z w64 z) in
    let fits : SFits w64 z = search rules in
    let made : tree_in last (s.Scale read c.in_ok-a-in-Scale.a) ≡ v = tree-Scale last.pools (nodes last) read c.in_ok-a-in-Scale.a x c.in_ok-a-in-Scale.ensures.node ∙ ap (λ d. of_number (tree.scale d x)) (to_z-of_z w64 z fits) ∙ sym same in
    adds-made start last c.make-in-Scale.new.self v (s.Scale read c.in_ok-a-in-Scale.a) made after_a c.make-in-Scale.ensures.only

pub enter_int-returns-in_ok-a-in-Scale-clause-node :
    goal.enter_int-returns-in_ok-a-in-Scale-clause-node
unfolding int_tree
enter_int-returns-in_ok-a-in-Scale-clause-node t c =
    let start = c.args.table.now in
    let x = int_tree c.deref-in-Scale.result.now in
    let v = of_number (int_tree c.args.term.now) in
    let w = of_number (tree.scale c.in-Scale.number x) in
    let in_a = sym c.deref-in-Scale.ensures in
    let whole : int_tree c.args.term.now ≡ tree.scale c.in-Scale.number x = ap (λ d. int_tree d) c.in-Scale.is ∙ (λ i. tree.scale c.in-Scale.number (int_tree (in_a i))) in
    let same : v ≡ w = ap (λ d. of_number d) whole in
    let last = c.enter_int-in-Scale.new.table in
    let z = c.in-Scale.number in
    let read = to_z w64 (of_z w64 z) in
    let fits : SFits w64 z = search rules in
    let made : tree_in last (s.Scale read c.in_ok-a-in-Scale.a) ≡ v = tree-Scale last.pools (nodes last) read c.in_ok-a-in-Scale.a x c.in_ok-a-in-Scale.ensures.node ∙ ap (λ d. of_number (tree.scale d x)) (to_z-of_z w64 z fits) ∙ sym same in
    made-as (nodes c.make-in-Scale.new.self) c.make-in-Scale.result (tree_in last (s.Scale read c.in_ok-a-in-Scale.a)) v made c.make-in-Scale.ensures.node

pub enter_int-returns-in_ok-a-in-Scale-clause-grows :
    goal.enter_int-returns-in_ok-a-in-Scale-clause-grows
enter_int-returns-in_ok-a-in-Scale-clause-grows t c =
    extends-trans c.args.table.now c.enter_int-in-Scale.new.table c.make-in-Scale.new.self c.in_ok-a-in-Scale.ensures.grows c.make-in-Scale.ensures.grows

pub enter_int-make-requires-in-Scale :
    goal.enter_int-make-requires-in-Scale
enter_int-make-requires-in-Scale t c =
    let x = int_tree c.deref-in-Scale.result.now in
    let last = c.enter_int-in-Scale.new.table in
    let z = c.in-Scale.number in
    let read = to_z w64 (of_z w64 z) in
    fits-Scale last.pools (nodes last) read c.in_ok-a-in-Scale.a x c.in_ok-a-in-Scale.ensures.node

pub enter_int-returns-in_err-a-in-Card-clause-only :
    goal.enter_int-returns-in_err-a-in-Card-clause-only
unfolding int_tree
enter_int-returns-in_err-a-in-Card-clause-only t c =
    let start = c.args.table.now in
    let x = set_tree c.deref-in-Card.result.now in
    let v = of_number (int_tree c.args.term.now) in
    let w = of_number (tree.card x) in
    let in_a = sym c.deref-in-Card.ensures in
    let whole : int_tree c.args.term.now ≡ tree.card x = ap (λ d. int_tree d) c.in-Card.is ∙ (λ i. tree.card (set_tree (in_a i))) in
    let same : v ≡ w = ap (λ d. of_number d) whole in
    adds-part start start c.enter_set.new.table v w (of_set x) same (part.card x) (adds-self start v) c.in_err-a-in-Card.ensures.only

pub enter_int-returns-in_err-a-in-Card-clause-grows :
    goal.enter_int-returns-in_err-a-in-Card-clause-grows
enter_int-returns-in_err-a-in-Card-clause-grows t c =
    c.in_err-a-in-Card.ensures.grows

pub enter_int-returns-in_ok-a-in-Card-clause-only :
    goal.enter_int-returns-in_ok-a-in-Card-clause-only
unfolding int_tree
enter_int-returns-in_ok-a-in-Card-clause-only t c =
    let start = c.args.table.now in
    let x = set_tree c.deref-in-Card.result.now in
    let v = of_number (int_tree c.args.term.now) in
    let w = of_number (tree.card x) in
    let in_a = sym c.deref-in-Card.ensures in
    let whole : int_tree c.args.term.now ≡ tree.card x = ap (λ d. int_tree d) c.in-Card.is ∙ (λ i. tree.card (set_tree (in_a i))) in
    let same : v ≡ w = ap (λ d. of_number d) whole in
    let after_a = adds-part start start c.enter_set.new.table v w (of_set x) same (part.card x) (adds-self start v) c.in_ok-a-in-Card.ensures.only in
    let last = c.enter_set.new.table in
    let made : tree_in last (s.Card c.in_ok-a-in-Card.a) ≡ v = tree-Card last.pools (nodes last) c.in_ok-a-in-Card.a x c.in_ok-a-in-Card.ensures.node ∙ sym same in
    adds-made start last c.make-in-Card.new.self v (s.Card c.in_ok-a-in-Card.a) made after_a c.make-in-Card.ensures.only

pub enter_int-returns-in_ok-a-in-Card-clause-node :
    goal.enter_int-returns-in_ok-a-in-Card-clause-node
unfolding int_tree
enter_int-returns-in_ok-a-in-Card-clause-node t c =
    let start = c.args.table.now in
    let x = set_tree c.deref-in-Card.result.now in
    let v = of_number (int_tree c.args.term.now) in
    let w = of_number (tree.card x) in
    let in_a = sym c.deref-in-Card.ensures in
    let whole : int_tree c.args.term.now ≡ tree.card x = ap (λ d. int_tree d) c.in-Card.is ∙ (λ i. tree.card (set_tree (in_a i))) in
    let same : v ≡ w = ap (λ d. of_number d) whole in
    let last = c.enter_set.new.table in
    let made : tree_in last (s.Card c.in_ok-a-in-Card.a) ≡ v = tree-Card last.pools (nodes last) c.in_ok-a-in-Card.a x c.in_ok-a-in-Card.ensures.node ∙ sym same in
    made-as (nodes c.make-in-Card.new.self) c.make-in-Card.result (tree_in last (s.Card c.in_ok-a-in-Card.a)) v made c.make-in-Card.ensures.node

pub enter_int-returns-in_ok-a-in-Card-clause-grows :
    goal.enter_int-returns-in_ok-a-in-Card-clause-grows
enter_int-returns-in_ok-a-in-Card-clause-grows t c =
    extends-trans c.args.table.now c.enter_set.new.table c.make-in-Card.new.self c.in_ok-a-in-Card.ensures.grows c.make-in-Card.ensures.grows

pub enter_int-make-requires-in-Card :
    goal.enter_int-make-requires-in-Card
enter_int-make-requires-in-Card t c =
    let x = set_tree c.deref-in-Card.result.now in
    let last = c.enter_set.new.table in
    fits-Card last.pools (nodes last) c.in_ok-a-in-Card.a x c.in_ok-a-in-Card.ensures.node

pub enter_set-returns-in_ok-name-in-Free-clause-only :
    goal.enter_set-returns-in_ok-name-in-Free-clause-only
unfolding set_tree
enter_set-returns-in_ok-name-in-Free-clause-only t c =
    let start = c.args.table.now in
    let v = of_set (set_tree c.args.term.now) in
    let last = c.name.new.self in
    let whole : set_tree c.args.term.now ≡ tree.free_set c.in-Free.name = ap (λ d. set_tree d) c.in-Free.is in
    let made : tree_in last (s.FreeSet c.in_ok-name-in-Free.name) ≡ v = tree-FreeSet last.pools (nodes last) c.in_ok-name-in-Free.name c.in-Free.name c.in_ok-name-in-Free.ensures.number ∙ ap (λ d. of_set d) (sym whole) in
    adds-made start last c.make.new.self v (s.FreeSet c.in_ok-name-in-Free.name) made (adds-pool start start last v c.in_ok-name-in-Free.ensures.nodes (adds-self start v)) c.make.ensures.only

pub enter_set-returns-in_ok-name-in-Free-clause-node :
    goal.enter_set-returns-in_ok-name-in-Free-clause-node
unfolding set_tree
enter_set-returns-in_ok-name-in-Free-clause-node t c =
    let start = c.args.table.now in
    let v = of_set (set_tree c.args.term.now) in
    let last = c.name.new.self in
    let whole : set_tree c.args.term.now ≡ tree.free_set c.in-Free.name = ap (λ d. set_tree d) c.in-Free.is in
    let made : tree_in last (s.FreeSet c.in_ok-name-in-Free.name) ≡ v = tree-FreeSet last.pools (nodes last) c.in_ok-name-in-Free.name c.in-Free.name c.in_ok-name-in-Free.ensures.number ∙ ap (λ d. of_set d) (sym whole) in
    made-as (nodes c.make.new.self) c.make.result (tree_in last (s.FreeSet c.in_ok-name-in-Free.name)) v made c.make.ensures.node

pub enter_set-returns-in_ok-name-in-Free-clause-grows :
    goal.enter_set-returns-in_ok-name-in-Free-clause-grows
enter_set-returns-in_ok-name-in-Free-clause-grows t c =
    extends-trans c.args.table.now c.name.new.self c.make.new.self c.in_ok-name-in-Free.ensures.grows c.make.ensures.grows

pub enter_set-make-requires :
    goal.enter_set-make-requires
enter_set-make-requires t c =
    let last = c.name.new.self in
    fits-FreeSet last.pools (nodes last) c.in_ok-name-in-Free.name c.in-Free.name c.in_ok-name-in-Free.ensures.number

pub enter_set-returns-in_err-a-in-Read-clause-only :
    goal.enter_set-returns-in_err-a-in-Read-clause-only
unfolding set_tree
enter_set-returns-in_err-a-in-Read-clause-only t c =
    let start = c.args.table.now in
    let x = field_tree c.deref.result.now in
    let y = term_tree c.in-Read.b.value in
    let v = of_set (set_tree c.args.term.now) in
    let w = of_set (tree.read_set x y) in
    let in_a = sym c.deref.ensures in
    let whole : set_tree c.args.term.now ≡ tree.read_set x y = ap (λ d. set_tree d) c.in-Read.is ∙ (λ i. tree.read_set (field_tree (in_a i)) y) in
    let same : v ≡ w = ap (λ d. of_set d) whole in
    adds-part start start c.enter_field.new.table v w (of_field x) same (part.read_set-a x y) (adds-self start v) c.in_err-a-in-Read.ensures.only

pub enter_set-returns-in_err-a-in-Read-clause-grows :
    goal.enter_set-returns-in_err-a-in-Read-clause-grows
enter_set-returns-in_err-a-in-Read-clause-grows t c =
    c.in_err-a-in-Read.ensures.grows

pub enter_set-returns-in_err-b-in-Read-clause-only :
    goal.enter_set-returns-in_err-b-in-Read-clause-only
unfolding set_tree
enter_set-returns-in_err-b-in-Read-clause-only t c =
    let start = c.args.table.now in
    let x = field_tree c.deref.result.now in
    let y = term_tree c.deref-in-Read.result.now in
    let v = of_set (set_tree c.args.term.now) in
    let w = of_set (tree.read_set x y) in
    let in_a = sym c.deref.ensures in
    let in_b = sym c.deref-in-Read.ensures in
    let whole : set_tree c.args.term.now ≡ tree.read_set x y = ap (λ d. set_tree d) c.in-Read.is ∙ (λ i. tree.read_set (field_tree (in_a i)) (term_tree (in_b i))) in
    let same : v ≡ w = ap (λ d. of_set d) whole in
    let after_a = adds-part start start c.enter_field.new.table v w (of_field x) same (part.read_set-a x y) (adds-self start v) c.in_ok-a-in-Read.ensures.only in
    adds-part start c.enter_field.new.table c.enter_term.new.table v w (of_object y) same (part.read_set-b x y) after_a c.in_err-b-in-Read.ensures.only

pub enter_set-returns-in_err-b-in-Read-clause-grows :
    goal.enter_set-returns-in_err-b-in-Read-clause-grows
enter_set-returns-in_err-b-in-Read-clause-grows t c =
    (extends-trans c.args.table.now c.enter_field.new.table c.enter_term.new.table c.in_ok-a-in-Read.ensures.grows c.in_err-b-in-Read.ensures.grows)

pub enter_set-returns-in_ok-b-in-Read-clause-only :
    goal.enter_set-returns-in_ok-b-in-Read-clause-only
unfolding set_tree
enter_set-returns-in_ok-b-in-Read-clause-only t c =
    let start = c.args.table.now in
    let x = field_tree c.deref.result.now in
    let y = term_tree c.deref-in-Read.result.now in
    let v = of_set (set_tree c.args.term.now) in
    let w = of_set (tree.read_set x y) in
    let in_a = sym c.deref.ensures in
    let in_b = sym c.deref-in-Read.ensures in
    let whole : set_tree c.args.term.now ≡ tree.read_set x y = ap (λ d. set_tree d) c.in-Read.is ∙ (λ i. tree.read_set (field_tree (in_a i)) (term_tree (in_b i))) in
    let same : v ≡ w = ap (λ d. of_set d) whole in
    let after_a = adds-part start start c.enter_field.new.table v w (of_field x) same (part.read_set-a x y) (adds-self start v) c.in_ok-a-in-Read.ensures.only in
    let after_b = adds-part start c.enter_field.new.table c.enter_term.new.table v w (of_object y) same (part.read_set-b x y) after_a c.in_ok-b-in-Read.ensures.only in
    let last = c.enter_term.new.table in
    let made : tree_in last (s.ReadSet c.in_ok-a-in-Read.a c.in_ok-b-in-Read.b) ≡ v = tree-ReadSet last.pools (nodes last) c.in_ok-a-in-Read.a c.in_ok-b-in-Read.b x y (node-stays c.enter_field.new.table c.enter_term.new.table c.in_ok-a-in-Read.a (of_field x) c.in_ok-b-in-Read.ensures.grows c.in_ok-a-in-Read.ensures.node) c.in_ok-b-in-Read.ensures.node ∙ sym same in
    adds-made start last c.make-in-Read.new.self v (s.ReadSet c.in_ok-a-in-Read.a c.in_ok-b-in-Read.b) made after_b c.make-in-Read.ensures.only

pub enter_set-returns-in_ok-b-in-Read-clause-node :
    goal.enter_set-returns-in_ok-b-in-Read-clause-node
unfolding set_tree
enter_set-returns-in_ok-b-in-Read-clause-node t c =
    let start = c.args.table.now in
    let x = field_tree c.deref.result.now in
    let y = term_tree c.deref-in-Read.result.now in
    let v = of_set (set_tree c.args.term.now) in
    let w = of_set (tree.read_set x y) in
    let in_a = sym c.deref.ensures in
    let in_b = sym c.deref-in-Read.ensures in
    let whole : set_tree c.args.term.now ≡ tree.read_set x y = ap (λ d. set_tree d) c.in-Read.is ∙ (λ i. tree.read_set (field_tree (in_a i)) (term_tree (in_b i))) in
    let same : v ≡ w = ap (λ d. of_set d) whole in
    let last = c.enter_term.new.table in
    let made : tree_in last (s.ReadSet c.in_ok-a-in-Read.a c.in_ok-b-in-Read.b) ≡ v = tree-ReadSet last.pools (nodes last) c.in_ok-a-in-Read.a c.in_ok-b-in-Read.b x y (node-stays c.enter_field.new.table c.enter_term.new.table c.in_ok-a-in-Read.a (of_field x) c.in_ok-b-in-Read.ensures.grows c.in_ok-a-in-Read.ensures.node) c.in_ok-b-in-Read.ensures.node ∙ sym same in
    made-as (nodes c.make-in-Read.new.self) c.make-in-Read.result (tree_in last (s.ReadSet c.in_ok-a-in-Read.a c.in_ok-b-in-Read.b)) v made c.make-in-Read.ensures.node

pub enter_set-returns-in_ok-b-in-Read-clause-grows :
    goal.enter_set-returns-in_ok-b-in-Read-clause-grows
enter_set-returns-in_ok-b-in-Read-clause-grows t c =
    extends-trans c.args.table.now c.enter_term.new.table c.make-in-Read.new.self (extends-trans c.args.table.now c.enter_field.new.table c.enter_term.new.table c.in_ok-a-in-Read.ensures.grows c.in_ok-b-in-Read.ensures.grows) c.make-in-Read.ensures.grows

pub enter_set-make-requires-in-Read :
    goal.enter_set-make-requires-in-Read
enter_set-make-requires-in-Read t c =
    let x = field_tree c.deref.result.now in
    let y = term_tree c.deref-in-Read.result.now in
    let last = c.enter_term.new.table in
    fits-ReadSet last.pools (nodes last) c.in_ok-a-in-Read.a c.in_ok-b-in-Read.b x y (node-stays c.enter_field.new.table c.enter_term.new.table c.in_ok-a-in-Read.a (of_field x) c.in_ok-b-in-Read.ensures.grows c.in_ok-a-in-Read.ensures.node) c.in_ok-b-in-Read.ensures.node

pub enter_set-returns-in-Empty-clause-only :
    goal.enter_set-returns-in-Empty-clause-only
unfolding set_tree
enter_set-returns-in-Empty-clause-only t c =
    let start = c.args.table.now in
    let v = of_set (set_tree c.args.term.now) in
    let whole : set_tree c.args.term.now ≡ tree.empty = ap (λ d. set_tree d) c.in-Empty.is in
    let made : tree_in start s.Empty ≡ v = tree-Empty start.pools (nodes start) ∙ ap (λ d. of_set d) (sym whole) in
    adds-made start start c.make-in-Empty.new.self v s.Empty made (adds-self start v) c.make-in-Empty.ensures.only

pub enter_set-returns-in-Empty-clause-node :
    goal.enter_set-returns-in-Empty-clause-node
unfolding set_tree
enter_set-returns-in-Empty-clause-node t c =
    let start = c.args.table.now in
    let v = of_set (set_tree c.args.term.now) in
    let whole : set_tree c.args.term.now ≡ tree.empty = ap (λ d. set_tree d) c.in-Empty.is in
    let made : tree_in start s.Empty ≡ v = tree-Empty start.pools (nodes start) ∙ ap (λ d. of_set d) (sym whole) in
    made-as (nodes c.make-in-Empty.new.self) c.make-in-Empty.result (tree_in start s.Empty) v made c.make-in-Empty.ensures.node

pub enter_set-returns-in-Empty-clause-grows :
    goal.enter_set-returns-in-Empty-clause-grows
enter_set-returns-in-Empty-clause-grows t c =
    c.make-in-Empty.ensures.grows

pub enter_set-returns-in-Univ-clause-only :
    goal.enter_set-returns-in-Univ-clause-only
unfolding set_tree
enter_set-returns-in-Univ-clause-only t c =
    let start = c.args.table.now in
    let v = of_set (set_tree c.args.term.now) in
    let whole : set_tree c.args.term.now ≡ tree.univ = ap (λ d. set_tree d) c.in-Univ.is in
    let made : tree_in start s.Univ ≡ v = tree-Univ start.pools (nodes start) ∙ ap (λ d. of_set d) (sym whole) in
    adds-made start start c.make-in-Univ.new.self v s.Univ made (adds-self start v) c.make-in-Univ.ensures.only

pub enter_set-returns-in-Univ-clause-node :
    goal.enter_set-returns-in-Univ-clause-node
unfolding set_tree
enter_set-returns-in-Univ-clause-node t c =
    let start = c.args.table.now in
    let v = of_set (set_tree c.args.term.now) in
    let whole : set_tree c.args.term.now ≡ tree.univ = ap (λ d. set_tree d) c.in-Univ.is in
    let made : tree_in start s.Univ ≡ v = tree-Univ start.pools (nodes start) ∙ ap (λ d. of_set d) (sym whole) in
    made-as (nodes c.make-in-Univ.new.self) c.make-in-Univ.result (tree_in start s.Univ) v made c.make-in-Univ.ensures.node

pub enter_set-returns-in-Univ-clause-grows :
    goal.enter_set-returns-in-Univ-clause-grows
enter_set-returns-in-Univ-clause-grows t c =
    c.make-in-Univ.ensures.grows

pub enter_set-returns-in_err-a-in-Single-clause-only :
    goal.enter_set-returns-in_err-a-in-Single-clause-only
unfolding set_tree
enter_set-returns-in_err-a-in-Single-clause-only t c =
    let start = c.args.table.now in
    let x = term_tree c.deref-in-Single.result.now in
    let v = of_set (set_tree c.args.term.now) in
    let w = of_set (tree.single x) in
    let in_a = sym c.deref-in-Single.ensures in
    let whole : set_tree c.args.term.now ≡ tree.single x = ap (λ d. set_tree d) c.in-Single.is ∙ (λ i. tree.single (term_tree (in_a i))) in
    let same : v ≡ w = ap (λ d. of_set d) whole in
    adds-part start start c.enter_term-in-Single.new.table v w (of_object x) same (part.single x) (adds-self start v) c.in_err-a-in-Single.ensures.only

pub enter_set-returns-in_err-a-in-Single-clause-grows :
    goal.enter_set-returns-in_err-a-in-Single-clause-grows
enter_set-returns-in_err-a-in-Single-clause-grows t c =
    c.in_err-a-in-Single.ensures.grows

pub enter_set-returns-in_ok-a-in-Single-clause-only :
    goal.enter_set-returns-in_ok-a-in-Single-clause-only
unfolding set_tree
enter_set-returns-in_ok-a-in-Single-clause-only t c =
    let start = c.args.table.now in
    let x = term_tree c.deref-in-Single.result.now in
    let v = of_set (set_tree c.args.term.now) in
    let w = of_set (tree.single x) in
    let in_a = sym c.deref-in-Single.ensures in
    let whole : set_tree c.args.term.now ≡ tree.single x = ap (λ d. set_tree d) c.in-Single.is ∙ (λ i. tree.single (term_tree (in_a i))) in
    let same : v ≡ w = ap (λ d. of_set d) whole in
    let after_a = adds-part start start c.enter_term-in-Single.new.table v w (of_object x) same (part.single x) (adds-self start v) c.in_ok-a-in-Single.ensures.only in
    let last = c.enter_term-in-Single.new.table in
    let made : tree_in last (s.Single c.in_ok-a-in-Single.a) ≡ v = tree-Single last.pools (nodes last) c.in_ok-a-in-Single.a x c.in_ok-a-in-Single.ensures.node ∙ sym same in
    adds-made start last c.make-in-Single.new.self v (s.Single c.in_ok-a-in-Single.a) made after_a c.make-in-Single.ensures.only

pub enter_set-returns-in_ok-a-in-Single-clause-node :
    goal.enter_set-returns-in_ok-a-in-Single-clause-node
unfolding set_tree
enter_set-returns-in_ok-a-in-Single-clause-node t c =
    let start = c.args.table.now in
    let x = term_tree c.deref-in-Single.result.now in
    let v = of_set (set_tree c.args.term.now) in
    let w = of_set (tree.single x) in
    let in_a = sym c.deref-in-Single.ensures in
    let whole : set_tree c.args.term.now ≡ tree.single x = ap (λ d. set_tree d) c.in-Single.is ∙ (λ i. tree.single (term_tree (in_a i))) in
    let same : v ≡ w = ap (λ d. of_set d) whole in
    let last = c.enter_term-in-Single.new.table in
    let made : tree_in last (s.Single c.in_ok-a-in-Single.a) ≡ v = tree-Single last.pools (nodes last) c.in_ok-a-in-Single.a x c.in_ok-a-in-Single.ensures.node ∙ sym same in
    made-as (nodes c.make-in-Single.new.self) c.make-in-Single.result (tree_in last (s.Single c.in_ok-a-in-Single.a)) v made c.make-in-Single.ensures.node

pub enter_set-returns-in_ok-a-in-Single-clause-grows :
    goal.enter_set-returns-in_ok-a-in-Single-clause-grows
enter_set-returns-in_ok-a-in-Single-clause-grows t c =
    extends-trans c.args.table.now c.enter_term-in-Single.new.table c.make-in-Single.new.self c.in_ok-a-in-Single.ensures.grows c.make-in-Single.ensures.grows

pub enter_set-make-requires-in-Single :
    goal.enter_set-make-requires-in-Single
enter_set-make-requires-in-Single t c =
    let x = term_tree c.deref-in-Single.result.now in
    let last = c.enter_term-in-Single.new.table in
    fits-Single last.pools (nodes last) c.in_ok-a-in-Single.a x c.in_ok-a-in-Single.ensures.node

pub enter_set-returns-in_err-a-in-Union-clause-only :
    goal.enter_set-returns-in_err-a-in-Union-clause-only
unfolding set_tree
enter_set-returns-in_err-a-in-Union-clause-only t c =
    let start = c.args.table.now in
    let x = set_tree c.deref-in-Union.result.now in
    let y = set_tree c.in-Union.b.value in
    let v = of_set (set_tree c.args.term.now) in
    let w = of_set (tree.union x y) in
    let in_a = sym c.deref-in-Union.ensures in
    let whole : set_tree c.args.term.now ≡ tree.union x y = ap (λ d. set_tree d) c.in-Union.is ∙ (λ i. tree.union (set_tree (in_a i)) y) in
    let same : v ≡ w = ap (λ d. of_set d) whole in
    adds-part start start c.enter_set.new.table v w (of_set x) same (part.union-a x y) (adds-self start v) c.in_err-a-in-Union.ensures.only

pub enter_set-returns-in_err-a-in-Union-clause-grows :
    goal.enter_set-returns-in_err-a-in-Union-clause-grows
enter_set-returns-in_err-a-in-Union-clause-grows t c =
    c.in_err-a-in-Union.ensures.grows

pub enter_set-returns-in_err-b-in-Union-clause-only :
    goal.enter_set-returns-in_err-b-in-Union-clause-only
unfolding set_tree
enter_set-returns-in_err-b-in-Union-clause-only t c =
    let start = c.args.table.now in
    let x = set_tree c.deref-in-Union.result.now in
    let y = set_tree c.deref-in-Union-2.result.now in
    let v = of_set (set_tree c.args.term.now) in
    let w = of_set (tree.union x y) in
    let in_a = sym c.deref-in-Union.ensures in
    let in_b = sym c.deref-in-Union-2.ensures in
    let whole : set_tree c.args.term.now ≡ tree.union x y = ap (λ d. set_tree d) c.in-Union.is ∙ (λ i. tree.union (set_tree (in_a i)) (set_tree (in_b i))) in
    let same : v ≡ w = ap (λ d. of_set d) whole in
    let after_a = adds-part start start c.enter_set.new.table v w (of_set x) same (part.union-a x y) (adds-self start v) c.in_ok-a-in-Union.ensures.only in
    adds-part start c.enter_set.new.table c.enter_set-in-Union.new.table v w (of_set y) same (part.union-b x y) after_a c.in_err-b-in-Union.ensures.only

pub enter_set-returns-in_err-b-in-Union-clause-grows :
    goal.enter_set-returns-in_err-b-in-Union-clause-grows
enter_set-returns-in_err-b-in-Union-clause-grows t c =
    (extends-trans c.args.table.now c.enter_set.new.table c.enter_set-in-Union.new.table c.in_ok-a-in-Union.ensures.grows c.in_err-b-in-Union.ensures.grows)

pub enter_set-returns-in_ok-b-in-Union-clause-only :
    goal.enter_set-returns-in_ok-b-in-Union-clause-only
unfolding set_tree
enter_set-returns-in_ok-b-in-Union-clause-only t c =
    let start = c.args.table.now in
    let x = set_tree c.deref-in-Union.result.now in
    let y = set_tree c.deref-in-Union-2.result.now in
    let v = of_set (set_tree c.args.term.now) in
    let w = of_set (tree.union x y) in
    let in_a = sym c.deref-in-Union.ensures in
    let in_b = sym c.deref-in-Union-2.ensures in
    let whole : set_tree c.args.term.now ≡ tree.union x y = ap (λ d. set_tree d) c.in-Union.is ∙ (λ i. tree.union (set_tree (in_a i)) (set_tree (in_b i))) in
    let same : v ≡ w = ap (λ d. of_set d) whole in
    let after_a = adds-part start start c.enter_set.new.table v w (of_set x) same (part.union-a x y) (adds-self start v) c.in_ok-a-in-Union.ensures.only in
    let after_b = adds-part start c.enter_set.new.table c.enter_set-in-Union.new.table v w (of_set y) same (part.union-b x y) after_a c.in_ok-b-in-Union.ensures.only in
    let last = c.enter_set-in-Union.new.table in
    let made : tree_in last (s.Union c.in_ok-a-in-Union.a c.in_ok-b-in-Union.b) ≡ v = tree-Union last.pools (nodes last) c.in_ok-a-in-Union.a c.in_ok-b-in-Union.b x y (node-stays c.enter_set.new.table c.enter_set-in-Union.new.table c.in_ok-a-in-Union.a (of_set x) c.in_ok-b-in-Union.ensures.grows c.in_ok-a-in-Union.ensures.node) c.in_ok-b-in-Union.ensures.node ∙ sym same in
    adds-made start last c.make-in-Union.new.self v (s.Union c.in_ok-a-in-Union.a c.in_ok-b-in-Union.b) made after_b c.make-in-Union.ensures.only

pub enter_set-returns-in_ok-b-in-Union-clause-node :
    goal.enter_set-returns-in_ok-b-in-Union-clause-node
unfolding set_tree
enter_set-returns-in_ok-b-in-Union-clause-node t c =
    let start = c.args.table.now in
    let x = set_tree c.deref-in-Union.result.now in
    let y = set_tree c.deref-in-Union-2.result.now in
    let v = of_set (set_tree c.args.term.now) in
    let w = of_set (tree.union x y) in
    let in_a = sym c.deref-in-Union.ensures in
    let in_b = sym c.deref-in-Union-2.ensures in
    let whole : set_tree c.args.term.now ≡ tree.union x y = ap (λ d. set_tree d) c.in-Union.is ∙ (λ i. tree.union (set_tree (in_a i)) (set_tree (in_b i))) in
    let same : v ≡ w = ap (λ d. of_set d) whole in
    let last = c.enter_set-in-Union.new.table in
    let made : tree_in last (s.Union c.in_ok-a-in-Union.a c.in_ok-b-in-Union.b) ≡ v = tree-Union last.pools (nodes last) c.in_ok-a-in-Union.a c.in_ok-b-in-Union.b x y (node-stays c.enter_set.new.table c.enter_set-in-Union.new.table c.in_ok-a-in-Union.a (of_set x) c.in_ok-b-in-Union.ensures.grows c.in_ok-a-in-Union.ensures.node) c.in_ok-b-in-Union.ensures.node ∙ sym same in
    made-as (nodes c.make-in-Union.new.self) c.make-in-Union.result (tree_in last (s.Union c.in_ok-a-in-Union.a c.in_ok-b-in-Union.b)) v made c.make-in-Union.ensures.node

pub enter_set-returns-in_ok-b-in-Union-clause-grows :
    goal.enter_set-returns-in_ok-b-in-Union-clause-grows
enter_set-returns-in_ok-b-in-Union-clause-grows t c =
    extends-trans c.args.table.now c.enter_set-in-Union.new.table c.make-in-Union.new.self (extends-trans c.args.table.now c.enter_set.new.table c.enter_set-in-Union.new.table c.in_ok-a-in-Union.ensures.grows c.in_ok-b-in-Union.ensures.grows) c.make-in-Union.ensures.grows

pub enter_set-make-requires-in-Union :
    goal.enter_set-make-requires-in-Union
enter_set-make-requires-in-Union t c =
    let x = set_tree c.deref-in-Union.result.now in
    let y = set_tree c.deref-in-Union-2.result.now in
    let last = c.enter_set-in-Union.new.table in
    fits-Union last.pools (nodes last) c.in_ok-a-in-Union.a c.in_ok-b-in-Union.b x y (node-stays c.enter_set.new.table c.enter_set-in-Union.new.table c.in_ok-a-in-Union.a (of_set x) c.in_ok-b-in-Union.ensures.grows c.in_ok-a-in-Union.ensures.node) c.in_ok-b-in-Union.ensures.node

pub enter_set-returns-in_err-a-in-Inter-clause-only :
    goal.enter_set-returns-in_err-a-in-Inter-clause-only
unfolding set_tree
enter_set-returns-in_err-a-in-Inter-clause-only t c =
    let start = c.args.table.now in
    let x = set_tree c.deref-in-Inter.result.now in
    let y = set_tree c.in-Inter.b.value in
    let v = of_set (set_tree c.args.term.now) in
    let w = of_set (tree.inter x y) in
    let in_a = sym c.deref-in-Inter.ensures in
    let whole : set_tree c.args.term.now ≡ tree.inter x y = ap (λ d. set_tree d) c.in-Inter.is ∙ (λ i. tree.inter (set_tree (in_a i)) y) in
    let same : v ≡ w = ap (λ d. of_set d) whole in
    adds-part start start c.enter_set-in-Inter.new.table v w (of_set x) same (part.inter-a x y) (adds-self start v) c.in_err-a-in-Inter.ensures.only

pub enter_set-returns-in_err-a-in-Inter-clause-grows :
    goal.enter_set-returns-in_err-a-in-Inter-clause-grows
enter_set-returns-in_err-a-in-Inter-clause-grows t c =
    c.in_err-a-in-Inter.ensures.grows

pub enter_set-returns-in_err-b-in-Inter-clause-only :
    goal.enter_set-returns-in_err-b-in-Inter-clause-only
unfolding set_tree
enter_set-returns-in_err-b-in-Inter-clause-only t c =
    let start = c.args.table.now in
    let x = set_tree c.deref-in-Inter.result.now in
    let y = set_tree c.deref-in-Inter-2.result.now in
    let v = of_set (set_tree c.args.term.now) in
    let w = of_set (tree.inter x y) in
    let in_a = sym c.deref-in-Inter.ensures in
    let in_b = sym c.deref-in-Inter-2.ensures in
    let whole : set_tree c.args.term.now ≡ tree.inter x y = ap (λ d. set_tree d) c.in-Inter.is ∙ (λ i. tree.inter (set_tree (in_a i)) (set_tree (in_b i))) in
    let same : v ≡ w = ap (λ d. of_set d) whole in
    let after_a = adds-part start start c.enter_set-in-Inter.new.table v w (of_set x) same (part.inter-a x y) (adds-self start v) c.in_ok-a-in-Inter.ensures.only in
    adds-part start c.enter_set-in-Inter.new.table c.enter_set-in-Inter-2.new.table v w (of_set y) same (part.inter-b x y) after_a c.in_err-b-in-Inter.ensures.only

pub enter_set-returns-in_err-b-in-Inter-clause-grows :
    goal.enter_set-returns-in_err-b-in-Inter-clause-grows
enter_set-returns-in_err-b-in-Inter-clause-grows t c =
    (extends-trans c.args.table.now c.enter_set-in-Inter.new.table c.enter_set-in-Inter-2.new.table c.in_ok-a-in-Inter.ensures.grows c.in_err-b-in-Inter.ensures.grows)

pub enter_set-returns-in_ok-b-in-Inter-clause-only :
    goal.enter_set-returns-in_ok-b-in-Inter-clause-only
unfolding set_tree
enter_set-returns-in_ok-b-in-Inter-clause-only t c =
    let start = c.args.table.now in
    let x = set_tree c.deref-in-Inter.result.now in
    let y = set_tree c.deref-in-Inter-2.result.now in
    let v = of_set (set_tree c.args.term.now) in
    let w = of_set (tree.inter x y) in
    let in_a = sym c.deref-in-Inter.ensures in
    let in_b = sym c.deref-in-Inter-2.ensures in
    let whole : set_tree c.args.term.now ≡ tree.inter x y = ap (λ d. set_tree d) c.in-Inter.is ∙ (λ i. tree.inter (set_tree (in_a i)) (set_tree (in_b i))) in
    let same : v ≡ w = ap (λ d. of_set d) whole in
    let after_a = adds-part start start c.enter_set-in-Inter.new.table v w (of_set x) same (part.inter-a x y) (adds-self start v) c.in_ok-a-in-Inter.ensures.only in
    let after_b = adds-part start c.enter_set-in-Inter.new.table c.enter_set-in-Inter-2.new.table v w (of_set y) same (part.inter-b x y) after_a c.in_ok-b-in-Inter.ensures.only in
    let last = c.enter_set-in-Inter-2.new.table in
    let made : tree_in last (s.Inter c.in_ok-a-in-Inter.a c.in_ok-b-in-Inter.b) ≡ v = tree-Inter last.pools (nodes last) c.in_ok-a-in-Inter.a c.in_ok-b-in-Inter.b x y (node-stays c.enter_set-in-Inter.new.table c.enter_set-in-Inter-2.new.table c.in_ok-a-in-Inter.a (of_set x) c.in_ok-b-in-Inter.ensures.grows c.in_ok-a-in-Inter.ensures.node) c.in_ok-b-in-Inter.ensures.node ∙ sym same in
    adds-made start last c.make-in-Inter.new.self v (s.Inter c.in_ok-a-in-Inter.a c.in_ok-b-in-Inter.b) made after_b c.make-in-Inter.ensures.only

pub enter_set-returns-in_ok-b-in-Inter-clause-node :
    goal.enter_set-returns-in_ok-b-in-Inter-clause-node
unfolding set_tree
enter_set-returns-in_ok-b-in-Inter-clause-node t c =
    let start = c.args.table.now in
    let x = set_tree c.deref-in-Inter.result.now in
    let y = set_tree c.deref-in-Inter-2.result.now in
    let v = of_set (set_tree c.args.term.now) in
    let w = of_set (tree.inter x y) in
    let in_a = sym c.deref-in-Inter.ensures in
    let in_b = sym c.deref-in-Inter-2.ensures in
    let whole : set_tree c.args.term.now ≡ tree.inter x y = ap (λ d. set_tree d) c.in-Inter.is ∙ (λ i. tree.inter (set_tree (in_a i)) (set_tree (in_b i))) in
    let same : v ≡ w = ap (λ d. of_set d) whole in
    let last = c.enter_set-in-Inter-2.new.table in
    let made : tree_in last (s.Inter c.in_ok-a-in-Inter.a c.in_ok-b-in-Inter.b) ≡ v = tree-Inter last.pools (nodes last) c.in_ok-a-in-Inter.a c.in_ok-b-in-Inter.b x y (node-stays c.enter_set-in-Inter.new.table c.enter_set-in-Inter-2.new.table c.in_ok-a-in-Inter.a (of_set x) c.in_ok-b-in-Inter.ensures.grows c.in_ok-a-in-Inter.ensures.node) c.in_ok-b-in-Inter.ensures.node ∙ sym same in
    made-as (nodes c.make-in-Inter.new.self) c.make-in-Inter.result (tree_in last (s.Inter c.in_ok-a-in-Inter.a c.in_ok-b-in-Inter.b)) v made c.make-in-Inter.ensures.node

pub enter_set-returns-in_ok-b-in-Inter-clause-grows :
    goal.enter_set-returns-in_ok-b-in-Inter-clause-grows
enter_set-returns-in_ok-b-in-Inter-clause-grows t c =
    extends-trans c.args.table.now c.enter_set-in-Inter-2.new.table c.make-in-Inter.new.self (extends-trans c.args.table.now c.enter_set-in-Inter.new.table c.enter_set-in-Inter-2.new.table c.in_ok-a-in-Inter.ensures.grows c.in_ok-b-in-Inter.ensures.grows) c.make-in-Inter.ensures.grows

pub enter_set-make-requires-in-Inter :
    goal.enter_set-make-requires-in-Inter
enter_set-make-requires-in-Inter t c =
    let x = set_tree c.deref-in-Inter.result.now in
    let y = set_tree c.deref-in-Inter-2.result.now in
    let last = c.enter_set-in-Inter-2.new.table in
    fits-Inter last.pools (nodes last) c.in_ok-a-in-Inter.a c.in_ok-b-in-Inter.b x y (node-stays c.enter_set-in-Inter.new.table c.enter_set-in-Inter-2.new.table c.in_ok-a-in-Inter.a (of_set x) c.in_ok-b-in-Inter.ensures.grows c.in_ok-a-in-Inter.ensures.node) c.in_ok-b-in-Inter.ensures.node

pub enter_set-returns-in_err-a-in-Diff-clause-only :
    goal.enter_set-returns-in_err-a-in-Diff-clause-only
unfolding set_tree
enter_set-returns-in_err-a-in-Diff-clause-only t c =
    let start = c.args.table.now in
    let x = set_tree c.deref-in-Diff.result.now in
    let y = set_tree c.in-Diff.b.value in
    let v = of_set (set_tree c.args.term.now) in
    let w = of_set (tree.diff x y) in
    let in_a = sym c.deref-in-Diff.ensures in
    let whole : set_tree c.args.term.now ≡ tree.diff x y = ap (λ d. set_tree d) c.in-Diff.is ∙ (λ i. tree.diff (set_tree (in_a i)) y) in
    let same : v ≡ w = ap (λ d. of_set d) whole in
    adds-part start start c.enter_set-in-Diff.new.table v w (of_set x) same (part.diff-a x y) (adds-self start v) c.in_err-a-in-Diff.ensures.only

pub enter_set-returns-in_err-a-in-Diff-clause-grows :
    goal.enter_set-returns-in_err-a-in-Diff-clause-grows
enter_set-returns-in_err-a-in-Diff-clause-grows t c =
    c.in_err-a-in-Diff.ensures.grows

pub enter_set-returns-in_err-b-in-Diff-clause-only :
    goal.enter_set-returns-in_err-b-in-Diff-clause-only
unfolding set_tree
enter_set-returns-in_err-b-in-Diff-clause-only t c =
    let start = c.args.table.now in
    let x = set_tree c.deref-in-Diff.result.now in
    let y = set_tree c.deref-in-Diff-2.result.now in
    let v = of_set (set_tree c.args.term.now) in
    let w = of_set (tree.diff x y) in
    let in_a = sym c.deref-in-Diff.ensures in
    let in_b = sym c.deref-in-Diff-2.ensures in
    let whole : set_tree c.args.term.now ≡ tree.diff x y = ap (λ d. set_tree d) c.in-Diff.is ∙ (λ i. tree.diff (set_tree (in_a i)) (set_tree (in_b i))) in
    let same : v ≡ w = ap (λ d. of_set d) whole in
    let after_a = adds-part start start c.enter_set-in-Diff.new.table v w (of_set x) same (part.diff-a x y) (adds-self start v) c.in_ok-a-in-Diff.ensures.only in
    adds-part start c.enter_set-in-Diff.new.table c.enter_set-in-Diff-2.new.table v w (of_set y) same (part.diff-b x y) after_a c.in_err-b-in-Diff.ensures.only

pub enter_set-returns-in_err-b-in-Diff-clause-grows :
    goal.enter_set-returns-in_err-b-in-Diff-clause-grows
enter_set-returns-in_err-b-in-Diff-clause-grows t c =
    (extends-trans c.args.table.now c.enter_set-in-Diff.new.table c.enter_set-in-Diff-2.new.table c.in_ok-a-in-Diff.ensures.grows c.in_err-b-in-Diff.ensures.grows)

pub enter_set-returns-in_ok-b-in-Diff-clause-only :
    goal.enter_set-returns-in_ok-b-in-Diff-clause-only
unfolding set_tree
enter_set-returns-in_ok-b-in-Diff-clause-only t c =
    let start = c.args.table.now in
    let x = set_tree c.deref-in-Diff.result.now in
    let y = set_tree c.deref-in-Diff-2.result.now in
    let v = of_set (set_tree c.args.term.now) in
    let w = of_set (tree.diff x y) in
    let in_a = sym c.deref-in-Diff.ensures in
    let in_b = sym c.deref-in-Diff-2.ensures in
    let whole : set_tree c.args.term.now ≡ tree.diff x y = ap (λ d. set_tree d) c.in-Diff.is ∙ (λ i. tree.diff (set_tree (in_a i)) (set_tree (in_b i))) in
    let same : v ≡ w = ap (λ d. of_set d) whole in
    let after_a = adds-part start start c.enter_set-in-Diff.new.table v w (of_set x) same (part.diff-a x y) (adds-self start v) c.in_ok-a-in-Diff.ensures.only in
    let after_b = adds-part start c.enter_set-in-Diff.new.table c.enter_set-in-Diff-2.new.table v w (of_set y) same (part.diff-b x y) after_a c.in_ok-b-in-Diff.ensures.only in
    let last = c.enter_set-in-Diff-2.new.table in
    let made : tree_in last (s.Diff c.in_ok-a-in-Diff.a c.in_ok-b-in-Diff.b) ≡ v = tree-Diff last.pools (nodes last) c.in_ok-a-in-Diff.a c.in_ok-b-in-Diff.b x y (node-stays c.enter_set-in-Diff.new.table c.enter_set-in-Diff-2.new.table c.in_ok-a-in-Diff.a (of_set x) c.in_ok-b-in-Diff.ensures.grows c.in_ok-a-in-Diff.ensures.node) c.in_ok-b-in-Diff.ensures.node ∙ sym same in
    adds-made start last c.make-in-Diff.new.self v (s.Diff c.in_ok-a-in-Diff.a c.in_ok-b-in-Diff.b) made after_b c.make-in-Diff.ensures.only

pub enter_set-returns-in_ok-b-in-Diff-clause-node :
    goal.enter_set-returns-in_ok-b-in-Diff-clause-node
unfolding set_tree
enter_set-returns-in_ok-b-in-Diff-clause-node t c =
    let start = c.args.table.now in
    let x = set_tree c.deref-in-Diff.result.now in
    let y = set_tree c.deref-in-Diff-2.result.now in
    let v = of_set (set_tree c.args.term.now) in
    let w = of_set (tree.diff x y) in
    let in_a = sym c.deref-in-Diff.ensures in
    let in_b = sym c.deref-in-Diff-2.ensures in
    let whole : set_tree c.args.term.now ≡ tree.diff x y = ap (λ d. set_tree d) c.in-Diff.is ∙ (λ i. tree.diff (set_tree (in_a i)) (set_tree (in_b i))) in
    let same : v ≡ w = ap (λ d. of_set d) whole in
    let last = c.enter_set-in-Diff-2.new.table in
    let made : tree_in last (s.Diff c.in_ok-a-in-Diff.a c.in_ok-b-in-Diff.b) ≡ v = tree-Diff last.pools (nodes last) c.in_ok-a-in-Diff.a c.in_ok-b-in-Diff.b x y (node-stays c.enter_set-in-Diff.new.table c.enter_set-in-Diff-2.new.table c.in_ok-a-in-Diff.a (of_set x) c.in_ok-b-in-Diff.ensures.grows c.in_ok-a-in-Diff.ensures.node) c.in_ok-b-in-Diff.ensures.node ∙ sym same in
    made-as (nodes c.make-in-Diff.new.self) c.make-in-Diff.result (tree_in last (s.Diff c.in_ok-a-in-Diff.a c.in_ok-b-in-Diff.b)) v made c.make-in-Diff.ensures.node

pub enter_set-returns-in_ok-b-in-Diff-clause-grows :
    goal.enter_set-returns-in_ok-b-in-Diff-clause-grows
enter_set-returns-in_ok-b-in-Diff-clause-grows t c =
    extends-trans c.args.table.now c.enter_set-in-Diff-2.new.table c.make-in-Diff.new.self (extends-trans c.args.table.now c.enter_set-in-Diff.new.table c.enter_set-in-Diff-2.new.table c.in_ok-a-in-Diff.ensures.grows c.in_ok-b-in-Diff.ensures.grows) c.make-in-Diff.ensures.grows

pub enter_set-make-requires-in-Diff :
    goal.enter_set-make-requires-in-Diff
enter_set-make-requires-in-Diff t c =
    let x = set_tree c.deref-in-Diff.result.now in
    let y = set_tree c.deref-in-Diff-2.result.now in
    let last = c.enter_set-in-Diff-2.new.table in
    fits-Diff last.pools (nodes last) c.in_ok-a-in-Diff.a c.in_ok-b-in-Diff.b x y (node-stays c.enter_set-in-Diff.new.table c.enter_set-in-Diff-2.new.table c.in_ok-a-in-Diff.a (of_set x) c.in_ok-b-in-Diff.ensures.grows c.in_ok-a-in-Diff.ensures.node) c.in_ok-b-in-Diff.ensures.node

pub enter_set-returns-in_err-a-in-Compl-clause-only :
    goal.enter_set-returns-in_err-a-in-Compl-clause-only
unfolding set_tree
enter_set-returns-in_err-a-in-Compl-clause-only t c =
    let start = c.args.table.now in
    let x = set_tree c.deref-in-Compl.result.now in
    let v = of_set (set_tree c.args.term.now) in
    let w = of_set (tree.compl x) in
    let in_a = sym c.deref-in-Compl.ensures in
    let whole : set_tree c.args.term.now ≡ tree.compl x = ap (λ d. set_tree d) c.in-Compl.is ∙ (λ i. tree.compl (set_tree (in_a i))) in
    let same : v ≡ w = ap (λ d. of_set d) whole in
    adds-part start start c.enter_set-in-Compl.new.table v w (of_set x) same (part.compl x) (adds-self start v) c.in_err-a-in-Compl.ensures.only

pub enter_set-returns-in_err-a-in-Compl-clause-grows :
    goal.enter_set-returns-in_err-a-in-Compl-clause-grows
enter_set-returns-in_err-a-in-Compl-clause-grows t c =
    c.in_err-a-in-Compl.ensures.grows

pub enter_set-returns-in_ok-a-in-Compl-clause-only :
    goal.enter_set-returns-in_ok-a-in-Compl-clause-only
unfolding set_tree
enter_set-returns-in_ok-a-in-Compl-clause-only t c =
    let start = c.args.table.now in
    let x = set_tree c.deref-in-Compl.result.now in
    let v = of_set (set_tree c.args.term.now) in
    let w = of_set (tree.compl x) in
    let in_a = sym c.deref-in-Compl.ensures in
    let whole : set_tree c.args.term.now ≡ tree.compl x = ap (λ d. set_tree d) c.in-Compl.is ∙ (λ i. tree.compl (set_tree (in_a i))) in
    let same : v ≡ w = ap (λ d. of_set d) whole in
    let after_a = adds-part start start c.enter_set-in-Compl.new.table v w (of_set x) same (part.compl x) (adds-self start v) c.in_ok-a-in-Compl.ensures.only in
    let last = c.enter_set-in-Compl.new.table in
    let made : tree_in last (s.Compl c.in_ok-a-in-Compl.a) ≡ v = tree-Compl last.pools (nodes last) c.in_ok-a-in-Compl.a x c.in_ok-a-in-Compl.ensures.node ∙ sym same in
    adds-made start last c.make-in-Compl.new.self v (s.Compl c.in_ok-a-in-Compl.a) made after_a c.make-in-Compl.ensures.only

pub enter_set-returns-in_ok-a-in-Compl-clause-node :
    goal.enter_set-returns-in_ok-a-in-Compl-clause-node
unfolding set_tree
enter_set-returns-in_ok-a-in-Compl-clause-node t c =
    let start = c.args.table.now in
    let x = set_tree c.deref-in-Compl.result.now in
    let v = of_set (set_tree c.args.term.now) in
    let w = of_set (tree.compl x) in
    let in_a = sym c.deref-in-Compl.ensures in
    let whole : set_tree c.args.term.now ≡ tree.compl x = ap (λ d. set_tree d) c.in-Compl.is ∙ (λ i. tree.compl (set_tree (in_a i))) in
    let same : v ≡ w = ap (λ d. of_set d) whole in
    let last = c.enter_set-in-Compl.new.table in
    let made : tree_in last (s.Compl c.in_ok-a-in-Compl.a) ≡ v = tree-Compl last.pools (nodes last) c.in_ok-a-in-Compl.a x c.in_ok-a-in-Compl.ensures.node ∙ sym same in
    made-as (nodes c.make-in-Compl.new.self) c.make-in-Compl.result (tree_in last (s.Compl c.in_ok-a-in-Compl.a)) v made c.make-in-Compl.ensures.node

pub enter_set-returns-in_ok-a-in-Compl-clause-grows :
    goal.enter_set-returns-in_ok-a-in-Compl-clause-grows
enter_set-returns-in_ok-a-in-Compl-clause-grows t c =
    extends-trans c.args.table.now c.enter_set-in-Compl.new.table c.make-in-Compl.new.self c.in_ok-a-in-Compl.ensures.grows c.make-in-Compl.ensures.grows

pub enter_set-make-requires-in-Compl :
    goal.enter_set-make-requires-in-Compl
enter_set-make-requires-in-Compl t c =
    let x = set_tree c.deref-in-Compl.result.now in
    let last = c.enter_set-in-Compl.new.table in
    fits-Compl last.pools (nodes last) c.in_ok-a-in-Compl.a x c.in_ok-a-in-Compl.ensures.node

pub enter_set-returns-in_err-a-in-Compr-clause-only :
    goal.enter_set-returns-in_err-a-in-Compr-clause-only
unfolding set_tree
enter_set-returns-in_err-a-in-Compr-clause-only t c =
    let start = c.args.table.now in
    let x = formula_tree c.deref-in-Compr.result.now in
    let v = of_set (set_tree c.args.term.now) in
    let w = of_set (tree.compr x) in
    let in_a = sym c.deref-in-Compr.ensures in
    let whole : set_tree c.args.term.now ≡ tree.compr x = ap (λ d. set_tree d) c.in-Compr.is ∙ (λ i. tree.compr (formula_tree (in_a i))) in
    let same : v ≡ w = ap (λ d. of_set d) whole in
    adds-part start start c.enter_formula.new.table v w (of_truth x) same (part.compr x) (adds-self start v) c.in_err-a-in-Compr.ensures.only

pub enter_set-returns-in_err-a-in-Compr-clause-grows :
    goal.enter_set-returns-in_err-a-in-Compr-clause-grows
enter_set-returns-in_err-a-in-Compr-clause-grows t c =
    c.in_err-a-in-Compr.ensures.grows

pub enter_set-returns-in_ok-a-in-Compr-clause-only :
    goal.enter_set-returns-in_ok-a-in-Compr-clause-only
unfolding set_tree
enter_set-returns-in_ok-a-in-Compr-clause-only t c =
    let start = c.args.table.now in
    let x = formula_tree c.deref-in-Compr.result.now in
    let v = of_set (set_tree c.args.term.now) in
    let w = of_set (tree.compr x) in
    let in_a = sym c.deref-in-Compr.ensures in
    let whole : set_tree c.args.term.now ≡ tree.compr x = ap (λ d. set_tree d) c.in-Compr.is ∙ (λ i. tree.compr (formula_tree (in_a i))) in
    let same : v ≡ w = ap (λ d. of_set d) whole in
    let after_a = adds-part start start c.enter_formula.new.table v w (of_truth x) same (part.compr x) (adds-self start v) c.in_ok-a-in-Compr.ensures.only in
    let last = c.enter_formula.new.table in
    let made : tree_in last (s.Compr c.in_ok-a-in-Compr.a) ≡ v = tree-Compr last.pools (nodes last) c.in_ok-a-in-Compr.a x c.in_ok-a-in-Compr.ensures.node ∙ sym same in
    adds-made start last c.make-in-Compr.new.self v (s.Compr c.in_ok-a-in-Compr.a) made after_a c.make-in-Compr.ensures.only

pub enter_set-returns-in_ok-a-in-Compr-clause-node :
    goal.enter_set-returns-in_ok-a-in-Compr-clause-node
unfolding set_tree
enter_set-returns-in_ok-a-in-Compr-clause-node t c =
    let start = c.args.table.now in
    let x = formula_tree c.deref-in-Compr.result.now in
    let v = of_set (set_tree c.args.term.now) in
    let w = of_set (tree.compr x) in
    let in_a = sym c.deref-in-Compr.ensures in
    let whole : set_tree c.args.term.now ≡ tree.compr x = ap (λ d. set_tree d) c.in-Compr.is ∙ (λ i. tree.compr (formula_tree (in_a i))) in
    let same : v ≡ w = ap (λ d. of_set d) whole in
    let last = c.enter_formula.new.table in
    let made : tree_in last (s.Compr c.in_ok-a-in-Compr.a) ≡ v = tree-Compr last.pools (nodes last) c.in_ok-a-in-Compr.a x c.in_ok-a-in-Compr.ensures.node ∙ sym same in
    made-as (nodes c.make-in-Compr.new.self) c.make-in-Compr.result (tree_in last (s.Compr c.in_ok-a-in-Compr.a)) v made c.make-in-Compr.ensures.node

pub enter_set-returns-in_ok-a-in-Compr-clause-grows :
    goal.enter_set-returns-in_ok-a-in-Compr-clause-grows
enter_set-returns-in_ok-a-in-Compr-clause-grows t c =
    extends-trans c.args.table.now c.enter_formula.new.table c.make-in-Compr.new.self c.in_ok-a-in-Compr.ensures.grows c.make-in-Compr.ensures.grows

pub enter_set-make-requires-in-Compr :
    goal.enter_set-make-requires-in-Compr
enter_set-make-requires-in-Compr t c =
    let x = formula_tree c.deref-in-Compr.result.now in
    let last = c.enter_formula.new.table in
    fits-Compr last.pools (nodes last) c.in_ok-a-in-Compr.a x c.in_ok-a-in-Compr.ensures.node

pub enter_field-returns-in_ok-name-in-Free-clause-only :
    goal.enter_field-returns-in_ok-name-in-Free-clause-only
unfolding field_tree
enter_field-returns-in_ok-name-in-Free-clause-only t c =
    let start = c.args.table.now in
    let v = of_field (field_tree c.args.field.now) in
    let last = c.name.new.self in
    let whole : field_tree c.args.field.now ≡ tree.free_field c.in-Free.name = ap (λ d. field_tree d) c.in-Free.is in
    let made : tree_in last (s.FreeField c.in_ok-name-in-Free.name) ≡ v = tree-FreeField last.pools (nodes last) c.in_ok-name-in-Free.name c.in-Free.name c.in_ok-name-in-Free.ensures.number ∙ ap (λ d. of_field d) (sym whole) in
    adds-made start last c.make.new.self v (s.FreeField c.in_ok-name-in-Free.name) made (adds-pool start start last v c.in_ok-name-in-Free.ensures.nodes (adds-self start v)) c.make.ensures.only

pub enter_field-returns-in_ok-name-in-Free-clause-node :
    goal.enter_field-returns-in_ok-name-in-Free-clause-node
unfolding field_tree
enter_field-returns-in_ok-name-in-Free-clause-node t c =
    let start = c.args.table.now in
    let v = of_field (field_tree c.args.field.now) in
    let last = c.name.new.self in
    let whole : field_tree c.args.field.now ≡ tree.free_field c.in-Free.name = ap (λ d. field_tree d) c.in-Free.is in
    let made : tree_in last (s.FreeField c.in_ok-name-in-Free.name) ≡ v = tree-FreeField last.pools (nodes last) c.in_ok-name-in-Free.name c.in-Free.name c.in_ok-name-in-Free.ensures.number ∙ ap (λ d. of_field d) (sym whole) in
    made-as (nodes c.make.new.self) c.make.result (tree_in last (s.FreeField c.in_ok-name-in-Free.name)) v made c.make.ensures.node

pub enter_field-returns-in_ok-name-in-Free-clause-grows :
    goal.enter_field-returns-in_ok-name-in-Free-clause-grows
enter_field-returns-in_ok-name-in-Free-clause-grows t c =
    extends-trans c.args.table.now c.name.new.self c.make.new.self c.in_ok-name-in-Free.ensures.grows c.make.ensures.grows

pub enter_field-make-requires :
    goal.enter_field-make-requires
enter_field-make-requires t c =
    let last = c.name.new.self in
    fits-FreeField last.pools (nodes last) c.in_ok-name-in-Free.name c.in-Free.name c.in_ok-name-in-Free.ensures.number

pub enter_field-returns-in_err-a-in-Update-clause-only :
    goal.enter_field-returns-in_err-a-in-Update-clause-only
unfolding field_tree
enter_field-returns-in_err-a-in-Update-clause-only t c =
    let start = c.args.table.now in
    let x = field_tree c.deref.result.now in
    let y = term_tree c.in-Update.b.value in
    let z = value_tree c.in-Update.c.value in
    let v = of_field (field_tree c.args.field.now) in
    let w = of_field (tree.update x y z) in
    let in_a = sym c.deref.ensures in
    let whole : field_tree c.args.field.now ≡ tree.update x y z = ap (λ d. field_tree d) c.in-Update.is ∙ (λ i. tree.update (field_tree (in_a i)) y z) in
    let same : v ≡ w = ap (λ d. of_field d) whole in
    adds-part start start c.enter_field.new.table v w (of_field x) same (part.update-a x y z) (adds-self start v) c.in_err-a-in-Update.ensures.only

pub enter_field-returns-in_err-a-in-Update-clause-grows :
    goal.enter_field-returns-in_err-a-in-Update-clause-grows
enter_field-returns-in_err-a-in-Update-clause-grows t c =
    c.in_err-a-in-Update.ensures.grows

pub enter_field-returns-in_err-b-in-Update-clause-only :
    goal.enter_field-returns-in_err-b-in-Update-clause-only
unfolding field_tree
enter_field-returns-in_err-b-in-Update-clause-only t c =
    let start = c.args.table.now in
    let x = field_tree c.deref.result.now in
    let y = term_tree c.deref-in-Update.result.now in
    let z = value_tree c.in-Update.c.value in
    let v = of_field (field_tree c.args.field.now) in
    let w = of_field (tree.update x y z) in
    let in_a = sym c.deref.ensures in
    let in_b = sym c.deref-in-Update.ensures in
    let whole : field_tree c.args.field.now ≡ tree.update x y z = ap (λ d. field_tree d) c.in-Update.is ∙ (λ i. tree.update (field_tree (in_a i)) (term_tree (in_b i)) z) in
    let same : v ≡ w = ap (λ d. of_field d) whole in
    let after_a = adds-part start start c.enter_field.new.table v w (of_field x) same (part.update-a x y z) (adds-self start v) c.in_ok-a-in-Update.ensures.only in
    adds-part start c.enter_field.new.table c.enter_term.new.table v w (of_object y) same (part.update-b x y z) after_a c.in_err-b-in-Update.ensures.only

pub enter_field-returns-in_err-b-in-Update-clause-grows :
    goal.enter_field-returns-in_err-b-in-Update-clause-grows
enter_field-returns-in_err-b-in-Update-clause-grows t c =
    (extends-trans c.args.table.now c.enter_field.new.table c.enter_term.new.table c.in_ok-a-in-Update.ensures.grows c.in_err-b-in-Update.ensures.grows)

pub enter_field-returns-in_err-c-in-Update-clause-only :
    goal.enter_field-returns-in_err-c-in-Update-clause-only
unfolding field_tree
enter_field-returns-in_err-c-in-Update-clause-only t c =
    let start = c.args.table.now in
    let x = field_tree c.deref.result.now in
    let y = term_tree c.deref-in-Update.result.now in
    let z = value_tree c.deref-in-Update-2.result.now in
    let v = of_field (field_tree c.args.field.now) in
    let w = of_field (tree.update x y z) in
    let in_a = sym c.deref.ensures in
    let in_b = sym c.deref-in-Update.ensures in
    let in_c = sym c.deref-in-Update-2.ensures in
    let whole : field_tree c.args.field.now ≡ tree.update x y z = ap (λ d. field_tree d) c.in-Update.is ∙ (λ i. tree.update (field_tree (in_a i)) (term_tree (in_b i)) (value_tree (in_c i))) in
    let same : v ≡ w = ap (λ d. of_field d) whole in
    let after_a = adds-part start start c.enter_field.new.table v w (of_field x) same (part.update-a x y z) (adds-self start v) c.in_ok-a-in-Update.ensures.only in
    let after_b = adds-part start c.enter_field.new.table c.enter_term.new.table v w (of_object y) same (part.update-b x y z) after_a c.in_ok-b-in-Update.ensures.only in
    adds-part start c.enter_term.new.table c.enter_value.new.table v w z same (part.update-c x y z) after_b c.in_err-c-in-Update.ensures.only

pub enter_field-returns-in_err-c-in-Update-clause-grows :
    goal.enter_field-returns-in_err-c-in-Update-clause-grows
enter_field-returns-in_err-c-in-Update-clause-grows t c =
    (extends-trans c.args.table.now c.enter_term.new.table c.enter_value.new.table (extends-trans c.args.table.now c.enter_field.new.table c.enter_term.new.table c.in_ok-a-in-Update.ensures.grows c.in_ok-b-in-Update.ensures.grows) c.in_err-c-in-Update.ensures.grows)

pub enter_field-returns-in_ok-c-in-Update-clause-only :
    goal.enter_field-returns-in_ok-c-in-Update-clause-only
unfolding field_tree
enter_field-returns-in_ok-c-in-Update-clause-only t c =
    let start = c.args.table.now in
    let x = field_tree c.deref.result.now in
    let y = term_tree c.deref-in-Update.result.now in
    let z = value_tree c.deref-in-Update-2.result.now in
    let v = of_field (field_tree c.args.field.now) in
    let w = of_field (tree.update x y z) in
    let in_a = sym c.deref.ensures in
    let in_b = sym c.deref-in-Update.ensures in
    let in_c = sym c.deref-in-Update-2.ensures in
    let whole : field_tree c.args.field.now ≡ tree.update x y z = ap (λ d. field_tree d) c.in-Update.is ∙ (λ i. tree.update (field_tree (in_a i)) (term_tree (in_b i)) (value_tree (in_c i))) in
    let same : v ≡ w = ap (λ d. of_field d) whole in
    let after_a = adds-part start start c.enter_field.new.table v w (of_field x) same (part.update-a x y z) (adds-self start v) c.in_ok-a-in-Update.ensures.only in
    let after_b = adds-part start c.enter_field.new.table c.enter_term.new.table v w (of_object y) same (part.update-b x y z) after_a c.in_ok-b-in-Update.ensures.only in
    let after_c = adds-part start c.enter_term.new.table c.enter_value.new.table v w z same (part.update-c x y z) after_b c.in_ok-c-in-Update.ensures.only in
    let last = c.enter_value.new.table in
    let made : tree_in last (s.Update c.in_ok-a-in-Update.a c.in_ok-b-in-Update.b c.in_ok-c-in-Update.c) ≡ v = tree-Update last.pools (nodes last) c.in_ok-a-in-Update.a c.in_ok-b-in-Update.b c.in_ok-c-in-Update.c x y z (node-stays c.enter_term.new.table c.enter_value.new.table c.in_ok-a-in-Update.a (of_field x) c.in_ok-c-in-Update.ensures.grows (node-stays c.enter_field.new.table c.enter_term.new.table c.in_ok-a-in-Update.a (of_field x) c.in_ok-b-in-Update.ensures.grows c.in_ok-a-in-Update.ensures.node)) (node-stays c.enter_term.new.table c.enter_value.new.table c.in_ok-b-in-Update.b (of_object y) c.in_ok-c-in-Update.ensures.grows c.in_ok-b-in-Update.ensures.node) c.in_ok-c-in-Update.ensures.node ∙ sym same in
    adds-made start last c.make-in-Update.new.self v (s.Update c.in_ok-a-in-Update.a c.in_ok-b-in-Update.b c.in_ok-c-in-Update.c) made after_c c.make-in-Update.ensures.only

pub enter_field-returns-in_ok-c-in-Update-clause-node :
    goal.enter_field-returns-in_ok-c-in-Update-clause-node
unfolding field_tree
enter_field-returns-in_ok-c-in-Update-clause-node t c =
    let start = c.args.table.now in
    let x = field_tree c.deref.result.now in
    let y = term_tree c.deref-in-Update.result.now in
    let z = value_tree c.deref-in-Update-2.result.now in
    let v = of_field (field_tree c.args.field.now) in
    let w = of_field (tree.update x y z) in
    let in_a = sym c.deref.ensures in
    let in_b = sym c.deref-in-Update.ensures in
    let in_c = sym c.deref-in-Update-2.ensures in
    let whole : field_tree c.args.field.now ≡ tree.update x y z = ap (λ d. field_tree d) c.in-Update.is ∙ (λ i. tree.update (field_tree (in_a i)) (term_tree (in_b i)) (value_tree (in_c i))) in
    let same : v ≡ w = ap (λ d. of_field d) whole in
    let last = c.enter_value.new.table in
    let made : tree_in last (s.Update c.in_ok-a-in-Update.a c.in_ok-b-in-Update.b c.in_ok-c-in-Update.c) ≡ v = tree-Update last.pools (nodes last) c.in_ok-a-in-Update.a c.in_ok-b-in-Update.b c.in_ok-c-in-Update.c x y z (node-stays c.enter_term.new.table c.enter_value.new.table c.in_ok-a-in-Update.a (of_field x) c.in_ok-c-in-Update.ensures.grows (node-stays c.enter_field.new.table c.enter_term.new.table c.in_ok-a-in-Update.a (of_field x) c.in_ok-b-in-Update.ensures.grows c.in_ok-a-in-Update.ensures.node)) (node-stays c.enter_term.new.table c.enter_value.new.table c.in_ok-b-in-Update.b (of_object y) c.in_ok-c-in-Update.ensures.grows c.in_ok-b-in-Update.ensures.node) c.in_ok-c-in-Update.ensures.node ∙ sym same in
    made-as (nodes c.make-in-Update.new.self) c.make-in-Update.result (tree_in last (s.Update c.in_ok-a-in-Update.a c.in_ok-b-in-Update.b c.in_ok-c-in-Update.c)) v made c.make-in-Update.ensures.node

pub enter_field-returns-in_ok-c-in-Update-clause-grows :
    goal.enter_field-returns-in_ok-c-in-Update-clause-grows
enter_field-returns-in_ok-c-in-Update-clause-grows t c =
    extends-trans c.args.table.now c.enter_value.new.table c.make-in-Update.new.self (extends-trans c.args.table.now c.enter_term.new.table c.enter_value.new.table (extends-trans c.args.table.now c.enter_field.new.table c.enter_term.new.table c.in_ok-a-in-Update.ensures.grows c.in_ok-b-in-Update.ensures.grows) c.in_ok-c-in-Update.ensures.grows) c.make-in-Update.ensures.grows

pub enter_field-make-requires-in-Update :
    goal.enter_field-make-requires-in-Update
enter_field-make-requires-in-Update t c =
    let x = field_tree c.deref.result.now in
    let y = term_tree c.deref-in-Update.result.now in
    let z = value_tree c.deref-in-Update-2.result.now in
    let last = c.enter_value.new.table in
    fits-Update last.pools (nodes last) c.in_ok-a-in-Update.a c.in_ok-b-in-Update.b c.in_ok-c-in-Update.c x y z (node-stays c.enter_term.new.table c.enter_value.new.table c.in_ok-a-in-Update.a (of_field x) c.in_ok-c-in-Update.ensures.grows (node-stays c.enter_field.new.table c.enter_term.new.table c.in_ok-a-in-Update.a (of_field x) c.in_ok-b-in-Update.ensures.grows c.in_ok-a-in-Update.ensures.node)) (node-stays c.enter_term.new.table c.enter_value.new.table c.in_ok-b-in-Update.b (of_object y) c.in_ok-c-in-Update.ensures.grows c.in_ok-b-in-Update.ensures.node) c.in_ok-c-in-Update.ensures.node

pub enter_formula-returns-in-True-clause-only :
    goal.enter_formula-returns-in-True-clause-only
unfolding formula_tree
enter_formula-returns-in-True-clause-only t c =
    let start = c.args.table.now in
    let v = of_truth (formula_tree c.args.formula.now) in
    let whole : formula_tree c.args.formula.now ≡ tree.true_formula = ap (λ d. formula_tree d) c.in-True.is in
    let made : tree_in start s.True ≡ v = tree-True start.pools (nodes start) ∙ ap (λ d. of_truth d) (sym whole) in
    adds-made start start c.make.new.self v s.True made (adds-self start v) c.make.ensures.only

pub enter_formula-returns-in-True-clause-node :
    goal.enter_formula-returns-in-True-clause-node
unfolding formula_tree
enter_formula-returns-in-True-clause-node t c =
    let start = c.args.table.now in
    let v = of_truth (formula_tree c.args.formula.now) in
    let whole : formula_tree c.args.formula.now ≡ tree.true_formula = ap (λ d. formula_tree d) c.in-True.is in
    let made : tree_in start s.True ≡ v = tree-True start.pools (nodes start) ∙ ap (λ d. of_truth d) (sym whole) in
    made-as (nodes c.make.new.self) c.make.result (tree_in start s.True) v made c.make.ensures.node

pub enter_formula-returns-in-True-clause-grows :
    goal.enter_formula-returns-in-True-clause-grows
enter_formula-returns-in-True-clause-grows t c =
    c.make.ensures.grows

pub enter_formula-returns-in-False-clause-only :
    goal.enter_formula-returns-in-False-clause-only
unfolding formula_tree
enter_formula-returns-in-False-clause-only t c =
    let start = c.args.table.now in
    let v = of_truth (formula_tree c.args.formula.now) in
    let whole : formula_tree c.args.formula.now ≡ tree.false_formula = ap (λ d. formula_tree d) c.in-False.is in
    let made : tree_in start s.False ≡ v = tree-False start.pools (nodes start) ∙ ap (λ d. of_truth d) (sym whole) in
    adds-made start start c.make-in-False.new.self v s.False made (adds-self start v) c.make-in-False.ensures.only

pub enter_formula-returns-in-False-clause-node :
    goal.enter_formula-returns-in-False-clause-node
unfolding formula_tree
enter_formula-returns-in-False-clause-node t c =
    let start = c.args.table.now in
    let v = of_truth (formula_tree c.args.formula.now) in
    let whole : formula_tree c.args.formula.now ≡ tree.false_formula = ap (λ d. formula_tree d) c.in-False.is in
    let made : tree_in start s.False ≡ v = tree-False start.pools (nodes start) ∙ ap (λ d. of_truth d) (sym whole) in
    made-as (nodes c.make-in-False.new.self) c.make-in-False.result (tree_in start s.False) v made c.make-in-False.ensures.node

pub enter_formula-returns-in-False-clause-grows :
    goal.enter_formula-returns-in-False-clause-grows
enter_formula-returns-in-False-clause-grows t c =
    c.make-in-False.ensures.grows

pub enter_formula-returns-in_err-a-in-Not-clause-only :
    goal.enter_formula-returns-in_err-a-in-Not-clause-only
unfolding formula_tree
enter_formula-returns-in_err-a-in-Not-clause-only t c =
    let start = c.args.table.now in
    let x = formula_tree c.deref.result.now in
    let v = of_truth (formula_tree c.args.formula.now) in
    let w = of_truth (tree.negation x) in
    let in_a = sym c.deref.ensures in
    let whole : formula_tree c.args.formula.now ≡ tree.negation x = ap (λ d. formula_tree d) c.in-Not.is ∙ (λ i. tree.negation (formula_tree (in_a i))) in
    let same : v ≡ w = ap (λ d. of_truth d) whole in
    adds-part start start c.enter_formula.new.table v w (of_truth x) same (part.negation x) (adds-self start v) c.in_err-a-in-Not.ensures.only

pub enter_formula-returns-in_err-a-in-Not-clause-grows :
    goal.enter_formula-returns-in_err-a-in-Not-clause-grows
enter_formula-returns-in_err-a-in-Not-clause-grows t c =
    c.in_err-a-in-Not.ensures.grows

pub enter_formula-returns-in_ok-a-in-Not-clause-only :
    goal.enter_formula-returns-in_ok-a-in-Not-clause-only
unfolding formula_tree
enter_formula-returns-in_ok-a-in-Not-clause-only t c =
    let start = c.args.table.now in
    let x = formula_tree c.deref.result.now in
    let v = of_truth (formula_tree c.args.formula.now) in
    let w = of_truth (tree.negation x) in
    let in_a = sym c.deref.ensures in
    let whole : formula_tree c.args.formula.now ≡ tree.negation x = ap (λ d. formula_tree d) c.in-Not.is ∙ (λ i. tree.negation (formula_tree (in_a i))) in
    let same : v ≡ w = ap (λ d. of_truth d) whole in
    let after_a = adds-part start start c.enter_formula.new.table v w (of_truth x) same (part.negation x) (adds-self start v) c.in_ok-a-in-Not.ensures.only in
    let last = c.enter_formula.new.table in
    let made : tree_in last (s.Negation c.in_ok-a-in-Not.a) ≡ v = tree-Negation last.pools (nodes last) c.in_ok-a-in-Not.a x c.in_ok-a-in-Not.ensures.node ∙ sym same in
    adds-made start last c.make-in-Not.new.self v (s.Negation c.in_ok-a-in-Not.a) made after_a c.make-in-Not.ensures.only

pub enter_formula-returns-in_ok-a-in-Not-clause-node :
    goal.enter_formula-returns-in_ok-a-in-Not-clause-node
unfolding formula_tree
enter_formula-returns-in_ok-a-in-Not-clause-node t c =
    let start = c.args.table.now in
    let x = formula_tree c.deref.result.now in
    let v = of_truth (formula_tree c.args.formula.now) in
    let w = of_truth (tree.negation x) in
    let in_a = sym c.deref.ensures in
    let whole : formula_tree c.args.formula.now ≡ tree.negation x = ap (λ d. formula_tree d) c.in-Not.is ∙ (λ i. tree.negation (formula_tree (in_a i))) in
    let same : v ≡ w = ap (λ d. of_truth d) whole in
    let last = c.enter_formula.new.table in
    let made : tree_in last (s.Negation c.in_ok-a-in-Not.a) ≡ v = tree-Negation last.pools (nodes last) c.in_ok-a-in-Not.a x c.in_ok-a-in-Not.ensures.node ∙ sym same in
    made-as (nodes c.make-in-Not.new.self) c.make-in-Not.result (tree_in last (s.Negation c.in_ok-a-in-Not.a)) v made c.make-in-Not.ensures.node

pub enter_formula-returns-in_ok-a-in-Not-clause-grows :
    goal.enter_formula-returns-in_ok-a-in-Not-clause-grows
enter_formula-returns-in_ok-a-in-Not-clause-grows t c =
    extends-trans c.args.table.now c.enter_formula.new.table c.make-in-Not.new.self c.in_ok-a-in-Not.ensures.grows c.make-in-Not.ensures.grows

pub enter_formula-make-requires-in-Not :
    goal.enter_formula-make-requires-in-Not
enter_formula-make-requires-in-Not t c =
    let x = formula_tree c.deref.result.now in
    let last = c.enter_formula.new.table in
    fits-Negation last.pools (nodes last) c.in_ok-a-in-Not.a x c.in_ok-a-in-Not.ensures.node

pub enter_formula-returns-in_err-a-in-And-clause-only :
    goal.enter_formula-returns-in_err-a-in-And-clause-only
unfolding formula_tree
enter_formula-returns-in_err-a-in-And-clause-only t c =
    let start = c.args.table.now in
    let x = formula_tree c.deref-in-And.result.now in
    let y = formula_tree c.in-And.b.value in
    let v = of_truth (formula_tree c.args.formula.now) in
    let w = of_truth (tree.and x y) in
    let in_a = sym c.deref-in-And.ensures in
    let whole : formula_tree c.args.formula.now ≡ tree.and x y = ap (λ d. formula_tree d) c.in-And.is ∙ (λ i. tree.and (formula_tree (in_a i)) y) in
    let same : v ≡ w = ap (λ d. of_truth d) whole in
    adds-part start start c.enter_formula-in-And.new.table v w (of_truth x) same (part.and-a x y) (adds-self start v) c.in_err-a-in-And.ensures.only

pub enter_formula-returns-in_err-a-in-And-clause-grows :
    goal.enter_formula-returns-in_err-a-in-And-clause-grows
enter_formula-returns-in_err-a-in-And-clause-grows t c =
    c.in_err-a-in-And.ensures.grows

pub enter_formula-returns-in_err-b-in-And-clause-only :
    goal.enter_formula-returns-in_err-b-in-And-clause-only
unfolding formula_tree
enter_formula-returns-in_err-b-in-And-clause-only t c =
    let start = c.args.table.now in
    let x = formula_tree c.deref-in-And.result.now in
    let y = formula_tree c.deref-in-And-2.result.now in
    let v = of_truth (formula_tree c.args.formula.now) in
    let w = of_truth (tree.and x y) in
    let in_a = sym c.deref-in-And.ensures in
    let in_b = sym c.deref-in-And-2.ensures in
    let whole : formula_tree c.args.formula.now ≡ tree.and x y = ap (λ d. formula_tree d) c.in-And.is ∙ (λ i. tree.and (formula_tree (in_a i)) (formula_tree (in_b i))) in
    let same : v ≡ w = ap (λ d. of_truth d) whole in
    let after_a = adds-part start start c.enter_formula-in-And.new.table v w (of_truth x) same (part.and-a x y) (adds-self start v) c.in_ok-a-in-And.ensures.only in
    adds-part start c.enter_formula-in-And.new.table c.enter_formula-in-And-2.new.table v w (of_truth y) same (part.and-b x y) after_a c.in_err-b-in-And.ensures.only

pub enter_formula-returns-in_err-b-in-And-clause-grows :
    goal.enter_formula-returns-in_err-b-in-And-clause-grows
enter_formula-returns-in_err-b-in-And-clause-grows t c =
    (extends-trans c.args.table.now c.enter_formula-in-And.new.table c.enter_formula-in-And-2.new.table c.in_ok-a-in-And.ensures.grows c.in_err-b-in-And.ensures.grows)

pub enter_formula-returns-in_ok-b-in-And-clause-only :
    goal.enter_formula-returns-in_ok-b-in-And-clause-only
unfolding formula_tree
enter_formula-returns-in_ok-b-in-And-clause-only t c =
    let start = c.args.table.now in
    let x = formula_tree c.deref-in-And.result.now in
    let y = formula_tree c.deref-in-And-2.result.now in
    let v = of_truth (formula_tree c.args.formula.now) in
    let w = of_truth (tree.and x y) in
    let in_a = sym c.deref-in-And.ensures in
    let in_b = sym c.deref-in-And-2.ensures in
    let whole : formula_tree c.args.formula.now ≡ tree.and x y = ap (λ d. formula_tree d) c.in-And.is ∙ (λ i. tree.and (formula_tree (in_a i)) (formula_tree (in_b i))) in
    let same : v ≡ w = ap (λ d. of_truth d) whole in
    let after_a = adds-part start start c.enter_formula-in-And.new.table v w (of_truth x) same (part.and-a x y) (adds-self start v) c.in_ok-a-in-And.ensures.only in
    let after_b = adds-part start c.enter_formula-in-And.new.table c.enter_formula-in-And-2.new.table v w (of_truth y) same (part.and-b x y) after_a c.in_ok-b-in-And.ensures.only in
    let last = c.enter_formula-in-And-2.new.table in
    let made : tree_in last (s.And c.in_ok-a-in-And.a c.in_ok-b-in-And.b) ≡ v = tree-And last.pools (nodes last) c.in_ok-a-in-And.a c.in_ok-b-in-And.b x y (node-stays c.enter_formula-in-And.new.table c.enter_formula-in-And-2.new.table c.in_ok-a-in-And.a (of_truth x) c.in_ok-b-in-And.ensures.grows c.in_ok-a-in-And.ensures.node) c.in_ok-b-in-And.ensures.node ∙ sym same in
    adds-made start last c.make-in-And.new.self v (s.And c.in_ok-a-in-And.a c.in_ok-b-in-And.b) made after_b c.make-in-And.ensures.only

pub enter_formula-returns-in_ok-b-in-And-clause-node :
    goal.enter_formula-returns-in_ok-b-in-And-clause-node
unfolding formula_tree
enter_formula-returns-in_ok-b-in-And-clause-node t c =
    let start = c.args.table.now in
    let x = formula_tree c.deref-in-And.result.now in
    let y = formula_tree c.deref-in-And-2.result.now in
    let v = of_truth (formula_tree c.args.formula.now) in
    let w = of_truth (tree.and x y) in
    let in_a = sym c.deref-in-And.ensures in
    let in_b = sym c.deref-in-And-2.ensures in
    let whole : formula_tree c.args.formula.now ≡ tree.and x y = ap (λ d. formula_tree d) c.in-And.is ∙ (λ i. tree.and (formula_tree (in_a i)) (formula_tree (in_b i))) in
    let same : v ≡ w = ap (λ d. of_truth d) whole in
    let last = c.enter_formula-in-And-2.new.table in
    let made : tree_in last (s.And c.in_ok-a-in-And.a c.in_ok-b-in-And.b) ≡ v = tree-And last.pools (nodes last) c.in_ok-a-in-And.a c.in_ok-b-in-And.b x y (node-stays c.enter_formula-in-And.new.table c.enter_formula-in-And-2.new.table c.in_ok-a-in-And.a (of_truth x) c.in_ok-b-in-And.ensures.grows c.in_ok-a-in-And.ensures.node) c.in_ok-b-in-And.ensures.node ∙ sym same in
    made-as (nodes c.make-in-And.new.self) c.make-in-And.result (tree_in last (s.And c.in_ok-a-in-And.a c.in_ok-b-in-And.b)) v made c.make-in-And.ensures.node

pub enter_formula-returns-in_ok-b-in-And-clause-grows :
    goal.enter_formula-returns-in_ok-b-in-And-clause-grows
enter_formula-returns-in_ok-b-in-And-clause-grows t c =
    extends-trans c.args.table.now c.enter_formula-in-And-2.new.table c.make-in-And.new.self (extends-trans c.args.table.now c.enter_formula-in-And.new.table c.enter_formula-in-And-2.new.table c.in_ok-a-in-And.ensures.grows c.in_ok-b-in-And.ensures.grows) c.make-in-And.ensures.grows

pub enter_formula-make-requires-in-And :
    goal.enter_formula-make-requires-in-And
enter_formula-make-requires-in-And t c =
    let x = formula_tree c.deref-in-And.result.now in
    let y = formula_tree c.deref-in-And-2.result.now in
    let last = c.enter_formula-in-And-2.new.table in
    fits-And last.pools (nodes last) c.in_ok-a-in-And.a c.in_ok-b-in-And.b x y (node-stays c.enter_formula-in-And.new.table c.enter_formula-in-And-2.new.table c.in_ok-a-in-And.a (of_truth x) c.in_ok-b-in-And.ensures.grows c.in_ok-a-in-And.ensures.node) c.in_ok-b-in-And.ensures.node

pub enter_formula-returns-in_err-a-in-Or-clause-only :
    goal.enter_formula-returns-in_err-a-in-Or-clause-only
unfolding formula_tree
enter_formula-returns-in_err-a-in-Or-clause-only t c =
    let start = c.args.table.now in
    let x = formula_tree c.deref-in-Or.result.now in
    let y = formula_tree c.in-Or.b.value in
    let v = of_truth (formula_tree c.args.formula.now) in
    let w = of_truth (tree.or x y) in
    let in_a = sym c.deref-in-Or.ensures in
    let whole : formula_tree c.args.formula.now ≡ tree.or x y = ap (λ d. formula_tree d) c.in-Or.is ∙ (λ i. tree.or (formula_tree (in_a i)) y) in
    let same : v ≡ w = ap (λ d. of_truth d) whole in
    adds-part start start c.enter_formula-in-Or.new.table v w (of_truth x) same (part.or-a x y) (adds-self start v) c.in_err-a-in-Or.ensures.only

pub enter_formula-returns-in_err-a-in-Or-clause-grows :
    goal.enter_formula-returns-in_err-a-in-Or-clause-grows
enter_formula-returns-in_err-a-in-Or-clause-grows t c =
    c.in_err-a-in-Or.ensures.grows

pub enter_formula-returns-in_err-b-in-Or-clause-only :
    goal.enter_formula-returns-in_err-b-in-Or-clause-only
unfolding formula_tree
enter_formula-returns-in_err-b-in-Or-clause-only t c =
    let start = c.args.table.now in
    let x = formula_tree c.deref-in-Or.result.now in
    let y = formula_tree c.deref-in-Or-2.result.now in
    let v = of_truth (formula_tree c.args.formula.now) in
    let w = of_truth (tree.or x y) in
    let in_a = sym c.deref-in-Or.ensures in
    let in_b = sym c.deref-in-Or-2.ensures in
    let whole : formula_tree c.args.formula.now ≡ tree.or x y = ap (λ d. formula_tree d) c.in-Or.is ∙ (λ i. tree.or (formula_tree (in_a i)) (formula_tree (in_b i))) in
    let same : v ≡ w = ap (λ d. of_truth d) whole in
    let after_a = adds-part start start c.enter_formula-in-Or.new.table v w (of_truth x) same (part.or-a x y) (adds-self start v) c.in_ok-a-in-Or.ensures.only in
    adds-part start c.enter_formula-in-Or.new.table c.enter_formula-in-Or-2.new.table v w (of_truth y) same (part.or-b x y) after_a c.in_err-b-in-Or.ensures.only

pub enter_formula-returns-in_err-b-in-Or-clause-grows :
    goal.enter_formula-returns-in_err-b-in-Or-clause-grows
enter_formula-returns-in_err-b-in-Or-clause-grows t c =
    (extends-trans c.args.table.now c.enter_formula-in-Or.new.table c.enter_formula-in-Or-2.new.table c.in_ok-a-in-Or.ensures.grows c.in_err-b-in-Or.ensures.grows)

pub enter_formula-returns-in_ok-b-in-Or-clause-only :
    goal.enter_formula-returns-in_ok-b-in-Or-clause-only
unfolding formula_tree
enter_formula-returns-in_ok-b-in-Or-clause-only t c =
    let start = c.args.table.now in
    let x = formula_tree c.deref-in-Or.result.now in
    let y = formula_tree c.deref-in-Or-2.result.now in
    let v = of_truth (formula_tree c.args.formula.now) in
    let w = of_truth (tree.or x y) in
    let in_a = sym c.deref-in-Or.ensures in
    let in_b = sym c.deref-in-Or-2.ensures in
    let whole : formula_tree c.args.formula.now ≡ tree.or x y = ap (λ d. formula_tree d) c.in-Or.is ∙ (λ i. tree.or (formula_tree (in_a i)) (formula_tree (in_b i))) in
    let same : v ≡ w = ap (λ d. of_truth d) whole in
    let after_a = adds-part start start c.enter_formula-in-Or.new.table v w (of_truth x) same (part.or-a x y) (adds-self start v) c.in_ok-a-in-Or.ensures.only in
    let after_b = adds-part start c.enter_formula-in-Or.new.table c.enter_formula-in-Or-2.new.table v w (of_truth y) same (part.or-b x y) after_a c.in_ok-b-in-Or.ensures.only in
    let last = c.enter_formula-in-Or-2.new.table in
    let made : tree_in last (s.Or c.in_ok-a-in-Or.a c.in_ok-b-in-Or.b) ≡ v = tree-Or last.pools (nodes last) c.in_ok-a-in-Or.a c.in_ok-b-in-Or.b x y (node-stays c.enter_formula-in-Or.new.table c.enter_formula-in-Or-2.new.table c.in_ok-a-in-Or.a (of_truth x) c.in_ok-b-in-Or.ensures.grows c.in_ok-a-in-Or.ensures.node) c.in_ok-b-in-Or.ensures.node ∙ sym same in
    adds-made start last c.make-in-Or.new.self v (s.Or c.in_ok-a-in-Or.a c.in_ok-b-in-Or.b) made after_b c.make-in-Or.ensures.only

pub enter_formula-returns-in_ok-b-in-Or-clause-node :
    goal.enter_formula-returns-in_ok-b-in-Or-clause-node
unfolding formula_tree
enter_formula-returns-in_ok-b-in-Or-clause-node t c =
    let start = c.args.table.now in
    let x = formula_tree c.deref-in-Or.result.now in
    let y = formula_tree c.deref-in-Or-2.result.now in
    let v = of_truth (formula_tree c.args.formula.now) in
    let w = of_truth (tree.or x y) in
    let in_a = sym c.deref-in-Or.ensures in
    let in_b = sym c.deref-in-Or-2.ensures in
    let whole : formula_tree c.args.formula.now ≡ tree.or x y = ap (λ d. formula_tree d) c.in-Or.is ∙ (λ i. tree.or (formula_tree (in_a i)) (formula_tree (in_b i))) in
    let same : v ≡ w = ap (λ d. of_truth d) whole in
    let last = c.enter_formula-in-Or-2.new.table in
    let made : tree_in last (s.Or c.in_ok-a-in-Or.a c.in_ok-b-in-Or.b) ≡ v = tree-Or last.pools (nodes last) c.in_ok-a-in-Or.a c.in_ok-b-in-Or.b x y (node-stays c.enter_formula-in-Or.new.table c.enter_formula-in-Or-2.new.table c.in_ok-a-in-Or.a (of_truth x) c.in_ok-b-in-Or.ensures.grows c.in_ok-a-in-Or.ensures.node) c.in_ok-b-in-Or.ensures.node ∙ sym same in
    made-as (nodes c.make-in-Or.new.self) c.make-in-Or.result (tree_in last (s.Or c.in_ok-a-in-Or.a c.in_ok-b-in-Or.b)) v made c.make-in-Or.ensures.node

pub enter_formula-returns-in_ok-b-in-Or-clause-grows :
    goal.enter_formula-returns-in_ok-b-in-Or-clause-grows
enter_formula-returns-in_ok-b-in-Or-clause-grows t c =
    extends-trans c.args.table.now c.enter_formula-in-Or-2.new.table c.make-in-Or.new.self (extends-trans c.args.table.now c.enter_formula-in-Or.new.table c.enter_formula-in-Or-2.new.table c.in_ok-a-in-Or.ensures.grows c.in_ok-b-in-Or.ensures.grows) c.make-in-Or.ensures.grows

pub enter_formula-make-requires-in-Or :
    goal.enter_formula-make-requires-in-Or
enter_formula-make-requires-in-Or t c =
    let x = formula_tree c.deref-in-Or.result.now in
    let y = formula_tree c.deref-in-Or-2.result.now in
    let last = c.enter_formula-in-Or-2.new.table in
    fits-Or last.pools (nodes last) c.in_ok-a-in-Or.a c.in_ok-b-in-Or.b x y (node-stays c.enter_formula-in-Or.new.table c.enter_formula-in-Or-2.new.table c.in_ok-a-in-Or.a (of_truth x) c.in_ok-b-in-Or.ensures.grows c.in_ok-a-in-Or.ensures.node) c.in_ok-b-in-Or.ensures.node

pub enter_formula-returns-in_err-a-in-Implies-clause-only :
    goal.enter_formula-returns-in_err-a-in-Implies-clause-only
unfolding formula_tree
enter_formula-returns-in_err-a-in-Implies-clause-only t c =
    let start = c.args.table.now in
    let x = formula_tree c.deref-in-Implies.result.now in
    let y = formula_tree c.in-Implies.b.value in
    let v = of_truth (formula_tree c.args.formula.now) in
    let w = of_truth (tree.implies x y) in
    let in_a = sym c.deref-in-Implies.ensures in
    let whole : formula_tree c.args.formula.now ≡ tree.implies x y = ap (λ d. formula_tree d) c.in-Implies.is ∙ (λ i. tree.implies (formula_tree (in_a i)) y) in
    let same : v ≡ w = ap (λ d. of_truth d) whole in
    adds-part start start c.enter_formula-in-Implies.new.table v w (of_truth x) same (part.implies-a x y) (adds-self start v) c.in_err-a-in-Implies.ensures.only

pub enter_formula-returns-in_err-a-in-Implies-clause-grows :
    goal.enter_formula-returns-in_err-a-in-Implies-clause-grows
enter_formula-returns-in_err-a-in-Implies-clause-grows t c =
    c.in_err-a-in-Implies.ensures.grows

pub enter_formula-returns-in_err-b-in-Implies-clause-only :
    goal.enter_formula-returns-in_err-b-in-Implies-clause-only
unfolding formula_tree
enter_formula-returns-in_err-b-in-Implies-clause-only t c =
    let start = c.args.table.now in
    let x = formula_tree c.deref-in-Implies.result.now in
    let y = formula_tree c.deref-in-Implies-2.result.now in
    let v = of_truth (formula_tree c.args.formula.now) in
    let w = of_truth (tree.implies x y) in
    let in_a = sym c.deref-in-Implies.ensures in
    let in_b = sym c.deref-in-Implies-2.ensures in
    let whole : formula_tree c.args.formula.now ≡ tree.implies x y = ap (λ d. formula_tree d) c.in-Implies.is ∙ (λ i. tree.implies (formula_tree (in_a i)) (formula_tree (in_b i))) in
    let same : v ≡ w = ap (λ d. of_truth d) whole in
    let after_a = adds-part start start c.enter_formula-in-Implies.new.table v w (of_truth x) same (part.implies-a x y) (adds-self start v) c.in_ok-a-in-Implies.ensures.only in
    adds-part start c.enter_formula-in-Implies.new.table c.enter_formula-in-Implies-2.new.table v w (of_truth y) same (part.implies-b x y) after_a c.in_err-b-in-Implies.ensures.only

pub enter_formula-returns-in_err-b-in-Implies-clause-grows :
    goal.enter_formula-returns-in_err-b-in-Implies-clause-grows
enter_formula-returns-in_err-b-in-Implies-clause-grows t c =
    (extends-trans c.args.table.now c.enter_formula-in-Implies.new.table c.enter_formula-in-Implies-2.new.table c.in_ok-a-in-Implies.ensures.grows c.in_err-b-in-Implies.ensures.grows)

pub enter_formula-returns-in_ok-b-in-Implies-clause-only :
    goal.enter_formula-returns-in_ok-b-in-Implies-clause-only
unfolding formula_tree
enter_formula-returns-in_ok-b-in-Implies-clause-only t c =
    let start = c.args.table.now in
    let x = formula_tree c.deref-in-Implies.result.now in
    let y = formula_tree c.deref-in-Implies-2.result.now in
    let v = of_truth (formula_tree c.args.formula.now) in
    let w = of_truth (tree.implies x y) in
    let in_a = sym c.deref-in-Implies.ensures in
    let in_b = sym c.deref-in-Implies-2.ensures in
    let whole : formula_tree c.args.formula.now ≡ tree.implies x y = ap (λ d. formula_tree d) c.in-Implies.is ∙ (λ i. tree.implies (formula_tree (in_a i)) (formula_tree (in_b i))) in
    let same : v ≡ w = ap (λ d. of_truth d) whole in
    let after_a = adds-part start start c.enter_formula-in-Implies.new.table v w (of_truth x) same (part.implies-a x y) (adds-self start v) c.in_ok-a-in-Implies.ensures.only in
    let after_b = adds-part start c.enter_formula-in-Implies.new.table c.enter_formula-in-Implies-2.new.table v w (of_truth y) same (part.implies-b x y) after_a c.in_ok-b-in-Implies.ensures.only in
    let last = c.enter_formula-in-Implies-2.new.table in
    let made : tree_in last (s.Implies c.in_ok-a-in-Implies.a c.in_ok-b-in-Implies.b) ≡ v = tree-Implies last.pools (nodes last) c.in_ok-a-in-Implies.a c.in_ok-b-in-Implies.b x y (node-stays c.enter_formula-in-Implies.new.table c.enter_formula-in-Implies-2.new.table c.in_ok-a-in-Implies.a (of_truth x) c.in_ok-b-in-Implies.ensures.grows c.in_ok-a-in-Implies.ensures.node) c.in_ok-b-in-Implies.ensures.node ∙ sym same in
    adds-made start last c.make-in-Implies.new.self v (s.Implies c.in_ok-a-in-Implies.a c.in_ok-b-in-Implies.b) made after_b c.make-in-Implies.ensures.only

pub enter_formula-returns-in_ok-b-in-Implies-clause-node :
    goal.enter_formula-returns-in_ok-b-in-Implies-clause-node
unfolding formula_tree
enter_formula-returns-in_ok-b-in-Implies-clause-node t c =
    let start = c.args.table.now in
    let x = formula_tree c.deref-in-Implies.result.now in
    let y = formula_tree c.deref-in-Implies-2.result.now in
    let v = of_truth (formula_tree c.args.formula.now) in
    let w = of_truth (tree.implies x y) in
    let in_a = sym c.deref-in-Implies.ensures in
    let in_b = sym c.deref-in-Implies-2.ensures in
    let whole : formula_tree c.args.formula.now ≡ tree.implies x y = ap (λ d. formula_tree d) c.in-Implies.is ∙ (λ i. tree.implies (formula_tree (in_a i)) (formula_tree (in_b i))) in
    let same : v ≡ w = ap (λ d. of_truth d) whole in
    let last = c.enter_formula-in-Implies-2.new.table in
    let made : tree_in last (s.Implies c.in_ok-a-in-Implies.a c.in_ok-b-in-Implies.b) ≡ v = tree-Implies last.pools (nodes last) c.in_ok-a-in-Implies.a c.in_ok-b-in-Implies.b x y (node-stays c.enter_formula-in-Implies.new.table c.enter_formula-in-Implies-2.new.table c.in_ok-a-in-Implies.a (of_truth x) c.in_ok-b-in-Implies.ensures.grows c.in_ok-a-in-Implies.ensures.node) c.in_ok-b-in-Implies.ensures.node ∙ sym same in
    made-as (nodes c.make-in-Implies.new.self) c.make-in-Implies.result (tree_in last (s.Implies c.in_ok-a-in-Implies.a c.in_ok-b-in-Implies.b)) v made c.make-in-Implies.ensures.node

pub enter_formula-returns-in_ok-b-in-Implies-clause-grows :
    goal.enter_formula-returns-in_ok-b-in-Implies-clause-grows
enter_formula-returns-in_ok-b-in-Implies-clause-grows t c =
    extends-trans c.args.table.now c.enter_formula-in-Implies-2.new.table c.make-in-Implies.new.self (extends-trans c.args.table.now c.enter_formula-in-Implies.new.table c.enter_formula-in-Implies-2.new.table c.in_ok-a-in-Implies.ensures.grows c.in_ok-b-in-Implies.ensures.grows) c.make-in-Implies.ensures.grows

pub enter_formula-make-requires-in-Implies :
    goal.enter_formula-make-requires-in-Implies
enter_formula-make-requires-in-Implies t c =
    let x = formula_tree c.deref-in-Implies.result.now in
    let y = formula_tree c.deref-in-Implies-2.result.now in
    let last = c.enter_formula-in-Implies-2.new.table in
    fits-Implies last.pools (nodes last) c.in_ok-a-in-Implies.a c.in_ok-b-in-Implies.b x y (node-stays c.enter_formula-in-Implies.new.table c.enter_formula-in-Implies-2.new.table c.in_ok-a-in-Implies.a (of_truth x) c.in_ok-b-in-Implies.ensures.grows c.in_ok-a-in-Implies.ensures.node) c.in_ok-b-in-Implies.ensures.node

pub enter_formula-returns-in_err-a-in-Iff-clause-only :
    goal.enter_formula-returns-in_err-a-in-Iff-clause-only
unfolding formula_tree
enter_formula-returns-in_err-a-in-Iff-clause-only t c =
    let start = c.args.table.now in
    let x = formula_tree c.deref-in-Iff.result.now in
    let y = formula_tree c.in-Iff.b.value in
    let v = of_truth (formula_tree c.args.formula.now) in
    let w = of_truth (tree.iff x y) in
    let in_a = sym c.deref-in-Iff.ensures in
    let whole : formula_tree c.args.formula.now ≡ tree.iff x y = ap (λ d. formula_tree d) c.in-Iff.is ∙ (λ i. tree.iff (formula_tree (in_a i)) y) in
    let same : v ≡ w = ap (λ d. of_truth d) whole in
    adds-part start start c.enter_formula-in-Iff.new.table v w (of_truth x) same (part.iff-a x y) (adds-self start v) c.in_err-a-in-Iff.ensures.only

pub enter_formula-returns-in_err-a-in-Iff-clause-grows :
    goal.enter_formula-returns-in_err-a-in-Iff-clause-grows
enter_formula-returns-in_err-a-in-Iff-clause-grows t c =
    c.in_err-a-in-Iff.ensures.grows

pub enter_formula-returns-in_err-b-in-Iff-clause-only :
    goal.enter_formula-returns-in_err-b-in-Iff-clause-only
unfolding formula_tree
enter_formula-returns-in_err-b-in-Iff-clause-only t c =
    let start = c.args.table.now in
    let x = formula_tree c.deref-in-Iff.result.now in
    let y = formula_tree c.deref-in-Iff-2.result.now in
    let v = of_truth (formula_tree c.args.formula.now) in
    let w = of_truth (tree.iff x y) in
    let in_a = sym c.deref-in-Iff.ensures in
    let in_b = sym c.deref-in-Iff-2.ensures in
    let whole : formula_tree c.args.formula.now ≡ tree.iff x y = ap (λ d. formula_tree d) c.in-Iff.is ∙ (λ i. tree.iff (formula_tree (in_a i)) (formula_tree (in_b i))) in
    let same : v ≡ w = ap (λ d. of_truth d) whole in
    let after_a = adds-part start start c.enter_formula-in-Iff.new.table v w (of_truth x) same (part.iff-a x y) (adds-self start v) c.in_ok-a-in-Iff.ensures.only in
    adds-part start c.enter_formula-in-Iff.new.table c.enter_formula-in-Iff-2.new.table v w (of_truth y) same (part.iff-b x y) after_a c.in_err-b-in-Iff.ensures.only

pub enter_formula-returns-in_err-b-in-Iff-clause-grows :
    goal.enter_formula-returns-in_err-b-in-Iff-clause-grows
enter_formula-returns-in_err-b-in-Iff-clause-grows t c =
    (extends-trans c.args.table.now c.enter_formula-in-Iff.new.table c.enter_formula-in-Iff-2.new.table c.in_ok-a-in-Iff.ensures.grows c.in_err-b-in-Iff.ensures.grows)

pub enter_formula-returns-in_ok-b-in-Iff-clause-only :
    goal.enter_formula-returns-in_ok-b-in-Iff-clause-only
unfolding formula_tree
enter_formula-returns-in_ok-b-in-Iff-clause-only t c =
    let start = c.args.table.now in
    let x = formula_tree c.deref-in-Iff.result.now in
    let y = formula_tree c.deref-in-Iff-2.result.now in
    let v = of_truth (formula_tree c.args.formula.now) in
    let w = of_truth (tree.iff x y) in
    let in_a = sym c.deref-in-Iff.ensures in
    let in_b = sym c.deref-in-Iff-2.ensures in
    let whole : formula_tree c.args.formula.now ≡ tree.iff x y = ap (λ d. formula_tree d) c.in-Iff.is ∙ (λ i. tree.iff (formula_tree (in_a i)) (formula_tree (in_b i))) in
    let same : v ≡ w = ap (λ d. of_truth d) whole in
    let after_a = adds-part start start c.enter_formula-in-Iff.new.table v w (of_truth x) same (part.iff-a x y) (adds-self start v) c.in_ok-a-in-Iff.ensures.only in
    let after_b = adds-part start c.enter_formula-in-Iff.new.table c.enter_formula-in-Iff-2.new.table v w (of_truth y) same (part.iff-b x y) after_a c.in_ok-b-in-Iff.ensures.only in
    let last = c.enter_formula-in-Iff-2.new.table in
    let made : tree_in last (s.Iff c.in_ok-a-in-Iff.a c.in_ok-b-in-Iff.b) ≡ v = tree-Iff last.pools (nodes last) c.in_ok-a-in-Iff.a c.in_ok-b-in-Iff.b x y (node-stays c.enter_formula-in-Iff.new.table c.enter_formula-in-Iff-2.new.table c.in_ok-a-in-Iff.a (of_truth x) c.in_ok-b-in-Iff.ensures.grows c.in_ok-a-in-Iff.ensures.node) c.in_ok-b-in-Iff.ensures.node ∙ sym same in
    adds-made start last c.make-in-Iff.new.self v (s.Iff c.in_ok-a-in-Iff.a c.in_ok-b-in-Iff.b) made after_b c.make-in-Iff.ensures.only

pub enter_formula-returns-in_ok-b-in-Iff-clause-node :
    goal.enter_formula-returns-in_ok-b-in-Iff-clause-node
unfolding formula_tree
enter_formula-returns-in_ok-b-in-Iff-clause-node t c =
    let start = c.args.table.now in
    let x = formula_tree c.deref-in-Iff.result.now in
    let y = formula_tree c.deref-in-Iff-2.result.now in
    let v = of_truth (formula_tree c.args.formula.now) in
    let w = of_truth (tree.iff x y) in
    let in_a = sym c.deref-in-Iff.ensures in
    let in_b = sym c.deref-in-Iff-2.ensures in
    let whole : formula_tree c.args.formula.now ≡ tree.iff x y = ap (λ d. formula_tree d) c.in-Iff.is ∙ (λ i. tree.iff (formula_tree (in_a i)) (formula_tree (in_b i))) in
    let same : v ≡ w = ap (λ d. of_truth d) whole in
    let last = c.enter_formula-in-Iff-2.new.table in
    let made : tree_in last (s.Iff c.in_ok-a-in-Iff.a c.in_ok-b-in-Iff.b) ≡ v = tree-Iff last.pools (nodes last) c.in_ok-a-in-Iff.a c.in_ok-b-in-Iff.b x y (node-stays c.enter_formula-in-Iff.new.table c.enter_formula-in-Iff-2.new.table c.in_ok-a-in-Iff.a (of_truth x) c.in_ok-b-in-Iff.ensures.grows c.in_ok-a-in-Iff.ensures.node) c.in_ok-b-in-Iff.ensures.node ∙ sym same in
    made-as (nodes c.make-in-Iff.new.self) c.make-in-Iff.result (tree_in last (s.Iff c.in_ok-a-in-Iff.a c.in_ok-b-in-Iff.b)) v made c.make-in-Iff.ensures.node

pub enter_formula-returns-in_ok-b-in-Iff-clause-grows :
    goal.enter_formula-returns-in_ok-b-in-Iff-clause-grows
enter_formula-returns-in_ok-b-in-Iff-clause-grows t c =
    extends-trans c.args.table.now c.enter_formula-in-Iff-2.new.table c.make-in-Iff.new.self (extends-trans c.args.table.now c.enter_formula-in-Iff.new.table c.enter_formula-in-Iff-2.new.table c.in_ok-a-in-Iff.ensures.grows c.in_ok-b-in-Iff.ensures.grows) c.make-in-Iff.ensures.grows

pub enter_formula-make-requires-in-Iff :
    goal.enter_formula-make-requires-in-Iff
enter_formula-make-requires-in-Iff t c =
    let x = formula_tree c.deref-in-Iff.result.now in
    let y = formula_tree c.deref-in-Iff-2.result.now in
    let last = c.enter_formula-in-Iff-2.new.table in
    fits-Iff last.pools (nodes last) c.in_ok-a-in-Iff.a c.in_ok-b-in-Iff.b x y (node-stays c.enter_formula-in-Iff.new.table c.enter_formula-in-Iff-2.new.table c.in_ok-a-in-Iff.a (of_truth x) c.in_ok-b-in-Iff.ensures.grows c.in_ok-a-in-Iff.ensures.node) c.in_ok-b-in-Iff.ensures.node

pub enter_formula-returns-in_err-a-in-All-clause-only :
    goal.enter_formula-returns-in_err-a-in-All-clause-only
unfolding formula_tree
enter_formula-returns-in_err-a-in-All-clause-only t c =
    let start = c.args.table.now in
    let x = formula_tree c.deref-in-All.result.now in
    let v = of_truth (formula_tree c.args.formula.now) in
    let w = of_truth (tree.all x) in
    let in_a = sym c.deref-in-All.ensures in
    let whole : formula_tree c.args.formula.now ≡ tree.all x = ap (λ d. formula_tree d) c.in-All.is ∙ (λ i. tree.all (formula_tree (in_a i))) in
    let same : v ≡ w = ap (λ d. of_truth d) whole in
    adds-part start start c.enter_formula-in-All.new.table v w (of_truth x) same (part.all x) (adds-self start v) c.in_err-a-in-All.ensures.only

pub enter_formula-returns-in_err-a-in-All-clause-grows :
    goal.enter_formula-returns-in_err-a-in-All-clause-grows
enter_formula-returns-in_err-a-in-All-clause-grows t c =
    c.in_err-a-in-All.ensures.grows

pub enter_formula-returns-in_ok-a-in-All-clause-only :
    goal.enter_formula-returns-in_ok-a-in-All-clause-only
unfolding formula_tree
enter_formula-returns-in_ok-a-in-All-clause-only t c =
    let start = c.args.table.now in
    let x = formula_tree c.deref-in-All.result.now in
    let v = of_truth (formula_tree c.args.formula.now) in
    let w = of_truth (tree.all x) in
    let in_a = sym c.deref-in-All.ensures in
    let whole : formula_tree c.args.formula.now ≡ tree.all x = ap (λ d. formula_tree d) c.in-All.is ∙ (λ i. tree.all (formula_tree (in_a i))) in
    let same : v ≡ w = ap (λ d. of_truth d) whole in
    let after_a = adds-part start start c.enter_formula-in-All.new.table v w (of_truth x) same (part.all x) (adds-self start v) c.in_ok-a-in-All.ensures.only in
    let last = c.enter_formula-in-All.new.table in
    let made : tree_in last (s.All c.in_ok-a-in-All.a) ≡ v = tree-All last.pools (nodes last) c.in_ok-a-in-All.a x c.in_ok-a-in-All.ensures.node ∙ sym same in
    adds-made start last c.make-in-All.new.self v (s.All c.in_ok-a-in-All.a) made after_a c.make-in-All.ensures.only

pub enter_formula-returns-in_ok-a-in-All-clause-node :
    goal.enter_formula-returns-in_ok-a-in-All-clause-node
unfolding formula_tree
enter_formula-returns-in_ok-a-in-All-clause-node t c =
    let start = c.args.table.now in
    let x = formula_tree c.deref-in-All.result.now in
    let v = of_truth (formula_tree c.args.formula.now) in
    let w = of_truth (tree.all x) in
    let in_a = sym c.deref-in-All.ensures in
    let whole : formula_tree c.args.formula.now ≡ tree.all x = ap (λ d. formula_tree d) c.in-All.is ∙ (λ i. tree.all (formula_tree (in_a i))) in
    let same : v ≡ w = ap (λ d. of_truth d) whole in
    let last = c.enter_formula-in-All.new.table in
    let made : tree_in last (s.All c.in_ok-a-in-All.a) ≡ v = tree-All last.pools (nodes last) c.in_ok-a-in-All.a x c.in_ok-a-in-All.ensures.node ∙ sym same in
    made-as (nodes c.make-in-All.new.self) c.make-in-All.result (tree_in last (s.All c.in_ok-a-in-All.a)) v made c.make-in-All.ensures.node

pub enter_formula-returns-in_ok-a-in-All-clause-grows :
    goal.enter_formula-returns-in_ok-a-in-All-clause-grows
enter_formula-returns-in_ok-a-in-All-clause-grows t c =
    extends-trans c.args.table.now c.enter_formula-in-All.new.table c.make-in-All.new.self c.in_ok-a-in-All.ensures.grows c.make-in-All.ensures.grows

pub enter_formula-make-requires-in-All :
    goal.enter_formula-make-requires-in-All
enter_formula-make-requires-in-All t c =
    let x = formula_tree c.deref-in-All.result.now in
    let last = c.enter_formula-in-All.new.table in
    fits-All last.pools (nodes last) c.in_ok-a-in-All.a x c.in_ok-a-in-All.ensures.node

pub enter_formula-returns-in_err-a-in-Ex-clause-only :
    goal.enter_formula-returns-in_err-a-in-Ex-clause-only
unfolding formula_tree
enter_formula-returns-in_err-a-in-Ex-clause-only t c =
    let start = c.args.table.now in
    let x = formula_tree c.deref-in-Ex.result.now in
    let v = of_truth (formula_tree c.args.formula.now) in
    let w = of_truth (tree.ex x) in
    let in_a = sym c.deref-in-Ex.ensures in
    let whole : formula_tree c.args.formula.now ≡ tree.ex x = ap (λ d. formula_tree d) c.in-Ex.is ∙ (λ i. tree.ex (formula_tree (in_a i))) in
    let same : v ≡ w = ap (λ d. of_truth d) whole in
    adds-part start start c.enter_formula-in-Ex.new.table v w (of_truth x) same (part.ex x) (adds-self start v) c.in_err-a-in-Ex.ensures.only

pub enter_formula-returns-in_err-a-in-Ex-clause-grows :
    goal.enter_formula-returns-in_err-a-in-Ex-clause-grows
enter_formula-returns-in_err-a-in-Ex-clause-grows t c =
    c.in_err-a-in-Ex.ensures.grows

pub enter_formula-returns-in_ok-a-in-Ex-clause-only :
    goal.enter_formula-returns-in_ok-a-in-Ex-clause-only
unfolding formula_tree
enter_formula-returns-in_ok-a-in-Ex-clause-only t c =
    let start = c.args.table.now in
    let x = formula_tree c.deref-in-Ex.result.now in
    let v = of_truth (formula_tree c.args.formula.now) in
    let w = of_truth (tree.ex x) in
    let in_a = sym c.deref-in-Ex.ensures in
    let whole : formula_tree c.args.formula.now ≡ tree.ex x = ap (λ d. formula_tree d) c.in-Ex.is ∙ (λ i. tree.ex (formula_tree (in_a i))) in
    let same : v ≡ w = ap (λ d. of_truth d) whole in
    let after_a = adds-part start start c.enter_formula-in-Ex.new.table v w (of_truth x) same (part.ex x) (adds-self start v) c.in_ok-a-in-Ex.ensures.only in
    let last = c.enter_formula-in-Ex.new.table in
    let made : tree_in last (s.Ex c.in_ok-a-in-Ex.a) ≡ v = tree-Ex last.pools (nodes last) c.in_ok-a-in-Ex.a x c.in_ok-a-in-Ex.ensures.node ∙ sym same in
    adds-made start last c.make-in-Ex.new.self v (s.Ex c.in_ok-a-in-Ex.a) made after_a c.make-in-Ex.ensures.only

pub enter_formula-returns-in_ok-a-in-Ex-clause-node :
    goal.enter_formula-returns-in_ok-a-in-Ex-clause-node
unfolding formula_tree
enter_formula-returns-in_ok-a-in-Ex-clause-node t c =
    let start = c.args.table.now in
    let x = formula_tree c.deref-in-Ex.result.now in
    let v = of_truth (formula_tree c.args.formula.now) in
    let w = of_truth (tree.ex x) in
    let in_a = sym c.deref-in-Ex.ensures in
    let whole : formula_tree c.args.formula.now ≡ tree.ex x = ap (λ d. formula_tree d) c.in-Ex.is ∙ (λ i. tree.ex (formula_tree (in_a i))) in
    let same : v ≡ w = ap (λ d. of_truth d) whole in
    let last = c.enter_formula-in-Ex.new.table in
    let made : tree_in last (s.Ex c.in_ok-a-in-Ex.a) ≡ v = tree-Ex last.pools (nodes last) c.in_ok-a-in-Ex.a x c.in_ok-a-in-Ex.ensures.node ∙ sym same in
    made-as (nodes c.make-in-Ex.new.self) c.make-in-Ex.result (tree_in last (s.Ex c.in_ok-a-in-Ex.a)) v made c.make-in-Ex.ensures.node

pub enter_formula-returns-in_ok-a-in-Ex-clause-grows :
    goal.enter_formula-returns-in_ok-a-in-Ex-clause-grows
enter_formula-returns-in_ok-a-in-Ex-clause-grows t c =
    extends-trans c.args.table.now c.enter_formula-in-Ex.new.table c.make-in-Ex.new.self c.in_ok-a-in-Ex.ensures.grows c.make-in-Ex.ensures.grows

pub enter_formula-make-requires-in-Ex :
    goal.enter_formula-make-requires-in-Ex
enter_formula-make-requires-in-Ex t c =
    let x = formula_tree c.deref-in-Ex.result.now in
    let last = c.enter_formula-in-Ex.new.table in
    fits-Ex last.pools (nodes last) c.in_ok-a-in-Ex.a x c.in_ok-a-in-Ex.ensures.node

pub enter_formula-returns-in_err-a-in-Mark-clause-only :
    goal.enter_formula-returns-in_err-a-in-Mark-clause-only
unfolding formula_tree
enter_formula-returns-in_err-a-in-Mark-clause-only t c =
    let start = c.args.table.now in
    let x = formula_tree c.deref-in-Mark.result.now in
    let v = of_truth (formula_tree c.args.formula.now) in
    let w = of_truth (tree.mark c.in-Mark.mark x) in
    let in_a = sym c.deref-in-Mark.ensures in
    let whole : formula_tree c.args.formula.now ≡ tree.mark c.in-Mark.mark x = ap (λ d. formula_tree d) c.in-Mark.is ∙ (λ i. tree.mark c.in-Mark.mark (formula_tree (in_a i))) in
    let same : v ≡ w = ap (λ d. of_truth d) whole in
    adds-part start start c.enter_formula-in-Mark.new.table v w (of_truth x) same (part.mark c.in-Mark.mark x) (adds-self start v) c.in_err-a-in-Mark.ensures.only

pub enter_formula-returns-in_err-a-in-Mark-clause-grows :
    goal.enter_formula-returns-in_err-a-in-Mark-clause-grows
enter_formula-returns-in_err-a-in-Mark-clause-grows t c =
    c.in_err-a-in-Mark.ensures.grows

pub enter_formula-returns-in_err-mark-in-Mark-clause-only :
    goal.enter_formula-returns-in_err-mark-in-Mark-clause-only
unfolding formula_tree
enter_formula-returns-in_err-mark-in-Mark-clause-only t c =
    let start = c.args.table.now in
    let x = formula_tree c.deref-in-Mark.result.now in
    let v = of_truth (formula_tree c.args.formula.now) in
    let w = of_truth (tree.mark c.in-Mark.mark x) in
    let in_a = sym c.deref-in-Mark.ensures in
    let whole : formula_tree c.args.formula.now ≡ tree.mark c.in-Mark.mark x = ap (λ d. formula_tree d) c.in-Mark.is ∙ (λ i. tree.mark c.in-Mark.mark (formula_tree (in_a i))) in
    let same : v ≡ w = ap (λ d. of_truth d) whole in
    let after_a = adds-part start start c.enter_formula-in-Mark.new.table v w (of_truth x) same (part.mark c.in-Mark.mark x) (adds-self start v) c.in_ok-a-in-Mark.ensures.only in
    adds-pool start c.enter_formula-in-Mark.new.table c.mark.new.self v c.in_err-mark-in-Mark.ensures.nodes after_a

pub enter_formula-returns-in_err-mark-in-Mark-clause-grows :
    goal.enter_formula-returns-in_err-mark-in-Mark-clause-grows
enter_formula-returns-in_err-mark-in-Mark-clause-grows t c =
    (extends-trans c.args.table.now c.enter_formula-in-Mark.new.table c.mark.new.self c.in_ok-a-in-Mark.ensures.grows c.in_err-mark-in-Mark.ensures.grows)

pub enter_formula-returns-in_ok-mark-in-Mark-clause-only :
    goal.enter_formula-returns-in_ok-mark-in-Mark-clause-only
unfolding formula_tree
enter_formula-returns-in_ok-mark-in-Mark-clause-only t c =
    let start = c.args.table.now in
    let x = formula_tree c.deref-in-Mark.result.now in
    let v = of_truth (formula_tree c.args.formula.now) in
    let w = of_truth (tree.mark c.in-Mark.mark x) in
    let in_a = sym c.deref-in-Mark.ensures in
    let whole : formula_tree c.args.formula.now ≡ tree.mark c.in-Mark.mark x = ap (λ d. formula_tree d) c.in-Mark.is ∙ (λ i. tree.mark c.in-Mark.mark (formula_tree (in_a i))) in
    let same : v ≡ w = ap (λ d. of_truth d) whole in
    let after_a = adds-part start start c.enter_formula-in-Mark.new.table v w (of_truth x) same (part.mark c.in-Mark.mark x) (adds-self start v) c.in_ok-a-in-Mark.ensures.only in
    let after_mark = adds-pool start c.enter_formula-in-Mark.new.table c.mark.new.self v c.in_ok-mark-in-Mark.ensures.nodes after_a in
    let last = c.mark.new.self in
    let made : tree_in last (s.Mark c.in_ok-mark-in-Mark.mark c.in_ok-a-in-Mark.a) ≡ v = tree-Mark last.pools (nodes last) c.in_ok-mark-in-Mark.mark c.in_ok-a-in-Mark.a c.in-Mark.mark x c.in_ok-mark-in-Mark.ensures.number (node-stays c.enter_formula-in-Mark.new.table c.mark.new.self c.in_ok-a-in-Mark.a (of_truth x) c.in_ok-mark-in-Mark.ensures.grows c.in_ok-a-in-Mark.ensures.node) ∙ sym same in
    adds-made start last c.make-in-Mark.new.self v (s.Mark c.in_ok-mark-in-Mark.mark c.in_ok-a-in-Mark.a) made after_mark c.make-in-Mark.ensures.only

pub enter_formula-returns-in_ok-mark-in-Mark-clause-node :
    goal.enter_formula-returns-in_ok-mark-in-Mark-clause-node
unfolding formula_tree
enter_formula-returns-in_ok-mark-in-Mark-clause-node t c =
    let start = c.args.table.now in
    let x = formula_tree c.deref-in-Mark.result.now in
    let v = of_truth (formula_tree c.args.formula.now) in
    let w = of_truth (tree.mark c.in-Mark.mark x) in
    let in_a = sym c.deref-in-Mark.ensures in
    let whole : formula_tree c.args.formula.now ≡ tree.mark c.in-Mark.mark x = ap (λ d. formula_tree d) c.in-Mark.is ∙ (λ i. tree.mark c.in-Mark.mark (formula_tree (in_a i))) in
    let same : v ≡ w = ap (λ d. of_truth d) whole in
    let last = c.mark.new.self in
    let made : tree_in last (s.Mark c.in_ok-mark-in-Mark.mark c.in_ok-a-in-Mark.a) ≡ v = tree-Mark last.pools (nodes last) c.in_ok-mark-in-Mark.mark c.in_ok-a-in-Mark.a c.in-Mark.mark x c.in_ok-mark-in-Mark.ensures.number (node-stays c.enter_formula-in-Mark.new.table c.mark.new.self c.in_ok-a-in-Mark.a (of_truth x) c.in_ok-mark-in-Mark.ensures.grows c.in_ok-a-in-Mark.ensures.node) ∙ sym same in
    made-as (nodes c.make-in-Mark.new.self) c.make-in-Mark.result (tree_in last (s.Mark c.in_ok-mark-in-Mark.mark c.in_ok-a-in-Mark.a)) v made c.make-in-Mark.ensures.node

pub enter_formula-returns-in_ok-mark-in-Mark-clause-grows :
    goal.enter_formula-returns-in_ok-mark-in-Mark-clause-grows
enter_formula-returns-in_ok-mark-in-Mark-clause-grows t c =
    extends-trans c.args.table.now c.mark.new.self c.make-in-Mark.new.self (extends-trans c.args.table.now c.enter_formula-in-Mark.new.table c.mark.new.self c.in_ok-a-in-Mark.ensures.grows c.in_ok-mark-in-Mark.ensures.grows) c.make-in-Mark.ensures.grows

pub enter_formula-make-requires-in-Mark :
    goal.enter_formula-make-requires-in-Mark
enter_formula-make-requires-in-Mark t c =
    let x = formula_tree c.deref-in-Mark.result.now in
    let last = c.mark.new.self in
    fits-Mark last.pools (nodes last) c.in_ok-mark-in-Mark.mark c.in_ok-a-in-Mark.a c.in-Mark.mark x c.in_ok-mark-in-Mark.ensures.number (node-stays c.enter_formula-in-Mark.new.table c.mark.new.self c.in_ok-a-in-Mark.a (of_truth x) c.in_ok-mark-in-Mark.ensures.grows c.in_ok-a-in-Mark.ensures.node)

pub enter_atom-returns-in_ok-name-in-Free-clause-only :
    goal.enter_atom-returns-in_ok-name-in-Free-clause-only
unfolding formula_tree
enter_atom-returns-in_ok-name-in-Free-clause-only t c =
    let start = c.args.table.now in
    let v = of_truth (formula_tree c.args.formula.now) in
    let last = c.name.new.self in
    let whole : formula_tree c.args.formula.now ≡ tree.free_truth c.in-Free.name = ap (λ d. formula_tree d) c.in-Free.is in
    let made : tree_in last (s.FreeTruth c.in_ok-name-in-Free.name) ≡ v = tree-FreeTruth last.pools (nodes last) c.in_ok-name-in-Free.name c.in-Free.name c.in_ok-name-in-Free.ensures.number ∙ ap (λ d. of_truth d) (sym whole) in
    adds-made start last c.make.new.self v (s.FreeTruth c.in_ok-name-in-Free.name) made (adds-pool start start last v c.in_ok-name-in-Free.ensures.nodes (adds-self start v)) c.make.ensures.only

pub enter_atom-returns-in_ok-name-in-Free-clause-node :
    goal.enter_atom-returns-in_ok-name-in-Free-clause-node
unfolding formula_tree
enter_atom-returns-in_ok-name-in-Free-clause-node t c =
    let start = c.args.table.now in
    let v = of_truth (formula_tree c.args.formula.now) in
    let last = c.name.new.self in
    let whole : formula_tree c.args.formula.now ≡ tree.free_truth c.in-Free.name = ap (λ d. formula_tree d) c.in-Free.is in
    let made : tree_in last (s.FreeTruth c.in_ok-name-in-Free.name) ≡ v = tree-FreeTruth last.pools (nodes last) c.in_ok-name-in-Free.name c.in-Free.name c.in_ok-name-in-Free.ensures.number ∙ ap (λ d. of_truth d) (sym whole) in
    made-as (nodes c.make.new.self) c.make.result (tree_in last (s.FreeTruth c.in_ok-name-in-Free.name)) v made c.make.ensures.node

pub enter_atom-returns-in_ok-name-in-Free-clause-grows :
    goal.enter_atom-returns-in_ok-name-in-Free-clause-grows
enter_atom-returns-in_ok-name-in-Free-clause-grows t c =
    extends-trans c.args.table.now c.name.new.self c.make.new.self c.in_ok-name-in-Free.ensures.grows c.make.ensures.grows

pub enter_atom-make-requires :
    goal.enter_atom-make-requires
enter_atom-make-requires t c =
    let last = c.name.new.self in
    fits-FreeTruth last.pools (nodes last) c.in_ok-name-in-Free.name c.in-Free.name c.in_ok-name-in-Free.ensures.number

pub enter_atom-returns-in_err-a-in-Read-clause-only :
    goal.enter_atom-returns-in_err-a-in-Read-clause-only
unfolding formula_tree
enter_atom-returns-in_err-a-in-Read-clause-only t c =
    let start = c.args.table.now in
    let x = field_tree c.deref.result.now in
    let y = term_tree c.in-Read.b.value in
    let v = of_truth (formula_tree c.args.formula.now) in
    let w = of_truth (tree.read_truth x y) in
    let in_a = sym c.deref.ensures in
    let whole : formula_tree c.args.formula.now ≡ tree.read_truth x y = ap (λ d. formula_tree d) c.in-Read.is ∙ (λ i. tree.read_truth (field_tree (in_a i)) y) in
    let same : v ≡ w = ap (λ d. of_truth d) whole in
    adds-part start start c.enter_field.new.table v w (of_field x) same (part.read_truth-a x y) (adds-self start v) c.in_err-a-in-Read.ensures.only

pub enter_atom-returns-in_err-a-in-Read-clause-grows :
    goal.enter_atom-returns-in_err-a-in-Read-clause-grows
enter_atom-returns-in_err-a-in-Read-clause-grows t c =
    c.in_err-a-in-Read.ensures.grows

pub enter_atom-returns-in_err-b-in-Read-clause-only :
    goal.enter_atom-returns-in_err-b-in-Read-clause-only
unfolding formula_tree
enter_atom-returns-in_err-b-in-Read-clause-only t c =
    let start = c.args.table.now in
    let x = field_tree c.deref.result.now in
    let y = term_tree c.deref-in-Read.result.now in
    let v = of_truth (formula_tree c.args.formula.now) in
    let w = of_truth (tree.read_truth x y) in
    let in_a = sym c.deref.ensures in
    let in_b = sym c.deref-in-Read.ensures in
    let whole : formula_tree c.args.formula.now ≡ tree.read_truth x y = ap (λ d. formula_tree d) c.in-Read.is ∙ (λ i. tree.read_truth (field_tree (in_a i)) (term_tree (in_b i))) in
    let same : v ≡ w = ap (λ d. of_truth d) whole in
    let after_a = adds-part start start c.enter_field.new.table v w (of_field x) same (part.read_truth-a x y) (adds-self start v) c.in_ok-a-in-Read.ensures.only in
    adds-part start c.enter_field.new.table c.enter_term.new.table v w (of_object y) same (part.read_truth-b x y) after_a c.in_err-b-in-Read.ensures.only

pub enter_atom-returns-in_err-b-in-Read-clause-grows :
    goal.enter_atom-returns-in_err-b-in-Read-clause-grows
enter_atom-returns-in_err-b-in-Read-clause-grows t c =
    (extends-trans c.args.table.now c.enter_field.new.table c.enter_term.new.table c.in_ok-a-in-Read.ensures.grows c.in_err-b-in-Read.ensures.grows)

pub enter_atom-returns-in_ok-b-in-Read-clause-only :
    goal.enter_atom-returns-in_ok-b-in-Read-clause-only
unfolding formula_tree
enter_atom-returns-in_ok-b-in-Read-clause-only t c =
    let start = c.args.table.now in
    let x = field_tree c.deref.result.now in
    let y = term_tree c.deref-in-Read.result.now in
    let v = of_truth (formula_tree c.args.formula.now) in
    let w = of_truth (tree.read_truth x y) in
    let in_a = sym c.deref.ensures in
    let in_b = sym c.deref-in-Read.ensures in
    let whole : formula_tree c.args.formula.now ≡ tree.read_truth x y = ap (λ d. formula_tree d) c.in-Read.is ∙ (λ i. tree.read_truth (field_tree (in_a i)) (term_tree (in_b i))) in
    let same : v ≡ w = ap (λ d. of_truth d) whole in
    let after_a = adds-part start start c.enter_field.new.table v w (of_field x) same (part.read_truth-a x y) (adds-self start v) c.in_ok-a-in-Read.ensures.only in
    let after_b = adds-part start c.enter_field.new.table c.enter_term.new.table v w (of_object y) same (part.read_truth-b x y) after_a c.in_ok-b-in-Read.ensures.only in
    let last = c.enter_term.new.table in
    let made : tree_in last (s.ReadTruth c.in_ok-a-in-Read.a c.in_ok-b-in-Read.b) ≡ v = tree-ReadTruth last.pools (nodes last) c.in_ok-a-in-Read.a c.in_ok-b-in-Read.b x y (node-stays c.enter_field.new.table c.enter_term.new.table c.in_ok-a-in-Read.a (of_field x) c.in_ok-b-in-Read.ensures.grows c.in_ok-a-in-Read.ensures.node) c.in_ok-b-in-Read.ensures.node ∙ sym same in
    adds-made start last c.make-in-Read.new.self v (s.ReadTruth c.in_ok-a-in-Read.a c.in_ok-b-in-Read.b) made after_b c.make-in-Read.ensures.only

pub enter_atom-returns-in_ok-b-in-Read-clause-node :
    goal.enter_atom-returns-in_ok-b-in-Read-clause-node
unfolding formula_tree
enter_atom-returns-in_ok-b-in-Read-clause-node t c =
    let start = c.args.table.now in
    let x = field_tree c.deref.result.now in
    let y = term_tree c.deref-in-Read.result.now in
    let v = of_truth (formula_tree c.args.formula.now) in
    let w = of_truth (tree.read_truth x y) in
    let in_a = sym c.deref.ensures in
    let in_b = sym c.deref-in-Read.ensures in
    let whole : formula_tree c.args.formula.now ≡ tree.read_truth x y = ap (λ d. formula_tree d) c.in-Read.is ∙ (λ i. tree.read_truth (field_tree (in_a i)) (term_tree (in_b i))) in
    let same : v ≡ w = ap (λ d. of_truth d) whole in
    let last = c.enter_term.new.table in
    let made : tree_in last (s.ReadTruth c.in_ok-a-in-Read.a c.in_ok-b-in-Read.b) ≡ v = tree-ReadTruth last.pools (nodes last) c.in_ok-a-in-Read.a c.in_ok-b-in-Read.b x y (node-stays c.enter_field.new.table c.enter_term.new.table c.in_ok-a-in-Read.a (of_field x) c.in_ok-b-in-Read.ensures.grows c.in_ok-a-in-Read.ensures.node) c.in_ok-b-in-Read.ensures.node ∙ sym same in
    made-as (nodes c.make-in-Read.new.self) c.make-in-Read.result (tree_in last (s.ReadTruth c.in_ok-a-in-Read.a c.in_ok-b-in-Read.b)) v made c.make-in-Read.ensures.node

pub enter_atom-returns-in_ok-b-in-Read-clause-grows :
    goal.enter_atom-returns-in_ok-b-in-Read-clause-grows
enter_atom-returns-in_ok-b-in-Read-clause-grows t c =
    extends-trans c.args.table.now c.enter_term.new.table c.make-in-Read.new.self (extends-trans c.args.table.now c.enter_field.new.table c.enter_term.new.table c.in_ok-a-in-Read.ensures.grows c.in_ok-b-in-Read.ensures.grows) c.make-in-Read.ensures.grows

pub enter_atom-make-requires-in-Read :
    goal.enter_atom-make-requires-in-Read
enter_atom-make-requires-in-Read t c =
    let x = field_tree c.deref.result.now in
    let y = term_tree c.deref-in-Read.result.now in
    let last = c.enter_term.new.table in
    fits-ReadTruth last.pools (nodes last) c.in_ok-a-in-Read.a c.in_ok-b-in-Read.b x y (node-stays c.enter_field.new.table c.enter_term.new.table c.in_ok-a-in-Read.a (of_field x) c.in_ok-b-in-Read.ensures.grows c.in_ok-a-in-Read.ensures.node) c.in_ok-b-in-Read.ensures.node

pub enter_atom-returns-in_err-a-in-EqObj-clause-only :
    goal.enter_atom-returns-in_err-a-in-EqObj-clause-only
unfolding formula_tree
enter_atom-returns-in_err-a-in-EqObj-clause-only t c =
    let start = c.args.table.now in
    let x = term_tree c.in-EqObj.a in
    let y = term_tree c.in-EqObj.b in
    let v = of_truth (formula_tree c.args.formula.now) in
    let w = of_truth (tree.eq_object x y) in
    let whole : formula_tree c.args.formula.now ≡ tree.eq_object x y = ap (λ d. formula_tree d) c.in-EqObj.is in
    let same : v ≡ w = ap (λ d. of_truth d) whole in
    adds-part start start c.enter_term-in-EqObj.new.table v w (of_object x) same (part.eq_object-a x y) (adds-self start v) c.in_err-a-in-EqObj.ensures.only

pub enter_atom-returns-in_err-a-in-EqObj-clause-grows :
    goal.enter_atom-returns-in_err-a-in-EqObj-clause-grows
enter_atom-returns-in_err-a-in-EqObj-clause-grows t c =
    c.in_err-a-in-EqObj.ensures.grows

pub enter_atom-returns-in_err-b-in-EqObj-clause-only :
    goal.enter_atom-returns-in_err-b-in-EqObj-clause-only
unfolding formula_tree
enter_atom-returns-in_err-b-in-EqObj-clause-only t c =
    let start = c.args.table.now in
    let x = term_tree c.in-EqObj.a in
    let y = term_tree c.in-EqObj.b in
    let v = of_truth (formula_tree c.args.formula.now) in
    let w = of_truth (tree.eq_object x y) in
    let whole : formula_tree c.args.formula.now ≡ tree.eq_object x y = ap (λ d. formula_tree d) c.in-EqObj.is in
    let same : v ≡ w = ap (λ d. of_truth d) whole in
    let after_a = adds-part start start c.enter_term-in-EqObj.new.table v w (of_object x) same (part.eq_object-a x y) (adds-self start v) c.in_ok-a-in-EqObj.ensures.only in
    adds-part start c.enter_term-in-EqObj.new.table c.enter_term-in-EqObj-2.new.table v w (of_object y) same (part.eq_object-b x y) after_a c.in_err-b-in-EqObj.ensures.only

pub enter_atom-returns-in_err-b-in-EqObj-clause-grows :
    goal.enter_atom-returns-in_err-b-in-EqObj-clause-grows
enter_atom-returns-in_err-b-in-EqObj-clause-grows t c =
    (extends-trans c.args.table.now c.enter_term-in-EqObj.new.table c.enter_term-in-EqObj-2.new.table c.in_ok-a-in-EqObj.ensures.grows c.in_err-b-in-EqObj.ensures.grows)

pub enter_atom-returns-in_ok-b-in-EqObj-clause-only :
    goal.enter_atom-returns-in_ok-b-in-EqObj-clause-only
unfolding formula_tree
enter_atom-returns-in_ok-b-in-EqObj-clause-only t c =
    let start = c.args.table.now in
    let x = term_tree c.in-EqObj.a in
    let y = term_tree c.in-EqObj.b in
    let v = of_truth (formula_tree c.args.formula.now) in
    let w = of_truth (tree.eq_object x y) in
    let whole : formula_tree c.args.formula.now ≡ tree.eq_object x y = ap (λ d. formula_tree d) c.in-EqObj.is in
    let same : v ≡ w = ap (λ d. of_truth d) whole in
    let after_a = adds-part start start c.enter_term-in-EqObj.new.table v w (of_object x) same (part.eq_object-a x y) (adds-self start v) c.in_ok-a-in-EqObj.ensures.only in
    let after_b = adds-part start c.enter_term-in-EqObj.new.table c.enter_term-in-EqObj-2.new.table v w (of_object y) same (part.eq_object-b x y) after_a c.in_ok-b-in-EqObj.ensures.only in
    let last = c.enter_term-in-EqObj-2.new.table in
    let made : tree_in last (s.EqObject c.in_ok-a-in-EqObj.a c.in_ok-b-in-EqObj.b) ≡ v = tree-EqObject last.pools (nodes last) c.in_ok-a-in-EqObj.a c.in_ok-b-in-EqObj.b x y (node-stays c.enter_term-in-EqObj.new.table c.enter_term-in-EqObj-2.new.table c.in_ok-a-in-EqObj.a (of_object x) c.in_ok-b-in-EqObj.ensures.grows c.in_ok-a-in-EqObj.ensures.node) c.in_ok-b-in-EqObj.ensures.node ∙ sym same in
    adds-made start last c.make-in-EqObj.new.self v (s.EqObject c.in_ok-a-in-EqObj.a c.in_ok-b-in-EqObj.b) made after_b c.make-in-EqObj.ensures.only

pub enter_atom-returns-in_ok-b-in-EqObj-clause-node :
    goal.enter_atom-returns-in_ok-b-in-EqObj-clause-node
unfolding formula_tree
enter_atom-returns-in_ok-b-in-EqObj-clause-node t c =
    let start = c.args.table.now in
    let x = term_tree c.in-EqObj.a in
    let y = term_tree c.in-EqObj.b in
    let v = of_truth (formula_tree c.args.formula.now) in
    let w = of_truth (tree.eq_object x y) in
    let whole : formula_tree c.args.formula.now ≡ tree.eq_object x y = ap (λ d. formula_tree d) c.in-EqObj.is in
    let same : v ≡ w = ap (λ d. of_truth d) whole in
    let last = c.enter_term-in-EqObj-2.new.table in
    let made : tree_in last (s.EqObject c.in_ok-a-in-EqObj.a c.in_ok-b-in-EqObj.b) ≡ v = tree-EqObject last.pools (nodes last) c.in_ok-a-in-EqObj.a c.in_ok-b-in-EqObj.b x y (node-stays c.enter_term-in-EqObj.new.table c.enter_term-in-EqObj-2.new.table c.in_ok-a-in-EqObj.a (of_object x) c.in_ok-b-in-EqObj.ensures.grows c.in_ok-a-in-EqObj.ensures.node) c.in_ok-b-in-EqObj.ensures.node ∙ sym same in
    made-as (nodes c.make-in-EqObj.new.self) c.make-in-EqObj.result (tree_in last (s.EqObject c.in_ok-a-in-EqObj.a c.in_ok-b-in-EqObj.b)) v made c.make-in-EqObj.ensures.node

pub enter_atom-returns-in_ok-b-in-EqObj-clause-grows :
    goal.enter_atom-returns-in_ok-b-in-EqObj-clause-grows
enter_atom-returns-in_ok-b-in-EqObj-clause-grows t c =
    extends-trans c.args.table.now c.enter_term-in-EqObj-2.new.table c.make-in-EqObj.new.self (extends-trans c.args.table.now c.enter_term-in-EqObj.new.table c.enter_term-in-EqObj-2.new.table c.in_ok-a-in-EqObj.ensures.grows c.in_ok-b-in-EqObj.ensures.grows) c.make-in-EqObj.ensures.grows

pub enter_atom-make-requires-in-EqObj :
    goal.enter_atom-make-requires-in-EqObj
enter_atom-make-requires-in-EqObj t c =
    let x = term_tree c.in-EqObj.a in
    let y = term_tree c.in-EqObj.b in
    let last = c.enter_term-in-EqObj-2.new.table in
    fits-EqObject last.pools (nodes last) c.in_ok-a-in-EqObj.a c.in_ok-b-in-EqObj.b x y (node-stays c.enter_term-in-EqObj.new.table c.enter_term-in-EqObj-2.new.table c.in_ok-a-in-EqObj.a (of_object x) c.in_ok-b-in-EqObj.ensures.grows c.in_ok-a-in-EqObj.ensures.node) c.in_ok-b-in-EqObj.ensures.node

pub enter_atom-returns-in_err-a-in-EqInt-clause-only :
    goal.enter_atom-returns-in_err-a-in-EqInt-clause-only
unfolding formula_tree
enter_atom-returns-in_err-a-in-EqInt-clause-only t c =
    let start = c.args.table.now in
    let x = int_tree c.in-EqInt.a in
    let y = int_tree c.in-EqInt.b in
    let v = of_truth (formula_tree c.args.formula.now) in
    let w = of_truth (tree.eq_number x y) in
    let whole : formula_tree c.args.formula.now ≡ tree.eq_number x y = ap (λ d. formula_tree d) c.in-EqInt.is in
    let same : v ≡ w = ap (λ d. of_truth d) whole in
    adds-part start start c.enter_int.new.table v w (of_number x) same (part.eq_number-a x y) (adds-self start v) c.in_err-a-in-EqInt.ensures.only

pub enter_atom-returns-in_err-a-in-EqInt-clause-grows :
    goal.enter_atom-returns-in_err-a-in-EqInt-clause-grows
enter_atom-returns-in_err-a-in-EqInt-clause-grows t c =
    c.in_err-a-in-EqInt.ensures.grows

pub enter_atom-returns-in_err-b-in-EqInt-clause-only :
    goal.enter_atom-returns-in_err-b-in-EqInt-clause-only
unfolding formula_tree
enter_atom-returns-in_err-b-in-EqInt-clause-only t c =
    let start = c.args.table.now in
    let x = int_tree c.in-EqInt.a in
    let y = int_tree c.in-EqInt.b in
    let v = of_truth (formula_tree c.args.formula.now) in
    let w = of_truth (tree.eq_number x y) in
    let whole : formula_tree c.args.formula.now ≡ tree.eq_number x y = ap (λ d. formula_tree d) c.in-EqInt.is in
    let same : v ≡ w = ap (λ d. of_truth d) whole in
    let after_a = adds-part start start c.enter_int.new.table v w (of_number x) same (part.eq_number-a x y) (adds-self start v) c.in_ok-a-in-EqInt.ensures.only in
    adds-part start c.enter_int.new.table c.enter_int-in-EqInt.new.table v w (of_number y) same (part.eq_number-b x y) after_a c.in_err-b-in-EqInt.ensures.only

pub enter_atom-returns-in_err-b-in-EqInt-clause-grows :
    goal.enter_atom-returns-in_err-b-in-EqInt-clause-grows
enter_atom-returns-in_err-b-in-EqInt-clause-grows t c =
    (extends-trans c.args.table.now c.enter_int.new.table c.enter_int-in-EqInt.new.table c.in_ok-a-in-EqInt.ensures.grows c.in_err-b-in-EqInt.ensures.grows)

pub enter_atom-returns-in_ok-b-in-EqInt-clause-only :
    goal.enter_atom-returns-in_ok-b-in-EqInt-clause-only
unfolding formula_tree
enter_atom-returns-in_ok-b-in-EqInt-clause-only t c =
    let start = c.args.table.now in
    let x = int_tree c.in-EqInt.a in
    let y = int_tree c.in-EqInt.b in
    let v = of_truth (formula_tree c.args.formula.now) in
    let w = of_truth (tree.eq_number x y) in
    let whole : formula_tree c.args.formula.now ≡ tree.eq_number x y = ap (λ d. formula_tree d) c.in-EqInt.is in
    let same : v ≡ w = ap (λ d. of_truth d) whole in
    let after_a = adds-part start start c.enter_int.new.table v w (of_number x) same (part.eq_number-a x y) (adds-self start v) c.in_ok-a-in-EqInt.ensures.only in
    let after_b = adds-part start c.enter_int.new.table c.enter_int-in-EqInt.new.table v w (of_number y) same (part.eq_number-b x y) after_a c.in_ok-b-in-EqInt.ensures.only in
    let last = c.enter_int-in-EqInt.new.table in
    let made : tree_in last (s.EqNumber c.in_ok-a-in-EqInt.a c.in_ok-b-in-EqInt.b) ≡ v = tree-EqNumber last.pools (nodes last) c.in_ok-a-in-EqInt.a c.in_ok-b-in-EqInt.b x y (node-stays c.enter_int.new.table c.enter_int-in-EqInt.new.table c.in_ok-a-in-EqInt.a (of_number x) c.in_ok-b-in-EqInt.ensures.grows c.in_ok-a-in-EqInt.ensures.node) c.in_ok-b-in-EqInt.ensures.node ∙ sym same in
    adds-made start last c.make-in-EqInt.new.self v (s.EqNumber c.in_ok-a-in-EqInt.a c.in_ok-b-in-EqInt.b) made after_b c.make-in-EqInt.ensures.only

pub enter_atom-returns-in_ok-b-in-EqInt-clause-node :
    goal.enter_atom-returns-in_ok-b-in-EqInt-clause-node
unfolding formula_tree
enter_atom-returns-in_ok-b-in-EqInt-clause-node t c =
    let start = c.args.table.now in
    let x = int_tree c.in-EqInt.a in
    let y = int_tree c.in-EqInt.b in
    let v = of_truth (formula_tree c.args.formula.now) in
    let w = of_truth (tree.eq_number x y) in
    let whole : formula_tree c.args.formula.now ≡ tree.eq_number x y = ap (λ d. formula_tree d) c.in-EqInt.is in
    let same : v ≡ w = ap (λ d. of_truth d) whole in
    let last = c.enter_int-in-EqInt.new.table in
    let made : tree_in last (s.EqNumber c.in_ok-a-in-EqInt.a c.in_ok-b-in-EqInt.b) ≡ v = tree-EqNumber last.pools (nodes last) c.in_ok-a-in-EqInt.a c.in_ok-b-in-EqInt.b x y (node-stays c.enter_int.new.table c.enter_int-in-EqInt.new.table c.in_ok-a-in-EqInt.a (of_number x) c.in_ok-b-in-EqInt.ensures.grows c.in_ok-a-in-EqInt.ensures.node) c.in_ok-b-in-EqInt.ensures.node ∙ sym same in
    made-as (nodes c.make-in-EqInt.new.self) c.make-in-EqInt.result (tree_in last (s.EqNumber c.in_ok-a-in-EqInt.a c.in_ok-b-in-EqInt.b)) v made c.make-in-EqInt.ensures.node

pub enter_atom-returns-in_ok-b-in-EqInt-clause-grows :
    goal.enter_atom-returns-in_ok-b-in-EqInt-clause-grows
enter_atom-returns-in_ok-b-in-EqInt-clause-grows t c =
    extends-trans c.args.table.now c.enter_int-in-EqInt.new.table c.make-in-EqInt.new.self (extends-trans c.args.table.now c.enter_int.new.table c.enter_int-in-EqInt.new.table c.in_ok-a-in-EqInt.ensures.grows c.in_ok-b-in-EqInt.ensures.grows) c.make-in-EqInt.ensures.grows

pub enter_atom-make-requires-in-EqInt :
    goal.enter_atom-make-requires-in-EqInt
enter_atom-make-requires-in-EqInt t c =
    let x = int_tree c.in-EqInt.a in
    let y = int_tree c.in-EqInt.b in
    let last = c.enter_int-in-EqInt.new.table in
    fits-EqNumber last.pools (nodes last) c.in_ok-a-in-EqInt.a c.in_ok-b-in-EqInt.b x y (node-stays c.enter_int.new.table c.enter_int-in-EqInt.new.table c.in_ok-a-in-EqInt.a (of_number x) c.in_ok-b-in-EqInt.ensures.grows c.in_ok-a-in-EqInt.ensures.node) c.in_ok-b-in-EqInt.ensures.node

pub enter_atom-returns-in_err-a-in-EqSet-clause-only :
    goal.enter_atom-returns-in_err-a-in-EqSet-clause-only
unfolding formula_tree
enter_atom-returns-in_err-a-in-EqSet-clause-only t c =
    let start = c.args.table.now in
    let x = set_tree c.in-EqSet.a in
    let y = set_tree c.in-EqSet.b in
    let v = of_truth (formula_tree c.args.formula.now) in
    let w = of_truth (tree.eq_set x y) in
    let whole : formula_tree c.args.formula.now ≡ tree.eq_set x y = ap (λ d. formula_tree d) c.in-EqSet.is in
    let same : v ≡ w = ap (λ d. of_truth d) whole in
    adds-part start start c.enter_set.new.table v w (of_set x) same (part.eq_set-a x y) (adds-self start v) c.in_err-a-in-EqSet.ensures.only

pub enter_atom-returns-in_err-a-in-EqSet-clause-grows :
    goal.enter_atom-returns-in_err-a-in-EqSet-clause-grows
enter_atom-returns-in_err-a-in-EqSet-clause-grows t c =
    c.in_err-a-in-EqSet.ensures.grows

pub enter_atom-returns-in_err-b-in-EqSet-clause-only :
    goal.enter_atom-returns-in_err-b-in-EqSet-clause-only
unfolding formula_tree
enter_atom-returns-in_err-b-in-EqSet-clause-only t c =
    let start = c.args.table.now in
    let x = set_tree c.in-EqSet.a in
    let y = set_tree c.in-EqSet.b in
    let v = of_truth (formula_tree c.args.formula.now) in
    let w = of_truth (tree.eq_set x y) in
    let whole : formula_tree c.args.formula.now ≡ tree.eq_set x y = ap (λ d. formula_tree d) c.in-EqSet.is in
    let same : v ≡ w = ap (λ d. of_truth d) whole in
    let after_a = adds-part start start c.enter_set.new.table v w (of_set x) same (part.eq_set-a x y) (adds-self start v) c.in_ok-a-in-EqSet.ensures.only in
    adds-part start c.enter_set.new.table c.enter_set-in-EqSet.new.table v w (of_set y) same (part.eq_set-b x y) after_a c.in_err-b-in-EqSet.ensures.only

pub enter_atom-returns-in_err-b-in-EqSet-clause-grows :
    goal.enter_atom-returns-in_err-b-in-EqSet-clause-grows
enter_atom-returns-in_err-b-in-EqSet-clause-grows t c =
    (extends-trans c.args.table.now c.enter_set.new.table c.enter_set-in-EqSet.new.table c.in_ok-a-in-EqSet.ensures.grows c.in_err-b-in-EqSet.ensures.grows)

pub enter_atom-returns-in_ok-b-in-EqSet-clause-only :
    goal.enter_atom-returns-in_ok-b-in-EqSet-clause-only
unfolding formula_tree
enter_atom-returns-in_ok-b-in-EqSet-clause-only t c =
    let start = c.args.table.now in
    let x = set_tree c.in-EqSet.a in
    let y = set_tree c.in-EqSet.b in
    let v = of_truth (formula_tree c.args.formula.now) in
    let w = of_truth (tree.eq_set x y) in
    let whole : formula_tree c.args.formula.now ≡ tree.eq_set x y = ap (λ d. formula_tree d) c.in-EqSet.is in
    let same : v ≡ w = ap (λ d. of_truth d) whole in
    let after_a = adds-part start start c.enter_set.new.table v w (of_set x) same (part.eq_set-a x y) (adds-self start v) c.in_ok-a-in-EqSet.ensures.only in
    let after_b = adds-part start c.enter_set.new.table c.enter_set-in-EqSet.new.table v w (of_set y) same (part.eq_set-b x y) after_a c.in_ok-b-in-EqSet.ensures.only in
    let last = c.enter_set-in-EqSet.new.table in
    let made : tree_in last (s.EqSet c.in_ok-a-in-EqSet.a c.in_ok-b-in-EqSet.b) ≡ v = tree-EqSet last.pools (nodes last) c.in_ok-a-in-EqSet.a c.in_ok-b-in-EqSet.b x y (node-stays c.enter_set.new.table c.enter_set-in-EqSet.new.table c.in_ok-a-in-EqSet.a (of_set x) c.in_ok-b-in-EqSet.ensures.grows c.in_ok-a-in-EqSet.ensures.node) c.in_ok-b-in-EqSet.ensures.node ∙ sym same in
    adds-made start last c.make-in-EqSet.new.self v (s.EqSet c.in_ok-a-in-EqSet.a c.in_ok-b-in-EqSet.b) made after_b c.make-in-EqSet.ensures.only

pub enter_atom-returns-in_ok-b-in-EqSet-clause-node :
    goal.enter_atom-returns-in_ok-b-in-EqSet-clause-node
unfolding formula_tree
enter_atom-returns-in_ok-b-in-EqSet-clause-node t c =
    let start = c.args.table.now in
    let x = set_tree c.in-EqSet.a in
    let y = set_tree c.in-EqSet.b in
    let v = of_truth (formula_tree c.args.formula.now) in
    let w = of_truth (tree.eq_set x y) in
    let whole : formula_tree c.args.formula.now ≡ tree.eq_set x y = ap (λ d. formula_tree d) c.in-EqSet.is in
    let same : v ≡ w = ap (λ d. of_truth d) whole in
    let last = c.enter_set-in-EqSet.new.table in
    let made : tree_in last (s.EqSet c.in_ok-a-in-EqSet.a c.in_ok-b-in-EqSet.b) ≡ v = tree-EqSet last.pools (nodes last) c.in_ok-a-in-EqSet.a c.in_ok-b-in-EqSet.b x y (node-stays c.enter_set.new.table c.enter_set-in-EqSet.new.table c.in_ok-a-in-EqSet.a (of_set x) c.in_ok-b-in-EqSet.ensures.grows c.in_ok-a-in-EqSet.ensures.node) c.in_ok-b-in-EqSet.ensures.node ∙ sym same in
    made-as (nodes c.make-in-EqSet.new.self) c.make-in-EqSet.result (tree_in last (s.EqSet c.in_ok-a-in-EqSet.a c.in_ok-b-in-EqSet.b)) v made c.make-in-EqSet.ensures.node

pub enter_atom-returns-in_ok-b-in-EqSet-clause-grows :
    goal.enter_atom-returns-in_ok-b-in-EqSet-clause-grows
enter_atom-returns-in_ok-b-in-EqSet-clause-grows t c =
    extends-trans c.args.table.now c.enter_set-in-EqSet.new.table c.make-in-EqSet.new.self (extends-trans c.args.table.now c.enter_set.new.table c.enter_set-in-EqSet.new.table c.in_ok-a-in-EqSet.ensures.grows c.in_ok-b-in-EqSet.ensures.grows) c.make-in-EqSet.ensures.grows

pub enter_atom-make-requires-in-EqSet :
    goal.enter_atom-make-requires-in-EqSet
enter_atom-make-requires-in-EqSet t c =
    let x = set_tree c.in-EqSet.a in
    let y = set_tree c.in-EqSet.b in
    let last = c.enter_set-in-EqSet.new.table in
    fits-EqSet last.pools (nodes last) c.in_ok-a-in-EqSet.a c.in_ok-b-in-EqSet.b x y (node-stays c.enter_set.new.table c.enter_set-in-EqSet.new.table c.in_ok-a-in-EqSet.a (of_set x) c.in_ok-b-in-EqSet.ensures.grows c.in_ok-a-in-EqSet.ensures.node) c.in_ok-b-in-EqSet.ensures.node

pub enter_atom-returns-in_err-a-in-Less-clause-only :
    goal.enter_atom-returns-in_err-a-in-Less-clause-only
unfolding formula_tree
enter_atom-returns-in_err-a-in-Less-clause-only t c =
    let start = c.args.table.now in
    let x = int_tree c.in-Less.a in
    let y = int_tree c.in-Less.b in
    let v = of_truth (formula_tree c.args.formula.now) in
    let w = of_truth (tree.less x y) in
    let whole : formula_tree c.args.formula.now ≡ tree.less x y = ap (λ d. formula_tree d) c.in-Less.is in
    let same : v ≡ w = ap (λ d. of_truth d) whole in
    adds-part start start c.enter_int-in-Less.new.table v w (of_number x) same (part.less-a x y) (adds-self start v) c.in_err-a-in-Less.ensures.only

pub enter_atom-returns-in_err-a-in-Less-clause-grows :
    goal.enter_atom-returns-in_err-a-in-Less-clause-grows
enter_atom-returns-in_err-a-in-Less-clause-grows t c =
    c.in_err-a-in-Less.ensures.grows

pub enter_atom-returns-in_err-b-in-Less-clause-only :
    goal.enter_atom-returns-in_err-b-in-Less-clause-only
unfolding formula_tree
enter_atom-returns-in_err-b-in-Less-clause-only t c =
    let start = c.args.table.now in
    let x = int_tree c.in-Less.a in
    let y = int_tree c.in-Less.b in
    let v = of_truth (formula_tree c.args.formula.now) in
    let w = of_truth (tree.less x y) in
    let whole : formula_tree c.args.formula.now ≡ tree.less x y = ap (λ d. formula_tree d) c.in-Less.is in
    let same : v ≡ w = ap (λ d. of_truth d) whole in
    let after_a = adds-part start start c.enter_int-in-Less.new.table v w (of_number x) same (part.less-a x y) (adds-self start v) c.in_ok-a-in-Less.ensures.only in
    adds-part start c.enter_int-in-Less.new.table c.enter_int-in-Less-2.new.table v w (of_number y) same (part.less-b x y) after_a c.in_err-b-in-Less.ensures.only

pub enter_atom-returns-in_err-b-in-Less-clause-grows :
    goal.enter_atom-returns-in_err-b-in-Less-clause-grows
enter_atom-returns-in_err-b-in-Less-clause-grows t c =
    (extends-trans c.args.table.now c.enter_int-in-Less.new.table c.enter_int-in-Less-2.new.table c.in_ok-a-in-Less.ensures.grows c.in_err-b-in-Less.ensures.grows)

pub enter_atom-returns-in_ok-b-in-Less-clause-only :
    goal.enter_atom-returns-in_ok-b-in-Less-clause-only
unfolding formula_tree
enter_atom-returns-in_ok-b-in-Less-clause-only t c =
    let start = c.args.table.now in
    let x = int_tree c.in-Less.a in
    let y = int_tree c.in-Less.b in
    let v = of_truth (formula_tree c.args.formula.now) in
    let w = of_truth (tree.less x y) in
    let whole : formula_tree c.args.formula.now ≡ tree.less x y = ap (λ d. formula_tree d) c.in-Less.is in
    let same : v ≡ w = ap (λ d. of_truth d) whole in
    let after_a = adds-part start start c.enter_int-in-Less.new.table v w (of_number x) same (part.less-a x y) (adds-self start v) c.in_ok-a-in-Less.ensures.only in
    let after_b = adds-part start c.enter_int-in-Less.new.table c.enter_int-in-Less-2.new.table v w (of_number y) same (part.less-b x y) after_a c.in_ok-b-in-Less.ensures.only in
    let last = c.enter_int-in-Less-2.new.table in
    let made : tree_in last (s.Less c.in_ok-a-in-Less.a c.in_ok-b-in-Less.b) ≡ v = tree-Less last.pools (nodes last) c.in_ok-a-in-Less.a c.in_ok-b-in-Less.b x y (node-stays c.enter_int-in-Less.new.table c.enter_int-in-Less-2.new.table c.in_ok-a-in-Less.a (of_number x) c.in_ok-b-in-Less.ensures.grows c.in_ok-a-in-Less.ensures.node) c.in_ok-b-in-Less.ensures.node ∙ sym same in
    adds-made start last c.make-in-Less.new.self v (s.Less c.in_ok-a-in-Less.a c.in_ok-b-in-Less.b) made after_b c.make-in-Less.ensures.only

pub enter_atom-returns-in_ok-b-in-Less-clause-node :
    goal.enter_atom-returns-in_ok-b-in-Less-clause-node
unfolding formula_tree
enter_atom-returns-in_ok-b-in-Less-clause-node t c =
    let start = c.args.table.now in
    let x = int_tree c.in-Less.a in
    let y = int_tree c.in-Less.b in
    let v = of_truth (formula_tree c.args.formula.now) in
    let w = of_truth (tree.less x y) in
    let whole : formula_tree c.args.formula.now ≡ tree.less x y = ap (λ d. formula_tree d) c.in-Less.is in
    let same : v ≡ w = ap (λ d. of_truth d) whole in
    let last = c.enter_int-in-Less-2.new.table in
    let made : tree_in last (s.Less c.in_ok-a-in-Less.a c.in_ok-b-in-Less.b) ≡ v = tree-Less last.pools (nodes last) c.in_ok-a-in-Less.a c.in_ok-b-in-Less.b x y (node-stays c.enter_int-in-Less.new.table c.enter_int-in-Less-2.new.table c.in_ok-a-in-Less.a (of_number x) c.in_ok-b-in-Less.ensures.grows c.in_ok-a-in-Less.ensures.node) c.in_ok-b-in-Less.ensures.node ∙ sym same in
    made-as (nodes c.make-in-Less.new.self) c.make-in-Less.result (tree_in last (s.Less c.in_ok-a-in-Less.a c.in_ok-b-in-Less.b)) v made c.make-in-Less.ensures.node

pub enter_atom-returns-in_ok-b-in-Less-clause-grows :
    goal.enter_atom-returns-in_ok-b-in-Less-clause-grows
enter_atom-returns-in_ok-b-in-Less-clause-grows t c =
    extends-trans c.args.table.now c.enter_int-in-Less-2.new.table c.make-in-Less.new.self (extends-trans c.args.table.now c.enter_int-in-Less.new.table c.enter_int-in-Less-2.new.table c.in_ok-a-in-Less.ensures.grows c.in_ok-b-in-Less.ensures.grows) c.make-in-Less.ensures.grows

pub enter_atom-make-requires-in-Less :
    goal.enter_atom-make-requires-in-Less
enter_atom-make-requires-in-Less t c =
    let x = int_tree c.in-Less.a in
    let y = int_tree c.in-Less.b in
    let last = c.enter_int-in-Less-2.new.table in
    fits-Less last.pools (nodes last) c.in_ok-a-in-Less.a c.in_ok-b-in-Less.b x y (node-stays c.enter_int-in-Less.new.table c.enter_int-in-Less-2.new.table c.in_ok-a-in-Less.a (of_number x) c.in_ok-b-in-Less.ensures.grows c.in_ok-a-in-Less.ensures.node) c.in_ok-b-in-Less.ensures.node

pub enter_atom-returns-in_err-a-in-LessEq-clause-only :
    goal.enter_atom-returns-in_err-a-in-LessEq-clause-only
unfolding formula_tree
enter_atom-returns-in_err-a-in-LessEq-clause-only t c =
    let start = c.args.table.now in
    let x = int_tree c.in-LessEq.a in
    let y = int_tree c.in-LessEq.b in
    let v = of_truth (formula_tree c.args.formula.now) in
    let w = of_truth (tree.less_equal x y) in
    let whole : formula_tree c.args.formula.now ≡ tree.less_equal x y = ap (λ d. formula_tree d) c.in-LessEq.is in
    let same : v ≡ w = ap (λ d. of_truth d) whole in
    adds-part start start c.enter_int-in-LessEq.new.table v w (of_number x) same (part.less_equal-a x y) (adds-self start v) c.in_err-a-in-LessEq.ensures.only

pub enter_atom-returns-in_err-a-in-LessEq-clause-grows :
    goal.enter_atom-returns-in_err-a-in-LessEq-clause-grows
enter_atom-returns-in_err-a-in-LessEq-clause-grows t c =
    c.in_err-a-in-LessEq.ensures.grows

pub enter_atom-returns-in_err-b-in-LessEq-clause-only :
    goal.enter_atom-returns-in_err-b-in-LessEq-clause-only
unfolding formula_tree
enter_atom-returns-in_err-b-in-LessEq-clause-only t c =
    let start = c.args.table.now in
    let x = int_tree c.in-LessEq.a in
    let y = int_tree c.in-LessEq.b in
    let v = of_truth (formula_tree c.args.formula.now) in
    let w = of_truth (tree.less_equal x y) in
    let whole : formula_tree c.args.formula.now ≡ tree.less_equal x y = ap (λ d. formula_tree d) c.in-LessEq.is in
    let same : v ≡ w = ap (λ d. of_truth d) whole in
    let after_a = adds-part start start c.enter_int-in-LessEq.new.table v w (of_number x) same (part.less_equal-a x y) (adds-self start v) c.in_ok-a-in-LessEq.ensures.only in
    adds-part start c.enter_int-in-LessEq.new.table c.enter_int-in-LessEq-2.new.table v w (of_number y) same (part.less_equal-b x y) after_a c.in_err-b-in-LessEq.ensures.only

pub enter_atom-returns-in_err-b-in-LessEq-clause-grows :
    goal.enter_atom-returns-in_err-b-in-LessEq-clause-grows
enter_atom-returns-in_err-b-in-LessEq-clause-grows t c =
    (extends-trans c.args.table.now c.enter_int-in-LessEq.new.table c.enter_int-in-LessEq-2.new.table c.in_ok-a-in-LessEq.ensures.grows c.in_err-b-in-LessEq.ensures.grows)

pub enter_atom-returns-in_ok-b-in-LessEq-clause-only :
    goal.enter_atom-returns-in_ok-b-in-LessEq-clause-only
unfolding formula_tree
enter_atom-returns-in_ok-b-in-LessEq-clause-only t c =
    let start = c.args.table.now in
    let x = int_tree c.in-LessEq.a in
    let y = int_tree c.in-LessEq.b in
    let v = of_truth (formula_tree c.args.formula.now) in
    let w = of_truth (tree.less_equal x y) in
    let whole : formula_tree c.args.formula.now ≡ tree.less_equal x y = ap (λ d. formula_tree d) c.in-LessEq.is in
    let same : v ≡ w = ap (λ d. of_truth d) whole in
    let after_a = adds-part start start c.enter_int-in-LessEq.new.table v w (of_number x) same (part.less_equal-a x y) (adds-self start v) c.in_ok-a-in-LessEq.ensures.only in
    let after_b = adds-part start c.enter_int-in-LessEq.new.table c.enter_int-in-LessEq-2.new.table v w (of_number y) same (part.less_equal-b x y) after_a c.in_ok-b-in-LessEq.ensures.only in
    let last = c.enter_int-in-LessEq-2.new.table in
    let made : tree_in last (s.LessEqual c.in_ok-a-in-LessEq.a c.in_ok-b-in-LessEq.b) ≡ v = tree-LessEqual last.pools (nodes last) c.in_ok-a-in-LessEq.a c.in_ok-b-in-LessEq.b x y (node-stays c.enter_int-in-LessEq.new.table c.enter_int-in-LessEq-2.new.table c.in_ok-a-in-LessEq.a (of_number x) c.in_ok-b-in-LessEq.ensures.grows c.in_ok-a-in-LessEq.ensures.node) c.in_ok-b-in-LessEq.ensures.node ∙ sym same in
    adds-made start last c.make-in-LessEq.new.self v (s.LessEqual c.in_ok-a-in-LessEq.a c.in_ok-b-in-LessEq.b) made after_b c.make-in-LessEq.ensures.only

pub enter_atom-returns-in_ok-b-in-LessEq-clause-node :
    goal.enter_atom-returns-in_ok-b-in-LessEq-clause-node
unfolding formula_tree
enter_atom-returns-in_ok-b-in-LessEq-clause-node t c =
    let start = c.args.table.now in
    let x = int_tree c.in-LessEq.a in
    let y = int_tree c.in-LessEq.b in
    let v = of_truth (formula_tree c.args.formula.now) in
    let w = of_truth (tree.less_equal x y) in
    let whole : formula_tree c.args.formula.now ≡ tree.less_equal x y = ap (λ d. formula_tree d) c.in-LessEq.is in
    let same : v ≡ w = ap (λ d. of_truth d) whole in
    let last = c.enter_int-in-LessEq-2.new.table in
    let made : tree_in last (s.LessEqual c.in_ok-a-in-LessEq.a c.in_ok-b-in-LessEq.b) ≡ v = tree-LessEqual last.pools (nodes last) c.in_ok-a-in-LessEq.a c.in_ok-b-in-LessEq.b x y (node-stays c.enter_int-in-LessEq.new.table c.enter_int-in-LessEq-2.new.table c.in_ok-a-in-LessEq.a (of_number x) c.in_ok-b-in-LessEq.ensures.grows c.in_ok-a-in-LessEq.ensures.node) c.in_ok-b-in-LessEq.ensures.node ∙ sym same in
    made-as (nodes c.make-in-LessEq.new.self) c.make-in-LessEq.result (tree_in last (s.LessEqual c.in_ok-a-in-LessEq.a c.in_ok-b-in-LessEq.b)) v made c.make-in-LessEq.ensures.node

pub enter_atom-returns-in_ok-b-in-LessEq-clause-grows :
    goal.enter_atom-returns-in_ok-b-in-LessEq-clause-grows
enter_atom-returns-in_ok-b-in-LessEq-clause-grows t c =
    extends-trans c.args.table.now c.enter_int-in-LessEq-2.new.table c.make-in-LessEq.new.self (extends-trans c.args.table.now c.enter_int-in-LessEq.new.table c.enter_int-in-LessEq-2.new.table c.in_ok-a-in-LessEq.ensures.grows c.in_ok-b-in-LessEq.ensures.grows) c.make-in-LessEq.ensures.grows

pub enter_atom-make-requires-in-LessEq :
    goal.enter_atom-make-requires-in-LessEq
enter_atom-make-requires-in-LessEq t c =
    let x = int_tree c.in-LessEq.a in
    let y = int_tree c.in-LessEq.b in
    let last = c.enter_int-in-LessEq-2.new.table in
    fits-LessEqual last.pools (nodes last) c.in_ok-a-in-LessEq.a c.in_ok-b-in-LessEq.b x y (node-stays c.enter_int-in-LessEq.new.table c.enter_int-in-LessEq-2.new.table c.in_ok-a-in-LessEq.a (of_number x) c.in_ok-b-in-LessEq.ensures.grows c.in_ok-a-in-LessEq.ensures.node) c.in_ok-b-in-LessEq.ensures.node

pub enter_atom-returns-in_err-a-in-Divides-clause-only :
    goal.enter_atom-returns-in_err-a-in-Divides-clause-only
unfolding formula_tree
enter_atom-returns-in_err-a-in-Divides-clause-only t c =
    let start = c.args.table.now in
    let x = int_tree c.in-Divides.a in
    let v = of_truth (formula_tree c.args.formula.now) in
    let w = of_truth (tree.divides c.in-Divides.number x) in
    let whole : formula_tree c.args.formula.now ≡ tree.divides c.in-Divides.number x = ap (λ d. formula_tree d) c.in-Divides.is in
    let same : v ≡ w = ap (λ d. of_truth d) whole in
    adds-part start start c.enter_int-in-Divides.new.table v w (of_number x) same (part.divides c.in-Divides.number x) (adds-self start v) c.in_err-a-in-Divides.ensures.only

pub enter_atom-returns-in_err-a-in-Divides-clause-grows :
    goal.enter_atom-returns-in_err-a-in-Divides-clause-grows
enter_atom-returns-in_err-a-in-Divides-clause-grows t c =
    c.in_err-a-in-Divides.ensures.grows

pub enter_atom-returns-in_ok-a-in-Divides-clause-only :
    goal.enter_atom-returns-in_ok-a-in-Divides-clause-only
unfolding formula_tree
enter_atom-returns-in_ok-a-in-Divides-clause-only t c =
    let start = c.args.table.now in
    let x = int_tree c.in-Divides.a in
    let v = of_truth (formula_tree c.args.formula.now) in
    let w = of_truth (tree.divides c.in-Divides.number x) in
    let whole : formula_tree c.args.formula.now ≡ tree.divides c.in-Divides.number x = ap (λ d. formula_tree d) c.in-Divides.is in
    let same : v ≡ w = ap (λ d. of_truth d) whole in
    let after_a = adds-part start start c.enter_int-in-Divides.new.table v w (of_number x) same (part.divides c.in-Divides.number x) (adds-self start v) c.in_ok-a-in-Divides.ensures.only in
    let last = c.enter_int-in-Divides.new.table in
    let z = c.in-Divides.number in
    let read = to_z w64 (of_z w64 z) in
    let fits : SFits w64 z = search rules in
    let made : tree_in last (s.Divides read c.in_ok-a-in-Divides.a) ≡ v = tree-Divides last.pools (nodes last) read c.in_ok-a-in-Divides.a x c.in_ok-a-in-Divides.ensures.node ∙ ap (λ d. of_truth (tree.divides d x)) (to_z-of_z w64 z fits) ∙ sym same in
    adds-made start last c.make-in-Divides.new.self v (s.Divides read c.in_ok-a-in-Divides.a) made after_a c.make-in-Divides.ensures.only

pub enter_atom-returns-in_ok-a-in-Divides-clause-node :
    goal.enter_atom-returns-in_ok-a-in-Divides-clause-node
unfolding formula_tree
enter_atom-returns-in_ok-a-in-Divides-clause-node t c =
    let start = c.args.table.now in
    let x = int_tree c.in-Divides.a in
    let v = of_truth (formula_tree c.args.formula.now) in
    let w = of_truth (tree.divides c.in-Divides.number x) in
    let whole : formula_tree c.args.formula.now ≡ tree.divides c.in-Divides.number x = ap (λ d. formula_tree d) c.in-Divides.is in
    let same : v ≡ w = ap (λ d. of_truth d) whole in
    let last = c.enter_int-in-Divides.new.table in
    let z = c.in-Divides.number in
    let read = to_z w64 (of_z w64 z) in
    let fits : SFits w64 z = search rules in
    let made : tree_in last (s.Divides read c.in_ok-a-in-Divides.a) ≡ v = tree-Divides last.pools (nodes last) read c.in_ok-a-in-Divides.a x c.in_ok-a-in-Divides.ensures.node ∙ ap (λ d. of_truth (tree.divides d x)) (to_z-of_z w64 z fits) ∙ sym same in
    made-as (nodes c.make-in-Divides.new.self) c.make-in-Divides.result (tree_in last (s.Divides read c.in_ok-a-in-Divides.a)) v made c.make-in-Divides.ensures.node

pub enter_atom-returns-in_ok-a-in-Divides-clause-grows :
    goal.enter_atom-returns-in_ok-a-in-Divides-clause-grows
enter_atom-returns-in_ok-a-in-Divides-clause-grows t c =
    extends-trans c.args.table.now c.enter_int-in-Divides.new.table c.make-in-Divides.new.self c.in_ok-a-in-Divides.ensures.grows c.make-in-Divides.ensures.grows

pub enter_atom-make-requires-in-Divides :
    goal.enter_atom-make-requires-in-Divides
enter_atom-make-requires-in-Divides t c =
    let x = int_tree c.in-Divides.a in
    let last = c.enter_int-in-Divides.new.table in
    let z = c.in-Divides.number in
    let read = to_z w64 (of_z w64 z) in
    fits-Divides last.pools (nodes last) read c.in_ok-a-in-Divides.a x c.in_ok-a-in-Divides.ensures.node

pub enter_atom-returns-in_err-a-in-Member-clause-only :
    goal.enter_atom-returns-in_err-a-in-Member-clause-only
unfolding formula_tree
enter_atom-returns-in_err-a-in-Member-clause-only t c =
    let start = c.args.table.now in
    let x = term_tree c.in-Member.a in
    let y = set_tree c.in-Member.b in
    let v = of_truth (formula_tree c.args.formula.now) in
    let w = of_truth (tree.member x y) in
    let whole : formula_tree c.args.formula.now ≡ tree.member x y = ap (λ d. formula_tree d) c.in-Member.is in
    let same : v ≡ w = ap (λ d. of_truth d) whole in
    adds-part start start c.enter_term-in-Member.new.table v w (of_object x) same (part.member-a x y) (adds-self start v) c.in_err-a-in-Member.ensures.only

pub enter_atom-returns-in_err-a-in-Member-clause-grows :
    goal.enter_atom-returns-in_err-a-in-Member-clause-grows
enter_atom-returns-in_err-a-in-Member-clause-grows t c =
    c.in_err-a-in-Member.ensures.grows

pub enter_atom-returns-in_err-b-in-Member-clause-only :
    goal.enter_atom-returns-in_err-b-in-Member-clause-only
unfolding formula_tree
enter_atom-returns-in_err-b-in-Member-clause-only t c =
    let start = c.args.table.now in
    let x = term_tree c.in-Member.a in
    let y = set_tree c.in-Member.b in
    let v = of_truth (formula_tree c.args.formula.now) in
    let w = of_truth (tree.member x y) in
    let whole : formula_tree c.args.formula.now ≡ tree.member x y = ap (λ d. formula_tree d) c.in-Member.is in
    let same : v ≡ w = ap (λ d. of_truth d) whole in
    let after_a = adds-part start start c.enter_term-in-Member.new.table v w (of_object x) same (part.member-a x y) (adds-self start v) c.in_ok-a-in-Member.ensures.only in
    adds-part start c.enter_term-in-Member.new.table c.enter_set-in-Member.new.table v w (of_set y) same (part.member-b x y) after_a c.in_err-b-in-Member.ensures.only

pub enter_atom-returns-in_err-b-in-Member-clause-grows :
    goal.enter_atom-returns-in_err-b-in-Member-clause-grows
enter_atom-returns-in_err-b-in-Member-clause-grows t c =
    (extends-trans c.args.table.now c.enter_term-in-Member.new.table c.enter_set-in-Member.new.table c.in_ok-a-in-Member.ensures.grows c.in_err-b-in-Member.ensures.grows)

pub enter_atom-returns-in_ok-b-in-Member-clause-only :
    goal.enter_atom-returns-in_ok-b-in-Member-clause-only
unfolding formula_tree
enter_atom-returns-in_ok-b-in-Member-clause-only t c =
    let start = c.args.table.now in
    let x = term_tree c.in-Member.a in
    let y = set_tree c.in-Member.b in
    let v = of_truth (formula_tree c.args.formula.now) in
    let w = of_truth (tree.member x y) in
    let whole : formula_tree c.args.formula.now ≡ tree.member x y = ap (λ d. formula_tree d) c.in-Member.is in
    let same : v ≡ w = ap (λ d. of_truth d) whole in
    let after_a = adds-part start start c.enter_term-in-Member.new.table v w (of_object x) same (part.member-a x y) (adds-self start v) c.in_ok-a-in-Member.ensures.only in
    let after_b = adds-part start c.enter_term-in-Member.new.table c.enter_set-in-Member.new.table v w (of_set y) same (part.member-b x y) after_a c.in_ok-b-in-Member.ensures.only in
    let last = c.enter_set-in-Member.new.table in
    let made : tree_in last (s.Member c.in_ok-a-in-Member.a c.in_ok-b-in-Member.b) ≡ v = tree-Member last.pools (nodes last) c.in_ok-a-in-Member.a c.in_ok-b-in-Member.b x y (node-stays c.enter_term-in-Member.new.table c.enter_set-in-Member.new.table c.in_ok-a-in-Member.a (of_object x) c.in_ok-b-in-Member.ensures.grows c.in_ok-a-in-Member.ensures.node) c.in_ok-b-in-Member.ensures.node ∙ sym same in
    adds-made start last c.make-in-Member.new.self v (s.Member c.in_ok-a-in-Member.a c.in_ok-b-in-Member.b) made after_b c.make-in-Member.ensures.only

pub enter_atom-returns-in_ok-b-in-Member-clause-node :
    goal.enter_atom-returns-in_ok-b-in-Member-clause-node
unfolding formula_tree
enter_atom-returns-in_ok-b-in-Member-clause-node t c =
    let start = c.args.table.now in
    let x = term_tree c.in-Member.a in
    let y = set_tree c.in-Member.b in
    let v = of_truth (formula_tree c.args.formula.now) in
    let w = of_truth (tree.member x y) in
    let whole : formula_tree c.args.formula.now ≡ tree.member x y = ap (λ d. formula_tree d) c.in-Member.is in
    let same : v ≡ w = ap (λ d. of_truth d) whole in
    let last = c.enter_set-in-Member.new.table in
    let made : tree_in last (s.Member c.in_ok-a-in-Member.a c.in_ok-b-in-Member.b) ≡ v = tree-Member last.pools (nodes last) c.in_ok-a-in-Member.a c.in_ok-b-in-Member.b x y (node-stays c.enter_term-in-Member.new.table c.enter_set-in-Member.new.table c.in_ok-a-in-Member.a (of_object x) c.in_ok-b-in-Member.ensures.grows c.in_ok-a-in-Member.ensures.node) c.in_ok-b-in-Member.ensures.node ∙ sym same in
    made-as (nodes c.make-in-Member.new.self) c.make-in-Member.result (tree_in last (s.Member c.in_ok-a-in-Member.a c.in_ok-b-in-Member.b)) v made c.make-in-Member.ensures.node

pub enter_atom-returns-in_ok-b-in-Member-clause-grows :
    goal.enter_atom-returns-in_ok-b-in-Member-clause-grows
enter_atom-returns-in_ok-b-in-Member-clause-grows t c =
    extends-trans c.args.table.now c.enter_set-in-Member.new.table c.make-in-Member.new.self (extends-trans c.args.table.now c.enter_term-in-Member.new.table c.enter_set-in-Member.new.table c.in_ok-a-in-Member.ensures.grows c.in_ok-b-in-Member.ensures.grows) c.make-in-Member.ensures.grows

pub enter_atom-make-requires-in-Member :
    goal.enter_atom-make-requires-in-Member
enter_atom-make-requires-in-Member t c =
    let x = term_tree c.in-Member.a in
    let y = set_tree c.in-Member.b in
    let last = c.enter_set-in-Member.new.table in
    fits-Member last.pools (nodes last) c.in_ok-a-in-Member.a c.in_ok-b-in-Member.b x y (node-stays c.enter_term-in-Member.new.table c.enter_set-in-Member.new.table c.in_ok-a-in-Member.a (of_object x) c.in_ok-b-in-Member.ensures.grows c.in_ok-a-in-Member.ensures.node) c.in_ok-b-in-Member.ensures.node

pub enter_atom-returns-in_err-a-in-Subset-clause-only :
    goal.enter_atom-returns-in_err-a-in-Subset-clause-only
unfolding formula_tree
enter_atom-returns-in_err-a-in-Subset-clause-only t c =
    let start = c.args.table.now in
    let x = set_tree c.in-Subset.a in
    let y = set_tree c.in-Subset.b in
    let v = of_truth (formula_tree c.args.formula.now) in
    let w = of_truth (tree.subset x y) in
    let whole : formula_tree c.args.formula.now ≡ tree.subset x y = ap (λ d. formula_tree d) c.in-Subset.is in
    let same : v ≡ w = ap (λ d. of_truth d) whole in
    adds-part start start c.enter_set-in-Subset.new.table v w (of_set x) same (part.subset-a x y) (adds-self start v) c.in_err-a-in-Subset.ensures.only

pub enter_atom-returns-in_err-a-in-Subset-clause-grows :
    goal.enter_atom-returns-in_err-a-in-Subset-clause-grows
enter_atom-returns-in_err-a-in-Subset-clause-grows t c =
    c.in_err-a-in-Subset.ensures.grows

pub enter_atom-returns-in_err-b-in-Subset-clause-only :
    goal.enter_atom-returns-in_err-b-in-Subset-clause-only
unfolding formula_tree
enter_atom-returns-in_err-b-in-Subset-clause-only t c =
    let start = c.args.table.now in
    let x = set_tree c.in-Subset.a in
    let y = set_tree c.in-Subset.b in
    let v = of_truth (formula_tree c.args.formula.now) in
    let w = of_truth (tree.subset x y) in
    let whole : formula_tree c.args.formula.now ≡ tree.subset x y = ap (λ d. formula_tree d) c.in-Subset.is in
    let same : v ≡ w = ap (λ d. of_truth d) whole in
    let after_a = adds-part start start c.enter_set-in-Subset.new.table v w (of_set x) same (part.subset-a x y) (adds-self start v) c.in_ok-a-in-Subset.ensures.only in
    adds-part start c.enter_set-in-Subset.new.table c.enter_set-in-Subset-2.new.table v w (of_set y) same (part.subset-b x y) after_a c.in_err-b-in-Subset.ensures.only

pub enter_atom-returns-in_err-b-in-Subset-clause-grows :
    goal.enter_atom-returns-in_err-b-in-Subset-clause-grows
enter_atom-returns-in_err-b-in-Subset-clause-grows t c =
    (extends-trans c.args.table.now c.enter_set-in-Subset.new.table c.enter_set-in-Subset-2.new.table c.in_ok-a-in-Subset.ensures.grows c.in_err-b-in-Subset.ensures.grows)

pub enter_atom-returns-in_ok-b-in-Subset-clause-only :
    goal.enter_atom-returns-in_ok-b-in-Subset-clause-only
unfolding formula_tree
enter_atom-returns-in_ok-b-in-Subset-clause-only t c =
    let start = c.args.table.now in
    let x = set_tree c.in-Subset.a in
    let y = set_tree c.in-Subset.b in
    let v = of_truth (formula_tree c.args.formula.now) in
    let w = of_truth (tree.subset x y) in
    let whole : formula_tree c.args.formula.now ≡ tree.subset x y = ap (λ d. formula_tree d) c.in-Subset.is in
    let same : v ≡ w = ap (λ d. of_truth d) whole in
    let after_a = adds-part start start c.enter_set-in-Subset.new.table v w (of_set x) same (part.subset-a x y) (adds-self start v) c.in_ok-a-in-Subset.ensures.only in
    let after_b = adds-part start c.enter_set-in-Subset.new.table c.enter_set-in-Subset-2.new.table v w (of_set y) same (part.subset-b x y) after_a c.in_ok-b-in-Subset.ensures.only in
    let last = c.enter_set-in-Subset-2.new.table in
    let made : tree_in last (s.Subset c.in_ok-a-in-Subset.a c.in_ok-b-in-Subset.b) ≡ v = tree-Subset last.pools (nodes last) c.in_ok-a-in-Subset.a c.in_ok-b-in-Subset.b x y (node-stays c.enter_set-in-Subset.new.table c.enter_set-in-Subset-2.new.table c.in_ok-a-in-Subset.a (of_set x) c.in_ok-b-in-Subset.ensures.grows c.in_ok-a-in-Subset.ensures.node) c.in_ok-b-in-Subset.ensures.node ∙ sym same in
    adds-made start last c.make-in-Subset.new.self v (s.Subset c.in_ok-a-in-Subset.a c.in_ok-b-in-Subset.b) made after_b c.make-in-Subset.ensures.only

pub enter_atom-returns-in_ok-b-in-Subset-clause-node :
    goal.enter_atom-returns-in_ok-b-in-Subset-clause-node
unfolding formula_tree
enter_atom-returns-in_ok-b-in-Subset-clause-node t c =
    let start = c.args.table.now in
    let x = set_tree c.in-Subset.a in
    let y = set_tree c.in-Subset.b in
    let v = of_truth (formula_tree c.args.formula.now) in
    let w = of_truth (tree.subset x y) in
    let whole : formula_tree c.args.formula.now ≡ tree.subset x y = ap (λ d. formula_tree d) c.in-Subset.is in
    let same : v ≡ w = ap (λ d. of_truth d) whole in
    let last = c.enter_set-in-Subset-2.new.table in
    let made : tree_in last (s.Subset c.in_ok-a-in-Subset.a c.in_ok-b-in-Subset.b) ≡ v = tree-Subset last.pools (nodes last) c.in_ok-a-in-Subset.a c.in_ok-b-in-Subset.b x y (node-stays c.enter_set-in-Subset.new.table c.enter_set-in-Subset-2.new.table c.in_ok-a-in-Subset.a (of_set x) c.in_ok-b-in-Subset.ensures.grows c.in_ok-a-in-Subset.ensures.node) c.in_ok-b-in-Subset.ensures.node ∙ sym same in
    made-as (nodes c.make-in-Subset.new.self) c.make-in-Subset.result (tree_in last (s.Subset c.in_ok-a-in-Subset.a c.in_ok-b-in-Subset.b)) v made c.make-in-Subset.ensures.node

pub enter_atom-returns-in_ok-b-in-Subset-clause-grows :
    goal.enter_atom-returns-in_ok-b-in-Subset-clause-grows
enter_atom-returns-in_ok-b-in-Subset-clause-grows t c =
    extends-trans c.args.table.now c.enter_set-in-Subset-2.new.table c.make-in-Subset.new.self (extends-trans c.args.table.now c.enter_set-in-Subset.new.table c.enter_set-in-Subset-2.new.table c.in_ok-a-in-Subset.ensures.grows c.in_ok-b-in-Subset.ensures.grows) c.make-in-Subset.ensures.grows

pub enter_atom-make-requires-in-Subset :
    goal.enter_atom-make-requires-in-Subset
enter_atom-make-requires-in-Subset t c =
    let x = set_tree c.in-Subset.a in
    let y = set_tree c.in-Subset.b in
    let last = c.enter_set-in-Subset-2.new.table in
    fits-Subset last.pools (nodes last) c.in_ok-a-in-Subset.a c.in_ok-b-in-Subset.b x y (node-stays c.enter_set-in-Subset.new.table c.enter_set-in-Subset-2.new.table c.in_ok-a-in-Subset.a (of_set x) c.in_ok-b-in-Subset.ensures.grows c.in_ok-a-in-Subset.ensures.node) c.in_ok-b-in-Subset.ensures.node

pub enter_atom-returns-in_err-a-in-Reach-clause-only :
    goal.enter_atom-returns-in_err-a-in-Reach-clause-only
enter_atom-returns-in_err-a-in-Reach-clause-only t c =
    let start = c.args.table.now in
    let x = term_tree c.in-Reach.a in
    let y = term_tree c.in-Reach.b in
    let fs = list_tree c.in-Reach.fields in
    let v = of_truth (formula_tree c.args.formula.now) in
    let w = of_truth (tree.reach fs x y) in
    let whole : formula_tree c.args.formula.now ≡ tree.reach fs x y = search (rules, formula_tree-Reach) in
    let same : v ≡ w = ap (λ d. of_truth d) whole in
    adds-part start start c.enter_term-in-Reach.new.table v w (of_object x) same (part.reach-a fs x y) (adds-self start v) c.in_err-a-in-Reach.ensures.only

pub enter_atom-returns-in_err-a-in-Reach-clause-grows :
    goal.enter_atom-returns-in_err-a-in-Reach-clause-grows
enter_atom-returns-in_err-a-in-Reach-clause-grows t c =
    c.in_err-a-in-Reach.ensures.grows

pub enter_atom-returns-in_err-b-in-Reach-clause-only :
    goal.enter_atom-returns-in_err-b-in-Reach-clause-only
enter_atom-returns-in_err-b-in-Reach-clause-only t c =
    let start = c.args.table.now in
    let x = term_tree c.in-Reach.a in
    let y = term_tree c.in-Reach.b in
    let fs = list_tree c.in-Reach.fields in
    let v = of_truth (formula_tree c.args.formula.now) in
    let w = of_truth (tree.reach fs x y) in
    let whole : formula_tree c.args.formula.now ≡ tree.reach fs x y = search (rules, formula_tree-Reach) in
    let same : v ≡ w = ap (λ d. of_truth d) whole in
    let after_a = adds-part start start c.enter_term-in-Reach.new.table v w (of_object x) same (part.reach-a fs x y) (adds-self start v) c.in_ok-a-in-Reach.ensures.only in
    adds-part start c.enter_term-in-Reach.new.table c.enter_term-in-Reach-2.new.table v w (of_object y) same (part.reach-b fs x y) after_a c.in_err-b-in-Reach.ensures.only

pub enter_atom-returns-in_err-b-in-Reach-clause-grows :
    goal.enter_atom-returns-in_err-b-in-Reach-clause-grows
enter_atom-returns-in_err-b-in-Reach-clause-grows t c =
    (extends-trans c.args.table.now c.enter_term-in-Reach.new.table c.enter_term-in-Reach-2.new.table c.in_ok-a-in-Reach.ensures.grows c.in_err-b-in-Reach.ensures.grows)

pub enter_atom-returns-in_err-fields-in-Reach-clause-only :
    goal.enter_atom-returns-in_err-fields-in-Reach-clause-only
enter_atom-returns-in_err-fields-in-Reach-clause-only t c =
    let start = c.args.table.now in
    let x = term_tree c.in-Reach.a in
    let y = term_tree c.in-Reach.b in
    let fs = list_tree c.items.result.now in
    let v = of_truth (formula_tree c.args.formula.now) in
    let w = of_truth (tree.reach fs x y) in
    let whole : formula_tree c.args.formula.now ≡ tree.reach fs x y = search (rules, formula_tree-Reach) in
    let same : v ≡ w = ap (λ d. of_truth d) whole in
    let after_a = adds-part start start c.enter_term-in-Reach.new.table v w (of_object x) same (part.reach-a fs x y) (adds-self start v) c.in_ok-a-in-Reach.ensures.only in
    let after_b = adds-part start c.enter_term-in-Reach.new.table c.enter_term-in-Reach-2.new.table v w (of_object y) same (part.reach-b fs x y) after_a c.in_ok-b-in-Reach.ensures.only in
    adds-fields start c.enter_term-in-Reach-2.new.table c.enter_fields.new.table v w fs same (λ f m. part.reach-field f fs x y m) after_b c.in_err-fields-in-Reach.ensures.only

pub enter_atom-returns-in_err-fields-in-Reach-clause-grows :
    goal.enter_atom-returns-in_err-fields-in-Reach-clause-grows
enter_atom-returns-in_err-fields-in-Reach-clause-grows t c =
    (extends-trans c.args.table.now c.enter_term-in-Reach-2.new.table c.enter_fields.new.table (extends-trans c.args.table.now c.enter_term-in-Reach.new.table c.enter_term-in-Reach-2.new.table c.in_ok-a-in-Reach.ensures.grows c.in_ok-b-in-Reach.ensures.grows) c.in_err-fields-in-Reach.ensures.grows)

pub enter_atom-returns-in_ok-fields-in-Reach-clause-only :
    goal.enter_atom-returns-in_ok-fields-in-Reach-clause-only
enter_atom-returns-in_ok-fields-in-Reach-clause-only t c =
    let start = c.args.table.now in
    let x = term_tree c.in-Reach.a in
    let y = term_tree c.in-Reach.b in
    let fs = list_tree c.items.result.now in
    let v = of_truth (formula_tree c.args.formula.now) in
    let w = of_truth (tree.reach fs x y) in
    let whole : formula_tree c.args.formula.now ≡ tree.reach fs x y = search (rules, formula_tree-Reach) in
    let same : v ≡ w = ap (λ d. of_truth d) whole in
    let after_a = adds-part start start c.enter_term-in-Reach.new.table v w (of_object x) same (part.reach-a fs x y) (adds-self start v) c.in_ok-a-in-Reach.ensures.only in
    let after_b = adds-part start c.enter_term-in-Reach.new.table c.enter_term-in-Reach-2.new.table v w (of_object y) same (part.reach-b fs x y) after_a c.in_ok-b-in-Reach.ensures.only in
    let after_fields = adds-fields start c.enter_term-in-Reach-2.new.table c.enter_fields.new.table v w fs same (λ f m. part.reach-field f fs x y m) after_b c.in_ok-fields-in-Reach.ensures.only in
    let last = c.enter_fields.new.table in
    let made : tree_in last (s.Reach c.in_ok-fields-in-Reach.fields c.in_ok-a-in-Reach.a c.in_ok-b-in-Reach.b) ≡ v = tree-listed-Reach last c.in_ok-fields-in-Reach.fields c.in_ok-a-in-Reach.a c.in_ok-b-in-Reach.b fs x y c.in_ok-fields-in-Reach.ensures.list (node-stays c.enter_term-in-Reach-2.new.table c.enter_fields.new.table c.in_ok-a-in-Reach.a (of_object x) c.in_ok-fields-in-Reach.ensures.grows (node-stays c.enter_term-in-Reach.new.table c.enter_term-in-Reach-2.new.table c.in_ok-a-in-Reach.a (of_object x) c.in_ok-b-in-Reach.ensures.grows c.in_ok-a-in-Reach.ensures.node)) (node-stays c.enter_term-in-Reach-2.new.table c.enter_fields.new.table c.in_ok-b-in-Reach.b (of_object y) c.in_ok-fields-in-Reach.ensures.grows c.in_ok-b-in-Reach.ensures.node) ∙ sym same in
    adds-made start last c.make-in-Reach.new.self v (s.Reach c.in_ok-fields-in-Reach.fields c.in_ok-a-in-Reach.a c.in_ok-b-in-Reach.b) made after_fields c.make-in-Reach.ensures.only

pub enter_atom-returns-in_ok-fields-in-Reach-clause-node :
    goal.enter_atom-returns-in_ok-fields-in-Reach-clause-node
enter_atom-returns-in_ok-fields-in-Reach-clause-node t c =
    let start = c.args.table.now in
    let x = term_tree c.in-Reach.a in
    let y = term_tree c.in-Reach.b in
    let fs = list_tree c.items.result.now in
    let v = of_truth (formula_tree c.args.formula.now) in
    let w = of_truth (tree.reach fs x y) in
    let whole : formula_tree c.args.formula.now ≡ tree.reach fs x y = search (rules, formula_tree-Reach) in
    let same : v ≡ w = ap (λ d. of_truth d) whole in
    let last = c.enter_fields.new.table in
    let made : tree_in last (s.Reach c.in_ok-fields-in-Reach.fields c.in_ok-a-in-Reach.a c.in_ok-b-in-Reach.b) ≡ v = tree-listed-Reach last c.in_ok-fields-in-Reach.fields c.in_ok-a-in-Reach.a c.in_ok-b-in-Reach.b fs x y c.in_ok-fields-in-Reach.ensures.list (node-stays c.enter_term-in-Reach-2.new.table c.enter_fields.new.table c.in_ok-a-in-Reach.a (of_object x) c.in_ok-fields-in-Reach.ensures.grows (node-stays c.enter_term-in-Reach.new.table c.enter_term-in-Reach-2.new.table c.in_ok-a-in-Reach.a (of_object x) c.in_ok-b-in-Reach.ensures.grows c.in_ok-a-in-Reach.ensures.node)) (node-stays c.enter_term-in-Reach-2.new.table c.enter_fields.new.table c.in_ok-b-in-Reach.b (of_object y) c.in_ok-fields-in-Reach.ensures.grows c.in_ok-b-in-Reach.ensures.node) ∙ sym same in
    made-as (nodes c.make-in-Reach.new.self) c.make-in-Reach.result (tree_in last (s.Reach c.in_ok-fields-in-Reach.fields c.in_ok-a-in-Reach.a c.in_ok-b-in-Reach.b)) v made c.make-in-Reach.ensures.node

pub enter_atom-returns-in_ok-fields-in-Reach-clause-grows :
    goal.enter_atom-returns-in_ok-fields-in-Reach-clause-grows
enter_atom-returns-in_ok-fields-in-Reach-clause-grows t c =
    extends-trans c.args.table.now c.enter_fields.new.table c.make-in-Reach.new.self (extends-trans c.args.table.now c.enter_term-in-Reach-2.new.table c.enter_fields.new.table (extends-trans c.args.table.now c.enter_term-in-Reach.new.table c.enter_term-in-Reach-2.new.table c.in_ok-a-in-Reach.ensures.grows c.in_ok-b-in-Reach.ensures.grows) c.in_ok-fields-in-Reach.ensures.grows) c.make-in-Reach.ensures.grows

pub enter_atom-make-requires-in-Reach :
    goal.enter_atom-make-requires-in-Reach
enter_atom-make-requires-in-Reach t c =
    let x = term_tree c.in-Reach.a in
    let y = term_tree c.in-Reach.b in
    let fs = list_tree c.items.result.now in
    let last = c.enter_fields.new.table in
    fits-listed-Reach last c.in_ok-fields-in-Reach.fields c.in_ok-a-in-Reach.a c.in_ok-b-in-Reach.b fs x y c.in_ok-fields-in-Reach.ensures.list (node-stays c.enter_term-in-Reach-2.new.table c.enter_fields.new.table c.in_ok-a-in-Reach.a (of_object x) c.in_ok-fields-in-Reach.ensures.grows (node-stays c.enter_term-in-Reach.new.table c.enter_term-in-Reach-2.new.table c.in_ok-a-in-Reach.a (of_object x) c.in_ok-b-in-Reach.ensures.grows c.in_ok-a-in-Reach.ensures.node)) (node-stays c.enter_term-in-Reach-2.new.table c.enter_fields.new.table c.in_ok-b-in-Reach.b (of_object y) c.in_ok-fields-in-Reach.ensures.grows c.in_ok-b-in-Reach.ensures.node)

pub enter_atom-returns-in_err-fields-in-Tree-clause-only :
    goal.enter_atom-returns-in_err-fields-in-Tree-clause-only
enter_atom-returns-in_err-fields-in-Tree-clause-only t c =
    let start = c.args.table.now in
    let fs = list_tree c.items-in-Tree.result.now in
    let v = of_truth (formula_tree c.args.formula.now) in
    let w = of_truth (tree.tree fs) in
    let whole : formula_tree c.args.formula.now ≡ tree.tree fs = search (rules, formula_tree-Tree) in
    let same : v ≡ w = ap (λ d. of_truth d) whole in
    adds-fields start start c.enter_fields-in-Tree.new.table v w fs same (λ f m. part.tree-field f fs m) (adds-self start v) c.in_err-fields-in-Tree.ensures.only

pub enter_atom-returns-in_err-fields-in-Tree-clause-grows :
    goal.enter_atom-returns-in_err-fields-in-Tree-clause-grows
enter_atom-returns-in_err-fields-in-Tree-clause-grows t c =
    c.in_err-fields-in-Tree.ensures.grows

pub enter_atom-returns-in_ok-fields-in-Tree-clause-only :
    goal.enter_atom-returns-in_ok-fields-in-Tree-clause-only
enter_atom-returns-in_ok-fields-in-Tree-clause-only t c =
    let start = c.args.table.now in
    let fs = list_tree c.items-in-Tree.result.now in
    let v = of_truth (formula_tree c.args.formula.now) in
    let w = of_truth (tree.tree fs) in
    let whole : formula_tree c.args.formula.now ≡ tree.tree fs = search (rules, formula_tree-Tree) in
    let same : v ≡ w = ap (λ d. of_truth d) whole in
    let after_fields = adds-fields start start c.enter_fields-in-Tree.new.table v w fs same (λ f m. part.tree-field f fs m) (adds-self start v) c.in_ok-fields-in-Tree.ensures.only in
    let last = c.enter_fields-in-Tree.new.table in
    let made : tree_in last (s.Tree c.in_ok-fields-in-Tree.fields) ≡ v = tree-listed-Tree last c.in_ok-fields-in-Tree.fields fs c.in_ok-fields-in-Tree.ensures.list ∙ sym same in
    adds-made start last c.make-in-Tree.new.self v (s.Tree c.in_ok-fields-in-Tree.fields) made after_fields c.make-in-Tree.ensures.only

pub enter_atom-returns-in_ok-fields-in-Tree-clause-node :
    goal.enter_atom-returns-in_ok-fields-in-Tree-clause-node
enter_atom-returns-in_ok-fields-in-Tree-clause-node t c =
    let start = c.args.table.now in
    let fs = list_tree c.items-in-Tree.result.now in
    let v = of_truth (formula_tree c.args.formula.now) in
    let w = of_truth (tree.tree fs) in
    let whole : formula_tree c.args.formula.now ≡ tree.tree fs = search (rules, formula_tree-Tree) in
    let same : v ≡ w = ap (λ d. of_truth d) whole in
    let last = c.enter_fields-in-Tree.new.table in
    let made : tree_in last (s.Tree c.in_ok-fields-in-Tree.fields) ≡ v = tree-listed-Tree last c.in_ok-fields-in-Tree.fields fs c.in_ok-fields-in-Tree.ensures.list ∙ sym same in
    made-as (nodes c.make-in-Tree.new.self) c.make-in-Tree.result (tree_in last (s.Tree c.in_ok-fields-in-Tree.fields)) v made c.make-in-Tree.ensures.node

pub enter_atom-returns-in_ok-fields-in-Tree-clause-grows :
    goal.enter_atom-returns-in_ok-fields-in-Tree-clause-grows
enter_atom-returns-in_ok-fields-in-Tree-clause-grows t c =
    extends-trans c.args.table.now c.enter_fields-in-Tree.new.table c.make-in-Tree.new.self c.in_ok-fields-in-Tree.ensures.grows c.make-in-Tree.ensures.grows

pub enter_atom-make-requires-in-Tree :
    goal.enter_atom-make-requires-in-Tree
enter_atom-make-requires-in-Tree t c =
    let fs = list_tree c.items-in-Tree.result.now in
    let last = c.enter_fields-in-Tree.new.table in
    fits-listed-Tree last c.in_ok-fields-in-Tree.fields fs c.in_ok-fields-in-Tree.ensures.list
