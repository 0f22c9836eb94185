-- Written by tools/walk_code.py.
use Rattle.std.proofs.Common.{ap, sym, ◌∙◌}
use Rattle.jh_form.specs.Bare.{term_tree, int_tree, set_tree, field_tree, value_tree, formula_tree}
use Rattle.jh_form.specs.Tree as tree
use Rattle.jh_boxed.specs.Mapped.{mapped_term, mapped_int, mapped_set, mapped_field, mapped_value, mapped_formula}
use Rattle.jh_boxed.proofs.Rows.{map_step, map_end}
use Rattle.jh_boxed.proofs.mapping.+map.Goals as goal

pub map_fields-loop-field-preserved : goal.map_fields-loop-field-preserved
map_fields-loop-field-preserved g t c =
    map_step c.args.fields.now (g.L.Leaves.leaves c.args.leaves.now) c.args.depth c.loop-field.field-index c.field-item.result c.in_ok-mapped.mapped c.loop-field.made.items c.push.new.self.items
    c.loop-field-test.true c.field-item.is c.loop-field.invariant c.in_ok-mapped.ensures c.in_ok-push.ensures.items

pub map_fields-returns : goal.map_fields-returns
map_fields-returns g t c =
    map_end c.args.fields.now (g.L.Leaves.leaves c.args.leaves.now) c.args.depth c.loop-field.field-index c.loop-field.made.items
    c.loop-field-test.false c.loop-field.invariant

pub map_term-returns-in_ok-b-in-Read : goal.map_term-returns-in_ok-b-in-Read
unfolding term_tree mapped_term
map_term-returns-in_ok-b-in-Read g t c =
    let leaves = g.L.Leaves.leaves c.args.leaves.now in
    let first = c.in_ok-a-in-Read.ensures ∙ ap (λ x. mapped_field (field_tree x) leaves c.args.depth) c.deref.ensures in
    let second = c.in_ok-b-in-Read.ensures ∙ ap (λ x. mapped_term (term_tree x) leaves c.args.depth) c.deref-in-Read.ensures in
    (λ i. tree.read_object (first i) (second i)) ∙ ap (λ x. mapped_term (term_tree x) leaves c.args.depth) (sym c.in-Read.is)

pub map_int-returns-in_ok-b-in-Read : goal.map_int-returns-in_ok-b-in-Read
unfolding int_tree mapped_int
map_int-returns-in_ok-b-in-Read g t c =
    let leaves = g.L.Leaves.leaves c.args.leaves.now in
    let first = c.in_ok-a-in-Read.ensures ∙ ap (λ x. mapped_field (field_tree x) leaves c.args.depth) c.deref.ensures in
    let second = c.in_ok-b-in-Read.ensures ∙ ap (λ x. mapped_term (term_tree x) leaves c.args.depth) c.deref-in-Read.ensures in
    (λ i. tree.read_number (first i) (second i)) ∙ ap (λ x. mapped_int (int_tree x) leaves c.args.depth) (sym c.in-Read.is)

pub map_int-returns-in_ok-b-in-Add : goal.map_int-returns-in_ok-b-in-Add
unfolding int_tree mapped_int
map_int-returns-in_ok-b-in-Add g t c =
    let leaves = g.L.Leaves.leaves c.args.leaves.now in
    let first = c.in_ok-a-in-Add.ensures ∙ ap (λ x. mapped_int (int_tree x) leaves c.args.depth) c.deref-in-Add.ensures in
    let second = c.in_ok-b-in-Add.ensures ∙ ap (λ x. mapped_int (int_tree x) leaves c.args.depth) c.deref-in-Add-2.ensures in
    (λ i. tree.add (first i) (second i)) ∙ ap (λ x. mapped_int (int_tree x) leaves c.args.depth) (sym c.in-Add.is)

pub map_int-returns-in_ok-b-in-Sub : goal.map_int-returns-in_ok-b-in-Sub
unfolding int_tree mapped_int
map_int-returns-in_ok-b-in-Sub g t c =
    let leaves = g.L.Leaves.leaves c.args.leaves.now in
    let first = c.in_ok-a-in-Sub.ensures ∙ ap (λ x. mapped_int (int_tree x) leaves c.args.depth) c.deref-in-Sub.ensures in
    let second = c.in_ok-b-in-Sub.ensures ∙ ap (λ x. mapped_int (int_tree x) leaves c.args.depth) c.deref-in-Sub-2.ensures in
    (λ i. tree.sub (first i) (second i)) ∙ ap (λ x. mapped_int (int_tree x) leaves c.args.depth) (sym c.in-Sub.is)

pub map_int-returns-in_ok-a-in-Neg : goal.map_int-returns-in_ok-a-in-Neg
unfolding int_tree mapped_int
map_int-returns-in_ok-a-in-Neg g t c =
    let leaves = g.L.Leaves.leaves c.args.leaves.now in
    let first = c.in_ok-a-in-Neg.ensures ∙ ap (λ x. mapped_int (int_tree x) leaves c.args.depth) c.deref-in-Neg.ensures in
    (λ i. tree.neg (first i)) ∙ ap (λ x. mapped_int (int_tree x) leaves c.args.depth) (sym c.in-Neg.is)

pub map_int-returns-in_ok-a-in-Card : goal.map_int-returns-in_ok-a-in-Card
unfolding int_tree mapped_int
map_int-returns-in_ok-a-in-Card g t c =
    let leaves = g.L.Leaves.leaves c.args.leaves.now in
    let first = c.in_ok-a-in-Card.ensures ∙ ap (λ x. mapped_set (set_tree x) leaves c.args.depth) c.deref-in-Card.ensures in
    (λ i. tree.card (first i)) ∙ ap (λ x. mapped_int (int_tree x) leaves c.args.depth) (sym c.in-Card.is)

pub map_set-returns-in_ok-b-in-Read : goal.map_set-returns-in_ok-b-in-Read
unfolding set_tree mapped_set
map_set-returns-in_ok-b-in-Read g t c =
    let leaves = g.L.Leaves.leaves c.args.leaves.now in
    let first = c.in_ok-a-in-Read.ensures ∙ ap (λ x. mapped_field (field_tree x) leaves c.args.depth) c.deref.ensures in
    let second = c.in_ok-b-in-Read.ensures ∙ ap (λ x. mapped_term (term_tree x) leaves c.args.depth) c.deref-in-Read.ensures in
    (λ i. tree.read_set (first i) (second i)) ∙ ap (λ x. mapped_set (set_tree x) leaves c.args.depth) (sym c.in-Read.is)

pub map_set-returns-in_ok-a-in-Single : goal.map_set-returns-in_ok-a-in-Single
unfolding set_tree mapped_set
map_set-returns-in_ok-a-in-Single g t c =
    let leaves = g.L.Leaves.leaves c.args.leaves.now in
    let first = c.in_ok-a-in-Single.ensures ∙ ap (λ x. mapped_term (term_tree x) leaves c.args.depth) c.deref-in-Single.ensures in
    (λ i. tree.single (first i)) ∙ ap (λ x. mapped_set (set_tree x) leaves c.args.depth) (sym c.in-Single.is)

pub map_set-returns-in_ok-b-in-Union : goal.map_set-returns-in_ok-b-in-Union
unfolding set_tree mapped_set
map_set-returns-in_ok-b-in-Union g t c =
    let leaves = g.L.Leaves.leaves c.args.leaves.now in
    let first = c.in_ok-a-in-Union.ensures ∙ ap (λ x. mapped_set (set_tree x) leaves c.args.depth) c.deref-in-Union.ensures in
    let second = c.in_ok-b-in-Union.ensures ∙ ap (λ x. mapped_set (set_tree x) leaves c.args.depth) c.deref-in-Union-2.ensures in
    (λ i. tree.union (first i) (second i)) ∙ ap (λ x. mapped_set (set_tree x) leaves c.args.depth) (sym c.in-Union.is)

pub map_set-returns-in_ok-b-in-Inter : goal.map_set-returns-in_ok-b-in-Inter
unfolding set_tree mapped_set
map_set-returns-in_ok-b-in-Inter g t c =
    let leaves = g.L.Leaves.leaves c.args.leaves.now in
    let first = c.in_ok-a-in-Inter.ensures ∙ ap (λ x. mapped_set (set_tree x) leaves c.args.depth) c.deref-in-Inter.ensures in
    let second = c.in_ok-b-in-Inter.ensures ∙ ap (λ x. mapped_set (set_tree x) leaves c.args.depth) c.deref-in-Inter-2.ensures in
    (λ i. tree.inter (first i) (second i)) ∙ ap (λ x. mapped_set (set_tree x) leaves c.args.depth) (sym c.in-Inter.is)

pub map_set-returns-in_ok-b-in-Diff : goal.map_set-returns-in_ok-b-in-Diff
unfolding set_tree mapped_set
map_set-returns-in_ok-b-in-Diff g t c =
    let leaves = g.L.Leaves.leaves c.args.leaves.now in
    let first = c.in_ok-a-in-Diff.ensures ∙ ap (λ x. mapped_set (set_tree x) leaves c.args.depth) c.deref-in-Diff.ensures in
    let second = c.in_ok-b-in-Diff.ensures ∙ ap (λ x. mapped_set (set_tree x) leaves c.args.depth) c.deref-in-Diff-2.ensures in
    (λ i. tree.diff (first i) (second i)) ∙ ap (λ x. mapped_set (set_tree x) leaves c.args.depth) (sym c.in-Diff.is)

pub map_set-returns-in_ok-a-in-Compl : goal.map_set-returns-in_ok-a-in-Compl
unfolding set_tree mapped_set
map_set-returns-in_ok-a-in-Compl g t c =
    let leaves = g.L.Leaves.leaves c.args.leaves.now in
    let first = c.in_ok-a-in-Compl.ensures ∙ ap (λ x. mapped_set (set_tree x) leaves c.args.depth) c.deref-in-Compl.ensures in
    (λ i. tree.compl (first i)) ∙ ap (λ x. mapped_set (set_tree x) leaves c.args.depth) (sym c.in-Compl.is)

pub map_set-returns-in_ok-a-in-Compr : goal.map_set-returns-in_ok-a-in-Compr
unfolding set_tree mapped_set
map_set-returns-in_ok-a-in-Compr g t c =
    let leaves = g.L.Leaves.leaves c.args.leaves.now in
    let first = c.in_ok-a-in-Compr.ensures ∙ ap (λ x. mapped_formula (formula_tree x) leaves c.in_ok-below-in-Compr.below) c.deref-in-Compr.ensures ∙ ap (λ d. mapped_formula (formula_tree c.in-Compr.a.value) leaves d) c.in_ok-below-in-Compr.ensures in
    (λ i. tree.compr (first i)) ∙ ap (λ x. mapped_set (set_tree x) leaves c.args.depth) (sym c.in-Compr.is)

pub map_field-returns-in_ok-c-in-Update : goal.map_field-returns-in_ok-c-in-Update
unfolding field_tree mapped_field
map_field-returns-in_ok-c-in-Update g t c =
    let leaves = g.L.Leaves.leaves c.args.leaves.now in
    let first = c.in_ok-a-in-Update.ensures ∙ ap (λ x. mapped_field (field_tree x) leaves c.args.depth) c.deref.ensures in
    let second = c.in_ok-b-in-Update.ensures ∙ ap (λ x. mapped_term (term_tree x) leaves c.args.depth) c.deref-in-Update.ensures in
    let third = c.in_ok-c-in-Update.ensures ∙ ap (λ x. mapped_value (value_tree x) leaves c.args.depth) c.deref-in-Update-2.ensures in
    (λ i. tree.update (first i) (second i) (third i)) ∙ ap (λ x. mapped_field (field_tree x) leaves c.args.depth) (sym c.in-Update.is)

pub map_value-returns-in_ok-made-in-Obj : goal.map_value-returns-in_ok-made-in-Obj
unfolding value_tree mapped_value
map_value-returns-in_ok-made-in-Obj g t c =
    let leaves = g.L.Leaves.leaves c.args.leaves.now in
    let first = c.in_ok-made-in-Obj.ensures in
    (λ i. tree.of_object (first i)) ∙ ap (λ x. mapped_value (value_tree x) leaves c.args.depth) (sym c.in-Obj.is)

pub map_value-returns-in_ok-made-in-Int : goal.map_value-returns-in_ok-made-in-Int
unfolding value_tree mapped_value
map_value-returns-in_ok-made-in-Int g t c =
    let leaves = g.L.Leaves.leaves c.args.leaves.now in
    let first = c.in_ok-made-in-Int.ensures in
    (λ i. tree.of_number (first i)) ∙ ap (λ x. mapped_value (value_tree x) leaves c.args.depth) (sym c.in-Int.is)

pub map_value-returns-in_ok-made-in-Bool : goal.map_value-returns-in_ok-made-in-Bool
unfolding value_tree mapped_value
map_value-returns-in_ok-made-in-Bool g t c =
    let leaves = g.L.Leaves.leaves c.args.leaves.now in
    let first = c.in_ok-made-in-Bool.ensures in
    (λ i. tree.of_truth (first i)) ∙ ap (λ x. mapped_value (value_tree x) leaves c.args.depth) (sym c.in-Bool.is)

pub map_value-returns-in_ok-made-in-Set : goal.map_value-returns-in_ok-made-in-Set
unfolding value_tree mapped_value
map_value-returns-in_ok-made-in-Set g t c =
    let leaves = g.L.Leaves.leaves c.args.leaves.now in
    let first = c.in_ok-made-in-Set.ensures in
    (λ i. tree.of_set (first i)) ∙ ap (λ x. mapped_value (value_tree x) leaves c.args.depth) (sym c.in-Set.is)

pub map_value-returns-in_ok-made-in-Field : goal.map_value-returns-in_ok-made-in-Field
unfolding value_tree mapped_value
map_value-returns-in_ok-made-in-Field g t c =
    let leaves = g.L.Leaves.leaves c.args.leaves.now in
    let first = c.in_ok-made-in-Field.ensures in
    (λ i. tree.of_field (first i)) ∙ ap (λ x. mapped_value (value_tree x) leaves c.args.depth) (sym c.in-Field.is)

pub map_connective-returns-in_ok-b-in-And : goal.map_connective-returns-in_ok-b-in-And
unfolding formula_tree mapped_formula
map_connective-returns-in_ok-b-in-And g t c =
    let leaves = g.L.Leaves.leaves c.args.leaves.now in
    let first = c.in_ok-a-in-And.ensures ∙ ap (λ x. mapped_formula (formula_tree x) leaves c.args.depth) c.deref.ensures in
    let second = c.in_ok-b-in-And.ensures ∙ ap (λ x. mapped_formula (formula_tree x) leaves c.args.depth) c.deref-in-And.ensures in
    (λ i. tree.and (first i) (second i)) ∙ ap (λ x. mapped_formula (formula_tree x) leaves c.args.depth) (sym c.in-And.is)

pub map_connective-returns-in_ok-b-in-Or : goal.map_connective-returns-in_ok-b-in-Or
unfolding formula_tree mapped_formula
map_connective-returns-in_ok-b-in-Or g t c =
    let leaves = g.L.Leaves.leaves c.args.leaves.now in
    let first = c.in_ok-a-in-Or.ensures ∙ ap (λ x. mapped_formula (formula_tree x) leaves c.args.depth) c.deref-in-Or.ensures in
    let second = c.in_ok-b-in-Or.ensures ∙ ap (λ x. mapped_formula (formula_tree x) leaves c.args.depth) c.deref-in-Or-2.ensures in
    (λ i. tree.or (first i) (second i)) ∙ ap (λ x. mapped_formula (formula_tree x) leaves c.args.depth) (sym c.in-Or.is)

pub map_connective-returns-in_ok-b-in-Implies : goal.map_connective-returns-in_ok-b-in-Implies
unfolding formula_tree mapped_formula
map_connective-returns-in_ok-b-in-Implies g t c =
    let leaves = g.L.Leaves.leaves c.args.leaves.now in
    let first = c.in_ok-a-in-Implies.ensures ∙ ap (λ x. mapped_formula (formula_tree x) leaves c.args.depth) c.deref-in-Implies.ensures in
    let second = c.in_ok-b-in-Implies.ensures ∙ ap (λ x. mapped_formula (formula_tree x) leaves c.args.depth) c.deref-in-Implies-2.ensures in
    (λ i. tree.implies (first i) (second i)) ∙ ap (λ x. mapped_formula (formula_tree x) leaves c.args.depth) (sym c.in-Implies.is)

pub map_connective-returns-in_ok-b-in-Iff : goal.map_connective-returns-in_ok-b-in-Iff
unfolding formula_tree mapped_formula
map_connective-returns-in_ok-b-in-Iff g t c =
    let leaves = g.L.Leaves.leaves c.args.leaves.now in
    let first = c.in_ok-a-in-Iff.ensures ∙ ap (λ x. mapped_formula (formula_tree x) leaves c.args.depth) c.deref-in-Iff.ensures in
    let second = c.in_ok-b-in-Iff.ensures ∙ ap (λ x. mapped_formula (formula_tree x) leaves c.args.depth) c.deref-in-Iff-2.ensures in
    (λ i. tree.iff (first i) (second i)) ∙ ap (λ x. mapped_formula (formula_tree x) leaves c.args.depth) (sym c.in-Iff.is)

pub map_binder-returns-in_ok-a-in-All : goal.map_binder-returns-in_ok-a-in-All
unfolding formula_tree mapped_formula
map_binder-returns-in_ok-a-in-All g t c =
    let leaves = g.L.Leaves.leaves c.args.leaves.now in
    let first = c.in_ok-a-in-All.ensures ∙ ap (λ x. mapped_formula (formula_tree x) leaves c.in_ok-below-in-All.below) c.deref.ensures ∙ ap (λ d. mapped_formula (formula_tree c.in-All.a.value) leaves d) c.in_ok-below-in-All.ensures in
    (λ i. tree.all (first i)) ∙ ap (λ x. mapped_formula (formula_tree x) leaves c.args.depth) (sym c.in-All.is)

pub map_binder-returns-in_ok-a-in-Ex : goal.map_binder-returns-in_ok-a-in-Ex
unfolding formula_tree mapped_formula
map_binder-returns-in_ok-a-in-Ex g t c =
    let leaves = g.L.Leaves.leaves c.args.leaves.now in
    let first = c.in_ok-a-in-Ex.ensures ∙ ap (λ x. mapped_formula (formula_tree x) leaves c.in_ok-below-in-Ex.below) c.deref-in-Ex.ensures ∙ ap (λ d. mapped_formula (formula_tree c.in-Ex.a.value) leaves d) c.in_ok-below-in-Ex.ensures in
    (λ i. tree.ex (first i)) ∙ ap (λ x. mapped_formula (formula_tree x) leaves c.args.depth) (sym c.in-Ex.is)

pub map_numbers-returns-in_ok-b-in-EqInt : goal.map_numbers-returns-in_ok-b-in-EqInt
unfolding formula_tree mapped_formula
map_numbers-returns-in_ok-b-in-EqInt g t c =
    let leaves = g.L.Leaves.leaves c.args.leaves.now in
    let first = c.in_ok-a-in-EqInt.ensures in
    let second = c.in_ok-b-in-EqInt.ensures in
    (λ i. tree.eq_number (first i) (second i)) ∙ ap (λ x. mapped_formula (formula_tree x) leaves c.args.depth) (sym c.in-EqInt.is)

pub map_sets-returns-in_ok-b-in-EqSet : goal.map_sets-returns-in_ok-b-in-EqSet
unfolding formula_tree mapped_formula
map_sets-returns-in_ok-b-in-EqSet g t c =
    let leaves = g.L.Leaves.leaves c.args.leaves.now in
    let first = c.in_ok-a-in-EqSet.ensures in
    let second = c.in_ok-b-in-EqSet.ensures in
    (λ i. tree.eq_set (first i) (second i)) ∙ ap (λ x. mapped_formula (formula_tree x) leaves c.args.depth) (sym c.in-EqSet.is)

pub map_numbers-returns-in_ok-b-in-Less : goal.map_numbers-returns-in_ok-b-in-Less
unfolding formula_tree mapped_formula
map_numbers-returns-in_ok-b-in-Less g t c =
    let leaves = g.L.Leaves.leaves c.args.leaves.now in
    let first = c.in_ok-a-in-Less.ensures in
    let second = c.in_ok-b-in-Less.ensures in
    (λ i. tree.less (first i) (second i)) ∙ ap (λ x. mapped_formula (formula_tree x) leaves c.args.depth) (sym c.in-Less.is)

pub map_numbers-returns-in_ok-b-in-LessEq : goal.map_numbers-returns-in_ok-b-in-LessEq
unfolding formula_tree mapped_formula
map_numbers-returns-in_ok-b-in-LessEq g t c =
    let leaves = g.L.Leaves.leaves c.args.leaves.now in
    let first = c.in_ok-a-in-LessEq.ensures in
    let second = c.in_ok-b-in-LessEq.ensures in
    (λ i. tree.less_equal (first i) (second i)) ∙ ap (λ x. mapped_formula (formula_tree x) leaves c.args.depth) (sym c.in-LessEq.is)

pub map_sets-returns-in_ok-b-in-Subset : goal.map_sets-returns-in_ok-b-in-Subset
unfolding formula_tree mapped_formula
map_sets-returns-in_ok-b-in-Subset g t c =
    let leaves = g.L.Leaves.leaves c.args.leaves.now in
    let first = c.in_ok-a-in-Subset.ensures in
    let second = c.in_ok-b-in-Subset.ensures in
    (λ i. tree.subset (first i) (second i)) ∙ ap (λ x. mapped_formula (formula_tree x) leaves c.args.depth) (sym c.in-Subset.is)
