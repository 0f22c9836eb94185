use Rattle.std.proofs.Common.{sym, ◌∙◌}
use Rattle.jh_name.specs.declared.place.Sort.TheVariants as sort
use Rattle.jh_form.specs.Sorts.{tree_sort}
use Rattle.jh_arena.specs.table.Nodes.{nodes}
use Rattle.jh_derivation_steps.specs.premises.Nodes.{value_at, option_formula, IsMade}
use Rattle.jh_derivation_steps.proofs.premises.Equating.{equal-objects, equal-numbers, equal-truths, equal-sets, unequal-sorts, field-equation, sorts-differ, sorts-same, term-of-sort, number-of-sort, formula-of-sort, set-of-sort}
use Rattle.jh_derivation_steps.proofs.premises.equations.equation.Goals as goal

pub returns-then-not-sorts_are_one-clause-made : goal.returns-then-not-sorts_are_one-clause-made
unfolding option_formula IsMade
returns-then-not-sorts_are_one-clause-made c =
    let v = value_at (nodes c.args.table.now) c.args.left in
    let w = value_at (nodes c.args.table.now) c.args.right in
    (sym (unequal-sorts v w (sorts-differ c.sort-sort.result c.sort.result (tree_sort v) (tree_sort w) c.sorts_are_one.result c.sort-sort.ensures c.sort.ensures c.sorts_are_one.ensures c.if-not-sorts_are_one.true)), tt)

pub equal_objects-requires-clause-a : goal.equal_objects-requires-clause-a
equal_objects-requires-clause-a c =
    let v = value_at (nodes c.args.table.now) c.args.left in
    let w = value_at (nodes c.args.table.now) c.args.right in
    let both = sorts-same c.sort-sort.result c.sort.result (tree_sort v) (tree_sort w) sort.Obj c.sorts_are_one.result c.sort-sort.ensures c.sort.ensures c.sorts_are_one.ensures c.if-not-sorts_are_one.false c.in-Obj.is in
    term-of-sort (nodes c.args.table.now) c.args.left v c.requires.left both.0

pub equal_objects-requires-clause-b : goal.equal_objects-requires-clause-b
equal_objects-requires-clause-b c =
    let v = value_at (nodes c.args.table.now) c.args.left in
    let w = value_at (nodes c.args.table.now) c.args.right in
    let both = sorts-same c.sort-sort.result c.sort.result (tree_sort v) (tree_sort w) sort.Obj c.sorts_are_one.result c.sort-sort.ensures c.sort.ensures c.sorts_are_one.ensures c.if-not-sorts_are_one.false c.in-Obj.is in
    term-of-sort (nodes c.args.table.now) c.args.right w c.requires.right both.1

pub returns-in_ok-equal_objects-in-Obj-clause-made : goal.returns-in_ok-equal_objects-in-Obj-clause-made
returns-in_ok-equal_objects-in-Obj-clause-made c =
    let v = value_at (nodes c.args.table.now) c.args.left in
    let w = value_at (nodes c.args.table.now) c.args.right in
    let both = sorts-same c.sort-sort.result c.sort.result (tree_sort v) (tree_sort w) sort.Obj c.sorts_are_one.result c.sort-sort.ensures c.sort.ensures c.sorts_are_one.ensures c.if-not-sorts_are_one.false c.in-Obj.is in
    equal-objects (nodes c.args.table.now) (nodes c.equal_objects.new.table) c.args.left c.args.right c.in_ok-equal_objects-in-Obj.field-0 v w c.requires.left c.requires.right both.0 both.1 c.in_ok-equal_objects-in-Obj.ensures.made

pub equal_numbers-requires-clause-a : goal.equal_numbers-requires-clause-a
equal_numbers-requires-clause-a c =
    let v = value_at (nodes c.args.table.now) c.args.left in
    let w = value_at (nodes c.args.table.now) c.args.right in
    let both = sorts-same c.sort-sort.result c.sort.result (tree_sort v) (tree_sort w) sort.Int c.sorts_are_one.result c.sort-sort.ensures c.sort.ensures c.sorts_are_one.ensures c.if-not-sorts_are_one.false c.in-Int.is in
    number-of-sort (nodes c.args.table.now) c.args.left v c.requires.left both.0

pub equal_numbers-requires-clause-b : goal.equal_numbers-requires-clause-b
equal_numbers-requires-clause-b c =
    let v = value_at (nodes c.args.table.now) c.args.left in
    let w = value_at (nodes c.args.table.now) c.args.right in
    let both = sorts-same c.sort-sort.result c.sort.result (tree_sort v) (tree_sort w) sort.Int c.sorts_are_one.result c.sort-sort.ensures c.sort.ensures c.sorts_are_one.ensures c.if-not-sorts_are_one.false c.in-Int.is in
    number-of-sort (nodes c.args.table.now) c.args.right w c.requires.right both.1

pub returns-in_ok-equal_numbers-in-Int-clause-made : goal.returns-in_ok-equal_numbers-in-Int-clause-made
returns-in_ok-equal_numbers-in-Int-clause-made c =
    let v = value_at (nodes c.args.table.now) c.args.left in
    let w = value_at (nodes c.args.table.now) c.args.right in
    let both = sorts-same c.sort-sort.result c.sort.result (tree_sort v) (tree_sort w) sort.Int c.sorts_are_one.result c.sort-sort.ensures c.sort.ensures c.sorts_are_one.ensures c.if-not-sorts_are_one.false c.in-Int.is in
    equal-numbers (nodes c.args.table.now) (nodes c.equal_numbers.new.table) c.args.left c.args.right c.in_ok-equal_numbers-in-Int.field-0 v w c.requires.left c.requires.right both.0 both.1 c.in_ok-equal_numbers-in-Int.ensures.made

pub equal_truths-requires-clause-a : goal.equal_truths-requires-clause-a
equal_truths-requires-clause-a c =
    let v = value_at (nodes c.args.table.now) c.args.left in
    let w = value_at (nodes c.args.table.now) c.args.right in
    let both = sorts-same c.sort-sort.result c.sort.result (tree_sort v) (tree_sort w) sort.Bool c.sorts_are_one.result c.sort-sort.ensures c.sort.ensures c.sorts_are_one.ensures c.if-not-sorts_are_one.false c.in-Bool.is in
    formula-of-sort (nodes c.args.table.now) c.args.left v c.requires.left both.0

pub equal_truths-requires-clause-b : goal.equal_truths-requires-clause-b
equal_truths-requires-clause-b c =
    let v = value_at (nodes c.args.table.now) c.args.left in
    let w = value_at (nodes c.args.table.now) c.args.right in
    let both = sorts-same c.sort-sort.result c.sort.result (tree_sort v) (tree_sort w) sort.Bool c.sorts_are_one.result c.sort-sort.ensures c.sort.ensures c.sorts_are_one.ensures c.if-not-sorts_are_one.false c.in-Bool.is in
    formula-of-sort (nodes c.args.table.now) c.args.right w c.requires.right both.1

pub returns-in_ok-equal_truths-in-Bool-clause-made : goal.returns-in_ok-equal_truths-in-Bool-clause-made
returns-in_ok-equal_truths-in-Bool-clause-made c =
    let v = value_at (nodes c.args.table.now) c.args.left in
    let w = value_at (nodes c.args.table.now) c.args.right in
    let both = sorts-same c.sort-sort.result c.sort.result (tree_sort v) (tree_sort w) sort.Bool c.sorts_are_one.result c.sort-sort.ensures c.sort.ensures c.sorts_are_one.ensures c.if-not-sorts_are_one.false c.in-Bool.is in
    equal-truths (nodes c.args.table.now) (nodes c.equal_truths.new.table) c.args.left c.args.right c.in_ok-equal_truths-in-Bool.field-0 v w c.requires.left c.requires.right both.0 both.1 c.in_ok-equal_truths-in-Bool.ensures.made

pub equal_sets-requires-clause-a : goal.equal_sets-requires-clause-a
equal_sets-requires-clause-a c =
    let v = value_at (nodes c.args.table.now) c.args.left in
    let w = value_at (nodes c.args.table.now) c.args.right in
    let both = sorts-same c.sort-sort.result c.sort.result (tree_sort v) (tree_sort w) sort.Set c.sorts_are_one.result c.sort-sort.ensures c.sort.ensures c.sorts_are_one.ensures c.if-not-sorts_are_one.false c.in-Set.is in
    set-of-sort (nodes c.args.table.now) c.args.left v c.requires.left both.0

pub equal_sets-requires-clause-b : goal.equal_sets-requires-clause-b
equal_sets-requires-clause-b c =
    let v = value_at (nodes c.args.table.now) c.args.left in
    let w = value_at (nodes c.args.table.now) c.args.right in
    let both = sorts-same c.sort-sort.result c.sort.result (tree_sort v) (tree_sort w) sort.Set c.sorts_are_one.result c.sort-sort.ensures c.sort.ensures c.sorts_are_one.ensures c.if-not-sorts_are_one.false c.in-Set.is in
    set-of-sort (nodes c.args.table.now) c.args.right w c.requires.right both.1

pub returns-in_ok-equal_sets-in-Set-clause-made : goal.returns-in_ok-equal_sets-in-Set-clause-made
returns-in_ok-equal_sets-in-Set-clause-made c =
    let v = value_at (nodes c.args.table.now) c.args.left in
    let w = value_at (nodes c.args.table.now) c.args.right in
    let both = sorts-same c.sort-sort.result c.sort.result (tree_sort v) (tree_sort w) sort.Set c.sorts_are_one.result c.sort-sort.ensures c.sort.ensures c.sorts_are_one.ensures c.if-not-sorts_are_one.false c.in-Set.is in
    equal-sets (nodes c.args.table.now) (nodes c.equal_sets.new.table) c.args.left c.args.right c.in_ok-equal_sets-in-Set.field-0 v w c.requires.left c.requires.right both.0 both.1 c.in_ok-equal_sets-in-Set.ensures.made

pub returns-in-Field-clause-made : goal.returns-in-Field-clause-made
unfolding option_formula IsMade
returns-in-Field-clause-made c =
    let v = value_at (nodes c.args.table.now) c.args.left in
    let w = value_at (nodes c.args.table.now) c.args.right in
    (sym (field-equation v w (sym c.sort-sort.ensures ∙ c.in-Field.is)), tt)
