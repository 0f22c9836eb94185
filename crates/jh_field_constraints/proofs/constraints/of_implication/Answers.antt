use Rattle.std.proofs.Common.{◌≡◌, sym, ap, subst, ◌∙◌, Option, None, Some, slice_get}
use Rattle.std.proofs.lemmas.Result.{IfOk-weaker}
use Rattle.jh_form.specs.Tree.{TermTree, FieldTree, FormulaTree, of_object, of_field, of_truth}
use Rattle.jh_form.specs.Tree as tree
use Rattle.jh_arena.specs.table.Entries.{the_name, the_field, the_object, the_truth}
use Rattle.jh_arena.specs.table.Nodes.{nodes, fits_in, tree_in, shape_tree}
use Rattle.jh_arena.specs.declared.table.shapes.Shape.TheVariants as s
use Rattle.jh_arena.proofs.table.PartSteps.{part-FreeField-n, part-ReadObject-a, part-ReadObject-b, part-EqObject-a, part-EqObject-b, part-Implies-a, part-Implies-b, part-All-a}
use Rattle.jh_fca.specs.elimination.Constraints.{is_apart, is_variable, constraint_in}
use Rattle.jh_field_constraints.specs.Standing.{IsFormula, IsTerm, IsField, AreConstraint}
use Rattle.jh_field_constraints.specs.Constraining.{in_field, in_read, in_implication, in_inner, in_body}
use Rattle.jh_field_constraints.proofs.Shapes.{no-field, no-read, no-implication, no-inner, no-body, no-constraint}
use Rattle.jh_field_constraints.proofs.Standings.{field-inside, object-inside, truth-inside, some-inside, field-of, object-of, truth-of, truth-at, field-same, term-same, formula-same, value-same}
use Rattle.jh_field_constraints.proofs.Composed.{as-none, field-then, field-else, read-then, read-else, equation-then, equation-else, implies-then, body-then, fact-then}
use Rattle.jh_field_constraints.proofs.constraints.of_implication.Goals as goal

pub shape-requires : goal.shape-requires
shape-requires c = truth-inside (nodes c.args.table.now) c.args.told c.requires.told

pub is_variable-requires : goal.is_variable-requires
is_variable-requires c = record { term = part-EqObject-b c.args.table.now.pools (nodes c.args.table.now) c.in-EqObject.term c.in-EqObject.variable (ap (fits_in c.args.table.now) (sym c.in-EqObject.is) ∙ c.shape.ensures.fits) }

pub of_read-requires-clause-term : goal.of_read-requires-clause-term
of_read-requires-clause-term c = part-EqObject-a c.args.table.now.pools (nodes c.args.table.now) c.in-EqObject.term c.in-EqObject.variable (ap (fits_in c.args.table.now) (sym c.in-EqObject.is) ∙ c.shape.ensures.fits)

pub returns-then-is_variable : goal.returns-then-is_variable
unfolding shape_tree
returns-then-is_variable c =
    let a = the_object (slice_get (nodes c.args.table.now) c.in-EqObject.term) in
    let b = the_object (slice_get (nodes c.args.table.now) c.in-EqObject.variable) in
    let there : slice_get (nodes c.args.table.now) c.args.told ≡ Some (of_truth (tree.eq_object a b)) = c.shape.ensures.tree ∙ ap (λ x. Some (tree_in c.args.table.now x)) c.in-EqObject.is in
    IfOk-weaker
    c.of_read.result
    (λ made. (d : TermTree) (p : FormulaTree) → IsTerm c.args.table.now c.in-EqObject.term d → IsFormula c.args.table.now c.args.says p → AreConstraint c.args.table.now made (in_read d p))
    (λ made. (q p : FormulaTree) → IsFormula c.args.table.now c.args.told q → IsFormula c.args.table.now c.args.says p → AreConstraint c.args.table.now made (in_implication q p))
    (λ made h q p at sp. equation-then c.args.table.now made q a b p (formula-same (slice_get (nodes c.args.table.now) c.args.told) (tree.eq_object a b) q there at) (sym c.is_variable.ensures ∙ c.if-is_variable.true)
    (h a p (object-of (slice_get (nodes c.args.table.now) c.in-EqObject.term) (part-EqObject-a c.args.table.now.pools (nodes c.args.table.now) c.in-EqObject.term c.in-EqObject.variable (ap (fits_in c.args.table.now) (sym c.in-EqObject.is) ∙ c.shape.ensures.fits))) sp))
    c.of_read.ensures

pub returns-else-is_variable : goal.returns-else-is_variable
unfolding shape_tree
returns-else-is_variable c = λ q p at sp.
    let a = the_object (slice_get (nodes c.args.table.now) c.in-EqObject.term) in
    let b = the_object (slice_get (nodes c.args.table.now) c.in-EqObject.variable) in
    let there : slice_get (nodes c.args.table.now) c.args.told ≡ Some (of_truth (tree.eq_object a b)) = c.shape.ensures.tree ∙ ap (λ x. Some (tree_in c.args.table.now x)) c.in-EqObject.is in
    equation-else c.args.table.now q a b p (formula-same (slice_get (nodes c.args.table.now) c.args.told) (tree.eq_object a b) q there at) (sym c.is_variable.ensures ∙ c.if-is_variable.false)

pub returns-in_default : goal.returns-in_default
returns-in_default c = λ q p at sp.
    as-none c.args.table.now (in_implication q p) (no-implication c.args.table.now.pools (nodes c.args.table.now) c.shape.result q p c.in_default.not-EqObject (value-same (slice_get (nodes c.args.table.now) c.args.told) (tree_in c.args.table.now c.shape.result) (of_truth q) c.shape.ensures.tree at))
