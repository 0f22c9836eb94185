use Rattle.std.proofs.Common.{◌≡◌, sym, ap, subst, ◌∙◌, Option, None, Some, slice_get}
use Rattle.std.proofs.lemmas.Result.{IfOk-weaker}
use Rattle.jh_form.specs.Tree.{TermTree, FieldTree, FormulaTree, of_object, of_field, of_truth}
use Rattle.jh_form.specs.Tree as tree
use Rattle.jh_arena.specs.table.Entries.{the_name, the_field, the_object, the_truth}
use Rattle.jh_arena.specs.table.Nodes.{nodes, fits_in, tree_in, shape_tree}
use Rattle.jh_arena.specs.declared.table.shapes.Shape.TheVariants as s
use Rattle.jh_arena.proofs.table.PartSteps.{part-FreeField-n, part-ReadObject-a, part-ReadObject-b, part-EqObject-a, part-EqObject-b, part-Implies-a, part-Implies-b, part-All-a}
use Rattle.jh_fca.specs.elimination.Constraints.{is_apart, is_variable, constraint_in}
use Rattle.jh_field_constraints.specs.Standing.{IsFormula, IsTerm, IsField, AreConstraint}
use Rattle.jh_field_constraints.specs.Constraining.{in_field, in_read, in_implication, in_inner, in_body}
use Rattle.jh_field_constraints.proofs.Shapes.{no-field, no-read, no-implication, no-inner, no-body, no-constraint}
use Rattle.jh_field_constraints.proofs.Standings.{field-inside, object-inside, truth-inside, some-inside, field-of, object-of, truth-of, truth-at, field-same, term-same, formula-same, value-same}
use Rattle.jh_field_constraints.proofs.Composed.{as-none, field-then, field-else, read-then, read-else, equation-then, equation-else, implies-then, body-then, fact-then}
use Rattle.jh_field_constraints.proofs.constraints.of_read.Goals as goal

pub shape-requires : goal.shape-requires
shape-requires c = object-inside (nodes c.args.table.now) c.args.term c.requires.term

pub is_variable-requires : goal.is_variable-requires
is_variable-requires c = record { term = part-ReadObject-b c.args.table.now.pools (nodes c.args.table.now) c.in-ReadObject.field c.in-ReadObject.at (ap (fits_in c.args.table.now) (sym c.in-ReadObject.is) ∙ c.shape.ensures.fits) }

pub of_field-requires-clause-field : goal.of_field-requires-clause-field
of_field-requires-clause-field c = part-ReadObject-a c.args.table.now.pools (nodes c.args.table.now) c.in-ReadObject.field c.in-ReadObject.at (ap (fits_in c.args.table.now) (sym c.in-ReadObject.is) ∙ c.shape.ensures.fits)

pub returns-then-is_variable : goal.returns-then-is_variable
unfolding shape_tree
returns-then-is_variable c =
    let f = the_field (slice_get (nodes c.args.table.now) c.in-ReadObject.field) in
    let b = the_object (slice_get (nodes c.args.table.now) c.in-ReadObject.at) in
    let there : slice_get (nodes c.args.table.now) c.args.term ≡ Some (of_object (tree.read_object f b)) = c.shape.ensures.tree ∙ ap (λ x. Some (tree_in c.args.table.now x)) c.in-ReadObject.is in
    IfOk-weaker
    c.of_field.result
    (λ made. (g : FieldTree) (p : FormulaTree) → IsField c.args.table.now c.in-ReadObject.field g → IsFormula c.args.table.now c.args.says p → AreConstraint c.args.table.now made (in_field g p))
    (λ made. (a : TermTree) (p : FormulaTree) → IsTerm c.args.table.now c.args.term a → IsFormula c.args.table.now c.args.says p → AreConstraint c.args.table.now made (in_read a p))
    (λ made h a p at sp. read-then c.args.table.now made a f b p (term-same (slice_get (nodes c.args.table.now) c.args.term) (tree.read_object f b) a there at) (sym c.is_variable.ensures ∙ c.if-is_variable.true)
    (h f p (field-of (slice_get (nodes c.args.table.now) c.in-ReadObject.field) (part-ReadObject-a c.args.table.now.pools (nodes c.args.table.now) c.in-ReadObject.field c.in-ReadObject.at (ap (fits_in c.args.table.now) (sym c.in-ReadObject.is) ∙ c.shape.ensures.fits))) sp))
    c.of_field.ensures

pub returns-else-is_variable : goal.returns-else-is_variable
unfolding shape_tree
returns-else-is_variable c = λ a p at sp.
    let f = the_field (slice_get (nodes c.args.table.now) c.in-ReadObject.field) in
    let b = the_object (slice_get (nodes c.args.table.now) c.in-ReadObject.at) in
    let there : slice_get (nodes c.args.table.now) c.args.term ≡ Some (of_object (tree.read_object f b)) = c.shape.ensures.tree ∙ ap (λ x. Some (tree_in c.args.table.now x)) c.in-ReadObject.is in
    read-else c.args.table.now a f b p (term-same (slice_get (nodes c.args.table.now) c.args.term) (tree.read_object f b) a there at) (sym c.is_variable.ensures ∙ c.if-is_variable.false)

pub returns-in_default : goal.returns-in_default
returns-in_default c = λ a p at sp.
    as-none c.args.table.now (in_read a p) (no-read c.args.table.now.pools (nodes c.args.table.now) c.shape.result a p c.in_default.not-ReadObject (value-same (slice_get (nodes c.args.table.now) c.args.term) (tree_in c.args.table.now c.shape.result) (of_object a) c.shape.ensures.tree at))
