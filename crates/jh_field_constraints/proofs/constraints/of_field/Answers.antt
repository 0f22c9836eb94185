use Rattle.std.proofs.Common.{◌≡◌, sym, ap, subst, ◌∙◌, Option, None, Some, slice_get}
use Rattle.std.proofs.lemmas.Result.{IfOk-weaker}
use Rattle.jh_form.specs.Tree.{TermTree, FieldTree, FormulaTree, of_object, of_field, of_truth}
use Rattle.jh_form.specs.Tree as tree
use Rattle.jh_arena.specs.table.Entries.{the_name, the_field, the_object, the_truth}
use Rattle.jh_arena.specs.table.Nodes.{nodes, fits_in, tree_in, shape_tree}
use Rattle.jh_arena.specs.declared.table.shapes.Shape.TheVariants as s
use Rattle.jh_arena.proofs.table.PartSteps.{part-FreeField-n, part-ReadObject-a, part-ReadObject-b, part-EqObject-a, part-EqObject-b, part-Implies-a, part-Implies-b, part-All-a}
use Rattle.jh_fca.specs.elimination.Constraints.{is_apart, is_variable, constraint_in}
use Rattle.jh_field_constraints.specs.Standing.{IsFormula, IsTerm, IsField, AreConstraint}
use Rattle.jh_field_constraints.specs.Constraining.{in_field, in_read, in_implication, in_inner, in_body}
use Rattle.jh_field_constraints.proofs.Shapes.{no-field, no-read, no-implication, no-inner, no-body, no-constraint}
use Rattle.jh_field_constraints.proofs.Standings.{field-inside, object-inside, truth-inside, some-inside, field-of, object-of, truth-of, truth-at, field-same, term-same, formula-same, value-same}
use Rattle.jh_field_constraints.proofs.Composed.{as-none, field-then, field-else, read-then, read-else, equation-then, equation-else, implies-then, body-then, fact-then}
use Rattle.jh_field_constraints.proofs.constraints.of_field.Goals as goal

pub shape-requires : goal.shape-requires
shape-requires c = field-inside (nodes c.args.table.now) c.args.field c.requires.field

pub name_at-requires : goal.name_at-requires
name_at-requires c = some-inside c.args.table.now.pools.names c.in-FreeField.number (part-FreeField-n c.args.table.now.pools (nodes c.args.table.now) c.in-FreeField.number (ap (fits_in c.args.table.now) (sym c.in-FreeField.is) ∙ c.shape.ensures.fits))

pub returns-then-apart : goal.returns-then-apart
unfolding shape_tree the_name
returns-then-apart c = λ g p at sp.
    let z = c.name_at.result.now in
    let there : slice_get (nodes c.args.table.now) c.args.field ≡ Some (of_field (tree.free_field z)) = c.shape.ensures.tree ∙ ap (λ x. Some (tree_in c.args.table.now x)) c.in-FreeField.is ∙ ap (λ o. Some (of_field (tree.free_field (the_name o)))) c.name_at.ensures in
    field-then c.args.table.now (record { field = c.args.field; says = c.args.says }) g z p (field-same (slice_get (nodes c.args.table.now) c.args.field) (tree.free_field z) g there at)
    (ap (is_apart z) (sym (truth-at (slice_get (nodes c.args.table.now) c.args.says) p sp)) ∙ sym c.in_ok-apart-in-FreeField.ensures ∙ c.if-apart.true) there sp

pub returns-else-apart : goal.returns-else-apart
unfolding shape_tree the_name
returns-else-apart c = λ g p at sp.
    let z = c.name_at.result.now in
    let there : slice_get (nodes c.args.table.now) c.args.field ≡ Some (of_field (tree.free_field z)) = c.shape.ensures.tree ∙ ap (λ x. Some (tree_in c.args.table.now x)) c.in-FreeField.is ∙ ap (λ o. Some (of_field (tree.free_field (the_name o)))) c.name_at.ensures in
    field-else c.args.table.now g z p (field-same (slice_get (nodes c.args.table.now) c.args.field) (tree.free_field z) g there at)
    (ap (is_apart z) (sym (truth-at (slice_get (nodes c.args.table.now) c.args.says) p sp)) ∙ sym c.in_ok-apart-in-FreeField.ensures ∙ c.if-apart.false)

pub returns-in_default : goal.returns-in_default
returns-in_default c = λ g p at sp.
    as-none c.args.table.now (in_field g p) (no-field c.args.table.now.pools (nodes c.args.table.now) c.shape.result g p c.in_default.not-FreeField (value-same (slice_get (nodes c.args.table.now) c.args.field) (tree_in c.args.table.now c.shape.result) (of_field g) c.shape.ensures.tree at))
