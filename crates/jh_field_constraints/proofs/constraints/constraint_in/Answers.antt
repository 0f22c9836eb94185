use Rattle.std.proofs.Common.{◌≡◌, sym, ap, subst, ◌∙◌, Option, None, Some, slice_get}
use Rattle.std.proofs.lemmas.Result.{IfOk-weaker}
use Rattle.jh_form.specs.Tree.{TermTree, FieldTree, FormulaTree, of_object, of_field, of_truth}
use Rattle.jh_form.specs.Tree as tree
use Rattle.jh_arena.specs.table.Entries.{the_name, the_field, the_object, the_truth}
use Rattle.jh_arena.specs.table.Nodes.{nodes, fits_in, tree_in, shape_tree}
use Rattle.jh_arena.specs.declared.table.shapes.Shape.TheVariants as s
use Rattle.jh_arena.proofs.table.PartSteps.{part-FreeField-n, part-ReadObject-a, part-ReadObject-b, part-EqObject-a, part-EqObject-b, part-Implies-a, part-Implies-b, part-All-a}
use Rattle.jh_fca.specs.elimination.Constraints.{is_apart, is_variable, constraint_in}
use Rattle.jh_field_constraints.specs.Standing.{IsFormula, IsTerm, IsField, AreConstraint}
use Rattle.jh_field_constraints.specs.Constraining.{in_field, in_read, in_implication, in_inner, in_body}
use Rattle.jh_field_constraints.proofs.Shapes.{no-field, no-read, no-implication, no-inner, no-body, no-constraint}
use Rattle.jh_field_constraints.proofs.Standings.{field-inside, object-inside, truth-inside, some-inside, field-of, object-of, truth-of, truth-at, field-same, term-same, formula-same, value-same}
use Rattle.jh_field_constraints.proofs.Composed.{as-none, field-then, field-else, read-then, read-else, equation-then, equation-else, implies-then, body-then, fact-then}
use Rattle.jh_field_constraints.proofs.constraints.constraint_in.Goals as goal

pub shape-requires : goal.shape-requires
shape-requires c = truth-inside (nodes c.args.table.now) c.args.fact c.requires.fact

pub of_body-requires : goal.of_body-requires
of_body-requires c = record { body = part-All-a c.args.table.now.pools (nodes c.args.table.now) c.in-All.body (ap (fits_in c.args.table.now) (sym c.in-All.is) ∙ c.shape.ensures.fits) }

pub returns-in-All : goal.returns-in-All
unfolding shape_tree
returns-in-All c =
    let b = the_truth (slice_get (nodes c.args.table.now) c.in-All.body) in
    let there : slice_get (nodes c.args.table.now) c.args.fact ≡ Some (of_truth (tree.all b)) = c.shape.ensures.tree ∙ ap (λ x. Some (tree_in c.args.table.now x)) c.in-All.is in
    IfOk-weaker
    c.of_body.result
    (λ made. (d : FormulaTree) → IsFormula c.args.table.now c.in-All.body d → AreConstraint c.args.table.now made (in_body d))
    (λ made. (a : FormulaTree) → IsFormula c.args.table.now c.args.fact a → AreConstraint c.args.table.now made (constraint_in a))
    (λ made h a at. fact-then c.args.table.now made a b (formula-same (slice_get (nodes c.args.table.now) c.args.fact) (tree.all b) a there at) (h b (truth-of (slice_get (nodes c.args.table.now) c.in-All.body) (part-All-a c.args.table.now.pools (nodes c.args.table.now) c.in-All.body (ap (fits_in c.args.table.now) (sym c.in-All.is) ∙ c.shape.ensures.fits)))))
    c.of_body.ensures

pub returns-in_default : goal.returns-in_default
returns-in_default c = λ a at.
    as-none c.args.table.now (constraint_in a) (no-constraint c.args.table.now.pools (nodes c.args.table.now) c.shape.result a c.in_default.not-All (value-same (slice_get (nodes c.args.table.now) c.args.fact) (tree_in c.args.table.now c.shape.result) (of_truth a) c.shape.ensures.tree at))
