use Rattle.std.proofs.Common.{◌≡◌, refl, sym, ap, subst, ◌∙◌, true, false, List, map, Some, slice_get}
use Rattle.std.proofs.lemmas.Result.{IfOk-weaker}
use Rattle.jh_form.specs.Tree.{TermTree, FieldTree, FormulaTree, of_object, of_field, of_truth}
use Rattle.jh_form.specs.Tree as tree
use Rattle.jh_boxed.specs.Mapped.{mapped_term}
use Rattle.jh_arena.specs.table.Entries.{the_field, the_object, the_truth}
use Rattle.jh_arena.specs.table.Growth.{Extends}
use Rattle.jh_arena.specs.table.Nodes.{nodes, fits_in, tree_in, shape_tree}
use Rattle.jh_arena.specs.declared.table.shapes.Shape.TheVariants as s
use Rattle.jh_arena.proofs.table.Listed.{extends-trans}
use Rattle.jh_arena.proofs.table.PartSteps.{part-EqObject-a}
use Rattle.jh_substitution.specs.simultaneous.Lifted.{lifting}
use Rattle.jh_substitution.specs.instantiation.Putting.{put}
use Rattle.jh_substitution.specs.exchange.Under.{varied}
use Rattle.jh_fca.specs.elimination.Exchanged.{varied_term}
use Rattle.jh_field_constraints.specs.Standing.{IsFormula, IsTerm}
use Rattle.jh_field_constraints.specs.Walking.{said_of, around}
use Rattle.jh_field_constraints.proofs.Exchanges.{varied-equation}
use Rattle.jh_field_constraints.proofs.Shapes.{no-equation}
use Rattle.jh_field_constraints.proofs.Standings.{truth-there, truth-at, truth-of, truth-inside, truth-grows, object-there, object-at, object-of, object-inside, object-grows, formula-same, risen-object, value-same}
use Rattle.jh_field_constraints.proofs.saying.around.Goals as goal

pub returns-then-positive-clause-node : goal.returns-then-positive-clause-node
returns-then-positive-clause-node c =
    IfOk-weaker
    c.of_all.result
    (λ made. (q p : FormulaTree) → IsFormula c.args.table.now c.args.told q → IsFormula c.args.table.now c.args.inner p → IsFormula c.of_all.new.table made (around true q p))
    (λ made. (q p : FormulaTree) → IsFormula c.args.table.now c.args.told q → IsFormula c.args.table.now c.args.inner p → IsFormula c.of_all.new.table made (around c.args.positive q p))
    (λ made h q p at sp. h q p at sp ∙ ap (λ b. Some (of_truth (around b q p))) (sym c.if-positive.true))
    c.of_all.ensures.node

pub returns-else-positive-clause-node : goal.returns-else-positive-clause-node
returns-else-positive-clause-node c =
    IfOk-weaker
    c.of_some.result
    (λ made. (q p : FormulaTree) → IsFormula c.args.table.now c.args.told q → IsFormula c.args.table.now c.args.inner p → IsFormula c.of_some.new.table made (around false q p))
    (λ made. (q p : FormulaTree) → IsFormula c.args.table.now c.args.told q → IsFormula c.args.table.now c.args.inner p → IsFormula c.of_some.new.table made (around c.args.positive q p))
    (λ made h q p at sp. h q p at sp ∙ ap (λ b. Some (of_truth (around b q p))) (sym c.if-positive.false))
    c.of_some.ensures.node
