use Rattle.std.proofs.Common.{◌≡◌, refl, sym, ap, subst, ◌∙◌, true, false, List, map, Some, slice_get}
use Rattle.std.proofs.lemmas.Result.{IfOk-weaker}
use Rattle.jh_form.specs.Tree.{TermTree, FieldTree, FormulaTree, of_object, of_field, of_truth}
use Rattle.jh_form.specs.Tree as tree
use Rattle.jh_boxed.specs.Mapped.{mapped_term}
use Rattle.jh_arena.specs.table.Entries.{the_field, the_object, the_truth}
use Rattle.jh_arena.specs.table.Growth.{Extends}
use Rattle.jh_arena.specs.table.Nodes.{nodes, fits_in, tree_in, shape_tree}
use Rattle.jh_arena.specs.declared.table.shapes.Shape.TheVariants as s
use Rattle.jh_arena.proofs.table.Listed.{extends-trans}
use Rattle.jh_arena.proofs.table.PartSteps.{part-EqObject-a}
use Rattle.jh_substitution.specs.simultaneous.Lifted.{lifting}
use Rattle.jh_substitution.specs.instantiation.Putting.{put}
use Rattle.jh_substitution.specs.exchange.Under.{varied}
use Rattle.jh_fca.specs.elimination.Exchanged.{varied_term}
use Rattle.jh_field_constraints.specs.Standing.{IsFormula, IsTerm}
use Rattle.jh_field_constraints.specs.Walking.{said_of, around}
use Rattle.jh_field_constraints.proofs.Exchanges.{varied-equation}
use Rattle.jh_field_constraints.proofs.Shapes.{no-equation}
use Rattle.jh_field_constraints.proofs.Standings.{truth-there, truth-at, truth-of, truth-inside, truth-grows, object-there, object-at, object-of, object-inside, object-grows, formula-same, risen-object, value-same}
use Rattle.jh_field_constraints.proofs.saying.of_all.Goals as goal

pub for_all-requires : goal.for_all-requires
for_all-requires c = record { a = truth-there (slice_get (nodes c.implication.new.table) c.in_ok-body.body) _ c.in_ok-body.ensures.node }

pub returns-clause-node : goal.returns-clause-node
returns-clause-node c =
    let t0 = c.args.table.now in
    let t1 = c.implication.new.table in
    let t2 = c.for_all.new.table in
    IfOk-weaker
    c.for_all.result
    (λ made. slice_get (nodes t2) made ≡ Some (of_truth (tree.all (the_truth (slice_get (nodes t1) c.in_ok-body.body)))))
    (λ made. (q p : FormulaTree) → IsFormula t0 c.args.told q → IsFormula t0 c.args.inner p → IsFormula t2 made (around true q p))
    (λ made h q p at sp.
    let told : the_truth (slice_get (nodes t0) c.args.told) ≡ q = truth-at (slice_get (nodes t0) c.args.told) q at in
    let inner : the_truth (slice_get (nodes t0) c.args.inner) ≡ p = truth-at (slice_get (nodes t0) c.args.inner) p sp in
    let body : the_truth (slice_get (nodes t1) c.in_ok-body.body) ≡ tree.implies q p = truth-at (slice_get (nodes t1) c.in_ok-body.body) _ c.in_ok-body.ensures.node ∙ (λ i. tree.implies (told i) (inner i)) in
    h ∙ ap (λ x. Some (of_truth (tree.all x))) body)
    c.for_all.ensures.node
