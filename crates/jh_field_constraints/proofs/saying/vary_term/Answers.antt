use Rattle.std.proofs.Common.{◌≡◌, refl, sym, ap, subst, ◌∙◌, true, false, List, map, Some, slice_get}
use Rattle.std.proofs.lemmas.Result.{IfOk-weaker}
use Rattle.jh_form.specs.Tree.{TermTree, FieldTree, FormulaTree, of_object, of_field, of_truth}
use Rattle.jh_form.specs.Tree as tree
use Rattle.jh_boxed.specs.Mapped.{mapped_term}
use Rattle.jh_arena.specs.table.Entries.{the_field, the_object, the_truth}
use Rattle.jh_arena.specs.table.Growth.{Extends}
use Rattle.jh_arena.specs.table.Nodes.{nodes, fits_in, tree_in, shape_tree}
use Rattle.jh_arena.specs.declared.table.shapes.Shape.TheVariants as s
use Rattle.jh_arena.proofs.table.Listed.{extends-trans}
use Rattle.jh_arena.proofs.table.PartSteps.{part-EqObject-a}
use Rattle.jh_substitution.specs.simultaneous.Lifted.{lifting}
use Rattle.jh_substitution.specs.instantiation.Putting.{put}
use Rattle.jh_substitution.specs.exchange.Under.{varied}
use Rattle.jh_fca.specs.elimination.Exchanged.{varied_term}
use Rattle.jh_field_constraints.specs.Standing.{IsFormula, IsTerm}
use Rattle.jh_field_constraints.specs.Walking.{said_of, around}
use Rattle.jh_field_constraints.proofs.Exchanges.{varied-equation}
use Rattle.jh_field_constraints.proofs.Shapes.{no-equation}
use Rattle.jh_field_constraints.proofs.Standings.{truth-there, truth-at, truth-of, truth-inside, truth-grows, object-there, object-at, object-of, object-inside, object-grows, formula-same, risen-object, value-same}
use Rattle.jh_field_constraints.proofs.saying.vary_term.Goals as goal

pub vary-requires : goal.vary-requires
vary-requires c = record {
  formula = truth-there (slice_get (nodes c.same_object.new.table) c.in_ok-equation.equation) _ c.in_ok-equation.ensures.node;
  term = object-grows c.args.table.now c.same_object.new.table c.args.read c.same_object.ensures.grows c.requires.read;
}

pub left_of-requires : goal.left_of-requires
left_of-requires c = record { equation = truth-there (slice_get (nodes c.vary.new.table) c.in_ok-other.other) _ c.in_ok-other.ensures.tree }

pub returns-clause-node : goal.returns-clause-node
returns-clause-node c = λ a b at sp.
    let t0 = c.args.table.now in
    let t1 = c.same_object.new.table in
    let t2 = c.vary.new.table in
    let term : the_object (slice_get (nodes t0) c.args.term) ≡ a = object-at (slice_get (nodes t0) c.args.term) a at in
    let read : the_object (slice_get (nodes t1) c.args.read) ≡ b = object-at (slice_get (nodes t1) c.args.read) b (c.same_object.ensures.grows.nodes.keeps c.args.read (of_object b) sp) in
    let equation : the_truth (slice_get (nodes t1) c.in_ok-equation.equation) ≡ tree.eq_object a a = truth-at (slice_get (nodes t1) c.in_ok-equation.equation) _ c.in_ok-equation.ensures.node ∙ (λ i. tree.eq_object (term i) (term i)) in
    c.left_of.ensures (varied_term a b) (varied_term a b) (c.in_ok-other.ensures.tree ∙ (λ i. Some (of_truth (varied (equation i) (read i)))) ∙ ap (λ z. Some (of_truth z)) (varied-equation a b))
