use Rattle.std.proofs.Common.{◌≡◌, refl, sym, ap, subst, ◌∙◌, true, false, List, map, Some, slice_get}
use Rattle.std.proofs.lemmas.Result.{IfOk-weaker}
use Rattle.jh_form.specs.Tree.{TermTree, FieldTree, FormulaTree, of_object, of_field, of_truth}
use Rattle.jh_form.specs.Tree as tree
use Rattle.jh_boxed.specs.Mapped.{mapped_term}
use Rattle.jh_arena.specs.table.Entries.{the_field, the_object, the_truth}
use Rattle.jh_arena.specs.table.Growth.{Extends}
use Rattle.jh_arena.specs.table.Nodes.{nodes, fits_in, tree_in, shape_tree}
use Rattle.jh_arena.specs.declared.table.shapes.Shape.TheVariants as s
use Rattle.jh_arena.proofs.table.Listed.{extends-trans}
use Rattle.jh_arena.proofs.table.PartSteps.{part-EqObject-a}
use Rattle.jh_substitution.specs.simultaneous.Lifted.{lifting}
use Rattle.jh_substitution.specs.instantiation.Putting.{put}
use Rattle.jh_substitution.specs.exchange.Under.{varied}
use Rattle.jh_fca.specs.elimination.Exchanged.{varied_term}
use Rattle.jh_field_constraints.specs.Standing.{IsFormula, IsTerm}
use Rattle.jh_field_constraints.specs.Walking.{said_of, around}
use Rattle.jh_field_constraints.proofs.Exchanges.{varied-equation}
use Rattle.jh_field_constraints.proofs.Shapes.{no-equation}
use Rattle.jh_field_constraints.proofs.Standings.{truth-there, truth-at, truth-of, truth-inside, truth-grows, object-there, object-at, object-of, object-inside, object-grows, formula-same, risen-object, value-same}
use Rattle.jh_field_constraints.proofs.saying.said.Goals as goal

pub put-requires : goal.put-requires
put-requires c = record {
  body = truth-grows c.args.table.now c.bound.new.table c.args.says c.bound.ensures.grows c.requires.says;
  with = object-there (slice_get (nodes c.bound.new.table) c.in_ok-outer.outer) (tree.bound 1) c.in_ok-outer.ensures.node;
}

pub lift-requires : goal.lift-requires
lift-requires c =
    object-inside (nodes c.put.new.table) c.args.term (object-grows c.args.table.now c.put.new.table c.args.term (extends-trans c.args.table.now c.bound.new.table c.put.new.table c.bound.ensures.grows c.put.ensures.grows) c.requires.term)

pub put-requires-2 : goal.put-requires-2
put-requires-2 c =
    let t0 = c.args.table.now in
    let t2 = c.put.new.table in
    let t3 = c.lift.new.table in
    let grows : Extends t0 t2 = extends-trans t0 c.bound.new.table t2 c.bound.ensures.grows c.put.ensures.grows in
    let a = the_object (slice_get (nodes t0) c.args.term) in
    record {
      body = truth-there (slice_get (nodes t3) c.in_ok-beside.beside) _ (c.lift.ensures.grows.nodes.keeps c.in_ok-beside.beside _ c.in_ok-beside.ensures.tree);
      with = object-there (slice_get (nodes t3) c.in_ok-risen.risen) (mapped_term a (lifting 1) 0)
          (risen-object (slice_get (nodes t2) c.args.term) (slice_get (nodes t3) c.in_ok-risen.risen) a (grows.nodes.keeps c.args.term (of_object a) (object-of (slice_get (nodes t0) c.args.term) c.requires.term)) c.in_ok-risen.ensures.tree);
    }

pub returns-clause-node : goal.returns-clause-node
returns-clause-node c =
    let t0 = c.args.table.now in
    let t1 = c.bound.new.table in
    let t2 = c.put.new.table in
    let t3 = c.lift.new.table in
    let t4 = c.put-2.new.table in
    let grows : Extends t0 t2 = extends-trans t0 t1 t2 c.bound.ensures.grows c.put.ensures.grows in
    let outer : the_object (slice_get (nodes t1) c.in_ok-outer.outer) ≡ tree.bound 1 = object-at (slice_get (nodes t1) c.in_ok-outer.outer) (tree.bound 1) c.in_ok-outer.ensures.node in
    let beside : the_truth (slice_get (nodes t3) c.in_ok-beside.beside) ≡ put (the_truth (slice_get (nodes t1) c.args.says)) (the_object (slice_get (nodes t1) c.in_ok-outer.outer)) =
    truth-at (slice_get (nodes t3) c.in_ok-beside.beside) _ (c.lift.ensures.grows.nodes.keeps c.in_ok-beside.beside _ c.in_ok-beside.ensures.tree) in
    IfOk-weaker
    c.put-2.result
    (λ made. slice_get (nodes t4) made ≡ Some (of_truth (put (the_truth (slice_get (nodes t3) c.in_ok-beside.beside)) (the_object (slice_get (nodes t3) c.in_ok-risen.risen)))))
    (λ made. (p : FormulaTree) (a : TermTree) → IsFormula t0 c.args.says p → IsTerm t0 c.args.term a → IsFormula t4 made (said_of p a))
    (λ made h p a sp at.
    let says : the_truth (slice_get (nodes t1) c.args.says) ≡ p = truth-at (slice_get (nodes t1) c.args.says) p (c.bound.ensures.grows.nodes.keeps c.args.says (of_truth p) sp) in
    let first : the_truth (slice_get (nodes t3) c.in_ok-beside.beside) ≡ put p (tree.bound 1) = beside ∙ (λ i. put (says i) (outer i)) in
    let second : the_object (slice_get (nodes t3) c.in_ok-risen.risen) ≡ mapped_term a (lifting 1) 0 = object-at (slice_get (nodes t3) c.in_ok-risen.risen) (mapped_term a (lifting 1) 0)
    (risen-object (slice_get (nodes t2) c.args.term) (slice_get (nodes t3) c.in_ok-risen.risen) a (grows.nodes.keeps c.args.term (of_object a) at) c.in_ok-risen.ensures.tree) in
    h ∙ (λ i. Some (of_truth (put (first i) (second i)))))
    c.put-2.ensures.tree

pub returns-clause-grows : goal.returns-clause-grows
returns-clause-grows c =
    extends-trans c.args.table.now c.bound.new.table c.put-2.new.table c.bound.ensures.grows
    (extends-trans c.bound.new.table c.put.new.table c.put-2.new.table c.put.ensures.grows (extends-trans c.put.new.table c.lift.new.table c.put-2.new.table c.lift.ensures.grows c.put-2.ensures.grows))
