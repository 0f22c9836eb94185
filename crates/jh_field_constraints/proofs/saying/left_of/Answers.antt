use Rattle.std.proofs.Common.{◌≡◌, refl, sym, ap, subst, ◌∙◌, true, false, List, map, Some, slice_get}
use Rattle.std.proofs.lemmas.Result.{IfOk-weaker}
use Rattle.jh_form.specs.Tree.{TermTree, FieldTree, FormulaTree, of_object, of_field, of_truth}
use Rattle.jh_form.specs.Tree as tree
use Rattle.jh_boxed.specs.Mapped.{mapped_term}
use Rattle.jh_arena.specs.table.Entries.{the_field, the_object, the_truth}
use Rattle.jh_arena.specs.table.Growth.{Extends}
use Rattle.jh_arena.specs.table.Nodes.{nodes, fits_in, tree_in, shape_tree}
use Rattle.jh_arena.specs.declared.table.shapes.Shape.TheVariants as s
use Rattle.jh_arena.proofs.table.Listed.{extends-trans}
use Rattle.jh_arena.proofs.table.PartSteps.{part-EqObject-a}
use Rattle.jh_substitution.specs.simultaneous.Lifted.{lifting}
use Rattle.jh_substitution.specs.instantiation.Putting.{put}
use Rattle.jh_substitution.specs.exchange.Under.{varied}
use Rattle.jh_fca.specs.elimination.Exchanged.{varied_term}
use Rattle.jh_field_constraints.specs.Standing.{IsFormula, IsTerm}
use Rattle.jh_field_constraints.specs.Walking.{said_of, around}
use Rattle.jh_field_constraints.proofs.Exchanges.{varied-equation}
use Rattle.jh_field_constraints.proofs.Shapes.{no-equation}
use Rattle.jh_field_constraints.proofs.Standings.{truth-there, truth-at, truth-of, truth-inside, truth-grows, object-there, object-at, object-of, object-inside, object-grows, formula-same, risen-object, value-same}
use Rattle.jh_field_constraints.proofs.saying.left_of.Goals as goal

pub shape-requires : goal.shape-requires
shape-requires c = truth-inside (nodes c.args.table.now) c.args.equation c.requires.equation

pub returns-in-EqObject : goal.returns-in-EqObject
unfolding shape_tree
returns-in-EqObject c = λ a b at.
    let x = the_object (slice_get (nodes c.args.table.now) c.in-EqObject.left) in
    let y = the_object (slice_get (nodes c.args.table.now) c.in-EqObject.field-1) in
    let there : slice_get (nodes c.args.table.now) c.args.equation ≡ Some (of_truth (tree.eq_object x y)) = c.shape.ensures.tree ∙ ap (λ z. Some (tree_in c.args.table.now z)) c.in-EqObject.is in
    let whole : tree.eq_object x y ≡ tree.eq_object a b = formula-same (slice_get (nodes c.args.table.now) c.args.equation) (tree.eq_object x y) (tree.eq_object a b) there at in
    let same : x ≡ a = cc in
    object-of (slice_get (nodes c.args.table.now) c.in-EqObject.left) (part-EqObject-a c.args.table.now.pools (nodes c.args.table.now) c.in-EqObject.left c.in-EqObject.field-1 (ap (fits_in c.args.table.now) (sym c.in-EqObject.is) ∙ c.shape.ensures.fits)) ∙ ap (λ z. Some (of_object z)) same

pub returns-in_default : goal.returns-in_default
returns-in_default c = λ a b at.
    absurd (no-equation c.args.table.now.pools (nodes c.args.table.now) c.shape.result a b c.in_default.not-EqObject (value-same (slice_get (nodes c.args.table.now) c.args.equation) (tree_in c.args.table.now c.shape.result) (of_truth (tree.eq_object a b)) c.shape.ensures.tree at))
