use Rattle.std.proofs.Common.{refl, sym, ap, ◌∙◌, subst, slice_get}
use Rattle.std.proofs.lemmas.Bool.{true≢false, eq-eqb, eqb-true}
use Rattle.jh_arena.specs.table.Entries.{is_truth, the_truth, the_object, the_number, the_set}
use Rattle.jh_arena.specs.table.Nodes.{nodes, shape_tree}
use Rattle.jh_arena.proofs.table.PartSteps.{part-EqObject-a, part-EqObject-b, part-EqNumber-a, part-EqNumber-b, part-EqSet-a, part-EqSet-b}
use Rattle.jh_prove.specs.trivial.Trivial.{IsEvident}
use Rattle.jh_prove.proofs.trivial.Shapes.{inside, one-object, one-number, one-set, evident-shape}
use Rattle.jh_prove.proofs.trivial.sight.is_evident.Goals as goal

pub shape-requires : goal.shape-requires
shape-requires c = inside (nodes c.args.table.now) c.args.goal c.requires

pub returns-in-True : goal.returns-in-True
unfolding the_truth shape_tree
returns-in-True c = (λ h. subst IsEvident (sym (ap the_truth c.in-True.ensures.tree)) tt, λ h. refl)

pub returns-in-EqObject : goal.returns-in-EqObject
unfolding the_truth shape_tree
returns-in-EqObject c =
    let l = c.args.table.now in
    let ts = nodes l in
    let is = ap the_truth c.in-EqObject.ensures.tree in (
      λ h. subst IsEvident (sym is) (ap (λ n. the_object (slice_get ts n)) (eqb-true c.in-EqObject.left c.in-EqObject.right h)),
      λ h. eq-eqb c.in-EqObject.left c.in-EqObject.right
          (one-object ts c.nodes_differ.ensures.different c.in-EqObject.left c.in-EqObject.right (part-EqObject-a l.pools ts c.in-EqObject.left c.in-EqObject.right c.in-EqObject.ensures.fits) (part-EqObject-b l.pools ts c.in-EqObject.left c.in-EqObject.right c.in-EqObject.ensures.fits) (subst IsEvident is h)),
    )

pub returns-in-EqNumber : goal.returns-in-EqNumber
unfolding the_truth shape_tree
returns-in-EqNumber c =
    let l = c.args.table.now in
    let ts = nodes l in
    let is = ap the_truth c.in-EqNumber.ensures.tree in (
      λ h. subst IsEvident (sym is) (ap (λ n. the_number (slice_get ts n)) (eqb-true c.in-EqNumber.left c.in-EqNumber.right h)),
      λ h. eq-eqb c.in-EqNumber.left c.in-EqNumber.right
          (one-number ts c.nodes_differ.ensures.different c.in-EqNumber.left c.in-EqNumber.right (part-EqNumber-a l.pools ts c.in-EqNumber.left c.in-EqNumber.right c.in-EqNumber.ensures.fits) (part-EqNumber-b l.pools ts c.in-EqNumber.left c.in-EqNumber.right c.in-EqNumber.ensures.fits) (subst IsEvident is h)),
    )

pub returns-in-EqSet : goal.returns-in-EqSet
unfolding the_truth shape_tree
returns-in-EqSet c =
    let l = c.args.table.now in
    let ts = nodes l in
    let is = ap the_truth c.in-EqSet.ensures.tree in (
      λ h. subst IsEvident (sym is) (ap (λ n. the_set (slice_get ts n)) (eqb-true c.in-EqSet.left c.in-EqSet.right h)),
      λ h. eq-eqb c.in-EqSet.left c.in-EqSet.right
          (one-set ts c.nodes_differ.ensures.different c.in-EqSet.left c.in-EqSet.right (part-EqSet-a l.pools ts c.in-EqSet.left c.in-EqSet.right c.in-EqSet.ensures.fits) (part-EqSet-b l.pools ts c.in-EqSet.left c.in-EqSet.right c.in-EqSet.ensures.fits) (subst IsEvident is h)),
    )

pub returns-in_default : goal.returns-in_default
returns-in_default c = (
  λ h. absurd (true≢false (sym h)),
  λ h. absurd (evident-shape c.args.table.now c.shape.result (sym (ap is_truth c.shape.ensures.tree) ∙ c.requires) (subst IsEvident (ap the_truth c.shape.ensures.tree) h) c.in_default.not-True c.in_default.not-EqObject c.in_default.not-EqNumber c.in_default.not-EqSet),
)
