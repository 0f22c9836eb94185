use Rattle.std.proofs.Common.{true, false, subst, sym, ap}
use Rattle.std.proofs.lemmas.Bool.{true≢false}
use Rattle.jh_form.specs.Tree.{FormulaTree}
use Rattle.jh_arena.specs.table.Entries.{the_truth}
use Rattle.jh_arena.specs.table.Nodes.{nodes}
use Rattle.jh_deriv.specs.Replays.{IsItself}
use Rattle.jh_deriv.proofs.Sights.{itself-object, itself-number, itself-truth, itself-set, itself-none}
use Rattle.jh_deriv.proofs.suiting.is_itself.Goals as goal

pub returns-in-EqObject : goal.returns-in-EqObject
returns-in-EqObject c = itself-object c.args.table.now c.nodes_differ.ensures.different c.args.node c.in-EqObject.left c.in-EqObject.right c.in-EqObject.ensures.tree c.in-EqObject.ensures.fits

pub returns-in-EqNumber : goal.returns-in-EqNumber
returns-in-EqNumber c = itself-number c.args.table.now c.nodes_differ.ensures.different c.args.node c.in-EqNumber.left c.in-EqNumber.right c.in-EqNumber.ensures.tree c.in-EqNumber.ensures.fits

pub returns-in-Iff : goal.returns-in-Iff
returns-in-Iff c = itself-truth c.args.table.now c.nodes_differ.ensures.different c.args.node c.in-Iff.left c.in-Iff.right c.in-Iff.ensures.tree c.in-Iff.ensures.fits

pub returns-in-EqSet : goal.returns-in-EqSet
returns-in-EqSet c = itself-set c.args.table.now c.nodes_differ.ensures.different c.args.node c.in-EqSet.left c.in-EqSet.right c.in-EqSet.ensures.tree c.in-EqSet.ensures.fits

pub returns-in_default : goal.returns-in_default
returns-in_default c = (
  λ h. absurd (true≢false (sym h)),
  λ h. absurd (itself-none c.args.table.now.pools (nodes c.args.table.now) c.shape.result c.in_default.not-EqObject c.in_default.not-EqNumber c.in_default.not-Iff c.in_default.not-EqSet (subst (λ (z : FormulaTree). IsItself z) (ap the_truth c.shape.ensures.tree) h)),
)
