use Rattle.std.proofs.Common.{true, false, subst, sym, ap, slice_get}
use Rattle.std.proofs.lemmas.Bool.{true≢false}
use Rattle.jh_form.specs.Tree.{FormulaTree}
use Rattle.jh_arena.specs.table.Entries.{the_truth}
use Rattle.jh_arena.specs.table.Nodes.{nodes}
use Rattle.jh_arena.proofs.table.Children.{it-is-truth, it-is-number}
use Rattle.jh_arena.proofs.table.PartSteps.{part-Negation-a, part-EqNumber-a, part-EqNumber-b}
use Rattle.jh_derivation_rules.specs.Rules.{IsRefuted}
use Rattle.jh_deriv.proofs.Sights.{refuted-negation, refuted-numbers, refuted-none}
use Rattle.jh_deriv.proofs.suiting.is_refuted.Goals as goal

pub is_itself-requires : goal.is_itself-requires
is_itself-requires c =
    let t0 = c.args.table.now in
    it-is-truth (slice_get (nodes t0) c.in-Negation.inside) (part-Negation-a t0.pools (nodes t0) c.in-Negation.inside c.in-Negation.ensures.fits)

pub differ-requires-clause-left : goal.differ-requires-clause-left
differ-requires-clause-left c =
    let t0 = c.args.table.now in
    it-is-number (slice_get (nodes t0) c.in-EqNumber.left) (part-EqNumber-a t0.pools (nodes t0) c.in-EqNumber.left c.in-EqNumber.right c.in-EqNumber.ensures.fits)

pub differ-requires-clause-right : goal.differ-requires-clause-right
differ-requires-clause-right c =
    let t0 = c.args.table.now in
    it-is-number (slice_get (nodes t0) c.in-EqNumber.right) (part-EqNumber-b t0.pools (nodes t0) c.in-EqNumber.left c.in-EqNumber.right c.in-EqNumber.ensures.fits)

pub returns-in-Negation : goal.returns-in-Negation
returns-in-Negation c =
    let both = refuted-negation c.args.table.now c.args.node c.in-Negation.inside c.in-Negation.ensures.tree in
    (λ h. both.0 (c.is_itself.ensures.0 h), λ h. c.is_itself.ensures.1 (both.1 h))

pub returns-in-EqNumber : goal.returns-in-EqNumber
returns-in-EqNumber c =
    let both = refuted-numbers c.args.table.now c.args.node c.in-EqNumber.left c.in-EqNumber.right c.in-EqNumber.ensures.tree in
    (λ h. both.0 (c.differ.ensures.0 h), λ h. c.differ.ensures.1 (both.1 h))

pub returns-in_default : goal.returns-in_default
returns-in_default c = (
  λ h. absurd (true≢false (sym h)),
  λ h. absurd (refuted-none c.args.table.now.pools (nodes c.args.table.now) c.shape.result c.in_default.not-Negation c.in_default.not-EqNumber (subst (λ (z : FormulaTree). IsRefuted z) (ap the_truth c.shape.ensures.tree) h)),
)
