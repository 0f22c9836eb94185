use Rattle.std.proofs.Common.{sym, subst, ℕ, List}
use Rattle.jh_closure.specs.congruence_closure.Nodes.{Has}
use Rattle.jh_models.specs.ground_models.Truths.{IsFalse}
use Rattle.jh_arena.specs.table.Nodes.{nodes}
use Rattle.jh_propagation.specs.trail.Listing.{picked}
use Rattle.jh_propagation.specs.trail.Saying.{literals_at, supposed, truth_at}
use Rattle.jh_propagation.proofs.trail.Shaped.{inside}
use Rattle.jh_propagation.proofs.trail.Reasoning.{reason-below, reason-inside, reason-makes}
use Rattle.jh_propagation.proofs.trail.reasons.reason.Goals as goal

pub is_shallow-requires : goal.is_shallow-requires
is_shallow-requires c = inside (nodes c.args.table.now) c.args.instance c.requires.formula

pub returns-clause-below : goal.returns-clause-below
returns-clause-below c = λ p h.
    let ts = nodes c.args.table.now in
    reason-below ts c.args.trail.now c.args.except c.args.before (truth_at ts c.args.instance) c.requires.is_false c.new-places.result.items c.sought_in.new.places.items c.new-places.ensures.items c.in_ok-sought_in.field-0 c.in_ok-sought_in.ensures p (subst (λ (xs : List ℕ). Has xs p) c.of.ensures h)

pub returns-clause-inside : goal.returns-clause-inside
returns-clause-inside c = λ p h.
    let ts = nodes c.args.table.now in
    reason-inside ts c.args.trail.now c.args.except c.args.before (truth_at ts c.args.instance) c.requires.is_false c.new-places.result.items c.sought_in.new.places.items c.new-places.ensures.items c.in_ok-sought_in.field-0 c.in_ok-sought_in.ensures p (subst (λ (xs : List ℕ). Has xs p) c.of.ensures h)

pub returns-clause-makes : goal.returns-clause-makes
returns-clause-makes c =
    let ts = nodes c.args.table.now in
    let ds = c.args.trail.now in
    let i = truth_at ts c.args.instance in
    subst (λ (xs : List ℕ). IsFalse (literals_at ts (supposed c.args.except (picked ds xs))) i) (sym c.of.ensures)
    (reason-makes ts ds c.args.except c.args.before i c.requires.is_false c.new-places.result.items c.sought_in.new.places.items c.new-places.ensures.items c.in_ok-sought_in.field-0 c.in_ok-sought_in.ensures)
