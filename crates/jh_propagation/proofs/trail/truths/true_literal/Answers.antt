use Rattle.std.proofs.Common.{◌≡◌, sym, ap, Option, Some, None, Bool}
use Rattle.std.proofs.lemmas.Bool.{true≢false}
use Rattle.jh_arena.specs.table.Nodes.{nodes}
use Rattle.jh_propagation.proofs.trail.Formed.{some-is}
use Rattle.jh_propagation.proofs.trail.Seeing.{literal-true, same-bool, bool-same}
use Rattle.jh_propagation.proofs.trail.truths.true_literal.Goals as goal

pub returns-in-Some : goal.returns-in-Some
returns-in-Some c = λ i e.
    let both = literal-true (nodes c.args.table.now) c.args.trail.now c.nodes_differ.ensures.different i c.args.literal e in
    let says = c.in-Some.ensures c.args.literal.holds in (
      λ h. both.0 (says.0 (ap Some (same-bool c.in-Some.holds c.args.literal.holds h))),
      λ h. bool-same c.in-Some.holds c.args.literal.holds (some-is c.in-Some.holds c.args.literal.holds (says.1 (both.1 h))),
    )

pub returns-in-None : goal.returns-in-None
returns-in-None c = λ i e.
    let both = literal-true (nodes c.args.table.now) c.args.trail.now c.nodes_differ.ensures.different i c.args.literal e in (
      λ h. absurd (true≢false (sym h)),
      λ h. let none : ◌≡◌ {A = Option Bool} None (Some c.args.literal.holds) = (c.in-None.ensures c.args.literal.holds).1 (both.1 h) in absurd (cc),
    )
