use Rattle.std.proofs.Common.{◌≡◌, refl, sym, ap, ◌∙◌, Option, Some, None, Bool, not, inl, inr}
use Rattle.std.proofs.lemmas.Bool.{true≢false}
use Rattle.jh_arena.specs.table.Nodes.{nodes}
use Rattle.jh_propagation.specs.trail.Saying.{opposite_of, supposed}
use Rattle.jh_propagation.proofs.trail.Formed.{some-is}
use Rattle.jh_propagation.proofs.trail.Refuted.{differ-not, literal-refuted, not-differ, supposed-more, supposed-only, supposed-turned}
use Rattle.jh_propagation.proofs.trail.falses.false_literal.Goals as goal

pub returns-then-is_supposed : goal.returns-then-is_supposed
returns-then-is_supposed c = λ i e.
    let ds = c.args.trail.now in
    let both = literal-refuted (nodes c.args.table.now) (supposed c.args.except ds) c.nodes_differ.ensures.different i c.args.literal e in
    (λ h. both.0 (supposed-turned c.args.except ds c.args.literal (c.is_supposed.ensures.0 c.if-is_supposed.true)), λ h. refl)

pub returns-in-Some : goal.returns-in-Some
returns-in-Some c = λ i e.
    let ds = c.args.trail.now in
    let l = c.args.literal in
    let both = literal-refuted (nodes c.args.table.now) (supposed c.args.except ds) c.nodes_differ.ensures.different i l e in
    let says = c.in-Some.ensures (not l.holds) in (
      λ h. both.0 (supposed-more c.args.except ds (opposite_of l) (says.0 (ap Some (differ-not c.in-Some.holds l.holds h)))),
      λ h. elim (supposed-only c.args.except ds l (both.1 h)) [
        | inl is ↦ absurd (true≢false (sym (c.is_supposed.ensures.1 is) ∙ c.if-is_supposed.false))
        | inr g ↦ not-differ c.in-Some.holds l.holds (some-is c.in-Some.holds (not l.holds) (says.1 g))
      ],
    )

pub returns-in-None : goal.returns-in-None
returns-in-None c = λ i e.
    let ds = c.args.trail.now in
    let l = c.args.literal in
    let both = literal-refuted (nodes c.args.table.now) (supposed c.args.except ds) c.nodes_differ.ensures.different i l e in (
      λ h. absurd (true≢false (sym h)),
      λ h. elim (supposed-only c.args.except ds l (both.1 h)) [
        | inl is ↦ absurd (true≢false (sym (c.is_supposed.ensures.1 is) ∙ c.if-is_supposed.false))
        | inr g ↦ let none : ◌≡◌ {A = Option Bool} None (Some (not l.holds)) = (c.in-None.ensures (not l.holds)).1 g in absurd (cc)
      ],
    )
