use Rattle.std.proofs.Common.{◌≡◌, sym, ap, ◌∙◌, not, Option, Some, None, Bool}
use Rattle.jh_arena.specs.table.Nodes.{nodes}
use Rattle.jh_propagation.proofs.trail.Formed.{some-is}
use Rattle.jh_propagation.proofs.trail.Seeing.{literal-forces, literal-false, same-bool, other-bool, never-not}
use Rattle.jh_propagation.proofs.trail.looking.found_literal.Goals as goal

pub returns-then-holds-literal : goal.returns-then-holds-literal
returns-then-holds-literal c = λ i e. literal-forces (nodes c.args.table.now) c.args.trail.now c.nodes_differ.ensures.different i c.args.literal e
    (λ h. never-not c.args.literal.holds (sym (same-bool c.in-Some.holds c.args.literal.holds c.if-holds-literal.true) ∙ some-is c.in-Some.holds (not c.args.literal.holds) ((c.in-Some.ensures (not c.args.literal.holds)).1 h)))

pub returns-else-holds-literal : goal.returns-else-holds-literal
returns-else-holds-literal c = λ i e. literal-false (nodes c.args.table.now) c.args.trail.now i c.args.literal e
    ((c.in-Some.ensures (not c.args.literal.holds)).0 (ap Some (other-bool c.in-Some.holds c.args.literal.holds c.if-holds-literal.false)))

pub returns-in-None : goal.returns-in-None
returns-in-None c = λ i e. literal-forces (nodes c.args.table.now) c.args.trail.now c.nodes_differ.ensures.different i c.args.literal e
    (λ h. let none : ◌≡◌ {A = Option Bool} None (Some (not c.args.literal.holds)) = (c.in-None.ensures (not c.args.literal.holds)).1 h in absurd (cc))
