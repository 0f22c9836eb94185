use Rattle.std.proofs.Common.{refl, sym, ap, ◌∙◌, subst, take, Some}
use Rattle.std.proofs.lemmas.Bool.{true≢false}
use Rattle.jh_closure.specs.congruence_closure.Nodes.{Has}
use Rattle.jh_arena.specs.table.Nodes.{nodes}
use Rattle.jh_propagation.proofs.trail.Reasoning.{sought-supposed, sought-placed, sought-none}
use Rattle.jh_propagation.proofs.trail.reasons.sought_literal.Goals as goal

pub returns-then-is_supposed : goal.returns-then-is_supposed
returns-then-is_supposed c = λ i e. sought-supposed (nodes c.args.table.now) c.args.trail.now c.args.except c.args.before i c.args.literal c.args.places.now.items e (c.is_supposed.ensures.0 c.if-is_supposed.true)

pub returns-in_ok-push-in-Some : goal.returns-in_ok-push-in-Some
returns-in_ok-push-in-Some c = λ i e.
    let found = c.in-Some.ensures.found c.in-Some.place refl in
    sought-placed (nodes c.args.table.now) c.args.trail.now c.args.except c.args.before i c.args.literal c.in-Some.place c.args.places.now.items c.push.new.self.items e found.0 (found.1 ∙ ap Some c.opposite.ensures) c.in_ok-push-in-Some.ensures.items

pub returns-in-None : goal.returns-in-None
returns-in-None c = λ i e.
    sought-none (nodes c.args.table.now) c.args.trail.now c.args.except c.args.before c.nodes_differ.ensures.different i c.args.literal c.args.places.now.items e
    (λ s. true≢false (sym (c.is_supposed.ensures.1 s) ∙ c.if-is_supposed.false))
    (λ h. c.in-None.ensures.none refl (subst (Has (take c.args.before c.args.trail.now)) (sym c.opposite.ensures) h))
