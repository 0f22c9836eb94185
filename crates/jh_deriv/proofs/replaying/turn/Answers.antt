use Rattle.std.proofs.Common.{ap, subst, Ok, Option}
use Rattle.jh_arena.specs.table.Nodes.{nodes}
use Rattle.jh_derivation_rules.specs.Steps.{step_tree, bare_step}
use Rattle.jh_derivation_steps.specs.declared.premises.nodes.NodeRule.{NodeRule}
use Rattle.jh_open_branches.specs.Placed.{noted}
use Rattle.jh_deriv.specs.Replays.{Finds, facts_at, open_at}
use Rattle.jh_deriv.proofs.Turning.{next-goes, branches-stay, goes-stays, turns, stuck-some}
use Rattle.jh_deriv.proofs.replaying.turn.Goals as goal

pub advance-requires-clause-branches : goal.advance-requires-clause-branches
advance-requires-clause-branches c =
    let t0 = nodes c.args.table.now in
    let t1 = nodes c.found.new.table in
    let ks = c.next.new.self.facts.facts.items in
    let ws = c.next.new.self.waiting.items in
    let place = noted c.next.new.self.facts.places in
    let goes = next-goes t0 c.args.branches.now.facts.facts.items (noted c.args.branches.now.facts.places) c.args.branches.now.waiting.items ks place ws c.requires (c.in_ok-next.ensures.next (ap Ok c.if-not-branch.false)) (c.in_ok-next.ensures.placed (ap Ok c.if-not-branch.false)) in
    branches-stay t0 t1 c.found.ensures.grows.nodes ks place ws goes.branches

pub returns-in-Some-clause-turns : goal.returns-in-Some-clause-turns
returns-in-Some-clause-turns c = λ yes.
    let t0 = nodes c.args.table.now in
    let t1 = nodes c.found.new.table in
    let ks = c.next.new.self.facts.facts.items in
    let ws = c.next.new.self.waiting.items in
    let place = noted c.next.new.self.facts.places in
    let goes = next-goes t0 c.args.branches.now.facts.facts.items (noted c.args.branches.now.facts.places) c.args.branches.now.waiting.items ks place ws c.requires (c.in_ok-next.ensures.next (ap Ok c.if-not-branch.false)) (c.in_ok-next.ensures.placed (ap Ok c.if-not-branch.false)) in
    let before = open_at t0 c.args.branches.now.facts.facts.items c.args.branches.now.waiting.items in
    let new = open_at t1 c.advance.new.branches.facts.facts.items c.advance.new.branches.waiting.items in
    let is = goes-stays t0 t1 c.found.ensures.grows.nodes c.args.branches.now.facts.facts.items c.args.branches.now.waiting.items ks place ws goes in
    turns t1 (facts_at t1 ks) before (open_at t1 ks ws) (bare_step (step_tree c.args.step.now)) is c.in-Some.rule (subst (λ (o : Option NodeRule). Finds t1 (bare_step (step_tree c.args.step.now)) (Ok o)) c.in-Some.is c.in_ok-found.ensures.rule) (c.advance.ensures.has yes) (c.advance.ensures.suits yes) new (c.advance.ensures.opens yes)

pub returns-in-Some-clause-stuck : goal.returns-in-Some-clause-stuck
returns-in-Some-clause-stuck c = λ no.
    let t0 = nodes c.args.table.now in
    let t1 = nodes c.found.new.table in
    let ks = c.next.new.self.facts.facts.items in
    let ws = c.next.new.self.waiting.items in
    let place = noted c.next.new.self.facts.places in
    let goes = next-goes t0 c.args.branches.now.facts.facts.items (noted c.args.branches.now.facts.places) c.args.branches.now.waiting.items ks place ws c.requires (c.in_ok-next.ensures.next (ap Ok c.if-not-branch.false)) (c.in_ok-next.ensures.placed (ap Ok c.if-not-branch.false)) in
    let before = open_at t0 c.args.branches.now.facts.facts.items c.args.branches.now.waiting.items in
    let is = goes-stays t0 t1 c.found.ensures.grows.nodes c.args.branches.now.facts.facts.items c.args.branches.now.waiting.items ks place ws goes in
    stuck-some t1 (facts_at t1 ks) before (open_at t1 ks ws) (bare_step (step_tree c.args.step.now)) is c.in-Some.rule (subst (λ (o : Option NodeRule). Finds t1 (bare_step (step_tree c.args.step.now)) (Ok o)) c.in-Some.is c.in_ok-found.ensures.rule) (c.advance.ensures.stuck no)
