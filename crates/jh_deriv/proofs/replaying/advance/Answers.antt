use Rattle.std.proofs.Common.{sym, ◌∙◌, true, false}
use Rattle.std.proofs.lemmas.Bool.{true≢false}
use Rattle.jh_arena.specs.table.Nodes.{nodes}
use Rattle.jh_derivation_steps.specs.premises.Nodes.{IsRule}
use Rattle.jh_open_branches.specs.Placed.{noted}
use Rattle.jh_deriv.proofs.Turning.{has-stand, stand-has, spread-branches, spread-opens}
use Rattle.jh_deriv.proofs.replaying.advance.Goals as goal

pub returns-then-not-has-clause-stuck : goal.returns-then-not-has-clause-stuck
unfolding IsRule
returns-then-not-has-clause-stuck c = λ e has suits.
    let there = has-stand (nodes c.args.table.now) c.nodes_differ.ensures.different c.args.branches.now.facts.facts.items c.args.rule.needs c.requires.branches.facts c.requires.rule.0 has in
    true≢false (sym (c.has.ensures.1 there) ∙ c.if-not-has.true)

pub returns-clause-branches : goal.returns-clause-branches
unfolding IsRule
returns-clause-branches c = λ e.
    spread-branches (nodes c.args.table.now) c.args.branches.now.facts.facts.items c.spread.new.self.facts.facts.items (noted c.args.branches.now.facts.places) (noted c.spread.new.self.facts.places) c.args.branches.now.waiting.items c.spread.new.self.waiting.items c.args.rule.adds
    c.requires.branches c.requires.rule.1 c.spread.ensures.facts c.spread.ensures.placed c.in_ok-spread.ensures.waiting

pub returns-clause-has : goal.returns-clause-has
returns-clause-has c = λ e. stand-has (nodes c.args.table.now) c.args.branches.now.facts.facts.items c.args.rule.needs (c.has.ensures.0 c.if-not-has.false)

pub returns-clause-opens : goal.returns-clause-opens
returns-clause-opens c = λ e.
    spread-opens (nodes c.args.table.now) c.args.branches.now.facts.facts.items c.spread.new.self.facts.facts.items c.args.branches.now.waiting.items c.spread.new.self.waiting.items c.args.rule.adds c.spread.ensures.facts c.in_ok-spread.ensures.waiting
