use Rattle.std.proofs.Common.{ap, ◌∙◌, Some, slice_get}
use Rattle.jh_arena.specs.table.Entries.{the_truth}
use Rattle.jh_arena.specs.table.Nodes.{nodes}
use Rattle.jh_arena.proofs.table.NodeSteps.{fits-Implies, tree-Implies}
use Rattle.jh_command_terms.proofs.terms.CheckSteps.{truth-listed, adds-guarded}
use Rattle.jh_command_terms.proofs.terms.checks.push_guarded.Goals as goal

pub make-requires : goal.make-requires
make-requires c =
    let t0 = c.args.table.now in
    fits-Implies t0.pools (nodes t0) c.args.guard c.args.check.fact (the_truth (slice_get (nodes t0) c.args.guard)) (the_truth (slice_get (nodes t0) c.args.check.fact)) (truth-listed t0 c.args.guard c.requires.guard) (truth-listed t0 c.args.check.fact c.requires.fact)

pub returns-clause-checks : goal.returns-clause-checks
returns-clause-checks c = λ f d h are.
    let t0 = c.args.table.now in
    adds-guarded t0 c.make.new.self c.args.checks.now.items c.push.new.self.items c.args.check d c.in_ok-fact.fact f c.in_ok-push.ensures.items are
    (λ there. c.in_ok-fact.ensures.node ∙ ap Some (tree-Implies t0.pools (nodes t0) c.args.guard c.args.check.fact f d.fact h there))
