use Rattle.std.proofs.Common.{refl, arith, [], ◌∷◌, slice_get}
use Rattle.jh_form.specs.Tree.{of_truth}
use Rattle.jh_arena.specs.table.Entries.{the_truth}
use Rattle.jh_arena.specs.table.Nodes.{nodes}
use Rattle.jh_arena.proofs.table.Listed.{extends-trans}
use Rattle.jh_command_terms.proofs.terms.CheckSteps.{truth-listed, truth-there, fact-at, are-grows, adds-next, adds-all}
use Rattle.jh_command_terms.proofs.terms.checks.push_all_guarded.Goals as goal

pub push_guarded-requires-clause-guard : goal.push_guarded-requires-clause-guard
push_guarded-requires-clause-guard c =
    let f = the_truth (slice_get (nodes c.args.table.now) c.args.guard) in
    truth-there c.loop-index.table c.args.guard f (c.loop-index.invariant.grows.nodes.keeps c.args.guard (of_truth f) (truth-listed c.args.table.now c.args.guard c.requires.guard))

pub push_guarded-requires-clause-fact : goal.push_guarded-requires-clause-fact
push_guarded-requires-clause-fact c = fact-at c.args.table.now c.loop-index.table c.args.more.now _ _ c.loop-index.index c.requires.facts c.loop-index-test.true refl c.loop-index.invariant.grows

pub loop-index-preserved : goal.loop-index-preserved
loop-index-preserved c = record {
  grows = extends-trans c.args.table.now c.loop-index.table c.push_guarded.new.table c.loop-index.invariant.grows c.push_guarded.ensures.grows;
  checks = λ f cs h are.
      adds-next c.args.table.now c.loop-index.table c.push_guarded.new.table c.args.checks.now.items c.loop-index.checks.items c.push_guarded.new.checks.items c.args.more.now _ _ c.loop-index.index f cs are c.loop-index-test.true refl c.push_guarded.ensures.grows
      (c.loop-index.invariant.checks f cs h are)
      (λ d one. c.in_ok-push_guarded.ensures.checks f d (c.loop-index.invariant.grows.nodes.keeps c.args.guard (of_truth f) h) (are-grows c.args.table.now c.loop-index.table _ (d ∷ []) c.loop-index.invariant.grows one));
}

pub returns-clause-checks : goal.returns-clause-checks
returns-clause-checks c = λ f cs h are.
    adds-all c.args.table.now c.loop-index.table c.args.checks.now.items c.loop-index.checks.items c.args.more.now c.loop-index.index f cs are (omega (arith, c.loop-index-test.false)) (c.loop-index.invariant.checks f cs h are)
